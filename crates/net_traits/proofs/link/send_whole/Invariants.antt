use Rattle.std.proofs.Common.{◌≡◌, List, ℕ, ◌++◌, length, None}
use Rattle.std.specs.Io.KnownBytes.{Appends}
use Rattle.net_traits.specs.Links.{ReadsStay}
use Rattle.net_traits.proofs.link.send_whole.Given as goal

-- what is no longer in `rest` went out, and no write failed
abbrev pub invariant-loop-rest : goal.invariant-loop-rest
invariant-loop-rest g l =
    (done : List ℕ) × (l.bytes ≡ done ++ l.rest)
    × Appends (g.L.Link.told l.initial.link).written (g.L.Link.told l.link).written done
    × ((g.L.Link.told l.link).write_faults ≡ (g.L.Link.told l.initial.link).write_faults)
    × ((g.L.Link.told l.initial.link).written ≡ None → (g.L.Link.told l.link).written ≡ None)
    × ReadsStay (g.L.Link.told l.initial.link) (g.L.Link.told l.link)

-- each write that does not end the loop takes a byte
abbrev pub decreases-loop-rest : goal.decreases-loop-rest
decreases-loop-rest g l = length l.rest
