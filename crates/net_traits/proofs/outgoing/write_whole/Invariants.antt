use Rattle.std.proofs.Common.{◌≡◌, List, ℕ, ◌++◌, length, None}
use Rattle.std.specs.Io.KnownBytes.{Appends}
use Rattle.net_traits.proofs.outgoing.write_whole.Given as goal

-- what is no longer in `rest` went out, and no write failed
abbrev pub invariant-loop-rest : goal.invariant-loop-rest
invariant-loop-rest g l =
    (done : List ℕ) × (l.bytes ≡ done ++ l.rest)
    × Appends (g.O.Outgoing.told l.initial.half).written (g.O.Outgoing.told l.half).written done
    × ((g.O.Outgoing.told l.half).faults ≡ (g.O.Outgoing.told l.initial.half).faults)
    × ((g.O.Outgoing.told l.initial.half).written ≡ None → (g.O.Outgoing.told l.half).written ≡ None)
    × ((g.O.Outgoing.told l.half).number ≡ (g.O.Outgoing.told l.initial.half).number)
    × (g.O.Outgoing.closed l.half ≡ g.O.Outgoing.closed l.initial.half)

-- each write that does not end the loop takes a byte
abbrev pub decreases-loop-rest : goal.decreases-loop-rest
decreases-loop-rest g l = length l.rest
