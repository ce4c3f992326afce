use Rattle.std.proofs.Common.{◌≡◌, ◌-◌, ◌++◌, length}
use Rattle.std.specs.Io.KnownBytes.{Consumes}
use Rattle.base_io.proofs.whole_reads.read_all.Given as goal

-- what was read so far is gone from the source, and no read failed
abbrev pub invariant-loop-buf : goal.invariant-loop-buf
invariant-loop-buf g l =
    Consumes (g.S.Source.left l.initial.source) (g.S.Source.left l.source) l.all.items
    × (g.S.Source.faults l.source ≡ g.S.Source.faults l.initial.source)
    × (g.S.Source.given l.source ≡ g.S.Source.given l.initial.source ++ l.all.items)

-- each read that does not end the loop gives a byte
abbrev pub decreases-loop-buf : goal.decreases-loop-buf
decreases-loop-buf g l = 67108865 - length l.all.items
