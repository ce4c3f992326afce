use Rattle.std.proofs.Common.{◌≡◌, List, ℕ, ◌++◌, length}
use Rattle.std.specs.Io.KnownBytes.{Appends}
use Rattle.base_io.proofs.whole_writes.write_all.Given as goal

-- what is no longer in `rest` went out, and no write failed
abbrev pub invariant-loop-rest : goal.invariant-loop-rest
invariant-loop-rest g l =
    (done : List ℕ) × (l.bytes ≡ done ++ l.rest)
    × Appends (g.K.Sink.written l.initial.sink) (g.K.Sink.written l.sink) done
    × (g.K.Sink.faults l.sink ≡ g.K.Sink.faults l.initial.sink)

-- each write that does not end the loop takes a byte
abbrev pub decreases-loop-rest : goal.decreases-loop-rest
decreases-loop-rest g l = length l.rest
