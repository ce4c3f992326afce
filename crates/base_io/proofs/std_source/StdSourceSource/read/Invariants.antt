use Rattle.std.proofs.Common.{◌≡◌}
use Rattle.std.specs.Io.KnownBytes.{Keeps}
use Rattle.base_io.proofs.std_source.StdSourceSource.read.Given as goal

-- a read that was interrupted gave nothing, and is no fault
abbrev pub invariant-loop : goal.invariant-loop
invariant-loop g l =
    Keeps (g.R.Read.remaining l.initial.self.inner) (g.R.Read.remaining l.self.inner)
    × (l.self.faults ≡ l.initial.self.faults)
    × (l.self.log.items ≡ l.initial.self.log.items)
