use Rattle.std.proofs.Common.{◌≡◌}
use Rattle.std.specs.Io.KnownBytes.{Keeps}
use Rattle.base_io.proofs.std_sink.StdSinkSink.write.Given as goal

-- a write that was interrupted took nothing, and is no fault
abbrev pub invariant-loop : goal.invariant-loop
invariant-loop g l =
    Keeps (g.W.Write.contents l.initial.self.inner) (g.W.Write.contents l.self.inner)
    × (l.self.faults ≡ l.initial.self.faults)
    × (l.self.log.items ≡ l.initial.self.log.items)
