use Rattle.std.specs.Io.KnownBytes.{Keeps}
use Rattle.net_tcp.proofs.outgoing.write_to.Given as goal

-- a write that was interrupted took nothing
abbrev pub invariant-loop : goal.invariant-loop
invariant-loop g l = Keeps (g.S.Write.contents l.initial.stream) (g.S.Write.contents l.stream)
