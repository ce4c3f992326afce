use Rattle.std.proofs.Common.{sym, ap, ◌∙◌}
use Rattle.sm_acks.specs.Queues.{nodes_of}
use Rattle.sm_acks.proofs.Arenas.{nodes_are}
use Rattle.sm_acks.proofs.pool.Pool.nodes.Goals as goal

pub returns : goal.returns
returns c = c.capacity.ensures.value ∙ sym (nodes_are c.self.inside.nodes c.self.inside.ends c.self.inside.made c.self.invariant) ∙ ap nodes_of c.self.view_is
