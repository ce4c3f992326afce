use Rattle.std.proofs.Common.{sym, ap, ◌∙◌}
use Rattle.sm_acks.specs.Arena.{IsArena}
use Rattle.sm_acks.specs.Queues.{nodes_of, stanzas_of}
use Rattle.sm_acks.proofs.Arenas.{arena_dropped, dropped_sum, empty_found, nodes_are, other_test}
use Rattle.sm_acks.proofs.pool.Pool.forget.Goals as goal
use Rattle.sm_acks.proofs.pool.Pool.forget.Goals.{After-remove}

arena : (c : After-remove) → IsArena c.self.inside.nodes c.remove.new.self c.self.inside.made
arena c =
    let inside = c.self.inside in
    let found = empty_found inside.nodes.slots inside.ends.entries c.args.queue (ap (stanzas_of c.args.queue) c.self.view_is ∙ c.requires) in
    arena_dropped inside.nodes inside.ends c.remove.new.self inside.made c.args.queue c.self.invariant c.remove.ensures.updates.1 (λ r away. c.remove.ensures.updates.2 r (other_test r c.args.queue away))
    (dropped_sum inside.ends c.remove.new.self c.args.queue found.0 found.1 found.2 c.remove.ensures.entries)

pub invariant_of-self : goal.invariant_of-self
invariant_of-self c = arena c

pub returns-clause-nodes : goal.returns-clause-nodes
returns-clause-nodes c =
    let inside = c.self.inside in
    nodes_are inside.nodes c.remove.new.self inside.made (arena c) ∙ sym (nodes_are inside.nodes inside.ends inside.made c.self.invariant) ∙ ap nodes_of c.self.view_is
