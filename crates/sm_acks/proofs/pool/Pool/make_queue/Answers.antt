use Rattle.std.proofs.Common.{◌≡◌, ◌+◌, Some, sym, ap, ◌∙◌, arith}
use Rattle.sm_acks.specs.Queues.{nodes_of}
use Rattle.sm_acks.specs.declared.nodes.Ends.{Ends}
use Rattle.sm_acks.proofs.Arenas.{arena_made, listed, made_sum, nodes_are, other_test}
use Rattle.sm_acks.proofs.Paths.{stanzas_none}
use Rattle.sm_acks.proofs.pool.Pool.make_queue.Goals as goal

pub invariant_of-self-2 : goal.invariant_of-self-2
invariant_of-self-2 c =
    let inside = c.self.inside in
    let zeros : c.none.result.len ≡ 0 = ap (λ (e : Ends). e.len) c.none.ensures in
    let updates = c.in_ok-insert.ensures.updates in
    arena_made inside.nodes inside.ends c.insert.new.self inside.made c.none.result c.self.invariant zeros updates.1 (λ r away. updates.2 r (other_test r (inside.made + 1) away))
    (made_sum inside.ends c.insert.new.self (inside.made + 1) c.none.result c.in_ok-insert.field-0 c.in_ok-insert.ensures.old (c.self.invariant.given (inside.made + 1) (omega arith)) zeros c.in_ok-insert.ensures.entries)

pub returns-clause-queue : goal.returns-clause-queue
returns-clause-queue c =
    let inside = c.self.inside in
    listed inside.nodes.slots c.insert.new.self.entries (inside.made + 1) c.none.result c.in_ok-insert.ensures.updates.1
    ∙ ap Some (stanzas_none inside.nodes.slots c.none.result (ap (λ (e : Ends). e.len) c.none.ensures))

pub returns-clause-nodes : goal.returns-clause-nodes
returns-clause-nodes c =
    let inside = c.self.inside in
    nodes_are inside.nodes c.insert.new.self (inside.made + 1) (invariant_of-self-2 c) ∙ sym (nodes_are inside.nodes inside.ends inside.made c.self.invariant) ∙ ap nodes_of c.self.view_is
