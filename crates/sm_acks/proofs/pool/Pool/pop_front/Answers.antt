use Rattle.std.proofs.Common.{◌≡◌, ◌+◌, [], nat_eq, refl, sym, ap, ◌∙◌, arith}
use Rattle.std.specs.HashMap as hash
use Rattle.std.specs.Option.{unwrap_or}
use Rattle.sm_acks.specs.Arena.{IsArena, held_in, path_of}
use Rattle.sm_acks.specs.Queues.{list_of, nodes_of, stanzas_of}
use Rattle.sm_acks.proofs.Arenas.{IsWritten, among_queues, arena_written, listed, nodes_are, others_stand}
use Rattle.sm_acks.proofs.Paths.{stanzas_none}
use Rattle.sm_acks.proofs.pool.Pool.pop_front.Goals as goal
use Rattle.sm_acks.proofs.pool.Pool.pop_front.Goals.{After-set_ends}

pub returns-then-ends-eq0-clause-empty : goal.returns-then-ends-eq0-clause-empty
returns-then-ends-eq0-clause-empty c =
    let inside = c.self.inside in
    let e = c.ends_of-ends.result in
    ap (list_of c.args.queue) (sym c.self.view_is) ∙ ap (λ o. unwrap_or o []) (listed inside.nodes.slots inside.ends.entries c.args.queue e c.ends_of-ends.ensures)
    ∙ stanzas_none inside.nodes.slots e c.if-ends-eq0.true

pub returns-then-ends-eq0-clause-none : goal.returns-then-ends-eq0-clause-none
returns-then-ends-eq0-clause-none c = (λ _. returns-then-ends-eq0-clause-empty c, λ _. refl)

written : (c : After-set_ends) → IsWritten c.self.inside.nodes.slots c.take-bytes.new.nodes.slots (hash.get nat_eq c.self.inside.ends) (hash.get nat_eq c.set_ends.new.ends) c.args.queue
    c.take-bytes.new.self (path_of c.self.inside.nodes.slots c.ends_of-ends.result)
written c =
    let e = c.ends_of-ends.result in
    let was = c.ends_of-ends.ensures in
    let took = c.take-bytes.ensures in
    let h = c.self.invariant in
    record {
      others = c.set_ends.ensures.others;
      here = c.set_ends.ensures.queue;
      linked_here = took.linked;
      linked = h.linked;
      apart = h.apart;
      owned = λ r f away is. h.apart c.args.queue r e f was is (λ k. away (sym k));
      claimed = λ r f away is. (rw took.path at (h.apart c.args.queue r e f was is (λ k. away (sym k)))).1;
      stays = λ p some lacks. took.others p (rw took.path at lacks).0;
    }

arena : (c : After-set_ends) → IsArena c.take-bytes.new.nodes c.set_ends.new.ends c.self.inside.made
arena c =
    let e = c.ends_of-ends.result in
    let was = c.ends_of-ends.ensures in
    let took = c.take-bytes.ensures in
    let inside = c.self.inside in
    let sums : held_in c.set_ends.new.ends + e.len ≡ held_in inside.ends + c.take-bytes.new.self.len = rw was at c.set_ends.ensures.held in
    arena_written inside.nodes c.take-bytes.new.nodes inside.ends c.set_ends.new.ends inside.made c.args.queue e c.take-bytes.new.self (path_of inside.nodes.slots e) c.self.invariant was (written c)
    (omega (arith, sums, took.len, took.nodes)) (omega (arith, took.nodes, took.capacity, c.self.invariant.fits))

pub invariant_of-self : goal.invariant_of-self
invariant_of-self c = arena c

pub returns-clause-others : goal.returns-clause-others
returns-clause-others c = λ other away.
    let inside = c.self.inside in
    among_queues other c.take-bytes.new.nodes.slots c.set_ends.new.ends.entries
    ∙ others_stand inside.nodes.slots c.take-bytes.new.nodes.slots (hash.get nat_eq inside.ends) (hash.get nat_eq c.set_ends.new.ends) c.args.queue c.take-bytes.new.self (path_of inside.nodes.slots c.ends_of-ends.result) (written c) other away
    ∙ sym (among_queues other inside.nodes.slots inside.ends.entries) ∙ ap (stanzas_of other) c.self.view_is

pub returns-clause-nodes : goal.returns-clause-nodes
returns-clause-nodes c =
    let inside = c.self.inside in
    nodes_are c.take-bytes.new.nodes c.set_ends.new.ends inside.made (arena c) ∙ c.take-bytes.ensures.capacity ∙ sym (nodes_are inside.nodes inside.ends inside.made c.self.invariant) ∙ ap nodes_of c.self.view_is
