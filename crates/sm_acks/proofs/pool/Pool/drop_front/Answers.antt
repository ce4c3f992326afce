use Rattle.std.proofs.Common.{◌≡◌, ◌+◌, Some, drop, length, nat_eq, sym, ap, ◌∙◌, arith}
use Rattle.std.specs.HashMap as hash
use Rattle.sm_acks.specs.Arena.{IsArena, held_in, path_of}
use Rattle.sm_acks.specs.Queues.{nodes_of, stanzas_of}
use Rattle.sm_acks.proofs.Arenas.{IsWritten, among_queues, arena_written, list_is, listed, nodes_are, others_stand}
use Rattle.sm_acks.proofs.Paths.{apart_drop, stanzas_length}
use Rattle.sm_acks.proofs.pool.Pool.drop_front.Goals as goal
use Rattle.sm_acks.proofs.pool.Pool.drop_front.Goals.{After-set_ends}

pub drop_first-requires-clause-within : goal.drop_first-requires-clause-within
drop_first-requires-clause-within c =
    let inside = c.self.inside in
    let e = c.ends_of-ends.result in
    let is = list_is inside.nodes inside.ends inside.made c.args.queue e c.args.self.now c.self.view_is c.ends_of-ends.ensures in
    omega (arith, ap length is, stanzas_length inside.nodes.slots e, c.requires.within)

written : (c : After-set_ends) → IsWritten c.self.inside.nodes.slots c.drop_first.new.nodes.slots (hash.get nat_eq c.self.inside.ends) (hash.get nat_eq c.set_ends.new.ends) c.args.queue
    c.drop_first.new.self (path_of c.self.inside.nodes.slots c.ends_of-ends.result)
written c =
    let e = c.ends_of-ends.result in
    let was = c.ends_of-ends.ensures in
    let took = c.drop_first.ensures in
    let h = c.self.invariant in
    let own = path_of c.self.inside.nodes.slots e in
    record {
      others = c.set_ends.ensures.others;
      here = c.set_ends.ensures.queue;
      linked_here = took.linked;
      linked = h.linked;
      apart = h.apart;
      owned = λ r f away is. h.apart c.args.queue r e f was is (λ k. away (sym k));
      claimed = λ r f away is. rw took.path (apart_drop c.args.n own (path_of c.self.inside.nodes.slots f) (h.apart c.args.queue r e f was is (λ k. away (sym k))));
      stays = λ p some lacks. took.others p lacks;
    }

arena : (c : After-set_ends) → IsArena c.drop_first.new.nodes c.set_ends.new.ends c.self.inside.made
arena c =
    let e = c.ends_of-ends.result in
    let was = c.ends_of-ends.ensures in
    let took = c.drop_first.ensures in
    let inside = c.self.inside in
    let sums : held_in c.set_ends.new.ends + e.len ≡ held_in inside.ends + c.drop_first.new.self.len = rw was at c.set_ends.ensures.held in
    arena_written inside.nodes c.drop_first.new.nodes inside.ends c.set_ends.new.ends inside.made c.args.queue e c.drop_first.new.self (path_of inside.nodes.slots e) c.self.invariant was (written c)
    (omega (arith, sums, took.len, took.nodes)) (omega (arith, took.nodes, took.capacity, c.self.invariant.fits))

pub invariant_of-self : goal.invariant_of-self
invariant_of-self c = arena c

pub returns-clause-queue : goal.returns-clause-queue
returns-clause-queue c =
    let inside = c.self.inside in
    let e = c.ends_of-ends.result in
    let is = list_is inside.nodes inside.ends inside.made c.args.queue e c.args.self.now c.self.view_is c.ends_of-ends.ensures in
    listed c.drop_first.new.nodes.slots c.set_ends.new.ends.entries c.args.queue c.drop_first.new.self c.set_ends.ensures.queue
    ∙ ap Some (c.drop_first.ensures.stanzas ∙ ap (drop c.args.n) (sym is))

pub returns-clause-others : goal.returns-clause-others
returns-clause-others c = λ other away.
    let inside = c.self.inside in
    among_queues other c.drop_first.new.nodes.slots c.set_ends.new.ends.entries
    ∙ others_stand inside.nodes.slots c.drop_first.new.nodes.slots (hash.get nat_eq inside.ends) (hash.get nat_eq c.set_ends.new.ends) c.args.queue c.drop_first.new.self (path_of inside.nodes.slots c.ends_of-ends.result) (written c) other away
    ∙ sym (among_queues other inside.nodes.slots inside.ends.entries) ∙ ap (stanzas_of other) c.self.view_is

pub returns-clause-nodes : goal.returns-clause-nodes
returns-clause-nodes c =
    let inside = c.self.inside in
    nodes_are c.drop_first.new.nodes c.set_ends.new.ends inside.made (arena c) ∙ c.drop_first.ensures.capacity ∙ sym (nodes_are inside.nodes inside.ends inside.made c.self.invariant) ∙ ap nodes_of c.self.view_is
