use Rattle.std.proofs.Common.{◌≡◌, ◌+◌, [], ◌∷◌, ◌++◌, Some, nat_eq, sym, ap, ap₂, ◌∙◌, arith}
use Rattle.std.specs.HashMap as hash
use Rattle.std.specs.Option.{unwrap_or}
use Rattle.sm_acks.specs.Arena.{IsArena, held_in, path_of, stanzas_at}
use Rattle.sm_acks.specs.Queues.{PoolView, list_of, nodes_of, stanzas_of}
use Rattle.sm_acks.specs.declared.nodes.Ends.{Ends}
use Rattle.sm_acks.proofs.Arenas.{IsWritten, among_queues, arena_written, at_most, listed, nodes_are, others_stand}
use Rattle.sm_acks.proofs.Paths.{Agree, agree_more, apart_append, apart_sym, linked_stays, new_apart, path_stays, stanzas_one, stanzas_stay, vacant_differs}
use Rattle.sm_acks.proofs.pool.Pool.push_reserved.Goals as goal
use Rattle.sm_acks.proofs.pool.Pool.push_reserved.Goals.{After-set_ends}

pub join-requires-clause-linked : goal.join-requires-clause-linked
join-requires-clause-linked c =
    let s = c.self.inside.nodes.slots in
    let e = c.ends_of-ends.result in
    let new = c.insert_reserved-node in
    let linked = c.self.invariant.linked c.args.queue e c.ends_of-ends.ensures in
    linked_stays s new.new.self.slots e (agree_more s new.new.self.slots new.result (path_of s e) linked.held new.ensures.was_vacant new.ensures.updates.others) linked

pub join-requires-clause-apart : goal.join-requires-clause-apart
join-requires-clause-apart c =
    let s = c.self.inside.nodes.slots in
    let e = c.ends_of-ends.result in
    let new = c.insert_reserved-node in
    let linked = c.self.invariant.linked c.args.queue e c.ends_of-ends.ensures in
    let agree = agree_more s new.new.self.slots new.result (path_of s e) linked.held new.ensures.was_vacant new.ensures.updates.others in
    rw (path_stays s new.new.self.slots e agree, c.one.ensures) (apart_sym (new.result ∷ []) (path_of s e) (new_apart s new.result (path_of s e) linked.held new.ensures.was_vacant))

pub join-requires-clause-few : goal.join-requires-clause-few
join-requires-clause-few c =
    let inside = c.self.inside in
    let e = c.ends_of-ends.result in
    omega (arith, at_most inside.ends c.args.queue e c.ends_of-ends.ensures, c.self.invariant.counted, c.insert_reserved-node.ensures.len, c.len.ensures, ap (λ (x : Ends). x.len) c.one.ensures)

agree : (c : After-set_ends) → Agree c.self.inside.nodes.slots c.insert_reserved-node.new.self.slots (path_of c.self.inside.nodes.slots c.ends_of-ends.result)
agree c =
    let s = c.self.inside.nodes.slots in
    let e = c.ends_of-ends.result in
    let new = c.insert_reserved-node in
    let linked = c.self.invariant.linked c.args.queue e c.ends_of-ends.ensures in
    agree_more s new.new.self.slots new.result (path_of s e) linked.held new.ensures.was_vacant new.ensures.updates.others

whole : (c : After-set_ends) → path_of c.join.new.nodes.slots c.join.new.self ≡ path_of c.self.inside.nodes.slots c.ends_of-ends.result ++ c.insert_reserved-node.result ∷ []
whole c =
    let same = path_stays c.self.inside.nodes.slots c.insert_reserved-node.new.self.slots c.ends_of-ends.result (agree c) in
    c.join.ensures.path ∙ ap₂ (λ xs ys. xs ++ ys) same (ap (path_of c.insert_reserved-node.new.self.slots) c.one.ensures)

written : (c : After-set_ends) → IsWritten c.self.inside.nodes.slots c.join.new.nodes.slots (hash.get nat_eq c.self.inside.ends) (hash.get nat_eq c.set_ends.new.ends) c.args.queue
    c.join.new.self (path_of c.self.inside.nodes.slots c.ends_of-ends.result)
written c =
    let s = c.self.inside.nodes.slots in
    let e = c.ends_of-ends.result in
    let was = c.ends_of-ends.ensures in
    let new = c.insert_reserved-node in
    let h = c.self.invariant in
    let same = path_stays s new.new.self.slots e (agree c) in
    record {
      others = c.set_ends.ensures.others;
      here = c.set_ends.ensures.queue;
      linked_here = c.join.ensures.linked;
      linked = h.linked;
      apart = h.apart;
      owned = λ r f away is. h.apart c.args.queue r e f was is (λ k. away (sym k));
      claimed = λ r f away is. rw (whole c) (apart_append (path_of s e) (new.result ∷ []) (path_of s f) (h.apart c.args.queue r e f was is (λ k. away (sym k)))
          (new_apart s new.result (path_of s f) (h.linked r f is).held new.ensures.was_vacant));
      stays = λ p some lacks. c.join.ensures.others.others p (rw same lacks) ∙ new.ensures.updates.others p (vacant_differs s new.result p new.ensures.was_vacant some);
    }

arena : (c : After-set_ends) → IsArena c.join.new.nodes c.set_ends.new.ends c.self.inside.made
arena c =
    let e = c.ends_of-ends.result in
    let was = c.ends_of-ends.ensures in
    let inside = c.self.inside in
    let left = c.join.ensures.others in
    let new = c.insert_reserved-node.ensures in
    let sums : held_in c.set_ends.new.ends + e.len ≡ held_in inside.ends + c.join.new.self.len = rw was at c.set_ends.ensures.held in
    let room = ap (λ (p : PoolView). p.spare) c.self.view_is in
    arena_written inside.nodes c.join.new.nodes inside.ends c.set_ends.new.ends inside.made c.args.queue e c.join.new.self (path_of inside.nodes.slots e) c.self.invariant was (written c)
    (omega (arith, sums, c.join.ensures.len, ap (λ (x : Ends). x.len) c.one.ensures, left.len, new.len)) (omega (arith, left.len, left.capacity, new.len, new.capacity, c.requires.spare, room))

pub invariant_of-self : goal.invariant_of-self
invariant_of-self c = arena c

pub returns-clause-queue : goal.returns-clause-queue
returns-clause-queue c =
    let inside = c.self.inside in
    let e = c.ends_of-ends.result in
    let new = c.insert_reserved-node in
    let now = new.new.self.slots in
    let first : stanzas_at now e ≡ list_of c.args.queue c.args.self.now =
    stanzas_stay inside.nodes.slots now e (agree c) ∙ sym (ap (λ o. unwrap_or o []) (listed inside.nodes.slots inside.ends.entries c.args.queue e c.ends_of-ends.ensures)) ∙ ap (list_of c.args.queue) c.self.view_is in
    let last : stanzas_at now c.one.result ≡ c.args.bytes.items ∷ [] =
    ap (stanzas_at now) c.one.ensures ∙ stanzas_one now new.result _ new.ensures.updates.changed in
    listed c.join.new.nodes.slots c.set_ends.new.ends.entries c.args.queue c.join.new.self c.set_ends.ensures.queue ∙ ap Some (c.join.ensures.stanzas ∙ ap₂ (λ xs ys. xs ++ ys) first last)

pub returns-clause-others : goal.returns-clause-others
returns-clause-others c = λ other away.
    let inside = c.self.inside in
    among_queues other c.join.new.nodes.slots c.set_ends.new.ends.entries
    ∙ others_stand inside.nodes.slots c.join.new.nodes.slots (hash.get nat_eq inside.ends) (hash.get nat_eq c.set_ends.new.ends) c.args.queue c.join.new.self (path_of inside.nodes.slots c.ends_of-ends.result) (written c) other away
    ∙ sym (among_queues other inside.nodes.slots inside.ends.entries) ∙ ap (stanzas_of other) c.self.view_is

pub returns-clause-nodes : goal.returns-clause-nodes
returns-clause-nodes c =
    let inside = c.self.inside in
    nodes_are c.join.new.nodes c.set_ends.new.ends inside.made (arena c) ∙ c.join.ensures.others.capacity ∙ c.insert_reserved-node.ensures.capacity ∙ sym (nodes_are inside.nodes inside.ends inside.made c.self.invariant) ∙ ap nodes_of c.self.view_is
