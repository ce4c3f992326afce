use Rattle.std.proofs.Common.{◌≡◌, ◌≢◌, ◌+◌, ℕ, [], None, Some, nat_eq, refl, sym, ap, ◌∙◌, arith, inl, inr}
use Rattle.std.proofs.lemmas.Bool.{cases_eq}
use Rattle.std.specs.HashMap as hash
use Rattle.std.specs.Option.{option_map}
use Rattle.sm_acks.specs.Arena.{AreApart, IsArena, IsLinked, held_in, path_of, stanzas_at}
use Rattle.sm_acks.specs.Queues.{nodes_of, stanzas_of}
use Rattle.sm_acks.specs.declared.nodes.Ends.{Ends}
use Rattle.sm_acks.proofs.Arenas.{IsWritten, all_apart, all_linked, among_queues, at_most, listed, nodes_are, others_stand}
use Rattle.sm_acks.proofs.Paths.{apart_append, apart_none, stanzas_none}
use Rattle.sm_acks.proofs.pool.Pool.hand_over.Goals as goal
use Rattle.sm_acks.proofs.pool.Pool.hand_over.Goals.{After-set_ends-2}

pub join-requires-clause-few : goal.join-requires-clause-few
join-requires-clause-few c =
    let inside = c.self.inside in
    let e = c.ends_of-ends.result in
    let f = c.ends_of-moved.result in
    let sums : held_in c.set_ends.new.ends + f.len ≡ held_in inside.ends + c.none.result.len = rw c.ends_of-moved.ensures at c.set_ends.ensures.held in
    let still : hash.get nat_eq c.set_ends.new.ends c.args.to ≡ Some e = c.set_ends.ensures.others c.args.to (λ k. c.requires.apart (sym k)) ∙ c.ends_of-ends.ensures in
    omega (arith, sums, at_most c.set_ends.new.ends c.args.to e still, ap (λ (x : Ends). x.len) c.none.ensures, c.self.invariant.counted, c.len.ensures)

-- the queue that gives its stanzas is empty
emptied : (c : After-set_ends-2) → IsWritten c.self.inside.nodes.slots c.self.inside.nodes.slots (hash.get nat_eq c.self.inside.ends) (hash.get nat_eq c.set_ends.new.ends) c.args.from
    c.none.result (path_of c.self.inside.nodes.slots c.ends_of-moved.result)
emptied c =
    let f = c.ends_of-moved.result in
    let h = c.self.invariant in
    record {
      others = c.set_ends.ensures.others;
      here = c.set_ends.ensures.queue;
      linked_here = record { held = rw c.none.ensures tt; once = rw c.none.ensures tt; ended = rw c.none.ensures tt };
      linked = h.linked;
      apart = h.apart;
      owned = λ r g away is. h.apart c.args.from r f g c.ends_of-moved.ensures is (λ k. away (sym k));
      claimed = λ r g away is. rw c.none.ensures tt;
      stays = λ p some lacks. refl;
    }

linked_between : (c : After-set_ends-2) → (r : ℕ) (g : Ends) → hash.get nat_eq c.set_ends.new.ends r ≡ Some g → IsLinked c.self.inside.nodes.slots g
linked_between c =
    let s = c.self.inside.nodes.slots in
    all_linked s s (hash.get nat_eq c.self.inside.ends) (hash.get nat_eq c.set_ends.new.ends) c.args.from c.none.result (path_of s c.ends_of-moved.result) (emptied c)

apart_between : (c : After-set_ends-2) → (r u : ℕ) (g h : Ends) → hash.get nat_eq c.set_ends.new.ends r ≡ Some g → hash.get nat_eq c.set_ends.new.ends u ≡ Some h → r ≢ u
    → AreApart (path_of c.self.inside.nodes.slots g) (path_of c.self.inside.nodes.slots h)
apart_between c =
    let s = c.self.inside.nodes.slots in
    all_apart s s (hash.get nat_eq c.self.inside.ends) (hash.get nat_eq c.set_ends.new.ends) c.args.from c.none.result (path_of s c.ends_of-moved.result) (emptied c)

still : (c : After-set_ends-2) → hash.get nat_eq c.set_ends.new.ends c.args.to ≡ Some c.ends_of-ends.result
still c = c.set_ends.ensures.others c.args.to (λ k. c.requires.apart (sym k)) ∙ c.ends_of-ends.ensures

-- the nodes of the one queue and those of any that is left
apart_moved : (c : After-set_ends-2) → (r : ℕ) (g : Ends) → r ≢ c.args.to → hash.get nat_eq c.set_ends.new.ends r ≡ Some g
    → AreApart (path_of c.self.inside.nodes.slots c.ends_of-moved.result) (path_of c.self.inside.nodes.slots g)
apart_moved c r g away is =
    let s = c.self.inside.nodes.slots in
    let f = c.ends_of-moved.result in
    elim (cases_eq r c.args.from) [
      | inl e ↦
          let same : Some c.none.result ≡ Some g = sym c.set_ends.ensures.queue ∙ ap (hash.get nat_eq c.set_ends.new.ends) (sym e) ∙ is in
          let none : c.none.result ≡ g = cc same in
          let empty : path_of s g ≡ [] = ap (path_of s) (sym none ∙ c.none.ensures) in
          rw empty (apart_none (path_of s f))
      | inr e ↦ c.self.invariant.apart c.args.from r f g c.ends_of-moved.ensures (sym (c.set_ends.ensures.others r e) ∙ is) (λ k. e (sym k))
    ]

joined : (c : After-set_ends-2) → IsWritten c.self.inside.nodes.slots c.join.new.nodes.slots (hash.get nat_eq c.set_ends.new.ends) (hash.get nat_eq c.set_ends-2.new.ends) c.args.to
    c.join.new.self (path_of c.self.inside.nodes.slots c.ends_of-ends.result)
joined c =
    let s = c.self.inside.nodes.slots in
    let e = c.ends_of-ends.result in
    let f = c.ends_of-moved.result in
    record {
      others = c.set_ends-2.ensures.others;
      here = c.set_ends-2.ensures.queue;
      linked_here = c.join.ensures.linked;
      linked = linked_between c;
      apart = apart_between c;
      owned = λ r g away is. apart_between c c.args.to r e g (still c) is (λ k. away (sym k));
      claimed = λ r g away is. rw c.join.ensures.path (apart_append (path_of s e) (path_of s f) (path_of s g) (apart_between c c.args.to r e g (still c) is (λ k. away (sym k))) (apart_moved c r g away is));
      stays = λ p some lacks. c.join.ensures.others.others p lacks;
    }

arena : (c : After-set_ends-2) → IsArena c.join.new.nodes c.set_ends-2.new.ends c.self.inside.made
arena c =
    let inside = c.self.inside in
    let e = c.ends_of-ends.result in
    let f = c.ends_of-moved.result in
    let own = path_of inside.nodes.slots e in
    let first : held_in c.set_ends.new.ends + f.len ≡ held_in inside.ends + c.none.result.len = rw c.ends_of-moved.ensures at c.set_ends.ensures.held in
    let second : held_in c.set_ends-2.new.ends + e.len ≡ held_in c.set_ends.new.ends + c.join.new.self.len = rw (still c) at c.set_ends-2.ensures.held in
    let left = c.join.ensures.others in
    record {
      linked = all_linked inside.nodes.slots c.join.new.nodes.slots (hash.get nat_eq c.set_ends.new.ends) (hash.get nat_eq c.set_ends-2.new.ends) c.args.to c.join.new.self own (joined c);
      apart = all_apart inside.nodes.slots c.join.new.nodes.slots (hash.get nat_eq c.set_ends.new.ends) (hash.get nat_eq c.set_ends-2.new.ends) c.args.to c.join.new.self own (joined c);
      given = λ r above. elim (cases_eq r c.args.to) [
        | inl is ↦ let none : Some e ≡ None = sym c.ends_of-ends.ensures ∙ ap (hash.get nat_eq inside.ends) (sym is) ∙ c.self.invariant.given r above in cc none
        | inr is ↦ c.set_ends-2.ensures.others r is ∙ elim (cases_eq r c.args.from) [
          | inl k ↦ let none : Some f ≡ None = sym c.ends_of-moved.ensures ∙ ap (hash.get nat_eq inside.ends) (sym k) ∙ c.self.invariant.given r above in cc none
          | inr k ↦ c.set_ends.ensures.others r k ∙ c.self.invariant.given r above
        ]
      ];
      counted = omega (arith, first, second, c.join.ensures.len, ap (λ (x : Ends). x.len) c.none.ensures, left.len, c.self.invariant.counted);
      fits = omega (arith, left.len, left.capacity, c.self.invariant.fits);
    }

pub invariant_of-self : goal.invariant_of-self
invariant_of-self c = arena c

pub returns-clause-from : goal.returns-clause-from
returns-clause-from c =
    let is : hash.get nat_eq c.set_ends-2.new.ends c.args.from ≡ Some c.none.result = c.set_ends-2.ensures.others c.args.from c.requires.apart ∙ c.set_ends.ensures.queue in
    listed c.join.new.nodes.slots c.set_ends-2.new.ends.entries c.args.from c.none.result is
    ∙ ap Some (stanzas_none c.join.new.nodes.slots c.none.result (ap (λ (x : Ends). x.len) c.none.ensures))

pub returns-clause-others : goal.returns-clause-others
returns-clause-others c = λ other away apart.
    let inside = c.self.inside in
    let s = inside.nodes.slots in
    among_queues other c.join.new.nodes.slots c.set_ends-2.new.ends.entries
    ∙ others_stand s c.join.new.nodes.slots (hash.get nat_eq c.set_ends.new.ends) (hash.get nat_eq c.set_ends-2.new.ends) c.args.to c.join.new.self (path_of s c.ends_of-ends.result) (joined c) other apart
    ∙ ap (option_map (stanzas_at s)) (c.set_ends.ensures.others other away)
    ∙ sym (among_queues other s inside.ends.entries) ∙ ap (stanzas_of other) c.self.view_is

pub returns-clause-nodes : goal.returns-clause-nodes
returns-clause-nodes c =
    let inside = c.self.inside in
    nodes_are c.join.new.nodes c.set_ends-2.new.ends inside.made (arena c) ∙ c.join.ensures.others.capacity ∙ sym (nodes_are inside.nodes inside.ends inside.made c.self.invariant) ∙ ap nodes_of c.self.view_is
