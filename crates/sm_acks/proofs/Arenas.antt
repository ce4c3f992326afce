-- What the queues of an arena are after one of them changed.
use Rattle.std.proofs.Common.{◌≡◌, ◌≢◌, ℕ, ◌+◌, ◌-◌, ◌≤◌, false, List, [], ◌∷◌, Option, Some, None, IsSome, IfSome, length, nat_eq, refl, sym, ap, ◌∙◌, subst, arith, inl, inr}
use Rattle.std.proofs.lemmas.Bool.{cases_Bool, cases_eq}
use Rattle.std.proofs.lemmas.Bool.Decides.{nat_tests}
use Rattle.std.proofs.lemmas.List.Sums.{sum_by-cons}
use Rattle.std.proofs.lemmas.Map.Entries.{sum_by-remove_entry, sum_by-set_value, sum_by_puts_entry, sum_by_values_permutation}
use Rattle.std.specs.HashMap as hash
use Rattle.std.specs.HashMap.{HashMap}
use Rattle.std.specs.List.Sorted.{IsPermutation}
use Rattle.std.specs.Map.{lookup, remove_entry, set_value, values_of}
use Rattle.std.specs.Option.{option_map, unwrap_or}
use Rattle.std.specs.Prelude.{sum_by}
use Rattle.slab.specs.Slab.{Slab, slab_len}
use Rattle.sm_acks.specs.Arena.{Slots, node_at, path_of, stanzas_at, queues_in, Lacks, AreApart, IsLinked, IsArena, held_in}
use Rattle.sm_acks.specs.Queues.{PoolView, QueueView, list_among, list_of}
use Rattle.sm_acks.specs.declared.nodes.Ends.{Ends}
use Rattle.sm_acks.specs.declared.nodes.Node.{Node}
use Rattle.sm_acks.proofs.Paths.{Agree, agree_apart, apart_sym, linked_stays, path_stays, stanzas_length, stanzas_stay}

pub other_test : (r q : ℕ) → r ≢ q → nat_eq q r ≡ false
other_test r q away = grind (arith, nat_tests)

-- a queue of the pool is its stanzas in the arena, where it lives
pub among_queues : (q : ℕ) (slots : Slots) (entries : List (ℕ × Ends)) → list_among q (queues_in slots entries) ≡ option_map (stanzas_at slots) (lookup (nat_eq q) entries)
unfolding list_among queues_in
among_queues q slots [] = refl
among_queues q slots (e ∷ entries) =
    elim (cases_Bool (nat_eq q e.0)) [
      | inl is ↦ rw is refl
      | inr is ↦ rw is (among_queues q slots entries)
    ]

-- as many stanzas wait as the queues have nodes
pub waiting_sum : (slots : Slots) (entries : List (ℕ × Ends)) → sum_by (λ (queue : QueueView). length queue.stanzas) (queues_in slots entries) ≡ sum_by (λ (e : Ends). e.len) (values_of entries)
unfolding queues_in
waiting_sum slots [] = refl
waiting_sum slots (e ∷ entries) =
    let first = stanzas_length slots e.1 in
    let rest = waiting_sum slots entries in
    rw (sum_by-cons (λ (queue : QueueView). length queue.stanzas) (record { id = e.0; stanzas = stanzas_at slots e.1 }) (queues_in slots entries), sum_by-cons (λ (f : Ends). f.len) e.1 (values_of entries), first, rest) refl

-- no queue has more nodes than all have
pub at_most : {S : Type 0} (ends : HashMap ℕ Ends S) (q : ℕ) (e : Ends) → hash.get nat_eq ends q ≡ Some e → e.len ≤ held_in ends
at_most ends q e is =
    let less = sum_by-remove_entry (λ (f : Ends). f.len) (nat_eq q) ends.entries in
    omega (arith, rw is at less)

-- ---- one queue written

-- One queue got other ends, and only nodes of its own, or that were no queue's, changed. `own` has the nodes that it had.
pub record IsWritten (s t : Slots) (get new : ℕ → Option Ends) (q : ℕ) (g : Ends) (own : List ℕ) : Type 0 where
  pub others : (r : ℕ) → r ≢ q → new r ≡ get r
  pub here : new q ≡ Some g
  pub linked_here : IsLinked t g
  pub linked : (r : ℕ) (f : Ends) → get r ≡ Some f → IsLinked s f
  pub apart : (r u : ℕ) (f h : Ends) → get r ≡ Some f → get u ≡ Some h → r ≢ u → AreApart (path_of s f) (path_of s h)
  pub owned : (r : ℕ) (f : Ends) → r ≢ q → get r ≡ Some f → AreApart own (path_of s f)
  pub claimed : (r : ℕ) (f : Ends) → r ≢ q → get r ≡ Some f → AreApart (path_of t g) (path_of s f)
  pub stays : (p : ℕ) → IsSome (node_at s p) → Lacks p own → node_at t p ≡ node_at s p

module _ (s t : Slots) (get new : ℕ → Option Ends) (q : ℕ) (g : Ends) (own : List ℕ) (w : IsWritten s t get new q g own) where
  other_agrees : (r : ℕ) (f : Ends) → r ≢ q → get r ≡ Some f → Agree s t (path_of s f)
  other_agrees r f away is = agree_apart s t own (path_of s f) w.stays (w.linked r f is).held (w.owned r f away is)

  here_is : (r : ℕ) (f : Ends) → r ≡ q → new r ≡ Some f → g ≡ f
  here_is r f e is = let same : Some g ≡ Some f = sym w.here ∙ ap new (sym e) ∙ is in cc same

  pub all_linked : (r : ℕ) (f : Ends) → new r ≡ Some f → IsLinked t f
  all_linked r f is =
      elim (cases_eq r q) [
        | inl e ↦ subst (IsLinked t) (here_is r f e is) w.linked_here
        | inr e ↦ let was = sym (w.others r e) ∙ is in linked_stays s t f (other_agrees r f e was) (w.linked r f was)
      ]

  apart_from_here : (r : ℕ) (f : Ends) → r ≢ q → new r ≡ Some f → AreApart (path_of t g) (path_of t f)
  apart_from_here r f away is =
      let was = sym (w.others r away) ∙ is in
      rw (path_stays s t f (other_agrees r f away was)) (w.claimed r f away was)

  pub all_apart : (r u : ℕ) (f h : Ends) → new r ≡ Some f → new u ≡ Some h → r ≢ u → AreApart (path_of t f) (path_of t h)
  all_apart r u f h is_f is_h differ =
      elim (cases_eq r q) [
        | inl e ↦ subst (λ x. AreApart (path_of t x) (path_of t h)) (here_is r f e is_f) (apart_from_here u h (λ k. differ (e ∙ sym k)) is_h)
        | inr e ↦ elim (cases_eq u q) [
          | inl k ↦ apart_sym (path_of t h) (path_of t f) (subst (λ x. AreApart (path_of t x) (path_of t f)) (here_is u h k is_h) (apart_from_here r f e is_f))
          | inr k ↦
              let was_f = sym (w.others r e) ∙ is_f in
              let was_h = sym (w.others u k) ∙ is_h in
              rw (path_stays s t f (other_agrees r f e was_f), path_stays s t h (other_agrees u h k was_h)) (w.apart r u f h was_f was_h differ)
        ]
      ]

  stands : (r : ℕ) (o : Option Ends) → r ≢ q → get r ≡ o → option_map (stanzas_at t) o ≡ option_map (stanzas_at s) o
  stands r None away is = refl
  stands r (Some f) away is = ap Some (stanzas_stay s t f (other_agrees r f away is))

  pub others_stand : (r : ℕ) → r ≢ q → option_map (stanzas_at t) (new r) ≡ option_map (stanzas_at s) (get r)
  others_stand r away = ap (option_map (stanzas_at t)) (w.others r away) ∙ stands r (get r) away refl

-- ---- sums

-- other ends written for a queue
pub written_sum : {S : Type 0} (m n : HashMap ℕ Ends S) (q : ℕ) (g : Ends) (o : Option Ends) → hash.get nat_eq m q ≡ o → n.entries ≡ set_value (nat_eq q) m.entries g
    → IfSome o (λ old. held_in n + old.len ≡ held_in m + g.len)
written_sum m n q g None is written = tt
written_sum m n q g (Some old) is written =
    rw written (sum_by-set_value (λ (e : Ends). e.len) (nat_eq q) m.entries old g is)

-- as many nodes as the pool has room for
pub nodes_are : {S : Type 0} (nodes : Slab Node) (ends : HashMap ℕ Ends S) (made : ℕ) → IsArena nodes ends made
    → sum_by (λ (queue : QueueView). length queue.stanzas) (queues_in nodes.slots ends.entries) + (nodes.capacity - slab_len nodes) ≡ nodes.capacity
nodes_are nodes ends made h = omega (arith, waiting_sum nodes.slots ends.entries, h.counted, h.fits)

-- ---- a queue of the pool

pub listed : (slots : Slots) (entries : List (ℕ × Ends)) (q : ℕ) (e : Ends) → lookup (nat_eq q) entries ≡ Some e → list_among q (queues_in slots entries) ≡ Some (stanzas_at slots e)
listed slots entries q e is = among_queues q slots entries ∙ ap (option_map (stanzas_at slots)) is

pub list_is : {S : Type 0} (nodes : Slab Node) (ends : HashMap ℕ Ends S) (made q : ℕ) (e : Ends) (now : PoolView)
    → record { queues = queues_in nodes.slots ends.entries; made = made; spare = nodes.capacity - slab_len nodes } ≡ now → hash.get nat_eq ends q ≡ Some e → list_of q now ≡ stanzas_at nodes.slots e
list_is nodes ends made q e now view_is is = ap (list_of q) (sym view_is) ∙ ap (λ o. unwrap_or o []) (listed nodes.slots ends.entries q e is)

pub empty_found : (slots : Slots) (entries : List (ℕ × Ends)) (q : ℕ) → list_among q (queues_in slots entries) ≡ Some [] → (e : Ends) × (lookup (nat_eq q) entries ≡ Some e) × (e.len ≡ 0)
empty_found slots entries q is = by_entry (lookup (nat_eq q) entries) refl
  where
    by_entry : (o : Option Ends) → lookup (nat_eq q) entries ≡ o → (e : Ends) × (lookup (nat_eq q) entries ≡ Some e) × (e.len ≡ 0)
    by_entry None found = let none : None ≡ Some [] = sym (among_queues q slots entries ∙ ap (option_map (stanzas_at slots)) found) ∙ is in cc none
    by_entry (Some e) found =
        let same : Some (stanzas_at slots e) ≡ Some [] = sym (listed slots entries q e found) ∙ is in
        let none : stanzas_at slots e ≡ [] = cc same in
        (e, found, sym (stanzas_length slots e) ∙ ap length none)

-- ---- arenas

-- a queue that lives was written
pub arena_written : {S : Type 0} (old new : Slab Node) (m n : HashMap ℕ Ends S) (made q : ℕ) (e g : Ends) (own : List ℕ) → IsArena old m made → hash.get nat_eq m q ≡ Some e
    → IsWritten old.slots new.slots (hash.get nat_eq m) (hash.get nat_eq n) q g own → held_in n + slab_len old ≡ held_in m + slab_len new → slab_len new ≤ new.capacity → IsArena new n made
arena_written old new m n made q e g own h was w sums fits = record {
  linked = all_linked old.slots new.slots (hash.get nat_eq m) (hash.get nat_eq n) q g own w;
  apart = all_apart old.slots new.slots (hash.get nat_eq m) (hash.get nat_eq n) q g own w;
  given = λ r above. elim (cases_eq r q) [
    | inl is ↦ let none : Some e ≡ None = sym was ∙ ap (hash.get nat_eq m) (sym is) ∙ h.given r above in cc none
    | inr is ↦ w.others r is ∙ h.given r above
  ];
  counted = omega (arith, h.counted, sums);
  fits = fits;
}

-- a queue that is new
pub arena_made : {S : Type 0} (nodes : Slab Node) (m n : HashMap ℕ Ends S) (made : ℕ) (g : Ends) → IsArena nodes m made → g.len ≡ 0 → hash.get nat_eq n (made + 1) ≡ Some g
    → ((r : ℕ) → r ≢ made + 1 → hash.get nat_eq n r ≡ hash.get nat_eq m r) → held_in n ≡ held_in m → IsArena nodes n (made + 1)
arena_made nodes m n made g h none here others sums =
    let no_path : path_of nodes.slots g ≡ [] = rw none refl in
    let w : IsWritten nodes.slots nodes.slots (hash.get nat_eq m) (hash.get nat_eq n) (made + 1) g [] = record {
      others = others;
      here = here;
      linked_here = record { held = rw none tt; once = rw none tt; ended = rw none tt };
      linked = h.linked;
      apart = h.apart;
      owned = λ r f away is. tt;
      claimed = λ r f away is. rw none tt;
      stays = λ p some lacks. refl;
    } in
    record {
      linked = all_linked nodes.slots nodes.slots (hash.get nat_eq m) (hash.get nat_eq n) (made + 1) g [] w;
      apart = all_apart nodes.slots nodes.slots (hash.get nat_eq m) (hash.get nat_eq n) (made + 1) g [] w;
      given = λ r above. others r (λ is. absurd (omega (arith, above, is))) ∙ h.given r (omega (arith, above));
      counted = sums ∙ h.counted;
      fits = h.fits;
    }

pub made_sum : {S : Type 0} (m n : HashMap ℕ Ends S) (q : ℕ) (g : Ends) (o : Option Ends) → o ≡ hash.get nat_eq m q → hash.get nat_eq m q ≡ None → g.len ≡ 0 → hash.PutsEntry nat_eq m n q g o → held_in n ≡ held_in m
made_sum m n q g None is none zeros puts = omega (arith, sum_by_puts_entry (λ (e : Ends). e.len) nat_eq m n q g None is puts, zeros)
made_sum m n q g (Some e) is none zeros puts = let some : Some e ≡ None = is ∙ none in cc some

-- an empty queue that is dropped
pub dropped_sum : {S : Type 0} (m n : HashMap ℕ Ends S) (q : ℕ) (e : Ends) → hash.get nat_eq m q ≡ Some e → e.len ≡ 0 → IsPermutation (remove_entry (nat_eq q) m.entries) n.entries → held_in n ≡ held_in m
dropped_sum m n q e is none moved =
    let less = sum_by-remove_entry (λ (f : Ends). f.len) (nat_eq q) m.entries in
    omega (arith, sum_by_values_permutation (λ (f : Ends). f.len) _ n.entries moved, rw is at less, none)

pub arena_dropped : {S : Type 0} (nodes : Slab Node) (m n : HashMap ℕ Ends S) (made q : ℕ) → IsArena nodes m made → hash.get nat_eq n q ≡ None
    → ((r : ℕ) → r ≢ q → hash.get nat_eq n r ≡ hash.get nat_eq m r) → held_in n ≡ held_in m → IsArena nodes n made
arena_dropped {S} nodes m n made q h gone others sums = record {
  linked = λ r f is. h.linked r f (was r f is);
  apart = λ r u f g is_f is_g differ. h.apart r u f g (was r f is_f) (was u g is_g) differ;
  given = λ r above. elim (cases_eq r q) [
    | inl is ↦ rw is gone
    | inr is ↦ others r is ∙ h.given r above
  ];
  counted = sums ∙ h.counted;
  fits = h.fits;
}
  where
    was : (r : ℕ) (f : Ends) → hash.get nat_eq n r ≡ Some f → hash.get nat_eq m r ≡ Some f
    was r f is = elim (cases_eq r q) [
      | inl same ↦ let none : None ≡ Some f = sym gone ∙ ap (hash.get nat_eq n) (sym same) ∙ is in cc none
      | inr away ↦ sym (others r away) ∙ is
    ]
