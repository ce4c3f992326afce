-- A session whose connection was shut is gone, and stays so; and what a count that is too high leaves.
use Rattle.std.proofs.Common.{◌≡◌, ℕ, ◌+◌, ◌<◌, ◌≤◌, ◌==◌, Bool, true, false, not, List, [], ◌∷◌, ◌++◌, Some, None, map, refl, sym, ap, subst, ◌∙◌, arith, inl, inr, ne_eqb}
use Rattle.std.proofs.lemmas.Bool.{cases_Bool}
use Rattle.std.proofs.lemmas.Option.{none-some, same_Some}
use Rattle.std.specs.List.{filter, find}
use Rattle.sm_live.specs.Sessions.{Session, fresh, is_at, is_numbered, session_of}
use Rattle.sm_resumption.proofs.RowFacts.{same_from_eqb}
use Rattle.srv_state.specs.State.{Step}
use Rattle.srv_state.specs.Steps.{shut}
use Rattle.law_server.specs.Events.{Event, Run, after_events}
use Rattle.law_server.specs.Gone.{IsGone}
use Rattle.law_server.specs.Numbers.{HaveNumbers, Rise}
use Rattle.law_server.proofs.SessionWalks.{IsStable, by_events, by_items}
use Rattle.srv_core.specs.Table.{after_items}
use Rattle.xml_framer.specs.declared.items.Item.{Item}
use Rattle.xml_writer.specs.Items.{ItemOut}

-- ---- lists

pub none_some : {A : Type 0} (p q : Session A → Bool) (ss : List (Session A)) → find p ss ≡ None → find p (filter q ss) ≡ None
none_some p q [] none = refl
none_some p q (s ∷ ss) none =
    elim (cases_Bool (p s)) [
      | inl here ↦ absurd (none-some s (sym (rw here at none)))
      | inr other ↦
          let rest = none_some p q ss (rw other at none) in
          elim (cases_Bool (q s)) [ inl stays ↦ rw (stays, other) rest | inr goes ↦ rw goes rest ]
    ]

none_same : {A : Type 0} (n : ℕ) (g : Session A → Session A) → ((s : Session A) → (g s).shown.number ≡ s.shown.number) → (ss : List (Session A)) → session_of n ss ≡ None → session_of n (map g ss) ≡ None
none_same n g same [] none = refl
none_same n g same (s ∷ ss) none =
    elim (cases_Bool (s.shown.number == n)) [
      | inl here ↦ absurd (none-some s (sym (rw here at none)))
      | inr other ↦
          let apart : ((g s).shown.number == n) ≡ false = ap (λ m. m == n) (same s) ∙ other in
          rw apart (none_same n g same ss (rw other at none))
    ]

none_more : {A : Type 0} (p : Session A → Bool) (x : Session A) (ss : List (Session A)) → p x ≡ false → find p ss ≡ None → find p (ss ++ x ∷ []) ≡ None
none_more p x [] apart none = rw apart refl
none_more p x (s ∷ ss) apart none =
    elim (cases_Bool (p s)) [
      | inl here ↦ absurd (none-some s (sym (rw here at none)))
      | inr other ↦ rw other (none_more p x ss apart (rw other at none))
    ]

-- sessions whose numbers begin above it don't have it
none_above : {A : Type 0} (n from next : ℕ) (ss : List (Session A)) → Rise from next ss → n < from → session_of n ss ≡ None
none_above n from next [] rise below = refl
none_above n from next (s ∷ ss) rise below =
    let first = rise.0 in
    let apart : (s.shown.number == n) ≡ false = ne_eqb s.shown.number n (λ is. omega (arith, first, below, is)) in
    rw apart (none_above n (s.shown.number + 1) next ss rise.1 (omega (arith, first, below)))

rise_ends : {A : Type 0} (from next : ℕ) (ss : List (Session A)) → Rise from next ss → from ≤ next
rise_ends from next [] rise = rise
rise_ends from next (s ∷ ss) rise =
    let first = rise.0 in
    let rest : s.shown.number + 1 ≤ next = rise_ends (s.shown.number + 1) next ss rise.1 in
    omega (arith, first, rest)

pub found_below : {A : Type 0} (p : Session A → Bool) (from next : ℕ) (ss : List (Session A)) (t : Session A) → Rise from next ss → find p ss ≡ Some t → t.shown.number < next
found_below p from next [] t rise found = absurd (none-some t found)
found_below {A = A} p from next (s ∷ ss) t rise found =
    elim (cases_Bool (p s)) [
      | inl here ↦
          let below : s.shown.number + 1 ≤ next = rise_ends (s.shown.number + 1) next ss rise.1 in
          subst (λ (x : Session A). x.shown.number < next) (same_Some s t (rw here at found)) (omega (arith, below))
      | inr later ↦ found_below p (s.shown.number + 1) next ss t rise.1 (rw later at found)
    ]

pub number_is : {A : Type 0} (n : ℕ) (t : Session A) (ss : List (Session A)) → session_of n ss ≡ Some t → t.shown.number ≡ n
number_is n t [] is = absurd (none-some t is)
number_is {A = A} n t (s ∷ ss) is =
    elim (cases_Bool (s.shown.number == n)) [
      | inl here ↦ ap (λ (x : Session A). x.shown.number) (sym (same_Some s t (rw here at is))) ∙ same_from_eqb s.shown.number n here
      | inr other ↦ number_is n t ss (rw other at is)
    ]

-- ---- gone, and what stays so

abbrev pub Gone : {A : Type 0} → ℕ → List (Session A) → ℕ → Type 0
Gone n ss next = (session_of n ss ≡ None) × (n < next)

pub gone_stable : {A : Type 0} (n : ℕ) → IsStable {A = A} (Gone n)
gone_stable n = record {
  some = λ p ss next is. (none_some (is_numbered n) p ss is.0, is.1);
  same = λ g keeps ss next is. (none_same n g keeps ss is.0, is.1);
  more = λ account resource k ss next is.
      let below : n < next = is.1 in
      (none_more (is_numbered n) (fresh next account resource k) ss (ne_eqb next n (λ same. omega (arith, below, same))) is.0, omega (arith, below));
}

pub gone_items : {A : Type 0} (say : ItemOut → A) (k n : ℕ) (items : List Item) (s : Step A) → IsGone n s.server_state → IsGone n (after_items say k items s).server_state
gone_items say k n items s is = let gone = by_items (gone_stable n) say k items s (is.none, is.spent) in record { none = gone.0; spent = gone.1 }

pub gone_events : {A : Type 0} (say : ItemOut → A) (n : ℕ) (events : List Event) (r : Run A) → IsGone n r.server.server_state → IsGone n (after_events say events r).server.server_state
gone_events say n events r is = let gone = by_events (gone_stable n) say events r (is.none, is.spent) in record { none = gone.0; spent = gone.1 }

next_stable : {A : Type 0} (least : ℕ) → IsStable {A = A} (λ ss next. least ≤ next)
next_stable least = record { some = λ p ss next is. is; same = λ g keeps ss next is. is; more = λ account resource k ss next is. omega (arith, is) }

pub next_rises : {A : Type 0} (say : ItemOut → A) (k : ℕ) (items : List Item) (s : Step A) → s.server_state.next ≤ (after_items say k items s).server_state.next
next_rises say k items s = by_items (next_stable s.server_state.next) say k items s (omega arith)

-- ---- a connection is shut

none_at : {A : Type 0} (k n from next : ℕ) (t : Session A) (ss : List (Session A)) → Rise from next ss → session_of n ss ≡ Some t → is_at k t ≡ true → session_of n (filter (λ s. not (is_at k s)) ss) ≡ None
none_at k n from next t [] rise found on = refl
none_at {A = A} k n from next t (s ∷ ss) rise found on =
    elim (cases_Bool (s.shown.number == n)) [
      | inl here ↦
          let same : s ≡ t = same_Some s t (rw here at found) in
          let goes : is_at k s ≡ true = ap (is_at k) same ∙ on in
          let number : s.shown.number ≡ n = same_from_eqb s.shown.number n here in
          rw goes (none_some (is_numbered n) (λ x. not (is_at k x)) ss (none_above n (s.shown.number + 1) next ss rise.1 (omega (arith, number))))
      | inr other ↦
          let rest = none_at k n (s.shown.number + 1) next t ss rise.1 (rw other at found) on in
          elim (cases_Bool (not (is_at k s))) [ inl stays ↦ rw (stays, other) rest | inr goes ↦ rw goes rest ]
    ]

pub shut_gone : {A : Type 0} (k n : ℕ) (t : Session A) (s : Step A) → HaveNumbers s.server_state → session_of n s.server_state.sessions ≡ Some t → is_at k t ≡ true → IsGone n (shut k s).server_state
shut_gone k n t s have found on =
    record { none = none_at k n 1 s.server_state.next t s.server_state.sessions have found on; spent = subst (λ m. m < s.server_state.next) (number_is n t s.server_state.sessions found) (found_below (is_numbered n) 1 s.server_state.next s.server_state.sessions t have found) }
