-- A session is bound behind those that are left: it is the newest, and has its name alone.
use Rattle.std.proofs.Common.{◌≡◌, ℕ, ◌+◌, ◌<◌, ◌≤◌, ◌^◌, ◌==◌, Bool, true, List, [], ◌∷◌, ◌++◌, Some, None, refl, ◌⊎◌, inl, inr, arith}
use Rattle.std.proofs.lemmas.Bool.{cases_Bool, eq-eqb, eqb-true}
use Rattle.std.specs.List.{find}
use Rattle.base_lemmas.proofs.Bytes.{bytes_eq-self}
use Rattle.sim_3_images.proofs.RuleKept.{found_pushed}
use Rattle.sm_live.specs.Rule.{IsRule, RisesTo}
use Rattle.sm_live.specs.Sessions.{Session, fresh, is_at, is_named, session_at, session_named, session_of}

pub pushed_last : {A : Type 0} (p : A → Bool) (ss : List A) (f : A) → find p ss ≡ None → p f ≡ true → find p (ss ++ f ∷ []) ≡ Some f
pushed_last p [] f none fits = rw fits refl
pushed_last p (x ∷ ss) f none fits =
    elim (cases_Bool (p x)) [
      | inl here ↦ let found : Some x ≡ None = rw here at none in absurd (let no_way : ⊥ = cc in no_way)
      | inr other ↦ rw other (pushed_last p ss f (rw other at none) fits)
    ]

rises_order : {A : Type 0} (next low : ℕ) (ss : List (Session A)) → RisesTo next low ss → low ≤ next
rises_order next low [] rises = rises
rises_order next low (s ∷ ss) rises = let rest = rises_order next (s.shown.number + 1) ss rises.1 in let first = rises.0 in omega arith

pub numbers_below : {A : Type 0} (next low n : ℕ) (ss : List (Session A)) (s : Session A) → RisesTo next low ss → session_of n ss ≡ Some s → n + 1 ≤ next
numbers_below next low n [] s rises is = absurd (let no_way : ⊥ = cc in no_way)
numbers_below next low n (x ∷ ss) s rises is =
    elim (cases_Bool (x.shown.number == n)) [
      | inl here ↦ let same : x.shown.number ≡ n = eqb-true x.shown.number n here in let top = rises_order next (x.shown.number + 1) ss rises.1 in omega arith
      | inr other ↦ numbers_below next (x.shown.number + 1) n ss s rises.1 (rw other at is)
    ]

module _ {A : Type 0} (next account : ℕ) (resource : List ℕ) (k : ℕ) (ss : List (Session A)) (rule : IsRule ss next) (fits : next + 1 < 2 ^ 64) (seat : session_at k ss ≡ None) (name : session_named account resource ss ≡ None) where
  abbrev own : Session A
  own = fresh next account resource k

  abbrev bound_list : List (Session A)
  bound_list = ss ++ own ∷ []

  pub newest_named : is_named account resource own ≡ true
  newest_named = let a = eq-eqb account account refl in let r = bytes_eq-self resource in rw (a, r) refl

  pub named_last : session_named account resource bound_list ≡ Some own
  named_last = pushed_last (is_named account resource) ss own name newest_named

  -- what is on a connection was there, or is the new one
  pub seat_pushed : (j : ℕ) (s : Session A) → session_at j bound_list ≡ Some s → (session_at j ss ≡ Some s) ⊎ (own ≡ s)
  seat_pushed j s is = elim (found_pushed (is_at j) ss own s is) [ inl before ↦ inl before | inr last ↦ inr last.1 ]
