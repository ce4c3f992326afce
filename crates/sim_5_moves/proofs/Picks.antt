-- What goes to one session among those that a test passes: once, where it passes it.
use Rattle.std.proofs.Common.{◌≡◌, ℕ, ◌+◌, ◌<◌, ◌==◌, Bool, false, List, [], ◌∷◌, ◌++◌, Option, Some, None, map, filter, refl, subst, ap, ◌∙◌, arith, inl, inr, if◌then◌else◌}
use Rattle.std.proofs.lemmas.Bool.{cases_Bool, eqb-true, ne_eqb}
use Rattle.std.proofs.lemmas.List.{append-nil}
use Rattle.std.proofs.lemmas.Option.{none-some, same_Some}
use Rattle.std.specs.List.{list_any}
use Rattle.std.specs.Prelude.{nat_eq}
use Rattle.sm_live.specs.Rule.{RisesTo}
use Rattle.sm_live.specs.Sessions.{Session, number_of, session_of}

-- so often as the number is among these
abbrev pub picks : {X : Type 0} → List X → ℕ → List ℕ → List X
picks xs n [] = []
picks xs n (k ∷ ks) = (if nat_eq k n then xs else []) ++ picks xs n ks

abbrev pub if_passes : {A : Type 0} → (Session A → Bool) → Option (Session A) → Bool
if_passes p None = false
if_passes p (Some s) = p s

module _ {A : Type 0} (p : Session A → Bool) where
  none_above : {X : Type 0} (xs : List X) (next low n : ℕ) (ss : List (Session A)) → RisesTo next low ss → n < low → picks xs n (map number_of (filter p ss)) ≡ []
  none_above xs next low n [] rise below = refl
  none_above xs next low n (s ∷ ss) rise below =
      let rest = none_above xs next (s.shown.number + 1) n ss rise.1 (omega (arith, rise.0)) in
      elim (cases_Bool (p s)) [
        | inl passed ↦ rw (passed, ne_eqb s.shown.number n (λ e. omega (arith, e, rise.0))) rest
        | inr failed ↦ rw failed rest
      ]

  pub picked : {X : Type 0} (xs : List X) (next low n : ℕ) (ss : List (Session A)) → RisesTo next low ss →
      picks xs n (map number_of (filter p ss)) ≡ (if if_passes p (session_of n ss) then xs else [])
  picked xs next low n [] rise = refl
  picked xs next low n (s ∷ ss) rise = elim (cases_Bool (s.shown.number == n)) [
    | inl here ↦
        let rest = none_above xs next (s.shown.number + 1) n ss rise.1 (omega (arith, eqb-true s.shown.number n here)) in
        elim (cases_Bool (p s)) [
          | inl passed ↦ rw (passed, here, passed) (ap (λ t. xs ++ t) rest ∙ append-nil xs)
          | inr failed ↦ rw (failed, here, failed) rest
        ]
    | inr other ↦
        let rest = picked xs next (s.shown.number + 1) n ss rise.1 in
        elim (cases_Bool (p s)) [
          | inl passed ↦ rw (passed, other) rest
          | inr failed ↦ rw (failed, other) rest
        ]
  ]

  absent_above : (next low n : ℕ) (ss : List (Session A)) → RisesTo next low ss → n < low → list_any (λ k. k == n) (map number_of (filter p ss)) ≡ false
  absent_above next low n [] rise below = refl
  absent_above next low n (s ∷ ss) rise below =
      let rest = absent_above next (s.shown.number + 1) n ss rise.1 (omega (arith, rise.0)) in
      elim (cases_Bool (p s)) [
        | inl passed ↦ rw (passed, ne_eqb s.shown.number n (λ e. omega (arith, e, rise.0))) rest
        | inr failed ↦ rw failed rest
      ]

  -- whether the number is among them
  pub among : (next low n : ℕ) (ss : List (Session A)) → RisesTo next low ss → list_any (λ k. k == n) (map number_of (filter p ss)) ≡ if_passes p (session_of n ss)
  among next low n [] rise = refl
  among next low n (s ∷ ss) rise = elim (cases_Bool (s.shown.number == n)) [
    | inl here ↦
        elim (cases_Bool (p s)) [
          | inl passed ↦ rw (passed, here, passed) refl
          | inr failed ↦ rw (failed, here, failed) (absent_above next (s.shown.number + 1) n ss rise.1 (omega (arith, eqb-true s.shown.number n here)))
        ]
    | inr other ↦
        let rest = among next (s.shown.number + 1) n ss rise.1 in
        elim (cases_Bool (p s)) [
          | inl passed ↦ rw (passed, other) rest
          | inr failed ↦ rw (failed, other) rest
        ]
  ]

-- a session that is found has the number
pub number_found : {A : Type 0} (n : ℕ) (s : Session A) (ss : List (Session A)) → session_of n ss ≡ Some s → s.shown.number ≡ n
number_found n s [] is = absurd (none-some _ is)
number_found n s (x ∷ ss) is = elim (cases_Bool (x.shown.number == n)) [
  | inl here ↦ let this : x ≡ s = same_Some _ _ (rw here at is) in subst (λ (y : Session _). y.shown.number ≡ n) this (eqb-true x.shown.number n here)
  | inr other ↦ number_found n s ss (rw other at is)
]
