-- The parts of an address, by its first `@` and its first `/`.
use Rattle.std.proofs.Common.{◌≡◌, ℕ, suc, ◌+◌, ◌<◌, Bool, true, false, not, cond, List, [], ◌∷◌, ◌++◌, Some, length, refl, sym, ap, subst, ◌∙◌, arith, inl, inr}
use Rattle.std.proofs.lemmas.Bool.{and_parts, cases_Bool, ltb-true}
use Rattle.std.proofs.lemmas.Option.{none-some, same_Some}
use Rattle.std.specs.List.{after_first, before_first, list_all, position_or_len}
use Rattle.im_jid.specs.Cuts.{bare_of, has_local, is_at, is_slash, local_of}

-- what stands before the first such byte, and behind it, byte by byte
abbrev before : (ℕ → Bool) → List ℕ → List ℕ
before p [] = []
before p (b ∷ bs) = cond (p b) [] (b ∷ before p bs)

abbrev following : (ℕ → Bool) → List ℕ → List ℕ
following p [] = []
following p (b ∷ bs) = cond (p b) bs (following p bs)

before_is : (p : ℕ → Bool) (bs : List ℕ) → before_first p bs ≡ before p bs
before_is p [] = refl
before_is p (b ∷ bs) =
    elim (cases_Bool (p b)) [
      | inl here ↦ rw here refl
      | inr later ↦
          let next : 1 + position_or_len p bs ≡ suc (position_or_len p bs) = omega arith in
          rw (later, next) (ap (λ l. b ∷ l) (before_is p bs))
    ]

after_is : (p : ℕ → Bool) (bs : List ℕ) → after_first p bs ≡ following p bs
after_is p [] = refl
after_is p (b ∷ bs) =
    elim (cases_Bool (p b)) [
      | inl here ↦ rw here refl
      | inr later ↦
          let next : 1 + position_or_len p bs + 1 ≡ suc (position_or_len p bs + 1) = omega arith in
          rw (later, next) (after_is p bs)
    ]

before_joined : (p : ℕ → Bool) (bs : List ℕ) (b : ℕ) (more : List ℕ) → list_all (λ x. not (p x)) bs ≡ true → p b ≡ true → before p (bs ++ b ∷ more) ≡ bs
before_joined p [] b more none is = rw is refl
before_joined p (x ∷ bs) b more none is =
    let parts = and_parts (not (p x)) (list_all (λ y. not (p y)) bs) none in
    rw (not_true (p x) parts.0) (ap (λ l. x ∷ l) (before_joined p bs b more parts.1 is))
  where
    not_true : (c : Bool) → not c ≡ true → c ≡ false
    not_true true h = absurd (cc h)
    not_true false h = refl

after_joined : (p : ℕ → Bool) (bs : List ℕ) (b : ℕ) (more : List ℕ) → list_all (λ x. not (p x)) bs ≡ true → p b ≡ true → following p (bs ++ b ∷ more) ≡ more
after_joined p [] b more none is = rw is refl
after_joined p (x ∷ bs) b more none is =
    let parts = and_parts (not (p x)) (list_all (λ y. not (p y)) bs) none in
    rw (not_true (p x) parts.0) (after_joined p bs b more parts.1 is)
  where
    not_true : (c : Bool) → not c ≡ true → c ≡ false
    not_true true h = absurd (cc h)
    not_true false h = refl

pub before_first-joined : (p : ℕ → Bool) (bs : List ℕ) (b : ℕ) (more : List ℕ) → list_all (λ x. not (p x)) bs ≡ true → p b ≡ true → before_first p (bs ++ b ∷ more) ≡ bs
before_first-joined p bs b more none is = before_is p (bs ++ b ∷ more) ∙ before_joined p bs b more none is

pub after_first-joined : (p : ℕ → Bool) (bs : List ℕ) (b : ℕ) (more : List ℕ) → list_all (λ x. not (p x)) bs ≡ true → p b ≡ true → after_first p (bs ++ b ∷ more) ≡ more
after_first-joined p bs b more none is = after_is p (bs ++ b ∷ more) ∙ after_joined p bs b more none is

-- ---- the local part of an address stands before its first `@`

in_front : (p q : ℕ → Bool) (bs : List ℕ) → position_or_len p (before q bs) < length (before q bs) → before p (before q bs) ≡ before p bs
in_front p q [] has = absurd (omega (arith, has))
in_front p q (b ∷ bs) has =
    elim (cases_Bool (q b)) [
      | inl ends ↦ absurd (nothing (rw ends at has))
      | inr goes ↦ elim (cases_Bool (p b)) [
        | inl here ↦ rw (goes, here) refl
        | inr later ↦
            let more : 1 + position_or_len p (before q bs) < suc (length (before q bs)) = rw (goes, later) at has in
            rw (goes, later) (ap (λ l. b ∷ l) (in_front p q bs (omega (arith, more))))
      ]
    ]
  where
    nothing : 0 < 0 → ⊥
    nothing h = omega (arith, h)

pub local_is : (text name : List ℕ) → local_of text ≡ Some name → before_first is_at text ≡ name
local_is text name is =
    elim (cases_Bool (has_local (bare_of text))) [
      | inl has ↦
          let same : Some (before_first is_at (bare_of text)) ≡ Some name = rw has at is in
          let inside : position_or_len is_at (before is_slash text) < length (before is_slash text) = subst (λ (front : List ℕ). position_or_len is_at front < length front) (before_is is_slash text) (ltb-true (position_or_len is_at (bare_of text)) (length (bare_of text)) has) in
          before_is is_at text ∙ sym (in_front is_at is_slash text inside) ∙ ap (before is_at) (sym (before_is is_slash text)) ∙ sym (before_is is_at (bare_of text))
          ∙ same_Some (before_first is_at (bare_of text)) name same
      | inr none ↦ absurd (none-some name (rw none at is))
    ]
