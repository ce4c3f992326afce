-- The numbers of a log.
use Rattle.std.proofs.Common.{◌≡◌, ℕ, zero, ◌+◌, ◌<◌, ◌≤◌, ◌==◌, Bool, true, false, List, [], ◌∷◌, ◌++◌, length, refl, sym, ap, ◌∙◌, arith, inl, inr}
use Rattle.std.specs.List.{list_any}
use Rattle.std.specs.Prelude.{◌||◌, not}
use Rattle.std.proofs.lemmas.Bool.{cases_Bool, eq-eqb, eqb-true, or_right, or_parts}
use Rattle.sim_1_applications.specs.Answers.{last_in}
use Rattle.sim_1_applications.specs.Events.{number_or_none}
use Rattle.law_intents.specs.Intents.{has_hole_from}
use Rattle.law_intents.proofs.Splits.{not_false}

abbrev pub last_or : ℕ → List ℕ → ℕ
last_or n [] = n
last_or n (m ∷ ms) = last_or m ms

pub last_or_append : (n : ℕ) (xs ys : List ℕ) → last_or n (xs ++ ys) ≡ last_or (last_or n xs) ys
last_or_append n [] ys = refl
last_or_append n (x ∷ xs) ys = last_or_append x xs ys

pub last_or_none : (xs : List ℕ) → number_or_none (last_in xs) ≡ last_or 0 xs
last_or_none [] = refl
last_or_none (x ∷ []) = refl
last_or_none (x ∷ y ∷ xs) = last_or_none (y ∷ xs)

-- without a hole, all numbers up to the last one are there
pub no_hole_has : (p : ℕ → Bool) (before : ℕ) (ns : List ℕ) → has_hole_from zero before ns ≡ false → (x : ℕ) → before < x → x ≤ last_or before ns → p x ≡ true → list_any p ns ≡ true
no_hole_has p before [] none x above within is = absurd (omega arith)
no_hole_has p before (n ∷ ns) none x above within is =
    let parts = or_parts (not (n == before + 1)) (has_hole_from zero n ns) none in
    let next : n ≡ before + 1 = eqb-true n (before + 1) (not_false (n == before + 1) parts.0) in
    elim (cases_Bool (x == n)) [
      | inl same ↦ (let e : x ≡ n = eqb-true x n same in ap (λ b. b || list_any p ns) (ap p (sym e) ∙ is))
      | inr other ↦
          let apart : x ≡ n → ⊥ = λ e. let hit = eq-eqb x n e in let bad : ⊥ = cc in bad in
          or_right (p n) (list_any p ns) (no_hole_has p n ns parts.1 x (above_next before n x next above apart) within is)
    ]
  where
    above_next : (b n x : ℕ) → n ≡ b + 1 → b < x → (x ≡ n → ⊥) → n < x
    above_next b n x next low apart = omega arith

-- a hole after a front
pub hole_behind : (before : ℕ) (xs ys : List ℕ) → has_hole_from (length xs) before (xs ++ ys) ≡ has_hole_from zero (last_or before xs) ys
hole_behind before [] ys = refl
hole_behind before (x ∷ xs) ys = hole_behind x xs ys
