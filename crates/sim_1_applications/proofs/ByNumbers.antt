-- A-3: of entries with consecutive numbers, those behind a number are an interval, and so are the first so many of them.
use Rattle.std.proofs.Common.{◌≡◌, ℕ, suc, zero, ◌+◌, ◌-◌, ◌≤◌, min, Bool, true, false, cond, List, [], ◌∷◌, map, take, refl, ap, ◌∙◌, arith, inl, inr}
use Rattle.std.specs.List.{filter}
use Rattle.std.specs.Prelude.{nat_lt}
use Rattle.std.proofs.lemmas.Bool.{cases_Bool, ltb-true, ltb-false, lt-ltb}
use Rattle.sim_1_applications.specs.Answers.{following, size}

-- the entries behind a number
abbrev pub after_number : {A : Type 0} → (A → ℕ) → ℕ → List A → List A
after_number number low es = filter (λ e. nat_lt low (number e)) es

map_cond : {A : Type 0} (number : A → ℕ) (b : Bool) (e : A) (es : List A) → map number (cond b (e ∷ es) es) ≡ cond b (number e ∷ map number es) (map number es)
map_cond number true e es = refl
map_cond number false e es = refl

-- all of them, where the place is before the first
all_after : {A : Type 0} (number : A → ℕ) (low a k : ℕ) (es : List A) → low ≤ a → map number es ≡ following a k → map number (after_number number low es) ≡ following a k
all_after number low a zero [] below are = refl
all_after number low a (suc k) [] below are = absurd (let bad : ⊥ = cc in bad)
all_after number low a zero (e ∷ es) below are = absurd (let bad : ⊥ = cc in bad)
all_after number low a (suc k) (e ∷ es) below are =
    let head : number e ≡ suc a = cc in
    let others : map number es ≡ following (suc a) k = cc in
    let passes : nat_lt low (number e) ≡ true = lt-ltb low (number e) (omega arith) in
    ap (λ b. map number (cond b (e ∷ after_number number low es) (after_number number low es))) passes
    ∙ ap (λ n. n ∷ map number (after_number number low es)) head
    ∙ ap (λ ns. suc a ∷ ns) (all_after number low (suc a) k es (omega arith) others)

-- the candidates for a page behind a number
pub candidates_are : {A : Type 0} (number : A → ℕ) (low a k : ℕ) (es : List A) → a ≤ low → map number es ≡ following a k → map number (after_number number low es) ≡ following low (a + k - low)
candidates_are number low a zero [] above are = (let e : zero ≡ a + zero - low = omega arith in ap (following low) e)
candidates_are number low a (suc k) [] above are = absurd (let bad : ⊥ = cc in bad)
candidates_are number low a zero (e ∷ es) above are = absurd (let bad : ⊥ = cc in bad)
candidates_are number low a (suc k) (e ∷ es) above are =
    let head : number e ≡ suc a = cc in
    let others : map number es ≡ following (suc a) k = cc in
    elim (cases_Bool (nat_lt low (number e))) [
      | inl passes ↦
          let over = ltb-true low (number e) passes in
          let here : a ≡ low = omega arith in
          all_after number low a (suc k) (e ∷ es) (omega arith) are
          ∙ ap (λ n. following n (suc k)) here
          ∙ (let s : suc k ≡ a + suc k - low = omega arith in ap (following low) s)
      | inr fails ↦
          let under = ltb-false low (number e) fails in
          ap (λ b. map number (cond b (e ∷ after_number number low es) (after_number number low es))) fails
          ∙ candidates_are number low (suc a) k es (omega arith) others
          ∙ (let s : suc a + k - low ≡ a + suc k - low = omega arith in ap (following low) s)
    ]

pub take_numbers : {A : Type 0} (number : A → ℕ) (m n k : ℕ) (es : List A) → map number es ≡ following n k → map number (take m es) ≡ following n (min m k)
take_numbers number zero n k [] are = (let s : zero ≡ min zero k = omega arith in ap (following n) s)
take_numbers number zero n k (e ∷ es) are = (let s : zero ≡ min zero k = omega arith in ap (following n) s)
take_numbers number (suc m) n zero [] are = (let s : zero ≡ min (suc m) zero = omega arith in ap (following n) s)
take_numbers number (suc m) n (suc k) [] are = absurd (let bad : ⊥ = cc in bad)
take_numbers number (suc m) n zero (e ∷ es) are = absurd (let bad : ⊥ = cc in bad)
take_numbers number (suc m) n (suc k) (e ∷ es) are =
    let head : number e ≡ suc n = cc in
    let others : map number es ≡ following (suc n) k = cc in
    ap (λ h. h ∷ map number (take m es)) head
    ∙ ap (λ ns. suc n ∷ ns) (take_numbers number m (suc n) k es others)
    ∙ (let s : suc (min m k) ≡ min (suc m) (suc k) = omega arith in ap (following n) s)

-- the page behind a number, of entries first, first + 1, .., last
pub page_numbers : {A : Type 0} (number : A → ℕ) (first last low max : ℕ) (es : List A) → 1 ≤ first → first ≤ last + 1 → first ≤ low + 1 → map number es ≡ following (first - 1) (last + 1 - first) →
    map number (take max (after_number number low es)) ≡ following low (size low last max)
page_numbers number first last low max es some order above are =
    take_numbers number max low (last - low) (after_number number low es)
    (candidates_are number low (first - 1) (last + 1 - first) es (omega arith) are ∙ (let s : (first - 1) + (last + 1 - first) - low ≡ last - low = omega arith in ap (following low) s))
