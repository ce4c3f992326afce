-- Lists one element longer, and lists with the same front.
use Rattle.std.proofs.Common.{◌≡◌, ℕ, zero, suc, ◌+◌, ◌≤◌, List, [], ◌∷◌, ◌++◌, length, refl, arith, ◌⊎◌, inl, inr, Some}
use Rattle.std.specs.List.{slice_get}

pub at_before : {B : Type 0} (xs : List B) (x : B) (e : ℕ) → e + 1 ≤ length xs → slice_get (xs ++ x ∷ []) e ≡ slice_get xs e
at_before [] x e low = absurd (omega arith)
at_before (y ∷ xs) x zero low = refl
at_before (y ∷ xs) x (suc e) low = at_before xs x e (let less : e + 1 ≤ length xs = omega arith in less)

pub at_end : {B : Type 0} (xs : List B) (x : B) (e : ℕ) → e ≡ length xs → slice_get (xs ++ x ∷ []) e ≡ Some x
at_end [] x zero e = refl
at_end [] x (suc n) e = absurd (omega arith)
at_end (y ∷ xs) x zero e = absurd (omega arith)
at_end (y ∷ xs) x (suc n) e = at_end xs x n (let same : n ≡ length xs = omega arith in same)

pub cancel : {B : Type 0} (xs ys zs : List B) → xs ++ ys ≡ xs ++ zs → ys ≡ zs
cancel [] ys zs e = e
cancel (x ∷ xs) ys zs e = cancel xs ys zs (let out : xs ++ ys ≡ xs ++ zs = cc in out)

pub last_or_before : (e n : ℕ) → e ≤ n → (e ≡ n) ⊎ (e + 1 ≤ n)
last_or_before zero zero low = inl refl
last_or_before zero (suc n) low = inr (omega arith)
last_or_before (suc e) zero low = absurd (omega arith)
last_or_before (suc e) (suc n) low = elim (last_or_before e n (let less : e ≤ n = omega arith in less)) [ inl same ↦ inl (omega arith) | inr less ↦ inr (omega arith) ]
