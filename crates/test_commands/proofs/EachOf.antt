-- What is true of each move between worlds, of each element of a list by its place, and of each pair of numbers.
use Rattle.std.proofs.Common.{◌≡◌, ℕ, zero, suc, ◌+◌, ◌≤◌, List, [], ◌∷◌, Some, ◌∙◌, zero-add, arith}
use Rattle.std.proofs.lemmas.List.Elements.{All-from_recursion}
use Rattle.std.proofs.lemmas.Option.{none-some, same_Some}
use Rattle.std.specs.List.{slice_get}
use Rattle.std.specs.List.Sorted.{IsNonDecreasing}
use Rattle.cmd_report.specs.Lawful.{EachPair}
pub use Rattle.cmd_direct.proofs.LawLists.{pairs_not_falling as not_falling}

-- each element, at its place from n on
abbrev pub EachAt : {A : Type 0} → (ℕ → A → Type 0) → ℕ → List A → Type 0
EachAt P n [] = Unit {0}
EachAt P n (x ∷ xs) = P n x × EachAt P (n + 1) xs

pub one_at : {A : Type 0} (P : ℕ → A → Type 0) (n : ℕ) (xs : List A) → EachAt P n xs → (i k : ℕ) (x : A) → slice_get xs i ≡ Some x → k ≡ i + n → P k x
one_at P n [] each i k x is position = absurd (none-some x is)
one_at P n (y ∷ ys) each zero k x is position =
    let here : k ≡ n = position ∙ zero-add n in
    rw (here, ← same_Some y x is) each.0
one_at P n (y ∷ ys) each (suc i) k x is position = one_at P (n + 1) ys each.1 i k x is (omega (arith, position))

-- each element and the next one
abbrev pub EachMove : {A : Type 0} → (A → A → Type 0) → List A → Type 0
EachMove P [] = Unit {0}
EachMove P (x ∷ []) = Unit {0}
EachMove P (x ∷ y ∷ ys) = P x y × EachMove P (y ∷ ys)

pub one_move : {A : Type 0} (P : A → A → Type 0) (xs : List A) → EachMove P xs → (i : ℕ) (x y : A) → slice_get xs i ≡ Some x → slice_get xs (suc i) ≡ Some y → P x y
one_move P [] each i x y at_x at_y = absurd (none-some x at_x)
one_move P (v ∷ []) each zero x y at_x at_y = absurd (none-some y at_y)
one_move P (v ∷ []) each (suc i) x y at_x at_y = absurd (none-some x at_x)
one_move P (v ∷ w ∷ ws) each zero x y at_x at_y = rw (← same_Some v x at_x, ← same_Some w y at_y) each.0
one_move P (v ∷ w ∷ ws) each (suc i) x y at_x at_y = one_move P (w ∷ ws) each.1 i x y at_x at_y
