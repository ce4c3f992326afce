-- Submissions that ascend, searched for a place.
use Rattle.std.proofs.Common.{◌≡◌, ℕ, ◌<◌, ◌≤◌, ◌==◌, Bool, true, false, nat_lt, List, length, get_or, map, refl, sym, ap, ◌∙◌, arith, inl, inr}
use Rattle.std.proofs.lemmas.Bool.{cases_Bool}
use Rattle.std.proofs.lemmas.Bool.Decides.{nat_tests}
use Rattle.std.proofs.lemmas.List.{get_or-map, length-map}
use Rattle.std.proofs.lemmas.List.Folds.{list_any_at, list_any_none}
use Rattle.std.specs.List.{list_any}
use Rattle.std.specs.List.Sorted.{IsNonDecreasingBy}
use Rattle.sm_outbox.specs.Kept.{numbers_of, position_at}
use Rattle.sm_outbox.specs.Submissions.{position_of}
use Rattle.sm_outbox.specs.declared.said.Said.{Said}

pub by_position : (items : List Said) → IsNonDecreasingBy position_at (map numbers_of items) → IsNonDecreasingBy position_of items
by_position items rise i j d le below =
    let size : length (map numbers_of items) ≡ length items = length-map items numbers_of in
    let before : i < length items = omega arith in
    let first : get_or (map numbers_of items) i (numbers_of d) ≡ numbers_of (get_or items i d) = get_or-map numbers_of items i d (numbers_of d) before in
    let last : get_or (map numbers_of items) j (numbers_of d) ≡ numbers_of (get_or items j d) = get_or-map numbers_of items j d (numbers_of d) below in
    let inside : j < length (map numbers_of items) = omega arith in
    let step : position_at (get_or (map numbers_of items) i (numbers_of d)) ≤ position_at (get_or (map numbers_of items) j (numbers_of d)) = rise i j (numbers_of d) le inside in
    rw (first, last) at step

other_position : (m n : ℕ) → m < n → (m == n) ≡ false
other_position m n below = grind (arith, nat_tests)

higher_position : (m n : ℕ) → n < m → (m == n) ≡ false
higher_position m n above = grind (arith, nat_tests)

-- none is at the place, where the ones before `first` are below it, and those from `first` on above it
pub none_at : (items : List Said) (first at : ℕ) → ((k : ℕ) (d : Said) → k < first → k < length items → position_of (get_or items k d) < at) → ((k : ℕ) (d : Said) → first ≤ k → k < length items → at < position_of (get_or items k d)) → list_any (λ said. position_of said == at) items ≡ false
none_at items first at low high = list_any_none (λ said. position_of said == at) items (λ k d below. apart k d below)
  where
    apart : (k : ℕ) (d : Said) → k < length items → (position_of (get_or items k d) == at) ≡ false
    apart k d below = elim (cases_Bool (nat_lt k first)) [
      | inl e ↦ other_position (position_of (get_or items k d)) at (low k d (grind (arith, nat_tests)) below)
      | inr e ↦ higher_position (position_of (get_or items k d)) at (high k d (grind (arith, nat_tests)) below)
    ]

-- the first one that isn't below the place is the one at it, or none is
pub found_at : (items : List Said) (first at : ℕ) (x : Said) → IsNonDecreasingBy position_of items → ((k : ℕ) (d : Said) → k < first → k < length items → position_of (get_or items k d) < at) → first < length items → at ≤ position_of x → ((d : Said) → get_or items first d ≡ x) → (position_of x == at) ≡ list_any (λ said. position_of said == at) items
found_at items first at x rise low below least is = go (position_of x == at) refl
  where
    above : at < position_of x → (k : ℕ) (d : Said) → first ≤ k → k < length items → at < position_of (get_or items k d)
    above apart k d from within = lifted (position_of x) (position_of (get_or items first d)) (position_of (get_or items k d)) apart (sym (ap position_of (is d))) (rise first k d from within)
      where
        lifted : (m a b : ℕ) → at < m → m ≡ a → a ≤ b → at < b
        lifted m a b over same up = omega arith

    past : (m : ℕ) → at ≤ m → (m == at) ≡ false → at < m
    past m least e = grind (arith, nat_tests)

    go : (b : Bool) → (position_of x == at) ≡ b → (position_of x == at) ≡ list_any (λ said. position_of said == at) items
    go true e = e ∙ sym (list_any_at (λ said. position_of said == at) items first x below (ap (λ said. position_of said == at) (is x) ∙ e))
    go false e = e ∙ sym (none_at items first at low (above (past (position_of x) least e)))
