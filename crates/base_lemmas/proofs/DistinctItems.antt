-- Items of which no two are equal: in another order, in order, and by what they show.
use Rattle.std.proofs.Common.{◌≡◌, ◌≢◌, ◌↔◌, ℕ, ◌+◌, ◌<◌, List, [], ◌∷◌, map, length, get_or, Bool, true, false, not, AllPairs, IsPermutation, IsSorted, Ordering, Less, Equal, Greater, is_eq, is_lt, refl, sym, ap, ◌∙◌, arith}
use Rattle.std.proofs.lemmas.Bool.{and_parts, and_from, false≢true, not-true, not_from_false, or_parts, or_from, false_from_ne_true}
use Rattle.std.proofs.lemmas.Cmp.{eq_by_cmp_equiv}
use Rattle.std.proofs.lemmas.List.Sorted.{IsPermutation-sym}
use Rattle.std.proofs.lemmas.Map.Keys.{apart_from_distinct, sorted_from_all_adjacent, IsDistinct-from_apart, IsDistinct-from_sorted, IsDistinct-IsPermutation}
use Rattle.std.specs.Bool.{Decides}
use Rattle.std.specs.Cmp.{IsTotalOrder}
use Rattle.std.specs.List.{AllAdjacentBelow, AllByRecursion, IsDistinct, list_any}
use Rattle.std.specs.Ordering.{eq_by_cmp, ordering_reverse}
use Rattle.base_lemmas.specs.Distinct.{are_distinct_by}

-- neighbours below n differ
abbrev pub NeighboursDiffer : {A : Type 0} → (A → A → Ordering) → List A → ℕ → Type 0
NeighboursDiffer cmp xs n = AllAdjacentBelow (λ x y. eq_by_cmp cmp x y ≡ false) xs n

-- ---- in another order

pub IsDistinct-reordered : {A : Type 0} {cmp : A → A → Ordering} → IsTotalOrder cmp → (old new : List A) → IsPermutation old new → IsDistinct (eq_by_cmp cmp) old → IsDistinct (eq_by_cmp cmp) new
IsDistinct-reordered {A} {cmp} order old new moved = IsDistinct-IsPermutation (eq_by_cmp cmp) (eq_by_cmp_equiv order).symm old new moved

pub IsDistinct-before : {A : Type 0} {cmp : A → A → Ordering} → IsTotalOrder cmp → (old new : List A) → IsPermutation old new → IsDistinct (eq_by_cmp cmp) new → IsDistinct (eq_by_cmp cmp) old
IsDistinct-before order old new moved = IsDistinct-reordered order new old (IsPermutation-sym old new moved)

-- ---- in order

strictly : (o p : Ordering) → o ≡ ordering_reverse p → is_lt p ≡ false → is_eq o ≡ false → o ≡ Less
strictly o Less e p q = cc
strictly o Equal e p q = let tie = ap is_eq (sym e) ∙ q in cc
strictly o Greater e p q = e

pub IsDistinct-in_order : {A : Type 0} {cmp : A → A → Ordering} → IsTotalOrder cmp → (xs : List A) → IsSorted cmp xs → NeighboursDiffer cmp xs (length xs) → IsDistinct (eq_by_cmp cmp) xs
unfolding IsDistinct
IsDistinct-in_order order [] sorted differ = tt
IsDistinct-in_order {A} {cmp} order (first ∷ rest) sorted differ =
    let xs : List A = first ∷ rest in
    let rises : (k : ℕ) → k + 1 < length xs → cmp (get_or xs k first) (get_or xs (k + 1) first) ≡ Less =
    λ k h. let x = get_or xs k first in let y = get_or xs (k + 1) first in
    strictly (cmp x y) (cmp y x) (order.antisymm x y) (sorted k first (omega arith) h) (differ k first h) in
    IsDistinct-from_sorted cmp xs (sorted_from_all_adjacent order xs first rises)

pub neighbour_repeated : {A : Type 0} (cmp : A → A → Ordering) (xs : List A) (k j : ℕ) (d : A) → k + 1 ≡ j → j < length xs → eq_by_cmp cmp (get_or xs k d) (get_or xs j d) ≡ true → IsDistinct (eq_by_cmp cmp) xs → ⊥
neighbour_repeated cmp xs k j d next within same h =
    false≢true (sym (apart_from_distinct (eq_by_cmp cmp) xs k j d h (omega arith) within) ∙ same)

-- ---- as a test

none_alike : {A : Type 0} (same : A → A → Bool) (x : A) (xs : List A) → list_any (same x) xs ≡ false → AllByRecursion (λ y. same x y ≡ false) xs
none_alike same x [] e = tt
none_alike same x (y ∷ ys) e = let parts = or_parts (same x y) (list_any (same x) ys) e in (parts.0, none_alike same x ys parts.1)

no_alike : {A : Type 0} (same : A → A → Bool) (x : A) (xs : List A) → AllByRecursion (λ y. same x y ≡ false) xs → list_any (same x) xs ≡ false
no_alike same x [] h = refl
no_alike same x (y ∷ ys) h = or_from (same x y) (list_any (same x) ys) h.0 (no_alike same x ys h.1)

pub are_distinct_by-Decides : {A : Type 0} (same : A → A → Bool) (xs : List A) → Decides (are_distinct_by same xs) (IsDistinct same xs)
unfolding IsDistinct
are_distinct_by-Decides same [] = (λ _. tt, λ _. refl)
are_distinct_by-Decides same (x ∷ xs) = (
  λ e. let parts = and_parts (not (list_any (same x) xs)) (are_distinct_by same xs) e in
      (none_alike same x xs (not-true _ parts.0), (are_distinct_by-Decides same xs).0 parts.1),
  λ h. and_from _ _ (not_from_false _ (no_alike same x xs h.0)) ((are_distinct_by-Decides same xs).1 h.1),
)

-- ---- where the test decides equality

module _ {A : Type 0} (same : A → A → Bool) (decides : (x y : A) → Decides (same x y) (x ≡ y)) where
  pub AllPairs-from_IsDistinct : (xs : List A) → IsDistinct same xs → AllPairs (λ x y. x ≢ y) xs
  AllPairs-from_IsDistinct xs h i j d less within alike =
      false≢true (sym (apart_from_distinct same xs i j d h less within) ∙ (decides (get_or xs i d) (get_or xs j d)).1 alike)

  pub IsDistinct-from_AllPairs : (xs : List A) → AllPairs (λ x y. x ≢ y) xs → IsDistinct same xs
  IsDistinct-from_AllPairs xs h =
      IsDistinct-from_apart same xs (λ i j d less within. false_from_ne_true _ (λ e. h i j d less within ((decides (get_or xs i d) (get_or xs j d)).0 e)))

  pub AllPairs-from_test : (xs : List A) → are_distinct_by same xs ≡ true → AllPairs (λ x y. x ≢ y) xs
  AllPairs-from_test xs e = AllPairs-from_IsDistinct xs ((are_distinct_by-Decides same xs).0 e)

  pub test-from_AllPairs : (xs : List A) → AllPairs (λ x y. x ≢ y) xs → are_distinct_by same xs ≡ true
  test-from_AllPairs xs h = (are_distinct_by-Decides same xs).1 (IsDistinct-from_AllPairs xs h)

-- ---- by what items show

module _ {A B : Type 0} (view : A → B) (cmp : A → A → Ordering) (same : B → B → Bool) (shows : (x y : A) → eq_by_cmp cmp x y ≡ same (view x) (view y)) where
  all_shown : (x : A) (xs : List A) → AllByRecursion (λ y. eq_by_cmp cmp x y ≡ false) xs → AllByRecursion (λ b. same (view x) b ≡ false) (map view xs)
  all_shown x [] h = tt
  all_shown x (y ∷ ys) h = (sym (shows x y) ∙ h.0, all_shown x ys h.1)

  all_show : (x : A) (xs : List A) → AllByRecursion (λ b. same (view x) b ≡ false) (map view xs) → AllByRecursion (λ y. eq_by_cmp cmp x y ≡ false) xs
  all_show x [] h = tt
  all_show x (y ∷ ys) h = (shows x y ∙ h.0, all_show x ys h.1)

  pub IsDistinct-shown : (xs : List A) → IsDistinct (eq_by_cmp cmp) xs → IsDistinct same (map view xs)
  unfolding IsDistinct
  IsDistinct-shown [] h = tt
  IsDistinct-shown (x ∷ xs) h = (all_shown x xs h.0, IsDistinct-shown xs h.1)

  pub IsDistinct-show : (xs : List A) → IsDistinct same (map view xs) → IsDistinct (eq_by_cmp cmp) xs
  unfolding IsDistinct
  IsDistinct-show [] h = tt
  IsDistinct-show (x ∷ xs) h = (all_show x xs h.0, IsDistinct-show xs h.1)

  -- what `are_distinct` answers is the test of what the items show
  pub answer_is_test : (xs : List A) (b : Bool) → ((b ≡ true) ↔ IsDistinct (eq_by_cmp cmp) xs) → b ≡ are_distinct_by same (map view xs)
  answer_is_test xs true h = sym ((are_distinct_by-Decides same (map view xs)).1 (IsDistinct-shown xs (h.0 refl)))
  answer_is_test xs false h =
      sym (false_from_ne_true _ (λ e. false≢true (h.1 (IsDistinct-show xs ((are_distinct_by-Decides same (map view xs)).0 e)))))
