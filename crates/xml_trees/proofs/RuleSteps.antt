-- The rule of a tree is tested from left to right.
use Rattle.std.proofs.Common.{◌≡◌, ℕ, ◌+◌, ◌<◌, true≢false, List, [], ◌∷◌, ◌++◌, length, get_or, drop, Option, Some, None, Ordering, Less, Equal, Greater, is_lt, refl, sym, ◌∙◌, subst, add-one, drop-cons}
use Rattle.std.specs.List.Sorted.{IsStrictlySortedBy}
use Rattle.std.specs.Option.{option_to_list}
use Rattle.std.specs.Prelude.{◌↔◌, IsTrue}
use Rattle.xml_trees.proofs.AttributeOrder.{all_weaker, name_order_total}
use Rattle.xml_trees.specs.Attributes.{Attribute, is_above, name_order}

pub drop_item : {A : Type 0} (xs : List A) (i : ℕ) (x : A) → i < length xs → x ≡ get_or xs i x → drop i xs ≡ x ∷ drop (i + 1) xs
drop_item xs i x within is = drop-cons xs i x within ∙ rw (← is, add-one i)

below_is : (o : Ordering) → IsTrue (is_lt o) → o ≡ Less
below_is Less h = refl
below_is Equal h = absurd (true≢false (sym h))
below_is Greater h = absurd (true≢false (sym h))

pub in_order_step : (o : Option Attribute) (a : Attribute) (rest : List Attribute) →
    IsStrictlySortedBy name_order (option_to_list o ++ a ∷ rest) ↔ (IsTrue (is_above o a) × IsStrictlySortedBy name_order (a ∷ rest))
unfolding IsStrictlySortedBy
in_order_step None a rest = (λ h. (refl, h), λ h. h.1)
in_order_step (Some b) a rest = (
  λ h. (subst (λ o. IsTrue (is_lt o)) (sym h.0.0) refl, h.1),
  λ h.
      let below = below_is (name_order b a) h.0 in
      ((below, all_weaker (λ z. name_order a z ≡ Less) (λ z. name_order b z ≡ Less) (λ z. name_order_total.trans b a z below) rest h.1.0), h.1),
)

pub one_in_order : (o : Option Attribute) → IsStrictlySortedBy name_order (option_to_list o ++ [])
unfolding IsStrictlySortedBy
one_in_order None = tt
one_in_order (Some b) = (tt, tt)
