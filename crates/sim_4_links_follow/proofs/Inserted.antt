-- A connection comes to a server under a number: it is found there, the others are as they were, and numbers ascend.
use Rattle.std.proofs.Common.{◌≡◌, ◌≢◌, ℕ, Bool, true, false, cond, List, [], ◌∷◌, Some, None, refl, sym, ap, subst, ◌∙◌}
use Rattle.std.proofs.lemmas.Cmp.{nat_cmp_total}
use Rattle.std.proofs.lemmas.Map.Lookups.{exact_unsigned}
use Rattle.std.specs.BTreeMap.{insert_entry}
use Rattle.std.specs.Cmp.{tied_itself}
use Rattle.std.specs.List.{AllByRecursion}
use Rattle.std.specs.List.Sorted.{IsStrictlySortedBy}
use Rattle.std.specs.Map.{keys_of, lookup}
use Rattle.std.specs.Ordering.{is_eq, match_ordering, nat_cmp, ordering_reverse}
use Rattle.std.specs.declared.cmp.Ordering.{Ordering}
use Rattle.std.specs.declared.cmp.Ordering.TheVariants.{Equal, Greater, Less}
use Rattle.srv_state.specs.State.{is_number}
use Rattle.sim_3_images.proofs.Lookups.{number_is}

module _ {X : Type 0} (k : ℕ) (v : X) where
  self_is : is_number k k ≡ true
  self_is = ap is_eq (tied_itself nat_cmp_total k)

  not_another : (j : ℕ) → j ≢ k → is_number j k ≡ false
  not_another j apart = by (is_number j k) refl
    where
      by : (b : Bool) → is_number j k ≡ b → is_number j k ≡ false
      by true e = absurd (apart (number_is j k e))
      by false e = e

  pub found_inserted : (es : List (ℕ × X)) → lookup (is_number k) (insert_entry nat_cmp es k v) ≡ Some v
  found_inserted [] = ap (λ c. cond c (Some v) None) self_is
  found_inserted (e ∷ es) = by (found_inserted es) (nat_cmp k e.0) refl
    where
      by : lookup (is_number k) (insert_entry nat_cmp es k v) ≡ Some v → (o : Ordering) → nat_cmp k e.0 ≡ o → lookup (is_number k) (match_ordering o ((k, v) ∷ e ∷ es) ((e.0, v) ∷ es) (e ∷ insert_entry nat_cmp es k v)) ≡ Some v
      by rest Less is = ap (λ c. cond c (Some v) (lookup (is_number k) (e ∷ es))) self_is
      by rest Equal is = ap (λ o. cond (is_eq o) (Some v) (lookup (is_number k) es)) is
      by rest Greater is = ap (λ o. cond (is_eq o) (Some e.1) (lookup (is_number k) (insert_entry nat_cmp es k v))) is ∙ rest

  pub found_beside : (j : ℕ) (es : List (ℕ × X)) → j ≢ k → lookup (is_number j) (insert_entry nat_cmp es k v) ≡ lookup (is_number j) es
  found_beside j [] apart = ap (λ c. cond c (Some v) None) (not_another j apart)
  found_beside j (e ∷ es) apart = by (found_beside j es apart) (nat_cmp k e.0) refl
    where
      other : is_number j k ≡ false
      other = not_another j apart

      by : lookup (is_number j) (insert_entry nat_cmp es k v) ≡ lookup (is_number j) es → (o : Ordering) → nat_cmp k e.0 ≡ o
          → lookup (is_number j) (match_ordering o ((k, v) ∷ e ∷ es) ((e.0, v) ∷ es) (e ∷ insert_entry nat_cmp es k v)) ≡ lookup (is_number j) (e ∷ es)
      by rest Less is = ap (λ c. cond c (Some v) (lookup (is_number j) (e ∷ es))) other
      by rest Equal is =
          let away = subst (λ n. is_number j n ≡ false) (exact_unsigned k e.0 is) other in
          ap (λ c. cond c (Some v) (lookup (is_number j) es)) away ∙ sym (ap (λ c. cond c (Some e.1) (lookup (is_number j) es)) away)
      by rest Greater is = ap (cond (is_number j e.0) (Some e.1)) rest

  above_inserted : (P : ℕ → Type 0) (es : List (ℕ × X)) → P k → AllByRecursion P (keys_of es) → AllByRecursion P (keys_of (insert_entry nat_cmp es k v))
  above_inserted P [] here all = (here, tt)
  above_inserted P (e ∷ es) here all = by (above_inserted P es here all.1) (nat_cmp k e.0)
    where
      by : AllByRecursion P (keys_of (insert_entry nat_cmp es k v)) → (o : Ordering) → AllByRecursion P (keys_of (match_ordering o ((k, v) ∷ e ∷ es) ((e.0, v) ∷ es) (e ∷ insert_entry nat_cmp es k v)))
      by rest Less = (here, all)
      by rest Equal = all
      by rest Greater = (all.0, rest)

  all_above : (low : ℕ) (ks : List ℕ) → nat_cmp k low ≡ Less → AllByRecursion (λ y. nat_cmp low y ≡ Less) ks → AllByRecursion (λ y. nat_cmp k y ≡ Less) ks
  all_above low [] below all = tt
  all_above low (y ∷ ks) below all = (nat_cmp_total.trans k low y below all.0, all_above low ks below all.1)

  pub sorted_inserted : (es : List (ℕ × X)) → IsStrictlySortedBy nat_cmp (keys_of es) → IsStrictlySortedBy nat_cmp (keys_of (insert_entry nat_cmp es k v))
  unfolding IsStrictlySortedBy
  sorted_inserted [] sorted = (tt, tt)
  sorted_inserted (e ∷ es) sorted = by (sorted_inserted es sorted.1) (nat_cmp k e.0) refl
    where
      by : IsStrictlySortedBy nat_cmp (keys_of (insert_entry nat_cmp es k v)) → (o : Ordering) → nat_cmp k e.0 ≡ o
          → IsStrictlySortedBy nat_cmp (keys_of (match_ordering o ((k, v) ∷ e ∷ es) ((e.0, v) ∷ es) (e ∷ insert_entry nat_cmp es k v)))
      by rest Less is = ((is, all_above e.0 (keys_of es) is sorted.0), sorted)
      by rest Equal is = sorted
      by rest Greater is = (above_inserted (λ y. nat_cmp e.0 y ≡ Less) es (nat_cmp_total.antisymm e.0 k ∙ ap ordering_reverse is) sorted.0, rest)
