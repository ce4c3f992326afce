-- A server without one of its connections.
use Rattle.std.proofs.Common.{◌≡◌, ◌≢◌, ℕ, Bool, List, [], ◌∷◌, None, cond, ap, ◌∙◌, inl, inr}
use Rattle.std.proofs.lemmas.Bool.{cases_Bool}
use Rattle.std.proofs.lemmas.Cmp.{eq_by_cmp_equiv, nat_cmp_total}
use Rattle.std.proofs.lemmas.Map.{lookup-remove_entry}
use Rattle.std.proofs.lemmas.Map.Keys.{IsDistinct-from_sorted}
use Rattle.std.specs.List.Sorted.{IsStrictlySortedBy}
use Rattle.std.specs.Map.{keys_of, remove_entry}
use Rattle.std.specs.Ordering.{nat_cmp}
use Rattle.std.specs.declared.cmp.Ordering.TheVariants.{Less}
use Rattle.srv_state.specs.State.{ServerState, conn_at, is_number, without_conn}
use Rattle.sim_3_images.proofs.Counted.{all_removed}
use Rattle.sim_3_images.proofs.Lookups.{number_is, other_number, self_is}

sorted_removed : {X : Type 0} (test : ℕ → Bool) (es : List (ℕ × X)) → IsStrictlySortedBy nat_cmp (keys_of es) → IsStrictlySortedBy nat_cmp (keys_of (remove_entry test es))
unfolding IsStrictlySortedBy
sorted_removed test [] sorted = sorted
sorted_removed test (e ∷ es) sorted =
    elim (cases_Bool (test e.0)) [
      | inl gone ↦ rw gone sorted.1
      | inr stays ↦ rw stays (all_removed (λ y. nat_cmp e.0 y ≡ Less) test es sorted.0, sorted_removed test es sorted.1)
    ]

module _ {A : Type 0} (k : ℕ) (h : ServerState A) (sorted : IsStrictlySortedBy nat_cmp (keys_of h.conns)) where
  without_at_all : (j : ℕ) → conn_at j (without_conn k h) ≡ cond (is_number k j) None (conn_at j h)
  without_at_all j =
      lookup-remove_entry (eq_by_cmp_equiv nat_cmp_total) (is_number k) (λ x y is. ap (λ n. is_number n y) (number_is k x is)) j h.conns (IsDistinct-from_sorted nat_cmp (keys_of h.conns) sorted)

  pub without_here : conn_at k (without_conn k h) ≡ None
  without_here = without_at_all k ∙ ap (λ b. cond b None (conn_at k h)) (self_is k)

  pub without_apart : (j : ℕ) → k ≢ j → conn_at j (without_conn k h) ≡ conn_at j h
  without_apart j apart = without_at_all j ∙ ap (λ b. cond b None (conn_at j h)) (other_number k j apart)

  pub without_sorted : IsStrictlySortedBy nat_cmp (keys_of (without_conn k h).conns)
  without_sorted = sorted_removed (is_number k) h.conns sorted
