-- The connections of a server, where one of them comes to another phase.
use Rattle.std.proofs.Common.{◌≡◌, ◌≢◌, ℕ, true, false, List, [], ◌∷◌, Some, refl, sym, ap, subst, ◌∙◌, inl, inr}
use Rattle.std.proofs.lemmas.Bool.{cases_Bool}
use Rattle.std.proofs.lemmas.Map.{keys-set_value}
use Rattle.std.specs.List.Sorted.{IsStrictlySortedBy}
use Rattle.std.specs.Map.{keys_of, lookup, set_value}
use Rattle.std.specs.Ordering.{nat_cmp}
use Rattle.srv_state.specs.State.{ServerState, changed, conn_at, is_number, with_conn}
use Rattle.srv_state.specs.declared.connection.Connection.{Connection}
use Rattle.sim_3_images.proofs.Lookups.{found_after_value, number_is}

module _ {X : Type 0} where
  set_apart : (k j : ℕ) (es : List (ℕ × X)) (d : X) → k ≢ j → lookup (is_number j) (set_value (is_number k) es d) ≡ lookup (is_number j) es
  set_apart k j [] d apart = refl
  set_apart k j (e ∷ es) d apart =
      elim (cases_Bool (is_number k e.0)) [
        | inl here ↦ let not_it = not_there e.0 here in rw (here, not_it) refl
        | inr other ↦ rw other (elim (cases_Bool (is_number j e.0)) [ inl found ↦ rw found refl | inr not_it ↦ rw not_it (set_apart k j es d apart) ])
      ]
    where
      not_there : (n : ℕ) → is_number k n ≡ true → is_number j n ≡ false
      not_there n here =
          elim (cases_Bool (is_number j n)) [ inl there ↦ absurd (apart (number_is k n here ∙ sym (number_is j n there))) | inr not_it ↦ not_it ]

module _ {A : Type 0} (k : ℕ) (f : Connection → Connection) (h : ServerState A) (c : Connection) (is : conn_at k h ≡ Some c) where
  changed_as : (with_conn k f h).conns ≡ set_value (is_number k) h.conns (f c)
  changed_as = ap (λ o. changed k f o h.conns) is

  pub server_state_here : conn_at k (with_conn k f h) ≡ Some (f c)
  server_state_here = ap (lookup (is_number k)) changed_as ∙ found_after_value k h.conns c (f c) is

  pub server_state_apart : (j : ℕ) → k ≢ j → conn_at j (with_conn k f h) ≡ conn_at j h
  server_state_apart j apart = ap (lookup (is_number j)) changed_as ∙ set_apart k j h.conns (f c) apart

  pub server_state_sorted : IsStrictlySortedBy nat_cmp (keys_of h.conns) → IsStrictlySortedBy nat_cmp (keys_of (with_conn k f h).conns)
  server_state_sorted sorted = subst (IsStrictlySortedBy nat_cmp) (sym (ap keys_of changed_as ∙ keys-set_value (is_number k) h.conns (f c))) sorted
