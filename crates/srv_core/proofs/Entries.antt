-- An entry that is put under a new number and taken out again leaves the others.
use Rattle.std.proofs.Common.{◌≡◌, ℕ, true, false, cond, List, [], ◌∷◌, None, Some, Option, ap, refl, sym, inl, inr, ◌∙◌}
use Rattle.std.proofs.lemmas.Bool.{cases_Bool}
use Rattle.std.proofs.lemmas.Cmp.{nat_cmp_total}
use Rattle.std.proofs.lemmas.Option.{none-some}
use Rattle.std.specs.BTreeMap.{insert_entry, is_at}
use Rattle.std.specs.Cmp.{IsTotalOrder, tied_itself}
use Rattle.std.specs.Map.{lookup, remove_entry}
use Rattle.std.specs.Ordering.{is_eq, match_ordering, nat_cmp}
use Rattle.std.specs.declared.cmp.Ordering.{Ordering}
use Rattle.std.specs.declared.cmp.Ordering.TheVariants.{Equal, Greater, Less}
use Rattle.srv_state.specs.State.{is_number}

self_is : (k : ℕ) → is_number k k ≡ true
self_is k = ap is_eq (tied_itself nat_cmp_total k)

-- the first entry is taken out
front_removed : {X : Type 0} (k : ℕ) (v : X) (es : List (ℕ × X)) → remove_entry (is_number k) ((k, v) ∷ es) ≡ es
front_removed k v es = ap (λ b. cond b es ((k, v) ∷ remove_entry (is_number k) es)) (self_is k)

-- behind the first entry, whose number compares so
following : {X : Type 0} (k : ℕ) (v : X) (e : ℕ × X) (es rest : List (ℕ × X)) (r : Ordering) → nat_cmp k e.0 ≡ r → cond (is_eq r) (Some e.1) (lookup (is_number k) es) ≡ None
    → (lookup (is_number k) es ≡ None → remove_entry (is_number k) rest ≡ es)
    → remove_entry (is_number k) (match_ordering r ((k, v) ∷ e ∷ es) ((e.0, v) ∷ es) (e ∷ rest)) ≡ e ∷ es
following k v e es rest Less is none more = front_removed k v (e ∷ es)
following k v e es rest Equal is none more = absurd (none-some e.1 (sym none))
following k v e es rest Greater is none more =
    ap (λ r. cond (is_eq r) rest (e ∷ remove_entry (is_number k) rest)) is ∙ ap (λ l. e ∷ l) (more none)

pub removed_fresh : {X : Type 0} (k : ℕ) (v : X) (es : List (ℕ × X)) → lookup (is_number k) es ≡ None → remove_entry (is_number k) (insert_entry nat_cmp es k v) ≡ es
removed_fresh k v [] none = front_removed k v []
removed_fresh k v (e ∷ es) none = following k v e es (insert_entry nat_cmp es k v) (nat_cmp k e.0) refl none (removed_fresh k v es)
