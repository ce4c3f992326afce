-- What is found in lists and under numbers behind a change.
use Rattle.std.proofs.Common.{◌≡◌, ◌≢◌, ℕ, zero, suc, Bool, true, false, cond, List, [], ◌∷◌, ◌++◌, Some, None, length, refl, sym, ap, subst, ◌∙◌}
use Rattle.std.proofs.lemmas.Cmp.{nat_cmp_total}
use Rattle.std.proofs.lemmas.Option.{none-some, same_Some}
use Rattle.std.specs.BTreeMap.{insert_entry}
use Rattle.std.proofs.lemmas.Map.Lookups.{exact_unsigned}
use Rattle.std.specs.Cmp.{tied_itself}
use Rattle.std.specs.List.{slice_get, slice_set}
use Rattle.std.specs.Map.{lookup, remove_entry, set_value}
use Rattle.std.specs.Option.{option_map}
use Rattle.std.specs.Ordering.{is_eq, match_ordering, nat_cmp}
use Rattle.std.specs.declared.cmp.Ordering.{Ordering}
use Rattle.std.specs.declared.cmp.Ordering.TheVariants.{Equal, Greater, Less}
use Rattle.srv_state.specs.State.{is_number}
use Rattle.cmd_network.specs.Positions.{changed_at}
pub use Rattle.law_server.proofs.Frames.{equal_is}
pub use Rattle.law_server.proofs.Seats.{number_same as number_is}

-- ---- places

pub get_changed_same : {T : Type 0} (f : T → T) (l : List T) (q : ℕ) → slice_get (changed_at q f l) q ≡ option_map f (slice_get l q)
get_changed_same f [] zero = refl
get_changed_same f [] (suc q) = refl
get_changed_same f (x ∷ l) zero = refl
get_changed_same f (x ∷ l) (suc q) = get_changed_same f l q

pub get_changed_other : {T : Type 0} (f : T → T) (l : List T) (q p : ℕ) → p ≢ q → slice_get (changed_at q f l) p ≡ slice_get l p
get_changed_other f [] q p other = refl
get_changed_other f (x ∷ l) zero zero other = absurd (other refl)
get_changed_other f (x ∷ l) zero (suc p) other = refl
get_changed_other f (x ∷ l) (suc q) zero other = refl
get_changed_other f (x ∷ l) (suc q) (suc p) other = get_changed_other f l q p (λ e. other (ap suc e))

pub length_changed : {T : Type 0} (f : T → T) (l : List T) (q : ℕ) → length (changed_at q f l) ≡ length l
length_changed f [] q = refl
length_changed f (x ∷ l) zero = refl
length_changed f (x ∷ l) (suc q) = ap suc (length_changed f l q)

pub set_changes : {T : Type 0} (f : T → T) (l : List T) (q : ℕ) (x y : T) → slice_get l q ≡ Some x → y ≡ f x → slice_set l q y ≡ changed_at q f l
set_changes f [] zero x y found is = absurd (none-some x found)
set_changes f [] (suc q) x y found is = absurd (none-some x found)
set_changes f (z ∷ l) zero x y found is = ap (λ v. v ∷ l) (is ∙ ap f (sym (same_Some z x found)))
set_changes f (z ∷ l) (suc q) x y found is = ap (λ r. z ∷ r) (set_changes f l q x y found is)

-- one more at the end
pub get_last : {T : Type 0} (l : List T) (x : T) → slice_get (l ++ x ∷ []) (length l) ≡ Some x
get_last [] x = refl
get_last (y ∷ l) x = get_last l x

pub get_before : {T : Type 0} (l : List T) (x : T) (p : ℕ) → p ≢ length l → slice_get (l ++ x ∷ []) p ≡ slice_get l p
get_before [] x zero other = absurd (other refl)
get_before [] x (suc p) other = refl
get_before (y ∷ l) x zero other = refl
get_before (y ∷ l) x (suc p) other = get_before l x p (λ e. other (ap suc e))

-- ---- numbers

pub self_is : (k : ℕ) → is_number k k ≡ true
self_is k = ap is_eq (tied_itself nat_cmp_total k)

pub other_number : (j k : ℕ) → j ≢ k → is_number j k ≡ false
other_number j k other = by (is_number j k) refl
  where
    by : (e : Bool) → is_number j k ≡ e → is_number j k ≡ false
    by true e = absurd (other (number_is j k e))
    by false e = e

pub found_after_removal : {X : Type 0} (j k : ℕ) (es : List (ℕ × X)) → j ≢ k → lookup (is_number j) (remove_entry (is_number k) es) ≡ lookup (is_number j) es
found_after_removal j k [] other = refl
found_after_removal j k (e ∷ es) other = by (found_after_removal j k es other) (is_number k e.0) refl
  where
    by : lookup (is_number j) (remove_entry (is_number k) es) ≡ lookup (is_number j) es → (b : Bool) → is_number k e.0 ≡ b → lookup (is_number j) (cond b es (e ∷ remove_entry (is_number k) es)) ≡ cond (is_number j e.0) (Some e.1) (lookup (is_number j) es)
    by rest true here = sym (ap (λ c. cond c (Some e.1) (lookup (is_number j) es)) (subst (λ n. is_number j n ≡ false) (number_is k e.0 here) (other_number j k other)))
    by rest false there = ap (cond (is_number j e.0) (Some e.1)) rest

pub found_after_other_value : {X : Type 0} (j k : ℕ) (es : List (ℕ × X)) (x : X) → j ≢ k → lookup (is_number j) (set_value (is_number k) es x) ≡ lookup (is_number j) es
found_after_other_value j k [] x other = refl
found_after_other_value j k (e ∷ es) x other = by (found_after_other_value j k es x other) (is_number k e.0) refl
  where
    by : lookup (is_number j) (set_value (is_number k) es x) ≡ lookup (is_number j) es → (b : Bool) → is_number k e.0 ≡ b → lookup (is_number j) (cond b ((e.0, x) ∷ es) (e ∷ set_value (is_number k) es x)) ≡ cond (is_number j e.0) (Some e.1) (lookup (is_number j) es)
    by rest true here =
        let no = subst (λ n. is_number j n ≡ false) (number_is k e.0 here) (other_number j k other) in
        ap (λ c. cond c (Some x) (lookup (is_number j) es)) no ∙ sym (ap (λ c. cond c (Some e.1) (lookup (is_number j) es)) no)
    by rest false there = ap (cond (is_number j e.0) (Some e.1)) rest

pub found_after_value : {X : Type 0} (k : ℕ) (es : List (ℕ × X)) (old x : X) → lookup (is_number k) es ≡ Some old → lookup (is_number k) (set_value (is_number k) es x) ≡ Some x
found_after_value k [] old x found = absurd (none-some old found)
found_after_value k (e ∷ es) old x found = by (found_after_value k es old x) (is_number k e.0) refl
  where
    by : (lookup (is_number k) es ≡ Some old → lookup (is_number k) (set_value (is_number k) es x) ≡ Some x) → (b : Bool) → is_number k e.0 ≡ b → lookup (is_number k) (cond b ((e.0, x) ∷ es) (e ∷ set_value (is_number k) es x)) ≡ Some x
    by rest true here = ap (λ c. cond c (Some x) (lookup (is_number k) es)) here
    by rest false there =
        ap (λ c. cond c (Some e.1) (lookup (is_number k) (set_value (is_number k) es x))) there
        ∙ rest (sym (ap (λ c. cond c (Some e.1) (lookup (is_number k) es)) there) ∙ found)

pub found_inserted : {X : Type 0} (k : ℕ) (v : X) (es : List (ℕ × X)) → lookup (is_number k) (insert_entry nat_cmp es k v) ≡ Some v
found_inserted k v [] = ap (λ c. cond c (Some v) None) (self_is k)
found_inserted k v (e ∷ es) = by (found_inserted k v es) (nat_cmp k e.0) refl
  where
    by : lookup (is_number k) (insert_entry nat_cmp es k v) ≡ Some v → (o : Ordering) → nat_cmp k e.0 ≡ o → lookup (is_number k) (match_ordering o ((k, v) ∷ e ∷ es) ((e.0, v) ∷ es) (e ∷ insert_entry nat_cmp es k v)) ≡ Some v
    by rest Less is = ap (λ c. cond c (Some v) (lookup (is_number k) (e ∷ es))) (self_is k)
    by rest Equal is = ap (λ o. cond (is_eq o) (Some v) (lookup (is_number k) es)) is
    by rest Greater is = ap (λ o. cond (is_eq o) (Some e.1) (lookup (is_number k) (insert_entry nat_cmp es k v))) is ∙ rest

pub found_beside_inserted : {X : Type 0} (j k : ℕ) (v : X) (es : List (ℕ × X)) → j ≢ k → lookup (is_number j) (insert_entry nat_cmp es k v) ≡ lookup (is_number j) es
found_beside_inserted j k v [] other = ap (λ c. cond c (Some v) None) (other_number j k other)
found_beside_inserted j k v (e ∷ es) other = by (found_beside_inserted j k v es other) (nat_cmp k e.0) refl
  where
    no : is_number j k ≡ false
    no = other_number j k other

    by : lookup (is_number j) (insert_entry nat_cmp es k v) ≡ lookup (is_number j) es → (o : Ordering) → nat_cmp k e.0 ≡ o → lookup (is_number j) (match_ordering o ((k, v) ∷ e ∷ es) ((e.0, v) ∷ es) (e ∷ insert_entry nat_cmp es k v)) ≡ lookup (is_number j) (e ∷ es)
    by rest Less is = ap (λ c. cond c (Some v) (lookup (is_number j) (e ∷ es))) no
    by rest Equal is =
        let away = subst (λ n. is_number j n ≡ false) (exact_unsigned k e.0 is) no in
        ap (λ c. cond c (Some v) (lookup (is_number j) es)) away ∙ sym (ap (λ c. cond c (Some e.1) (lookup (is_number j) es)) away)
    by rest Greater is = ap (cond (is_number j e.0) (Some e.1)) rest
