-- Connections of which no number stands twice.
use Rattle.std.proofs.Common.{◌≡◌, ◌≢◌, ◌≤◌, ◌+◌, ℕ, Bool, true, false, cond, List, [], ◌∷◌, Some, None, refl, sym, ap, subst, ◌∙◌, arith}
use Rattle.std.specs.BTreeMap.{insert_entry}
use Rattle.std.specs.List.{AllByRecursion, filter, find}
use Rattle.std.specs.Map.{lookup, remove_entry, set_value}
use Rattle.std.specs.Ordering.{match_ordering, nat_cmp}
use Rattle.std.specs.declared.cmp.Ordering.{Ordering}
use Rattle.std.specs.declared.cmp.Ordering.TheVariants.{Equal, Greater, Less}
use Rattle.srv_state.specs.State.{is_number}
use Rattle.srv_state.specs.declared.connection.Connection.{Connection}
use Rattle.sim_3_images.proofs.Lookups.{found_after_other_value, found_after_removal, found_beside_inserted, number_is, other_number, self_is}
use Rattle.sim_3_images.specs.Stands.{Conns, Differ}
use Rattle.base_lemmas.proofs.Options.{some-none as none_is_not}

pub not_itself : (k m : ℕ) → is_number k m ≡ false → m ≢ k
not_itself k m e same = true_is_not (sym (self_is k) ∙ ap (is_number k) (sym same) ∙ e)
  where
    true_is_not : true ≡ false → ⊥
    true_is_not x = cc

pub removed_none : (k : ℕ) (es : Conns) → Differ es → lookup (is_number k) (remove_entry (is_number k) es) ≡ None
removed_none k [] d = refl
removed_none k (e ∷ es) d = by (removed_none k es d.1) (is_number k e.0) refl
  where
    by : lookup (is_number k) (remove_entry (is_number k) es) ≡ None → (b : Bool) → is_number k e.0 ≡ b → lookup (is_number k) (cond b es (e ∷ remove_entry (is_number k) es)) ≡ None
    by rest true here = ap (λ m. lookup (is_number m) es) (number_is k e.0 here) ∙ d.0
    by rest false there = ap (λ c. cond c (Some e.1) (lookup (is_number k) (remove_entry (is_number k) es))) there ∙ rest

pub differ_removed : (k : ℕ) (es : Conns) → Differ es → Differ (remove_entry (is_number k) es)
differ_removed k [] d = tt
differ_removed k (e ∷ es) d = by (differ_removed k es d.1) (is_number k e.0) refl
  where
    by : Differ (remove_entry (is_number k) es) → (b : Bool) → is_number k e.0 ≡ b → Differ (cond b es (e ∷ remove_entry (is_number k) es))
    by rest true here = d.1
    by rest false there = (found_after_removal e.0 k es (not_itself k e.0 there) ∙ d.0, rest)

pub differ_set : (k : ℕ) (c : Connection) (es : Conns) → Differ es → Differ (set_value (is_number k) es c)
differ_set k c [] d = tt
differ_set k c (e ∷ es) d = by (differ_set k c es d.1) (is_number k e.0) refl
  where
    by : Differ (set_value (is_number k) es c) → (b : Bool) → is_number k e.0 ≡ b → Differ (cond b ((e.0, c) ∷ es) (e ∷ set_value (is_number k) es c))
    by rest true here = d
    by rest false there = (found_after_other_value e.0 k es c (not_itself k e.0 there) ∙ d.0, rest)

abbrev pub AtMost : ℕ → Conns → Type 0
AtMost n es = AllByRecursion (λ (e : ℕ × Connection). e.0 ≤ n) es

pub few_removed : (n k : ℕ) (es : Conns) → AtMost n es → AtMost n (remove_entry (is_number k) es)
few_removed n k [] all = tt
few_removed n k (e ∷ es) all = by (few_removed n k es all.1) (is_number k e.0)
  where
    by : AtMost n (remove_entry (is_number k) es) → (b : Bool) → AtMost n (cond b es (e ∷ remove_entry (is_number k) es))
    by rest true = all.1
    by rest false = (all.0, rest)

pub few_set : (n k : ℕ) (c : Connection) (es : Conns) → AtMost n es → AtMost n (set_value (is_number k) es c)
few_set n k c [] all = tt
few_set n k c (e ∷ es) all = by (few_set n k c es all.1) (is_number k e.0)
  where
    by : AtMost n (set_value (is_number k) es c) → (b : Bool) → AtMost n (cond b ((e.0, c) ∷ es) (e ∷ set_value (is_number k) es c))
    by rest true = all
    by rest false = (all.0, rest)

-- ---- one that is new

pub absent : (n : ℕ) (es : Conns) → AtMost n es → lookup (is_number (n + 1)) es ≡ None
absent n [] all = refl
absent n (e ∷ es) all =
    let below = all.0 in
    let other : n + 1 ≢ e.0 = λ same. too_great n e.0 below same in
    ap (λ c. cond c (Some e.1) (lookup (is_number (n + 1)) es)) (other_number (n + 1) e.0 other) ∙ absent n es all.1
  where
    too_great : (n m : ℕ) → m ≤ n → n + 1 ≡ m → ⊥
    too_great n m below same = omega (arith, below, same)

pub differ_inserted : (k : ℕ) (c : Connection) (es : Conns) → lookup (is_number k) es ≡ None → Differ es → Differ (insert_entry nat_cmp es k c)
differ_inserted k c [] none d = (refl, tt)
differ_inserted k c (e ∷ es) none d = by (λ n. differ_inserted k c es n d.1) (nat_cmp k e.0) (is_number k e.0) refl
  where
    by : (lookup (is_number k) es ≡ None → Differ (insert_entry nat_cmp es k c)) → (o : Ordering) (b : Bool) → is_number k e.0 ≡ b → Differ (match_ordering o ((k, c) ∷ e ∷ es) ((e.0, c) ∷ es) (e ∷ insert_entry nat_cmp es k c))
    by rest o true here = absurd (none_is_not e.1 (sym (ap (λ x. cond x (Some e.1) (lookup (is_number k) es)) here) ∙ none))
    by rest Less false there = (none, d)
    by rest Equal false there = d
    by rest Greater false there = (found_beside_inserted e.0 k c es (not_itself k e.0 there) ∙ d.0, rest (sym (ap (λ x. cond x (Some e.1) (lookup (is_number k) es)) there) ∙ none))

pub few_inserted : (n k : ℕ) (c : Connection) (es : Conns) → k ≤ n → AtMost n es → AtMost n (insert_entry nat_cmp es k c)
few_inserted n k c [] below all = (below, tt)
few_inserted n k c (e ∷ es) below all = by (few_inserted n k c es below all.1) (nat_cmp k e.0)
  where
    by : AtMost n (insert_entry nat_cmp es k c) → (o : Ordering) → AtMost n (match_ordering o ((k, c) ∷ e ∷ es) ((e.0, c) ∷ es) (e ∷ insert_entry nat_cmp es k c))
    by rest Less = (below, all)
    by rest Equal = all
    by rest Greater = (all.0, rest)

-- ---- lists

pub all_filtered : {T : Type 0} (P Q : T → Type 0) (q : T → Bool) (l : List T) → ((x : T) → P x → q x ≡ true → Q x) → AllByRecursion P l → AllByRecursion Q (filter q l)
all_filtered P Q q [] f all = tt
all_filtered P Q q (x ∷ l) f all = by (all_filtered P Q q l f all.1) (q x) refl
  where
    by : AllByRecursion Q (filter q l) → (b : Bool) → q x ≡ b → AllByRecursion Q (cond b (x ∷ filter q l) (filter q l))
    by rest true e = (f x all.0 e, rest)
    by rest false e = rest

pub all_found : {T : Type 0} (P : T → Type 0) (q : T → Bool) (l : List T) (x : T) → AllByRecursion P l → find q l ≡ Some x → P x
all_found P q [] x all found = absurd (none_is_some x found)
  where
    none_is_some : {T : Type 0} (x : T) → None ≡ Some x → ⊥
    none_is_some x e = cc
all_found P q (y ∷ l) x all found = by (all_found P q l x all.1) (q y) found
  where
    some_is : {T : Type 0} (x y : T) → Some x ≡ Some y → x ≡ y
    some_is x y e = cc

    by : (find q l ≡ Some x → P x) → (b : Bool) → cond b (Some y) (find q l) ≡ Some x → P x
    by rest true e = subst P (some_is y x e) all.0
    by rest false e = rest e
