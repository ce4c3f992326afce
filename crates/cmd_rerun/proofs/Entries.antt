-- Entries under numbers: a number has none, or one alone.
use Rattle.std.proofs.Common.{◌≡◌, ◌==◌, ℕ, Bool, true, false, List, [], ◌∷◌, Some, None, Option, ap, cond, refl, subst, sym, ◌∙◌, inl, inr}
use Rattle.std.proofs.lemmas.Bool.{cases_Bool, eq-eqb, eqb-true, false≢true, ne_eqb}
use Rattle.std.specs.BTreeMap.{insert_entry, is_at}
use Rattle.std.specs.Cmp.{unsigned_ties}
use Rattle.std.specs.Map.{lookup, remove_entry, set_value}
use Rattle.std.specs.Ordering.{match_ordering, nat_cmp}
use Rattle.std.specs.declared.cmp.Ordering.{Ordering}
use Rattle.std.specs.declared.cmp.Ordering.TheVariants.{Equal, Greater, Less}

-- ---- numbers

-- as `is_number` of a server's connections
abbrev pub is_same : ℕ → ℕ → Bool
is_same k = is_at (nat_cmp k)

pub same_itself : (k : ℕ) → is_same k k ≡ true
same_itself k = sym (unsigned_ties k k) ∙ eq-eqb k k refl

pub same_is : (k j : ℕ) → is_same k j ≡ true → k ≡ j
same_is k j h = eqb-true k j (unsigned_ties k j ∙ h)

pub same_from : (k j : ℕ) → k ≡ j → is_same k j ≡ true
same_from k j h = subst (λ n. is_same k n ≡ true) h (same_itself k)

pub apart_back : (k j : ℕ) → is_same k j ≡ false → is_same j k ≡ false
apart_back k j h = elim (cases_Bool (is_same j k)) [ inl same ↦ absurd (false≢true (sym h ∙ same_from k j (sym (same_is j k same)))) | inr apart ↦ apart ]

pub apart_eqb : (k j : ℕ) → is_same k j ≡ false → (j == k) ≡ false
apart_eqb k j h = unsigned_ties j k ∙ apart_back k j h

pub eqb_apart : (k j : ℕ) → (j == k) ≡ false → is_same k j ≡ false
eqb_apart k j h = apart_back j k (sym (unsigned_ties j k) ∙ h)

pub apart_from : (m k : ℕ) → ¬ (k ≡ m) → is_same m k ≡ false
apart_from m k other = eqb_apart m k (ne_eqb k m other)

-- ---- no entry, one entry

module _ {X : Type 0} where
  abbrev pub Absent : ℕ → List (ℕ × X) → Type 0
  Absent k [] = Unit {0}
  Absent k (e ∷ es) = (is_same k e.0 ≡ false) × Absent k es

  -- at most one
  abbrev pub Sole : ℕ → List (ℕ × X) → Type 0
  Sole k [] = Unit {0}
  Sole k (e ∷ es) = (is_same k e.0 ≡ true → Absent k es) × Sole k es

  pub absent_found : (k : ℕ) (es : List (ℕ × X)) → Absent k es → lookup (is_same k) es ≡ None
  absent_found k [] absent = refl
  absent_found k (e ∷ es) absent = ap (λ b. cond b (Some e.1) (lookup (is_same k) es)) absent.0 ∙ absent_found k es absent.1

  pub found_absent : (k : ℕ) (es : List (ℕ × X)) → lookup (is_same k) es ≡ None → Absent k es
  found_absent k [] none = tt
  found_absent k (e ∷ es) none = elim (cases_Bool (is_same k e.0)) [
    | inl here ↦ absurd (some_none e.1 (sym (ap (λ b. cond b (Some e.1) (lookup (is_same k) es)) here) ∙ none))
    | inr other ↦ (other, found_absent k es (sym (ap (λ b. cond b (Some e.1) (lookup (is_same k) es)) other) ∙ none))
  ]
    where
      some_none : (x : X) → Some x ≡ None → ⊥
      some_none x same = false≢true (ap is_none same)
        where
          is_none : Option X → Bool
          is_none None = true
          is_none (Some y) = false

  -- ---- an entry is taken out

  absent_if : (k : ℕ) (b : Bool) (xs ys : List (ℕ × X)) → Absent k xs → Absent k ys → Absent k (cond b xs ys)
  absent_if k true xs ys p q = p
  absent_if k false xs ys p q = q

  pub absent_removed : (k : ℕ) (test : ℕ → Bool) (es : List (ℕ × X)) → Absent k es → Absent k (remove_entry test es)
  absent_removed k test [] absent = tt
  absent_removed k test (e ∷ es) absent = absent_if k (test e.0) es (e ∷ remove_entry test es) absent.1 (absent.0, absent_removed k test es absent.1)

  pub removed_absent : (k : ℕ) (es : List (ℕ × X)) → Sole k es → Absent k (remove_entry (is_same k) es)
  removed_absent k [] sole = tt
  removed_absent k (e ∷ es) sole = elim (cases_Bool (is_same k e.0)) [
    | inl here ↦ subst (λ b. Absent k (cond b es (e ∷ remove_entry (is_same k) es))) (sym here) (sole.0 here)
    | inr other ↦ subst (λ b. Absent k (cond b es (e ∷ remove_entry (is_same k) es))) (sym other) (other, removed_absent k es sole.1)
  ]

  -- another's was
  pub absent_before : (k j : ℕ) (es : List (ℕ × X)) → is_same k j ≡ false → Absent k (remove_entry (is_same j) es) → Absent k es
  absent_before k j [] apart absent = tt
  absent_before k j (e ∷ es) apart absent = elim (cases_Bool (is_same j e.0)) [
    | inl here ↦ (subst (λ n. is_same k n ≡ false) (same_is j e.0 here) apart, subst (λ b. Absent k (cond b es (e ∷ remove_entry (is_same j) es))) here absent)
    | inr other ↦ (let both = subst (λ b. Absent k (cond b es (e ∷ remove_entry (is_same j) es))) other absent in (both.0, absent_before k j es apart both.1))
  ]

  sole_if : (k : ℕ) (b : Bool) (xs ys : List (ℕ × X)) → Sole k xs → Sole k ys → Sole k (cond b xs ys)
  sole_if k true xs ys p q = p
  sole_if k false xs ys p q = q

  pub sole_removed : (k : ℕ) (test : ℕ → Bool) (es : List (ℕ × X)) → Sole k es → Sole k (remove_entry test es)
  sole_removed k test [] sole = tt
  sole_removed k test (e ∷ es) sole =
      sole_if k (test e.0) es (e ∷ remove_entry test es) sole.1 (λ here. absent_removed k test es (sole.0 here), sole_removed k test es sole.1)

  -- ---- an entry is changed

  pub absent_set : (k : ℕ) (test : ℕ → Bool) (es : List (ℕ × X)) (w : X) → Absent k es → Absent k (set_value test es w)
  absent_set k test [] w absent = tt
  absent_set k test (e ∷ es) w absent = absent_if k (test e.0) ((e.0, w) ∷ es) (e ∷ set_value test es w) absent (absent.0, absent_set k test es w absent.1)

  pub set_absent : (k : ℕ) (test : ℕ → Bool) (es : List (ℕ × X)) (w : X) → Absent k (set_value test es w) → Absent k es
  set_absent k test [] w absent = tt
  set_absent k test (e ∷ es) w absent = elim (cases_Bool (test e.0)) [
    | inl here ↦ subst (λ b. Absent k (cond b ((e.0, w) ∷ es) (e ∷ set_value test es w))) here absent
    | inr other ↦ (let both = subst (λ b. Absent k (cond b ((e.0, w) ∷ es) (e ∷ set_value test es w))) other absent in (both.0, set_absent k test es w both.1))
  ]

  pub sole_set : (k : ℕ) (test : ℕ → Bool) (es : List (ℕ × X)) (w : X) → Sole k es → Sole k (set_value test es w)
  sole_set k test [] w sole = tt
  sole_set k test (e ∷ es) w sole =
      sole_if k (test e.0) ((e.0, w) ∷ es) (e ∷ set_value test es w) sole (λ here. absent_set k test es w (sole.0 here), sole_set k test es w sole.1)

  -- ---- an entry comes

  absent_by : (k : ℕ) (r : Ordering) (xs ys zs : List (ℕ × X)) → Absent k xs → Absent k ys → Absent k zs → Absent k (match_ordering r xs ys zs)
  absent_by k Less xs ys zs p q r = p
  absent_by k Equal xs ys zs p q r = q
  absent_by k Greater xs ys zs p q r = r

  pub absent_inserted : (k j : ℕ) (v : X) (es : List (ℕ × X)) → is_same k j ≡ false → Absent k es → Absent k (insert_entry nat_cmp es j v)
  absent_inserted k j v [] apart absent = (apart, tt)
  absent_inserted k j v (e ∷ es) apart absent =
      absent_by k (nat_cmp j e.0) ((j, v) ∷ e ∷ es) ((e.0, v) ∷ es) (e ∷ insert_entry nat_cmp es j v)
      (apart, absent) absent (absent.0, absent_inserted k j v es apart absent.1)

  before_by : (k : ℕ) (r : Ordering) (xs ys zs : List (ℕ × X)) (P : Type 0) → (Absent k xs → P) → (Absent k ys → P) → (Absent k zs → P) → Absent k (match_ordering r xs ys zs) → P
  before_by k Less xs ys zs P p q r = p
  before_by k Equal xs ys zs P p q r = q
  before_by k Greater xs ys zs P p q r = r

  pub inserted_absent : (k j : ℕ) (v : X) (es : List (ℕ × X)) → Absent k (insert_entry nat_cmp es j v) → Absent k es
  inserted_absent k j v [] absent = tt
  inserted_absent k j v (e ∷ es) absent =
      before_by k (nat_cmp j e.0) ((j, v) ∷ e ∷ es) ((e.0, v) ∷ es) (e ∷ insert_entry nat_cmp es j v) (Absent k (e ∷ es))
      (λ a. a.1) (λ a. a) (λ a. (a.0, inserted_absent k j v es a.1)) absent

  sole_by : (k : ℕ) (r : Ordering) (xs ys zs : List (ℕ × X)) → Sole k xs → Sole k ys → Sole k zs → Sole k (match_ordering r xs ys zs)
  sole_by k Less xs ys zs p q r = p
  sole_by k Equal xs ys zs p q r = q
  sole_by k Greater xs ys zs p q r = r

  -- one that had none
  pub sole_inserted : (k j : ℕ) (v : X) (es : List (ℕ × X)) → (is_same k j ≡ true → Absent k es) → Sole k es → Sole k (insert_entry nat_cmp es j v)
  sole_inserted k j v [] none sole = (λ here. tt, tt)
  sole_inserted k j v (e ∷ es) none sole =
      sole_by k (nat_cmp j e.0) ((j, v) ∷ e ∷ es) ((e.0, v) ∷ es) (e ∷ insert_entry nat_cmp es j v)
      (none, sole) sole (λ here. absent_inserted k j v es (other here) (sole.0 here), sole_inserted k j v es (λ same. (none same).1) sole.1)
    where
      other : is_same k e.0 ≡ true → is_same k j ≡ false
      other here = elim (cases_Bool (is_same k j)) [ inl same ↦ absurd (false≢true (sym (none same).0 ∙ here)) | inr apart ↦ apart ]
