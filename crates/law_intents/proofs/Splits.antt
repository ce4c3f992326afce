-- Lists of takes, split at one of them.
use Rattle.std.proofs.Common.{◌≡◌, ℕ, zero, suc, ◌+◌, ◌<◌, ◌≤◌, ◌==◌, Bool, true, false, cond, List, [], ◌∷◌, ◌++◌, Some, length, refl, sym, ap, ◌∙◌, subst, arith, inl, inr, ◌⊎◌}
use Rattle.std.specs.List.{AllByRecursion, filter, list_any, slice_get}
use Rattle.std.specs.Prelude.{◌&&◌, ◌||◌, not}
use Rattle.std.proofs.lemmas.Bool.{cases_Bool, ne_eqb, or_right, or_parts}
use Rattle.std.proofs.lemmas.List.{length-append}
use Rattle.std.proofs.lemmas.List.Elements.{filter-append}
use Rattle.sim_1_applications.specs.Devices.{Take, concerns, last_of}
use Rattle.sim_1_applications.specs.Kept.{is_of}
use Rattle.sim_1_applications.proofs.Lists.{all_rest}
use Rattle.law_intents.specs.Intents.{Try, is_taken}

-- ---- truths

pub not_false : (b : Bool) → not b ≡ false → b ≡ true
not_false true e = refl
not_false false e = absurd (let bad : ⊥ = cc in bad)

-- ---- splits

pub two_splits : {A : Type 0} (ps qs : List A) (x : A) (xs ys : List A) → ps ++ x ∷ xs ≡ qs ++ ys → ((m : List A) × (ps ≡ qs ++ m)) ⊎ ((m : List A) × (qs ≡ ps ++ x ∷ m))
two_splits ps [] x xs ys same = inl (ps, refl)
two_splits [] (b ∷ qs) x xs ys same = inr (qs, (let head : x ≡ b = cc in ap (λ c. c ∷ qs) (sym head)))
two_splits (a ∷ ps) (b ∷ qs) x xs ys same =
    let head : a ≡ b = cc in
    elim (two_splits ps qs x xs ys (let rest : ps ++ x ∷ xs ≡ qs ++ ys = cc in rest)) [
      | inl more ↦ inl (more.0, ap (λ c. c ∷ ps) head ∙ ap (λ l. b ∷ l) more.1)
      | inr more ↦ inr (more.0, ap (λ l. b ∷ l) more.1 ∙ ap (λ c. c ∷ (ps ++ x ∷ more.0)) (sym head))
    ]

pub same_rest : {A : Type 0} (xs ys zs : List A) → xs ++ ys ≡ xs ++ zs → ys ≡ zs
same_rest [] ys zs same = same
same_rest (x ∷ xs) ys zs same = same_rest xs ys zs (let rest : xs ++ ys ≡ xs ++ zs = cc in rest)

-- one of a list for which something is true
pub record Found (A : Type 0) (p : A → Bool) (xs : List A) : Type 0 where
  pub before : List A
  pub one : A
  pub after : List A
  pub are : xs ≡ before ++ one ∷ after
  pub is : p one ≡ true

pub found : {A : Type 0} (p : A → Bool) (xs : List A) → list_any p xs ≡ true → Found A p xs
found p [] any = absurd (let bad : ⊥ = cc in bad)
found {A = A} p (x ∷ xs) any = elim (cases_Bool (p x)) [
  | inl is ↦ record { before = []; one = x; after = xs; are = refl; is = is }
  | inr is ↦
      let rest : Found A p xs = found p xs (sym (ap (λ b. b || list_any p xs) is) ∙ any) in
      record { before = x ∷ rest.before; one = rest.one; after = rest.after; are = ap (λ l. x ∷ l) rest.are; is = rest.is }
]

pub any_there : {A : Type 0} (p : A → Bool) (before : List A) (one : A) (after : List A) → p one ≡ true → list_any p (before ++ one ∷ after) ≡ true
any_there p [] one after is = ap (λ b. b || list_any p after) is
any_there p (x ∷ before) one after is = or_right (p x) (list_any p (before ++ one ∷ after)) (any_there p before one after is)

pub any_behind : {A : Type 0} (p : A → Bool) (xs ys : List A) → list_any p ys ≡ true → list_any p (xs ++ ys) ≡ true
any_behind p [] ys is = is
any_behind p (x ∷ xs) ys is = or_right (p x) (list_any p (xs ++ ys)) (any_behind p xs ys is)

pub none_both : {A : Type 0} (p : A → Bool) (xs ys : List A) → list_any p xs ≡ false → list_any p ys ≡ false → list_any p (xs ++ ys) ≡ false
none_both p [] ys first second = second
none_both p (x ∷ xs) ys first second = (let parts = or_parts (p x) (list_any p xs) first in ap (λ b. b || list_any p (xs ++ ys)) parts.0 ∙ none_both p xs ys parts.1 second)

pub any_get : {A : Type 0} (p : A → Bool) (xs : List A) (k : ℕ) (x : A) → slice_get xs k ≡ Some x → p x ≡ true → list_any p xs ≡ true
any_get p [] k x at is = absurd (let bad : ⊥ = cc in bad)
any_get p (y ∷ xs) zero x at is = (let same : y ≡ x = cc in ap (λ b. b || list_any p xs) (ap p same ∙ is))
any_get p (y ∷ xs) (suc k) x at is = or_right (p y) (list_any p xs) (any_get p xs k x at is)

pub any_filter : {A : Type 0} (p q : A → Bool) (xs : List A) → list_any p (filter q xs) ≡ true → list_any p xs ≡ true
any_filter p q [] is = is
any_filter p q (x ∷ xs) is = chosen (q x) (any_filter p q xs) is
  where
    chosen : (b : Bool) → (list_any p (filter q xs) ≡ true → list_any p xs ≡ true) → list_any p (cond b (x ∷ filter q xs) (filter q xs)) ≡ true → (p x || list_any p xs) ≡ true
    chosen false more known = or_right (p x) (list_any p xs) (more known)
    chosen true more known = either (p x) more known
      where
        either : (c : Bool) → (list_any p (filter q xs) ≡ true → list_any p xs ≡ true) → (c || list_any p (filter q xs)) ≡ true → (c || list_any p xs) ≡ true
        either true m k = refl
        either false m k = m k

-- ---- takes of a device

-- what holds of each take of a device, holds of one of them
pub each_of : (i : ℕ) (P : Take → Type 0) (before : List Take) (one : Take) (after : List Take) → (one.device == i) ≡ true → AllByRecursion P (filter (is_of i) (before ++ one ∷ after)) → P one
each_of i P before one after is all =
    let both = subst (AllByRecursion P) (filter-append (is_of i) before (one ∷ after)) all in
    let here = all_rest P (filter (is_of i) before) (filter (is_of i) (one ∷ after)) both in
    let mine = subst (AllByRecursion P) (ap (λ b. cond b (one ∷ filter (is_of i) after) (filter (is_of i) after)) is) here in
    mine.0

-- takes of later epochs are of no such submission
pub none_of_epoch : (i e : ℕ) (t : Try) (takes : List Take) → t.epoch < e → AllByRecursion (λ x. e ≤ x.said.epoch) (filter (is_of i) takes) → is_taken i t takes ≡ false
none_of_epoch i e t [] low all = refl
none_of_epoch i e t (x ∷ takes) low all = chosen (x.device == i) (none_of_epoch i e t takes low) all
  where
    chosen : (b : Bool) → (AllByRecursion (λ y. e ≤ y.said.epoch) (filter (is_of i) takes) → is_taken i t takes ≡ false)
        → AllByRecursion (λ y. e ≤ y.said.epoch) (cond b (x ∷ filter (is_of i) takes) (filter (is_of i) takes))
        → ((b && (x.said.epoch == t.epoch && x.said.n == t.n)) || is_taken i t takes) ≡ false
    chosen false others known = others known
    chosen true others known =
        let high = known.0 in
        let other : (x.said.epoch == t.epoch) ≡ false = ne_eqb x.said.epoch t.epoch (λ is. omega arith) in
        ap (λ c. (c && x.said.n == t.n) || is_taken i t takes) other ∙ others known.1

-- ---- the archive of an account

at_seam : {A : Type 0} (xs : List A) (x : A) (ys : List A) → slice_get (xs ++ x ∷ ys) (length xs) ≡ Some x
at_seam [] x ys = refl
at_seam (y ∷ xs) x ys = at_seam xs x ys

seam : (account : List ℕ) (before : List Take) (one : Take) (after : List Take) → concerns account one ≡ true →
    filter (concerns account) (before ++ one ∷ after) ≡ filter (concerns account) before ++ one ∷ filter (concerns account) after
seam account before one after is =
    filter-append (concerns account) before (one ∷ after)
    ∙ ap (λ l. filter (concerns account) before ++ l) (ap (λ b. cond b (one ∷ filter (concerns account) after) (filter (concerns account) after)) is)

-- the entry of a take, and its number
pub entry_there : (account : List ℕ) (before : List Take) (one : Take) (after : List Take) → concerns account one ≡ true →
    slice_get (filter (concerns account) (before ++ one ∷ after)) (last_of before account) ≡ Some one
unfolding last_of
entry_there account before one after is =
    ap (λ l. slice_get l (length (filter (concerns account) before))) (seam account before one after is)
    ∙ at_seam (filter (concerns account) before) one (filter (concerns account) after)

pub number_there : (account : List ℕ) (before : List Take) (one : Take) (after : List Take) → concerns account one ≡ true →
    last_of (before ++ one ∷ after) account ≡ last_of before account + 1 + last_of after account
unfolding last_of
number_there account before one after is =
    ap length (seam account before one after is) ∙ length-append (filter (concerns account) before) (one ∷ filter (concerns account) after)
    ∙ added (length (filter (concerns account) before)) (length (filter (concerns account) after))
  where
    added : (m n : ℕ) → m + suc n ≡ m + 1 + n
    added m n = omega arith
