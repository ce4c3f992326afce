-- Nothing is wrong with a list of accounts exactly where its names are in normal form and differ, and each counts an iteration.
use Rattle.std.proofs.Common.{◌≡◌, ◌≢◌, ℕ, zero, suc, ◌≤◌, ◌==◌, Bool, true, false, cond, not, ◌||◌, List, [], ◌∷◌, ◌++◌, Option, Some, None, Result, Ok, Err, refl, sym, ap, ◌∙◌, arith}
use Rattle.std.specs.Prelude.{◌↔◌}
use Rattle.std.proofs.lemmas.Bool.{false≢true}
use Rattle.std.proofs.lemmas.Bool.Decides.{nat_tests}
use Rattle.std.proofs.lemmas.List.Folds.{list_any-append}
use Rattle.std.proofs.lemmas.List.{map-append}
use Rattle.std.proofs.lemmas.Slice.Eq.{bytes_eq-Decides}
use Rattle.std.specs.List.{slice_get}
use Rattle.std.specs.Option.{option_or}
use Rattle.std.specs.Str.{bytes_eq}
use Rattle.base_io.specs.Names.{is_among}
use Rattle.im_jid.specs.Forms.{local_form}
use Rattle.im_jid.specs.declared.fault.JidFault.{JidFault}
use Rattle.srv_login.proofs.AccountFaults.{fits, or_none}
use Rattle.srv_login.specs.Accounts.{AreAccounts, accounts_fault, fault_of, first_fault, is_form, is_normal_local, names_of}
use Rattle.srv_login.specs.declared.account.Account.{Account}

-- ---- tests

form_is : (r : Result (List ℕ) JidFault) (text : List ℕ) → is_form r text ≡ true → r ≡ Ok text
form_is (Ok form) text e = ap (λ (t : List ℕ). Ok t) ((bytes_eq-Decides form text).0 e)
form_is (Err fault) text e = absurd (cc e)

is_of_form : (r : Result (List ℕ) JidFault) (text : List ℕ) → r ≡ Ok text → is_form r text ≡ true
is_of_form r text e = rw e ((bytes_eq-Decides text text).1 refl)

unlike : (a b : List ℕ) (same : Bool) → bytes_eq a b ≡ same → a ≢ b → same ≡ false
unlike a b true e other = absurd (other ((bytes_eq-Decides a b).0 e))
unlike a b false e other = refl

either_false : (a b : Bool) → (a || (b || false)) ≡ false → (a ≡ false) × (b ≡ false)
either_false true b e = absurd (cc e)
either_false false true e = absurd (cc e)
either_false false false e = (refl, refl)

both_false : (a b : Bool) → a ≡ false → b ≡ false → (a || (b || false)) ≡ false
both_false a b p q = rw (p, q) refl

nothing_wrong : {F : Type 0} (normal among none : Bool) (x y z : F) → normal ≡ true → among ≡ false → none ≡ false
    → cond (not normal) (Some x) (cond among (Some y) (cond none (Some z) None)) ≡ None
nothing_wrong normal among none x y z p q r = rw (p, q, r) refl

some_count : (n : ℕ) → 1 ≤ n → (n == 0) ≡ false
some_count n some = grind (arith, nat_tests)

among_push : (name : List ℕ) (before : List Account) (x : Account) → is_among name (names_of (before ++ x ∷ [])) ≡ (is_among name (names_of before) || (bytes_eq name x.name || false))
among_push name before x =
    ap (is_among name) (map-append (λ (a : Account). a.name) before (x ∷ []))
    ∙ list_any-append (λ other. bytes_eq name other) (names_of before) (x.name ∷ [])

-- ---- where nothing is wrong

parts_of : (before : List Account) (x : Account) (xs : List Account) → first_fault before (x ∷ xs) ≡ None → (fault_of before x ≡ None) × (first_fault (before ++ x ∷ []) xs ≡ None)
parts_of before x xs right = or_none (fault_of before x) (first_fault (before ++ x ∷ []) xs) right

fits_at : (before xs : List Account) (i : ℕ) (a : Account) → first_fault before xs ≡ None → slice_get xs i ≡ Some a → (is_normal_local a.name ≡ true) × (1 ≤ a.credentials.iterations)
fits_at before [] i a right at = absurd (cc at)
fits_at before (x ∷ xs) zero a right at =
    let same : x ≡ a = cc at in
    let fit = fits before x (parts_of before x xs right).0 in
    rw (← same) (fit.0, fit.2)
fits_at before (x ∷ xs) (suc i) a right at = fits_at (before ++ x ∷ []) xs i a (parts_of before x xs right).1 at

apart : (before xs : List Account) (i : ℕ) (a : Account) → first_fault before xs ≡ None → slice_get xs i ≡ Some a → is_among a.name (names_of before) ≡ false
apart before [] i a right at = absurd (cc at)
apart before (x ∷ xs) zero a right at =
    let same : x ≡ a = cc at in
    rw (← same) (fits before x (parts_of before x xs right).0).1
apart before (x ∷ xs) (suc i) a right at =
    (either_false (is_among a.name (names_of before)) (bytes_eq a.name x.name)
    (sym (among_push a.name before x) ∙ apart (before ++ x ∷ []) xs i a (parts_of before x xs right).1 at)).0

other_name : (before : List Account) (x : Account) (xs : List Account) (i : ℕ) (a : Account) → first_fault before (x ∷ xs) ≡ None → slice_get xs i ≡ Some a → a.name ≢ x.name
other_name before x xs i a right at same =
    let differs = (either_false (is_among a.name (names_of before)) (bytes_eq a.name x.name)
    (sym (among_push a.name before x) ∙ apart (before ++ x ∷ []) xs i a (parts_of before x xs right).1 at)).1 in
    false≢true (sym differs ∙ (bytes_eq-Decides a.name x.name).1 same)

differ_at : (before xs : List Account) → first_fault before xs ≡ None → (i j : ℕ) (a b : Account) → slice_get xs i ≡ Some a → slice_get xs j ≡ Some b → a.name ≡ b.name → i ≡ j
differ_at before [] right i j a b at at' same = absurd (cc at)
differ_at before (x ∷ xs) right zero zero a b at at' same = refl
differ_at before (x ∷ xs) right zero (suc j) a b at at' same =
    let first : x ≡ a = cc at in
    let named : b.name ≡ x.name = sym same ∙ ap (λ (y : Account). y.name) (sym first) in
    absurd (other_name before x xs j b right at' named)
differ_at before (x ∷ xs) right (suc i) zero a b at at' same =
    let first : x ≡ b = cc at' in
    let named : a.name ≡ x.name = same ∙ ap (λ (y : Account). y.name) (sym first) in
    absurd (other_name before x xs i a right at named)
differ_at before (x ∷ xs) right (suc i) (suc j) a b at at' same =
    ap (λ (n : ℕ). suc n) (differ_at (before ++ x ∷ []) xs (parts_of before x xs right).1 i j a b at at' same)

right_so : (xs : List Account) → accounts_fault xs ≡ None → AreAccounts xs
right_so xs right = record {
  names = λ i a at. form_is (local_form a.name) a.name (fits_at [] xs i a right at).0;
  differ = differ_at [] xs right;
  counted = λ i a at. (fits_at [] xs i a right at).1;
}

-- ---- and back

below : (x : Account) (xs : List Account) → AreAccounts (x ∷ xs) → AreAccounts xs
below x xs are = record {
  names = λ i a at. are.names (suc i) a at;
  differ = λ i j a b at at' same. let e = are.differ (suc i) (suc j) a b at at' same in omega arith;
  counted = λ i a at. are.counted (suc i) a at;
}

so_right : (before xs : List Account) → AreAccounts xs → ((i : ℕ) (a : Account) → slice_get xs i ≡ Some a → is_among a.name (names_of before) ≡ false) → first_fault before xs ≡ None
so_right before [] are new = refl
so_right before (x ∷ xs) are new =
    let fitting : fault_of before x ≡ None = nothing_wrong (is_normal_local x.name) (is_among x.name (names_of before)) (x.credentials.iterations == 0) _ _ _
    (is_of_form (local_form x.name) x.name (are.names 0 x refl)) (new 0 x refl) (some_count x.credentials.iterations (are.counted 0 x refl)) in
    let more : (i : ℕ) (a : Account) → slice_get xs i ≡ Some a → is_among a.name (names_of (before ++ x ∷ [])) ≡ false = λ i a at.
    among_push a.name before x ∙ both_false (is_among a.name (names_of before)) (bytes_eq a.name x.name) (new (suc i) a at)
    (unlike a.name x.name (bytes_eq a.name x.name) refl (λ same. let e = are.differ (suc i) 0 a x at refl same in absurd (omega arith))) in
    ap (λ (f : Option _). option_or f (first_fault (before ++ x ∷ []) xs)) fitting
    ∙ so_right (before ++ x ∷ []) xs (below x xs are) more

pub accounts_right : (xs : List Account) → (accounts_fault xs ≡ None) ↔ AreAccounts xs
accounts_right xs = (right_so xs, λ are. so_right [] xs are (λ i a at. refl))
