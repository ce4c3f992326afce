-- What is wrong with a list of accounts, and where one is found.
use Rattle.std.proofs.Common.{◌≡◌, ℕ, zero, suc, ◌+◌, ◌^◌, ◌<◌, ◌≤◌, ◌==◌, Bool, true, false, cond, not, List, [], ◌∷◌, ◌++◌, length, get_or, Option, Some, None, refl, sym, ap, ◌∙◌, append_assoc, append-nil, arith, length-append}
use Rattle.std.proofs.lemmas.List.{map-append}
use Rattle.std.proofs.lemmas.Option.{slice_get-get_or}
use Rattle.std.specs.List.{slice_get}
use Rattle.std.specs.Option.{option_map, option_or}
use Rattle.std.specs.Str.{bytes_eq}
use Rattle.base_io.specs.Names.{is_among, position_of}
use Rattle.srv_login.specs.Accounts.{FoundView, IsIndexed, account_from, account_named, accounts_fault, fault_of, first_fault, is_normal_local, names_of}
use Rattle.srv_login.specs.declared.account.Account.{Account}
use Rattle.srv_login.specs.declared.accounts_fault.AccountsFault.{AccountsFault}

-- ---- parts of a list

or_assoc : {A : Type 0} (f g h : Option A) → option_or f (option_or g h) ≡ option_or (option_or f g) h
or_assoc None g h = refl
or_assoc (Some x) g h = refl

pub or_none : {A : Type 0} (f g : Option A) → option_or f g ≡ None → (f ≡ None) × (g ≡ None)
or_none None g e = (refl, e)
or_none (Some x) g e = absurd (cc e)

-- what is wrong in two parts is what is wrong in the first, and else in the second
first_fault-append : (before xs ys : List Account) → first_fault before (xs ++ ys) ≡ option_or (first_fault before xs) (first_fault (before ++ xs) ys)
first_fault-append before [] ys = rw append-nil refl
first_fault-append before (a ∷ xs) ys =
    ap (option_or (fault_of before a)) (first_fault-append (before ++ a ∷ []) xs ys)
    ∙ or_assoc (fault_of before a) (first_fault (before ++ a ∷ []) xs) (first_fault ((before ++ a ∷ []) ++ xs) ys)
    ∙ ap (λ (b : List Account). option_or (first_fault before (a ∷ xs)) (first_fault b ys)) (append_assoc before (a ∷ []) xs)

-- behind accounts with nothing wrong, what is wrong with the next is what is wrong with all
pub fault_after : (xs : List Account) (a : Account) (more : List Account) → accounts_fault xs ≡ None
    → accounts_fault (xs ++ a ∷ more) ≡ option_or (fault_of xs a) (first_fault (xs ++ a ∷ []) more)
fault_after xs a more right = first_fault-append [] xs (a ∷ more) ∙ ap (λ (f : Option AccountsFault). option_or f (first_fault xs (a ∷ more))) right

pub right_push : (xs : List Account) (a : Account) → accounts_fault xs ≡ None → fault_of xs a ≡ None → accounts_fault (xs ++ a ∷ []) ≡ None
right_push xs a right fits = fault_after xs a [] right ∙ ap (λ (f : Option AccountsFault). option_or f None) fits

pub wrong_after : (xs : List Account) (a : Account) (more : List Account) (fault : AccountsFault) → accounts_fault xs ≡ None → fault_of xs a ≡ Some fault
    → accounts_fault (xs ++ a ∷ more) ≡ Some fault
wrong_after xs a more fault right wrong = fault_after xs a more right ∙ ap (λ (f : Option AccountsFault). option_or f (first_fault (xs ++ a ∷ []) more)) wrong

-- ---- one account

none_wrong : {F : Type 0} (normal among : Bool) (n : ℕ) (x y z : F) → cond (not normal) (Some x) (cond among (Some y) (cond (n == 0) (Some z) None)) ≡ None
    → (normal ≡ true) × (among ≡ false) × (1 ≤ n)
none_wrong false among n x y z e = absurd (cc e)
none_wrong true true n x y z e = absurd (cc e)
none_wrong true false zero x y z e = absurd (cc e)
none_wrong true false (suc n) x y z e = (refl, refl, omega arith)

abbrev pub Fits : List Account → Account → Type 0
Fits before a = (is_normal_local a.name ≡ true) × (is_among a.name (names_of before) ≡ false) × (1 ≤ a.credentials.iterations)

pub fits : (before : List Account) (a : Account) → fault_of before a ≡ None → Fits before a
fits before a e = none_wrong (is_normal_local a.name) (is_among a.name (names_of before)) a.credentials.iterations _ _ _ e

-- each account counts an iteration
pub counted_at : (before xs : List Account) (i : ℕ) (a : Account) → first_fault before xs ≡ None → slice_get xs i ≡ Some a → 1 ≤ a.credentials.iterations
counted_at before [] i a right at = absurd (cc at)
counted_at before (x ∷ xs) zero a right at =
    let same : x ≡ a = cc at in
    let parts = or_none (fault_of before x) (first_fault (before ++ x ∷ []) xs) right in
    rw (← same) (fits before x parts.0).2
counted_at before (x ∷ xs) (suc i) a right at =
    counted_at (before ++ x ∷ []) xs i a (or_none (fault_of before x) (first_fault (before ++ x ∷ []) xs) right).1 at

-- ---- an account by its name

abbrev found_at : ℕ → Account → FoundView
found_at position a = record { position = position; credentials = a.credentials }

none_step : {A : Type 0} (hit : Bool) (p : Option ℕ) (x : A) (rest : Option A) → cond hit (Some 0) (option_map (λ i. suc i) p) ≡ None → (p ≡ None → rest ≡ None)
    → cond hit (Some x) rest ≡ None
none_step true p x rest e step = absurd (cc e)
none_step false None x rest e step = step refl
none_step false (Some i) x rest e step = absurd (cc e)

none_from : (start : ℕ) (name : List ℕ) (xs : List Account) → position_of name (names_of xs) ≡ None → account_from start name xs ≡ None
none_from start name [] e = refl
none_from start name (a ∷ more) e =
    none_step (bytes_eq name a.name) (position_of name (names_of more)) (found_at start a) (account_from (start + 1) name more) e (none_from (start + 1) name more)

some_step : (start : ℕ) (a : Account) (more : List Account) (position : ℕ) (hit : Bool) (p : Option ℕ) (rest : Option FoundView) (x : Account)
    → cond hit (Some 0) (option_map (λ i. suc i) p) ≡ Some position → slice_get (a ∷ more) position ≡ Some x
    → ((i : ℕ) → p ≡ Some i → slice_get more i ≡ Some x → rest ≡ Some (found_at (start + 1 + i) x))
    → cond hit (Some (found_at start a)) rest ≡ Some (found_at (start + position) x)
some_step start a more zero true p rest x e at step =
    let same : a ≡ x = cc at in
    let sum : start + 0 ≡ start = omega arith in
    rw (sum, same) refl
some_step start a more (suc position) true p rest x e at step = absurd (cc e)
some_step start a more position false None rest x e at step = absurd (cc e)
some_step start a more zero false (Some i) rest x e at step = absurd (cc e)
some_step start a more (suc position) false (Some i) rest x e at step =
    let same : i ≡ position = cc e in
    let sum : start + 1 + position ≡ start + suc position = omega arith in
    step position (ap Some same) at ∙ ap (λ (n : ℕ). Some (found_at n x)) sum

some_from : (start : ℕ) (name : List ℕ) (xs : List Account) (position : ℕ) (x : Account) → position_of name (names_of xs) ≡ Some position → slice_get xs position ≡ Some x
    → account_from start name xs ≡ Some (found_at (start + position) x)
some_from start name [] position x e at = absurd (cc e)
some_from start name (a ∷ more) position x e at =
    some_step start a more position (bytes_eq name a.name) (position_of name (names_of more)) (account_from (start + 1) name more) x e at
    (λ i is there. some_from (start + 1) name more i x is there)

-- the account at an index
pub there_at : (xs ys : List Account) (i : ℕ) (x : Account) → ys ≡ xs → i < length xs → x ≡ get_or ys i x → slice_get xs i ≡ Some x
there_at xs ys i x same within is = slice_get-get_or xs i x within ∙ ap (λ (a : Account). Some a) (sym (is ∙ ap (λ (l : List Account). get_or l i x) same))

-- no account is found where the name has no place
pub named_nowhere : (name : List ℕ) (xs : List Account) → position_of name (names_of xs) ≡ None → account_named name xs ≡ None
named_nowhere name xs e = none_from 0 name xs e

-- the account at the place of a name is the one that is found
pub named_there : (name : List ℕ) (xs : List Account) (position : ℕ) (x : Account) → position_of name (names_of xs) ≡ Some position → slice_get xs position ≡ Some x
    → account_named name xs ≡ Some (record { position = position; credentials = x.credentials })
named_there name xs position x e at =
    let sum : 0 + position ≡ position = omega arith in
    some_from 0 name xs position x e at ∙ ap (λ (n : ℕ). Some (found_at n x)) sum

-- ---- how accounts are kept

pub indexed_none : (index : List (List ℕ)) (xs : List Account) → index ≡ [] → xs ≡ [] → IsIndexed index xs
indexed_none index xs no_names none = rw (no_names, none) (record { named = refl; right = refl; few = omega arith })

-- the name of an account that fits is not in the index
pub absent : (index : List (List ℕ)) (xs : List Account) (a : Account) → IsIndexed index xs → fault_of xs a ≡ None → is_among a.name index ≡ false
absent index xs a indexed fitting = rw indexed.named (fits xs a fitting).1

pub indexed_push : (index : List (List ℕ)) (xs : List Account) (a : Account) → IsIndexed index xs → fault_of xs a ≡ None → length xs + 1 < 2 ^ 32
    → IsIndexed (index ++ a.name ∷ []) (xs ++ a ∷ [])
indexed_push index xs a indexed fitting small = record {
  named = ap (λ (names : List (List ℕ)). names ++ a.name ∷ []) indexed.named ∙ sym (map-append (λ (x : Account). x.name) xs (a ∷ []));
  right = right_push xs a indexed.right fitting;
  few = omega (arith, length-append xs (a ∷ []));
}

-- ---- a walk over a list

pub went_on : (xs : List Account) (a : Account) (rest all : List Account) → xs ++ a ∷ rest ≡ all → (xs ++ a ∷ []) ++ rest ≡ all
went_on xs a rest all e = append_assoc xs (a ∷ []) rest ∙ e

-- what is wrong so far is what is wrong with the list
pub wrong_so : (xs : List Account) (a : Account) (rest all : List Account) (fault : AccountsFault) → accounts_fault xs ≡ None → fault_of xs a ≡ Some fault → xs ++ a ∷ rest ≡ all
    → accounts_fault all ≡ Some fault
wrong_so xs a rest all fault right wrong e = rw (← e) (wrong_after xs a rest fault right wrong)

pub room_left : (xs : List Account) (a : Account) (rest all : List Account) → xs ++ a ∷ rest ≡ all → length all < 2 ^ 32 → length xs + 1 < 2 ^ 32
room_left xs a rest all e small =
    let sizes : length xs + length (a ∷ rest) ≡ length all = sym (length-append xs (a ∷ rest)) ∙ ap length e in
    omega (arith, sizes)
