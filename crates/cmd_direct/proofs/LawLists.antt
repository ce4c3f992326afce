-- What is true of each pair of a list, and of what is found in it.
use Rattle.std.proofs.Common.{◌≡◌, ◌≤◌, ℕ, zero, suc, Bool, true, ◌||◌, List, [], ◌∷◌, ◌++◌, map, refl, sym, ap, subst, arith, Some, inl, inr}
use Rattle.std.proofs.lemmas.Bool.{and_from, and_parts, cases_Bool, cond_both, false≢true, or_left}
use Rattle.std.proofs.lemmas.List.Elements.{All-from_recursion}
use Rattle.std.proofs.lemmas.Slice.Eq.{bytes_eq-Decides}
use Rattle.std.specs.List.{AllByRecursion, filter, list_all}
use Rattle.std.specs.List.Sorted.{IsNonDecreasing}
use Rattle.std.specs.Str.{bytes_eq}
use Rattle.base_io.specs.Names.{is_among}
use Rattle.cmd_report.specs.Lawful.{EachPair, account_named, device_named}
use Rattle.cmd_schedule.proofs.Lists.{all_filter}
use Rattle.cmd_schedule.specs.Grammar.{is_digit, is_lower, is_name}
use Rattle.cmd_schedule.specs.declared.schedule.Step.{Step}
use Rattle.cmd_direct.specs.Direct.{account_line, device_line}

-- numbers of which none is above a later one don't fall
pub pairs_not_falling : (xs : List ℕ) → EachPair (λ x y. x ≤ y) xs → IsNonDecreasing xs
pairs_not_falling [] pairs i j d low high = omega arith
pairs_not_falling (x ∷ xs) pairs zero zero d low high = omega arith
pairs_not_falling (x ∷ xs) pairs zero (suc j) d low high = All-from_recursion (λ y. x ≤ y) xs pairs.0 j d (omega arith)
pairs_not_falling (x ∷ xs) pairs (suc i) zero d low high = omega arith
pairs_not_falling (x ∷ xs) pairs (suc i) (suc j) d low high = pairs_not_falling xs pairs.1 i j d (omega arith) (omega arith)

pub pairs_filter : {A : Type 0} (R : A → A → Type 0) (test : A → Bool) (xs : List A) → EachPair R xs → EachPair R (filter test xs)
pairs_filter R test [] pairs = tt
pairs_filter R test (x ∷ xs) pairs =
    cond_both (test x) (x ∷ filter test xs) (filter test xs) (λ ys. EachPair R ys)
    (λ e. (all_filter (R x) test xs pairs.0, pairs_filter R test xs pairs.1)) (λ e. pairs_filter R test xs pairs.1)

-- what is true of each name is true of one among them
pub all_among : (P : List ℕ → Type 0) (name : List ℕ) (names : List (List ℕ)) → AllByRecursion P names → is_among name names ≡ true → P name
all_among P name [] each known = absurd (false≢true known)
all_among P name (other ∷ names) each known =
    elim (cases_Bool (bytes_eq name other)) [
      | inl same ↦ subst P (sym ((bytes_eq-Decides name other).0 same)) each.0
      | inr differs ↦ all_among P name names each.1 (rw differs at known)
    ]

-- a declared device has its line in the report, and a declared account
pub device_found : (keep : ℕ) (all : List Step) (name : List ℕ) (names : List (List ℕ)) → is_among name names ≡ true →
    device_named name (map (device_line keep all) names) ≡ Some (device_line keep all name)
device_found keep all name [] known = absurd (false≢true known)
device_found keep all name (other ∷ names) known =
    elim (cases_Bool (bytes_eq name other)) [
      | inl same ↦ rw same (ap (λ n. Some (device_line keep all n)) (sym ((bytes_eq-Decides name other).0 same)))
      | inr differs ↦ rw differs (device_found keep all name names (rw differs at known))
    ]

pub account_found : (keep : ℕ) (all : List Step) (name : List ℕ) (names : List (List ℕ)) → is_among name names ≡ true →
    account_named name (map (account_line keep all) names) ≡ Some (account_line keep all name)
account_found keep all name [] known = absurd (false≢true known)
account_found keep all name (other ∷ names) known =
    elim (cases_Bool (bytes_eq name other)) [
      | inl same ↦ rw same (ap (λ n. Some (account_line keep all n)) (sym ((bytes_eq-Decides name other).0 same)))
      | inr differs ↦ rw differs (account_found keep all name names (rw differs at known))
    ]

-- a letter or digit of a name
abbrev pub is_name_byte : ℕ → Bool
is_name_byte b = is_lower b || is_digit b

pub name_bytes : (name : List ℕ) → is_name name ≡ true → list_all is_name_byte name ≡ true
name_bytes [] known = absurd (false≢true known)
name_bytes (c ∷ cs) known =
    let outer = and_parts _ _ known in
    let inner = and_parts _ _ outer.0 in
    let lower : is_lower c ≡ true = inner.0 in
    let rest : list_all is_name_byte cs ≡ true = outer.1 in
    and_from _ _ (or_left (is_lower c) (is_digit c) lower) rest

-- what stands before the first full stop
pub record SameFronts (xs ys more others : List ℕ) : Type 0 where
  pub front : xs ≡ ys
  pub rest : more ≡ others

pub fronts_same : (xs ys more others : List ℕ) → list_all is_name_byte xs ≡ true → list_all is_name_byte ys ≡ true →
    xs ++ 46 ∷ more ≡ ys ++ 46 ∷ others → SameFronts xs ys more others
fronts_same [] [] more others plain also same = record { front = refl; rest = cc same }
fronts_same [] (y ∷ ys) more others plain also same =
    let dot : 46 ≡ y = cc same in
    absurd (false≢true (rw (sym dot) at also))
fronts_same (x ∷ xs) [] more others plain also same =
    let dot : x ≡ 46 = cc same in
    absurd (false≢true (rw dot at plain))
fronts_same (x ∷ xs) (y ∷ ys) more others plain also same =
    let first : x ≡ y = cc same in
    let rest : xs ++ 46 ∷ more ≡ ys ++ 46 ∷ others = cc same in
    let plain_rest : list_all is_name_byte xs ≡ true = (and_parts (is_name_byte x) (list_all is_name_byte xs) plain).1 in
    let also_rest : list_all is_name_byte ys ≡ true = (and_parts (is_name_byte y) (list_all is_name_byte ys) also).1 in
    let later = fronts_same xs ys more others plain_rest also_rest rest in
    let front : xs ≡ ys = later.front in
    record { front = cc (first, front); rest = later.rest }
