-- What ids and addresses tell is what they were made of.
use Rattle.std.proofs.Common.{◌≡◌, ℕ, ◌+◌, ◌<◌, Bool, true, false, ◌||◌, List, [], ◌∷◌, ◌++◌, length, take, drop, decimal, refl, sym, subst, ap, append_assoc, ◌∙◌, arith, unwrap_or}
use Rattle.std.proofs.Math.Seq.{drop-append-add, take-append_seam}
use Rattle.std.proofs.lemmas.Bool.{and_parts}
use Rattle.std.proofs.lemmas.Bool.Decides.{nat_tests}
use Rattle.std.proofs.lemmas.Fmt.{decimal_is_IsNumeral}
use Rattle.std.specs.Char.{digit_value}
use Rattle.std.specs.List.{AllByRecursion, after_first, before_first, list_all, position_or_len}
use Rattle.std.specs.Prelude.{nat_le}
use Rattle.std.specs.Str.Parse.{AllDigits}
use Rattle.mam_archive.proofs.IdDigits.{number_found}
use Rattle.mam_archive.specs.Ids.{id_of}
use Rattle.sim_3_items.specs.Meant.{Fits, IsEntryNumber, IsOrigin}
use Rattle.sim_3_items.specs.Told.{entry_of_id, epoch_of_id, is_at, is_dot, local_part_of, number_of_digits, number_of_id, query_of_id}
use Rattle.sm_outbox.specs.Submissions.{origin_of}
use Rattle.im_requests.specs.Messages.{queryid_text}
use Rattle.cmd_schedule.specs.Grammar.{is_digit, is_lower, is_name}

-- ---- a text is cut at the first of its kind

abbrev pub NonePasses : (ℕ → Bool) → List ℕ → Type 0
NonePasses p xs = AllByRecursion (λ x. p x ≡ false) xs

module _ (p : ℕ → Bool) where
  pub position : (xs : List ℕ) (c : ℕ) (ys : List ℕ) → NonePasses p xs → p c ≡ true → position_or_len p (xs ++ c ∷ ys) ≡ length xs
  position [] c ys none is = rw is refl
  position (x ∷ xs) c ys none is = let rest = position xs c ys none.1 is in rw none.0 (omega (arith, rest))

  pub before_it : (xs : List ℕ) (c : ℕ) (ys : List ℕ) → NonePasses p xs → p c ≡ true → before_first p (xs ++ c ∷ ys) ≡ xs
  before_it xs c ys none is = ap (λ n. take n (xs ++ c ∷ ys)) (position xs c ys none is) ∙ take-append_seam xs (c ∷ ys)

  pub after_it : (xs : List ℕ) (c : ℕ) (ys : List ℕ) → NonePasses p xs → p c ≡ true → after_first p (xs ++ c ∷ ys) ≡ ys
  after_it xs c ys none is = ap (λ n. drop (n + 1) (xs ++ c ∷ ys)) (position xs c ys none is) ∙ drop-append-add xs (c ∷ ys) 1

-- ---- names and digits have neither a dot nor an at sign

first_undotted : (c : ℕ) → is_lower c ≡ true → is_dot c ≡ false
first_undotted c lower = grind (arith, nat_tests)

char_undotted : (c : ℕ) → (is_lower c || is_digit c) ≡ true → is_dot c ≡ false
char_undotted c either = grind (arith, nat_tests)

first_no_at : (c : ℕ) → is_lower c ≡ true → is_at c ≡ false
first_no_at c lower = grind (arith, nat_tests)

char_no_at : (c : ℕ) → (is_lower c || is_digit c) ≡ true → is_at c ≡ false
char_no_at c either = grind (arith, nat_tests)

module _ (p : ℕ → Bool) (first : (c : ℕ) → is_lower c ≡ true → p c ≡ false) (other : (c : ℕ) → (is_lower c || is_digit c) ≡ true → p c ≡ false) where
  others : (cs : List ℕ) → list_all (λ d. is_lower d || is_digit d) cs ≡ true → NonePasses p cs
  others [] all = tt
  others (c ∷ cs) all =
      let both = and_parts (is_lower c || is_digit c) (list_all (λ d. is_lower d || is_digit d) cs) all in
      (other c both.0, others cs both.1)

  in_name : (name : List ℕ) → is_name name ≡ true → NonePasses p name
  in_name [] is = tt
  in_name (c ∷ cs) is =
      let both = and_parts (is_lower c) (nat_le (length cs) 31) (and_parts _ (list_all (λ d. is_lower d || is_digit d) cs) is).0 in
      (first c both.0, others cs (and_parts _ (list_all (λ d. is_lower d || is_digit d) cs) is).1)

digits_undotted : (ds : List ℕ) → AllDigits 10 ds → NonePasses is_dot ds
digits_undotted [] all = tt
digits_undotted (d ∷ ds) all = (undotted d all.0, digits_undotted ds all.1)
  where
    undotted : (d : ℕ) → digit_value d < 10 → is_dot d ≡ false
    undotted d low =
        let other : d ≡ 46 → ⊥ = λ dot. (let bad : digit_value 46 < 10 = subst (λ x. digit_value x < 10) dot low in absurd (omega arith)) in
        grind (arith, nat_tests)

-- ---- numbers

pub number_again : (n : ℕ) → Fits n → number_of_digits (decimal n) ≡ n
number_again n fits = (decimal_is_IsNumeral n fits).1

pub query_again : (q : ℕ) → Fits q → query_of_id (queryid_text q) ≡ q
query_again q fits = number_again q fits

pub entry_again : (n : ℕ) → IsEntryNumber n → entry_of_id (id_of n) ≡ n
entry_again n is = ap (λ o. unwrap_or o 0) (sym (number_found (id_of n) n is.some is.fits refl))

-- ---- names

pub no_at : (name : List ℕ) → is_name name ≡ true → NonePasses is_at name
no_at name is = in_name is_at first_no_at char_no_at name is

pub name_again : (name domain : List ℕ) → is_name name ≡ true → local_part_of (name ++ 64 ∷ domain) ≡ name
name_again name domain is = before_it is_at name 64 domain (no_at name is) refl

-- ---- origin ids

module _ (resource : List ℕ) (epoch n : ℕ) (is : IsOrigin resource epoch n) where
  cut : origin_of resource epoch n ≡ resource ++ (46 ∷ (decimal epoch ++ 46 ∷ decimal n))
  cut = append_assoc resource (46 ∷ decimal epoch) (46 ∷ decimal n)

  numbers_again : after_first is_dot (origin_of resource epoch n) ≡ decimal epoch ++ 46 ∷ decimal n
  numbers_again =
      ap (after_first is_dot) cut ∙ after_it is_dot resource 46 (decimal epoch ++ 46 ∷ decimal n) (in_name is_dot first_undotted char_undotted resource is.device) refl

  undotted : NonePasses is_dot (decimal epoch)
  undotted = digits_undotted (decimal epoch) (decimal_is_IsNumeral epoch is.epoch_fits).0.1

  pub epoch_again : epoch_of_id (origin_of resource epoch n) ≡ epoch
  epoch_again =
      ap (λ t. number_of_digits (before_first is_dot t)) numbers_again ∙ ap number_of_digits (before_it is_dot (decimal epoch) 46 (decimal n) undotted refl) ∙ number_again epoch is.epoch_fits

  pub n_again : number_of_id (origin_of resource epoch n) ≡ n
  n_again =
      ap (λ t. number_of_digits (after_first is_dot t)) numbers_again ∙ ap number_of_digits (after_it is_dot (decimal epoch) 46 (decimal n) undotted refl) ∙ number_again n is.n_fits
