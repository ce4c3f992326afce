-- Decimal numbers.
use Rattle.std.proofs.lemmas.List.{drop_all, drop_more}
use Rattle.std.proofs.Common.{Some, None, get_or, drop, ◌≡◌, ℕ, ◌+◌, ◌<◌, ◌≤◌, ◌^◌, Bool, true, false, cond, leb, eqb, List, [], ◌∷◌, length, Ok, Err, refl, sym, ap, ◌∙◌, arith, inl, inr}
use Rattle.std.specs.Prelude.{not, ◌&&◌, fold}
use Rattle.std.specs.Fmt.{decimal}
use Rattle.std.specs.Int.{IsInRange}
use Rattle.std.proofs.lemmas.Option.{none-some, same_Some}
use Rattle.std.proofs.lemmas.Fmt.{decimal_digit, decimal_nonempty, decimal-digits_value, digits_decimal, digits_value-decimal, first_decimal}
use Rattle.std.proofs.lemmas.Str.Parse.{FoldsDigits, IsDigitsTest, IsNumeralModel, numerals_by_fold}
use Rattle.std.proofs.lemmas.Bool.{cases_lt, cases_Bool, and_parts, and_from, false≢true, leb-true, le-leb}
use Rattle.std.specs.List.{list_all}
use Rattle.std.proofs.lemmas.Bool.Decides.{nat_tests}
use Rattle.cmd_schedule.specs.Grammar.{is_digit}
use Rattle.cmd_schedule.specs.Reading.{at_most, grown, value_of, not_empty, is_number, number_within}
use Rattle.cmd_schedule.specs.declared.fault.LineWhy.TheVariants as why

pub fold_grows : (n : ℕ) (ds : List ℕ) → n ≤ fold grown n ds
fold_grows n [] = omega arith
fold_grows n (d ∷ ds) =
    let more : n ≤ grown n d = omega arith in
    let rest = fold_grows (grown n d) ds in
    omega arith

pub number_digits : (bytes : List ℕ) → is_number bytes ≡ true → (not_empty bytes ≡ true) × (list_all is_digit bytes ≡ true)
number_digits [] h = absurd (false≢true h)
number_digits (d ∷ []) h = (refl, and_from (is_digit d) true h refl)
number_digits (d ∷ e ∷ ds) h =
    let outer = and_parts (is_digit d && not (eqb d 48)) (list_all is_digit (e ∷ ds)) h in
    let inner = and_parts (is_digit d) (not (eqb d 48)) outer.0 in
    (refl, and_from (is_digit d) (list_all is_digit (e ∷ ds)) inner.0 outer.1)

digit_range : (c : ℕ) → is_digit c ≡ true → IsInRange 48 57 c
digit_range c h = (grind (arith, nat_tests), grind (arith, nat_tests))

range_digit : (c : ℕ) → IsInRange 48 57 c → is_digit c ≡ true
range_digit c range = and_from (leb 48 c) (leb c 57) (le-leb 48 c range.0) (le-leb c 57 range.1)

abbrev AreDigits : List ℕ → Type 0
AreDigits ds = list_all is_digit ds ≡ true

tells : IsDigitsTest AreDigits
tells = record {
  empty = refl;
  parts = λ c cs h. let both = and_parts (is_digit c) (list_all is_digit cs) h in (digit_range c both.0, both.1);
  more = λ c cs range h. and_from (is_digit c) (list_all is_digit cs) (range_digit c range) h;
}

abbrev goes_on : ℕ → List ℕ → ℕ
goes_on n ds = fold grown n ds

folds : FoldsDigits goes_on
folds = record { empty = λ n. refl; more = λ n c cs range. refl }

own : IsNumeralModel AreDigits value_of
own = numerals_by_fold AreDigits tells goes_on folds

-- a number begins with no 0 unless that is all
lone_zero : (bytes : List ℕ) → is_number bytes ≡ true → get_or bytes 0 0 ≡ 48 → length bytes ≡ 1
lone_zero [] h zero = absurd (false≢true h)
lone_zero (d ∷ []) h zero = refl
lone_zero (d ∷ e ∷ ds) h zero =
    let outer = and_parts (is_digit d && not (eqb d 48)) (list_all is_digit (e ∷ ds)) h in
    let inner = and_parts (is_digit d) (not (eqb d 48)) outer.0 in
    absurd (false≢true (ap (λ x. not (eqb x 48)) (sym zero) ∙ inner.1))

long_number : (bytes : List ℕ) → AreDigits bytes → 0 < length bytes → 48 < get_or bytes 0 0 → is_number bytes ≡ true
long_number [] h some first = absurd (omega arith)
long_number (d ∷ []) h some first = (and_parts (is_digit d) true h).0
long_number (d ∷ e ∷ ds) h some first =
    let parts = and_parts (is_digit d) (list_all is_digit (e ∷ ds)) h in
    let other : not (eqb d 48) ≡ true = grind (arith, nat_tests) in
    and_from (is_digit d && not (eqb d 48)) (list_all is_digit (e ∷ ds)) (and_from (is_digit d) (not (eqb d 48)) parts.0 other) parts.1

-- a number is written in decimal digits, and they are one
pub decimal_number : (n : ℕ) → n < 2 ^ 64 → is_number (decimal n) ≡ true
decimal_number n low =
    elim (cases_lt 0 n) [
      | inl some ↦ long_number (decimal n) (digits_decimal own n low) (decimal_nonempty n low) (first_decimal n some low)
      | inr none ↦
          let zero : n ≡ 0 = omega arith in
          let written : decimal n ≡ 48 ∷ [] = ap (λ (m : ℕ). decimal m) zero ∙ decimal_digit 0 (omega arith) in
          rw written refl
    ]

taken : (least most : ℕ) (number : Bool) (value n : ℕ) → cond (number && leb least value && leb value most) (Ok value) (Err why.Number) ≡ Ok n →
    (number ≡ true) × (least ≤ value) × (value ≤ most) × (value ≡ n)
taken least most false value n e = absurd cc
taken least most true value n e =
    elim (cases_Bool (leb least value && leb value most)) [
      | inl both ↦
          let parts = and_parts (leb least value) (leb value most) both in
          let made : cond (leb least value && leb value most) (Ok value) (Err why.Number) ≡ Ok value = rw both refl in
          let same : Ok value ≡ Ok n = sym made ∙ e in
          (refl, leb-true least value parts.0, leb-true value most parts.1, cc)
      | inr neither ↦
          let made : cond (leb least value && leb value most) (Ok value) (Err why.Number) ≡ Err why.Number = rw neither refl in
          let same : Err why.Number ≡ Ok n = sym made ∙ e in
          absurd cc
    ]

-- what is taken is the decimal of its value
pub number_found : (least most : ℕ) (bytes : List ℕ) (n : ℕ) → most < 2 ^ 64 → number_within least most bytes ≡ Ok n →
    (least ≤ n) × (n ≤ most) × (bytes ≡ decimal n)
number_found least most bytes n bound e =
    let t = taken least most (is_number bytes) (value_of bytes) n e in
    let digits = number_digits bytes t.0 in
    let written : decimal (value_of bytes) ≡ bytes = decimal-digits_value own bytes digits.1 (some_digits bytes digits.0) (lone_zero bytes t.0) (omega (arith, bound, t.2)) in
    (omega (arith, t.1, t.3), omega (arith, t.2, t.3), sym written ∙ ap (λ (m : ℕ). decimal m) t.3)
  where
    some_digits : (ds : List ℕ) → not_empty ds ≡ true → 0 < length ds
    some_digits [] h = absurd (false≢true h)
    some_digits (d ∷ ds) h = omega arith

-- the decimal of a number within the bounds is taken
pub number_again : (least most n : ℕ) → least ≤ n → n ≤ most → most < 2 ^ 64 → number_within least most (decimal n) ≡ Ok n
number_again least most n low high bound =
    let value : value_of (decimal n) ≡ n = digits_value-decimal own n (omega arith) in
    rw (decimal_number n (omega arith), value, le-leb least n low, le-leb n most high) refl

-- the digits from the one at i on, and those behind it
pub one_more : (value i whole : ℕ) (ds : List ℕ) → i < length ds → fold grown value (drop i ds) ≡ whole → fold grown (grown value (get_or ds i 0)) (drop (i + 1) ds) ≡ whole
one_more value i whole ds h e = sym (ap (λ xs. fold grown value xs) (drop_more ds i 0 h)) ∙ e

within_bound : (most n : ℕ) → n ≤ most → Some n ≡ at_most most n
within_bound most n low = rw (le-leb n most low) refl

above_bound : (most n : ℕ) → most < n → None ≡ at_most most n
above_bound most n high = grind (arith, nat_tests)

at_most_none : (most n : ℕ) → None ≡ at_most most n → most < n
at_most_none most n e =
    elim (cases_lt most n) [
      | inl high ↦ high
      | inr low ↦ absurd (none-some n (e ∙ sym (within_bound most n (omega arith))))
    ]

pub at_most_some : (most n m : ℕ) → Some m ≡ at_most most n → (m ≡ n) × (n ≤ most)
at_most_some most n m e =
    elim (cases_lt most n) [
      | inl high ↦ absurd (none-some m (above_bound most n high ∙ sym e))
      | inr low ↦ (same_Some m n (e ∙ sym (within_bound most n (omega arith))), omega arith)
    ]

pub whole_value : (most value i : ℕ) (ds : List ℕ) → length ds ≤ i → value ≤ most → fold grown value (drop i ds) ≡ value_of ds → Some value ≡ at_most most (value_of ds)
whole_value most value i ds past low e =
    let none : drop i ds ≡ [] = drop_all i ds past in
    let same : value ≡ value_of ds = sym (ap (λ xs. fold grown value xs) none) ∙ e in
    within_bound most value low ∙ ap (at_most most) same

-- a value that is too great already stays so
pub too_great : (most value i : ℕ) (ds : List ℕ) → i < length ds → fold grown value (drop i ds) ≡ value_of ds → None ≡ at_most most (grown value (get_or ds i 0)) →
    None ≡ at_most most (value_of ds)
too_great most value i ds h e high =
    let more = one_more value i (value_of ds) ds h e in
    let grows = fold_grows (grown value (get_or ds i 0)) (drop (i + 1) ds) in
    let great = at_most_none most (grown value (get_or ds i 0)) high in
    above_bound most (value_of ds) (omega arith)

judged : (number low high : Bool) (value : ℕ) → number ≡ true → low ≡ true → high ≡ true → cond (number && low && high) (Ok value) (Err why.Number) ≡ Ok value
judged number low high value a b c = rw (a, b, c) refl

pub judged_ok : (least most : ℕ) (bytes : List ℕ) (v : ℕ) → is_number bytes ≡ true → Some v ≡ at_most most (value_of bytes) → leb least v ≡ true → number_within least most bytes ≡ Ok v
judged_ok least most bytes v number is low =
    let parts = at_most_some most (value_of bytes) v is in
    judged (is_number bytes) (leb least (value_of bytes)) (leb (value_of bytes) most) (value_of bytes) number (ap (leb least) (sym parts.0) ∙ low) (le-leb (value_of bytes) most parts.1)
    ∙ ap Ok (sym parts.0)

and_false : (b : Bool) → (b && false) ≡ false
and_false true = refl
and_false false = refl

not_judged : (number low high : Bool) (value : ℕ) → low && high ≡ false → cond (number && low && high) (Ok value) (Err why.Number) ≡ Err why.Number
not_judged true true high value e = rw e refl
not_judged true false high value e = refl
not_judged false low high value e = refl

pub judged_low : (least most : ℕ) (bytes : List ℕ) (v : ℕ) → Some v ≡ at_most most (value_of bytes) → leb least v ≡ false → number_within least most bytes ≡ Err why.Number
judged_low least most bytes v is low =
    let parts = at_most_some most (value_of bytes) v is in
    let small : leb least (value_of bytes) ≡ false = ap (leb least) (sym parts.0) ∙ low in
    not_judged (is_number bytes) (leb least (value_of bytes)) (leb (value_of bytes) most) (value_of bytes) (rw small refl)

pub judged_high : (least most : ℕ) (bytes : List ℕ) → None ≡ at_most most (value_of bytes) → number_within least most bytes ≡ Err why.Number
judged_high least most bytes is =
    let great = at_most_none most (value_of bytes) is in
    let high : leb (value_of bytes) most ≡ false = grind (arith, nat_tests) in
    not_judged (is_number bytes) (leb least (value_of bytes)) (leb (value_of bytes) most) (value_of bytes) (rw high (and_false (leb least (value_of bytes))))
