-- A priority as it is spelled and as it is parsed.
use Rattle.std.proofs.Common.{◌≡◌, ◌≢◌, ℕ, ◌<◌, ◌≤◌, true, false, cond, List, [], ◌∷◌, length, drop, suc, get_or, eqb-true, eq-eqb, ℤ, pos, negsuc, neg_ℤ, Ok, Err, Result, refl, ap, inl, inr, arith, w8, FitsSigned}
use Rattle.std.specs.Fmt.{decimal, signed_decimal}
use Rattle.std.proofs.lemmas.Fmt.{decimal_is_IsNumeral, decimal_nonempty}
use Rattle.std.proofs.lemmas.Int.{ints}
use Rattle.std.specs.Result.{OkIff, result_unwrap_or}
use Rattle.std.proofs.lemmas.Result.{OkIff-at_ok}
use Rattle.std.specs.Str.{all_ascii_digits}
use Rattle.std.specs.Str.Parse.{ParsesSigned, digits_value, starts_with_minus}
use Rattle.std.proofs.lemmas.Bool.{cases_Bool, both_ways}
use Rattle.std.proofs.lemmas.Bool.Decides.{nat_tests}
use Rattle.std.proofs.lemmas.Str.Parse.{IsNumeralModel, numerals_by_value, tells_all_ascii_digits, parse_signed_minus, parse_signed_plain, not_in_digits}
use Rattle.im_stanza.specs.Priority.{is_number_to, priority_of}

own : IsNumeralModel (λ ds. all_ascii_digits ds ≡ true) (digits_value 10)
own = numerals_by_value _ tells_all_ascii_digits

abbrev IsNumberTo : ℕ → List ℕ → Type 0
IsNumberTo most ds = (all_ascii_digits ds ≡ true) × (0 < length ds) × (digits_value 10 ds ≤ most)

is_number : (most : ℕ) (ds : List ℕ) → IsNumberTo most ds → is_number_to most ds ≡ true
is_number most ds h = let a = h.0 in let b = h.1 in let d = h.2 in grind (arith, nat_tests)

is_no_number : (most : ℕ) (ds : List ℕ) → ¬ (IsNumberTo most ds) → is_number_to most ds ≡ false
is_no_number most ds h =
    elim (cases_Bool (is_number_to most ds)) [
      | inl e ↦ absurd (h (grind (arith, nat_tests), grind (arith, nat_tests), grind (arith, nat_tests)))
      | inr e ↦ e
    ]

not_minus : (bs : List ℕ) → get_or bs 0 0 ≢ 45 → starts_with_minus bs ≡ false
not_minus bs other = elim (cases_Bool (starts_with_minus bs)) [ inl e ↦ absurd (other (eqb-true (get_or bs 0 0) 45 e)) | inr e ↦ e ]

-- a number where the digits are one that is not too large, and else 0
chosen : {E : Type 0} (most : ℕ) (ds : List ℕ) (v : ℤ) (r : Result ℤ E) → OkIff r (IsNumberTo most ds) v → result_unwrap_or r (pos 0) ≡ cond (is_number_to most ds) v (pos 0)
chosen most ds v (Ok x) h = let e = is_number most ds h.0 in rw e h.1
chosen most ds v (Err e) h = let e = is_no_number most ds h in rw e refl

less : {E : Type 0} (ds : List ℕ) (v : ℤ) (r : Result ℤ E) → OkIff r ((all_ascii_digits ds ≡ true) × (0 < length ds) × (digits_value 10 ds < 128)) v → OkIff r (IsNumberTo 127 ds) v
less ds v (Ok x) h = ((h.0.0, h.0.1, omega (arith, h.0.2)), h.1)
less ds v (Err e) h = λ n. h (n.0, n.1, omega (arith, n.2))

pub parsed : {E : Type 0} (bs : List ℕ) (r : Result ℤ E) → get_or bs 0 0 ≢ 43 → ParsesSigned w8 10 bs r → result_unwrap_or r (pos 0) ≡ priority_of bs
parsed bs r plus h =
    elim (cases_Bool (starts_with_minus bs)) [
      | inl e ↦ rw e (chosen 128 (drop 1 bs) _ r (parse_signed_minus own w8 bs r h (eqb-true (get_or bs 0 0) 45 e)))
      | inr e ↦ rw e (chosen 127 bs _ r (less bs _ r (parse_signed_plain own w8 bs r h plus (λ m. both_ways (starts_with_minus bs) e (eq-eqb (get_or bs 0 0) 45 m)))))
    ]

pub parsed_fits : {E : Type 0} (bs : List ℕ) (r : Result ℤ E) (n : ℤ) → r ≡ Ok n → ParsesSigned w8 10 bs r → FitsSigned w8 n
parsed_fits bs r n is h = let both = OkIff-at_ok r _ _ n h is in let e = both.1 in rw e both.0.1

-- what is printed of a number is read again
printed_plain : (n : ℕ) → n ≤ 127 → priority_of (decimal n) ≡ pos n
printed_plain n low =
    let numeral = decimal_is_IsNumeral n (omega arith) in
    let digits = own.from (decimal n) numeral.0.1 in
    let most : digits_value 10 (decimal n) ≤ 127 = omega (arith, numeral.1) in
    let plain : starts_with_minus (decimal n) ≡ false = not_minus (decimal n) (not_in_digits own (decimal n) 45 digits (λ r. omega (arith, r)) 0 numeral.0.0) in
    let is = is_number 127 (decimal n) (digits, numeral.0.0, most) in
    rw (plain, is) (ap pos numeral.1)

printed_minus : (n : ℕ) → suc n ≤ 128 → priority_of (45 ∷ decimal (suc n)) ≡ negsuc n
printed_minus n low =
    let numeral = decimal_is_IsNumeral (suc n) (omega arith) in
    let digits = own.from (decimal (suc n)) numeral.0.1 in
    let most : digits_value 10 (decimal (suc n)) ≤ 128 = omega (arith, numeral.1) in
    let is = is_number 128 (decimal (suc n)) (digits, numeral.0.0, most) in
    rw is (ap (λ v. neg_ℤ (pos v)) numeral.1)

pub printed : (z : ℤ) → FitsSigned w8 z → priority_of (signed_decimal z) ≡ z
printed (pos n) fits = printed_plain n (omega (arith, ints))
printed (negsuc n) fits = printed_minus n (omega (arith, ints))

-- and is not empty
pub printed_some : (z : ℤ) → FitsSigned w8 z → signed_decimal z ≢ []
printed_some (pos n) fits = λ p. absurd (omega (arith, ints, decimal_nonempty n (omega (arith, ints)), ap length p))
printed_some (negsuc n) fits = λ p. cc
