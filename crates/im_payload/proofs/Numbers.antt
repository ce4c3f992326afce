-- A number as it is spelled, parsed and written.
use Rattle.std.proofs.Common.{◌≡◌, ◌≢◌, ℕ, ◌<◌, ◌≤◌, ◌^◌, true, List, length, get_or, Option, Some, None, Ok, Err, Result, refl, sym, ap, ◌∙◌, inl, inr, arith}
use Rattle.std.proofs.lemmas.Bool.{cases_Bool}
use Rattle.std.proofs.lemmas.Bool.Decides.{nat_tests}
use Rattle.std.proofs.lemmas.Fmt.{decimal_is_IsNumeral}
use Rattle.std.proofs.lemmas.Str.Parse.{IsNumeralModel, numerals_by_value, tells_all_ascii_digits, parse_plain}
use Rattle.std.specs.Fmt.{decimal}
use Rattle.std.specs.Option.{option_map}
use Rattle.std.specs.Str.{all_ascii_digits}
use Rattle.std.specs.Str.Parse.{ParsesUnsigned, digits_value}
use Rattle.im_payload.specs.Shapes.{is_number, number_below, optional_number, required_number}

own : IsNumeralModel (λ ds. all_ascii_digits ds ≡ true) (digits_value 10)
own = numerals_by_value _ tells_all_ascii_digits

abbrev IsNumber : ℕ → List ℕ → Type 0
IsNumber limit ds = (all_ascii_digits ds ≡ true) × (0 < length ds) × (digits_value 10 ds < limit)

number_is : (limit : ℕ) (ds : List ℕ) → IsNumber limit ds → is_number limit ds ≡ true
number_is limit ds h = let a = h.0 in let b = h.1 in let d = h.2 in grind (arith, nat_tests)

is_number_so : (limit : ℕ) (ds : List ℕ) → is_number limit ds ≡ true → IsNumber limit ds
is_number_so limit ds e = (grind (arith, nat_tests), grind (arith, nat_tests), grind (arith, nat_tests))

no_number : (limit : ℕ) (ds : List ℕ) → ¬ (IsNumber limit ds) → number_below limit ds ≡ None
no_number limit ds h =
    elim (cases_Bool (is_number limit ds)) [
      | inl e ↦ absurd (h (is_number_so limit ds e))
      | inr e ↦ rw e refl
    ]

number_some : (limit : ℕ) (ds : List ℕ) → IsNumber limit ds → number_below limit ds ≡ Some (digits_value 10 ds)
number_some limit ds h = let e = number_is limit ds h in rw e refl

-- what is parsed of a text without a sign is the number that it spells
pub parsed_ok : {E : Type 0} (k : ℕ) (bs : List ℕ) (r : Result ℕ E) (n : ℕ) → get_or bs 0 0 ≢ 43 → ParsesUnsigned k 10 bs r → r ≡ Ok n → Some n ≡ number_below (2 ^ k) bs
parsed_ok {E} k bs (Ok m) n plus h is = let both = parse_plain own {E = E} k bs (Ok m) h plus in let e = number_some (2 ^ k) bs both.0 in let v = both.1 in cc
parsed_ok {E} k bs (Err x) n plus h is = absurd cc

pub parsed_err : {E : Type 0} (k : ℕ) (bs : List ℕ) (r : Result ℕ E) (x : E) → get_or bs 0 0 ≢ 43 → ParsesUnsigned k 10 bs r → r ≡ Err x → None ≡ number_below (2 ^ k) bs
parsed_err {E} k bs (Ok m) x plus h is = absurd cc
parsed_err {E} k bs (Err y) x plus h is = sym (no_number (2 ^ k) bs (parse_plain own {E = E} k bs (Err y) h plus))

-- what is written of a number spells it
pub written_number : (limit n : ℕ) → limit ≤ 2 ^ 64 → n < limit → number_below limit (decimal n) ≡ Some n
written_number limit n most low =
    let numeral = decimal_is_IsNumeral n (omega arith) in
    let less : digits_value 10 (decimal n) < limit = omega (arith, numeral.1) in
    number_some limit (decimal n) (own.from (decimal n) numeral.0.1, numeral.0.0, less) ∙ ap Some numeral.1

-- and what is spelled is below the limit
pub spelled_fits : (limit : ℕ) (ds : List ℕ) (n : ℕ) → number_below limit ds ≡ Some n → n < limit
spelled_fits limit ds n is =
    elim (cases_Bool (is_number limit ds)) [
      | inl e ↦ let number = is_number_so limit ds e in let some = number_some limit ds number in let same : n ≡ digits_value 10 ds = cc in omega (arith, number.2, same)
      | inr e ↦ let none : number_below limit ds ≡ None = rw e refl in absurd cc
    ]

pub required_fits : (limit : ℕ) (given : Option (List ℕ)) (n : ℕ) → required_number limit given ≡ Some n → n < limit
required_fits limit None n is = absurd cc
required_fits limit (Some ds) n is = spelled_fits limit ds n is

pub optional_fits : (limit : ℕ) (given : Option (List ℕ)) (n : ℕ) → optional_number limit given ≡ Some (Some n) → n < limit
optional_fits limit None n is = absurd cc
optional_fits limit (Some ds) n is = spelled_fits limit ds n (some_some (number_below limit ds) n is)
  where
    some_some : (o : Option ℕ) (n : ℕ) → option_map Some o ≡ Some (Some n) → o ≡ Some n
    some_some None n is = absurd cc
    some_some (Some m) n is = cc
