-- Numbers as texts.
use Rattle.std.proofs.Common.{◌≡◌, ℕ, zero, suc, ◌+◌, ◌/◌, ◌%◌, ◌^◌, ◌<◌, true, [], ◌∷◌, length, refl, arith, length-append}
use Rattle.std.proofs.lemmas.Bool.{and_from}
use Rattle.std.proofs.lemmas.Bool.Decides.{nat_tests}
use Rattle.std.proofs.lemmas.Fmt.{decimal_by_steps, length-decimal-le}
use Rattle.std.specs.Fmt.{decimal}
use Rattle.std.specs.List.{list_all}
use Rattle.base_lemmas.specs.Hexadecimal.{hex16_of, hex_digit, hex_digits}
use Rattle.law_limits.proofs.Characters.{printable_append, said_printable}
use Rattle.law_limits.specs.Texts.{Said, is_printable}
pub use Rattle.base_lemmas.proofs.HexDigits.{length-hex_digits as hex_length}

-- ---- hexadecimal

digit_printable : (n : ℕ) → n < 16 → is_printable (hex_digit n) ≡ true
digit_printable n small = grind (arith, nat_tests)

pub hex_printable : (k n : ℕ) → list_all is_printable (hex_digits k n) ≡ true
hex_printable zero n = refl
hex_printable (suc k) n = printable_append (hex_digits k (n / 16)) (hex_digit (n % 16) ∷ []) (hex_printable k (n / 16)) (and_from _ _ (digit_printable (n % 16) (omega arith)) refl)

pub said_hex : (n : ℕ) → Said 96 (hex16_of n)
unfolding hex16_of
said_hex n = said_printable 96 (hex_digits 16 n) (hex_printable 16 n) (let long = hex_length 16 n in omega (arith, long))

-- ---- decimal

glyph_printable : (n : ℕ) → n < 10 → is_printable (48 + n) ≡ true
glyph_printable n small = grind (arith, nat_tests)

pub decimal_printable : (n : ℕ) → n < 2 ^ 64 → list_all is_printable (decimal n) ≡ true
decimal_printable =
    decimal_by_steps (λ m ds. list_all is_printable ds ≡ true) (λ m small. and_from _ _ (glyph_printable m small) refl)
    (λ m ds l h. printable_append ds ((48 + m % 10) ∷ []) h (and_from _ _ (glyph_printable (m % 10) (omega arith)) refl))

pub said_decimal : (n : ℕ) → n < 2 ^ 64 → Said 120 (decimal n)
said_decimal n small = said_printable 120 (decimal n) (decimal_printable n small) (let long = length-decimal-le 20 n (omega arith) (omega (arith, small)) small in omega (arith, long))
