-- What is true of a number's hexadecimal digits.
use Rattle.std.proofs.Common.{◌≡◌, ℕ, add-one, zero, suc, ◌+◌, ◌*◌, ◌/◌, ◌%◌, ◌^◌, ◌<◌, ◌≤◌, ◌≢◌, List, [], ◌∷◌, ◌++◌, length, take, get_or, refl, sym, ap, ◌∙◌, arith, inl, inr}
use Rattle.std.proofs.lemmas.Bool.{cases_lt}
use Rattle.std.proofs.lemmas.Bool.Decides.{nat_tests}
use Rattle.std.proofs.lemmas.List.{get_or_append_left, get_or_at, length-append, same_from_push, take_all, take_more}
use Rattle.std.proofs.lemmas.Str.{IsAscii-append, IsUtf8-from_ascii}
use Rattle.std.specs.Str.{IsAscii, IsUtf8}
use Rattle.std.proofs.Math.Nat.{pow-le-pow_right, pow-suc}
use Rattle.base_lemmas.specs.Hexadecimal.{hex_digit, hex_digits, hex16_of}

pub hex_digit-lt : (d : ℕ) → d < 16 → hex_digit d < 128
hex_digit-lt d low = grind (arith, nat_tests)

pub hex_digit_same : (d e : ℕ) → d < 16 → e < 16 → hex_digit d ≡ hex_digit e → d ≡ e
hex_digit_same d e low below same = grind (arith, nat_tests)

pub length-hex_digits : (k n : ℕ) → length (hex_digits k n) ≡ k
length-hex_digits zero n = refl
length-hex_digits (suc k) n =
    let front : length (hex_digits k (n / 16)) ≡ k = length-hex_digits k (n / 16) in
    let whole : length (hex_digits k (n / 16) ++ hex_digit (n % 16) ∷ []) ≡ length (hex_digits k (n / 16)) + 1 =
    length-append (hex_digits k (n / 16)) (hex_digit (n % 16) ∷ []) in
    omega arith

-- the digits of a number and one digit more
pub hex_digits_push : (k n d : ℕ) → d < 16 → hex_digits (suc k) (n * 16 + d) ≡ hex_digits k n ++ hex_digit d ∷ []
hex_digits_push k n d low =
    let quotient : (n * 16 + d) / 16 ≡ n = omega arith in
    let remainder : (n * 16 + d) % 16 ≡ d = omega arith in
    rw (quotient, remainder)

-- numbers of so many digits differ in one of them
pub hex_digits_same : (k m n : ℕ) → m < 16 ^ k → n < 16 ^ k → hex_digits k m ≡ hex_digits k n → m ≡ n
hex_digits_same zero m n low below same = omega arith
hex_digits_same (suc k) m n low below same =
    let parts = same_from_push (hex_digits k (m / 16)) (hex_digits k (n / 16)) (hex_digit (m % 16)) (hex_digit (n % 16)) same in
    let power : 16 ^ suc k ≡ 16 ^ k * 16 = pow-suc 16 k in
    let front : m / 16 ≡ n / 16 = hex_digits_same k (m / 16) (n / 16) (omega arith) (omega arith) parts.0 in
    let last : m % 16 ≡ n % 16 = hex_digit_same (m % 16) (n % 16) (omega arith) (omega arith) parts.1 in
    omega arith

pub hex_digits-IsAscii : (k n : ℕ) → IsAscii (hex_digits k n)
hex_digits-IsAscii zero n = λ i. omega arith
hex_digits-IsAscii (suc k) n =
    IsAscii-append (hex_digits k (n / 16)) (hex_digit (n % 16) ∷ []) (hex_digits-IsAscii k (n / 16)) (one_ascii (hex_digit (n % 16)) (hex_digit-lt (n % 16) (omega arith)))
  where
    one_ascii : (c : ℕ) → c < 128 → IsAscii (c ∷ [])
    one_ascii c low zero = low
    one_ascii c low (suc i) = omega arith

-- each byte is a digit
pub digit_at : (k i n : ℕ) → i < k → (d : ℕ) × (d < 16) × (get_or (hex_digits k n) i 0 ≡ hex_digit d)
digit_at zero i n within = absurd (omega arith)
digit_at (suc k) i n within =
    let size : length (hex_digits k (n / 16)) ≡ k = length-hex_digits k (n / 16) in
    elim (cases_lt i k) [
      | inl front ↦
          let rest = digit_at k i (n / 16) front in
          let same : get_or (hex_digits (suc k) n) i 0 ≡ get_or (hex_digits k (n / 16)) i 0 =
          get_or_append_left (hex_digits k (n / 16)) (hex_digit (n % 16) ∷ []) 0 i (omega arith) in
          (rest.0, rest.1, same ∙ rest.2)
      | inr last ↦
          (n % 16, omega arith, get_or_at (hex_digits k (n / 16)) (hex_digit (n % 16)) [] 0 i (omega arith))
    ]

-- one digit more, read
pub digit_read : (k n d : ℕ) (text : List ℕ) → k < length text → d < 16 → get_or text k 0 ≡ hex_digit d → take k text ≡ hex_digits k n →
    take (k + 1) text ≡ hex_digits (k + 1) (n * 16 + d)
digit_read k n d text within low is front =
    let push : hex_digits (k + 1) (n * 16 + d) ≡ hex_digits k n ++ hex_digit d ∷ [] =
    ap (λ m. hex_digits m (n * 16 + d)) (add-one k) ∙ hex_digits_push k n d low in
    take_more text k 0 within ∙ rw (front, is) (sym push)

-- numbers that are written alike are the same
pub hex16_of_same : (m n : ℕ) → m < 2 ^ 64 → n < 2 ^ 64 → hex16_of m ≡ hex16_of n → m ≡ n
unfolding hex16_of
hex16_of_same m n low below same = hex_digits_same 16 m n low below same

pub length-hex16_of : (n : ℕ) → length (hex16_of n) ≡ 16
unfolding hex16_of
length-hex16_of n = length-hex_digits 16 n

pub hex16_of-IsAscii : (n : ℕ) → IsAscii (hex16_of n)
unfolding hex16_of
hex16_of-IsAscii n = hex_digits-IsAscii 16 n

pub hex16_of-IsUtf8 : (n : ℕ) → IsUtf8 (hex16_of n)
hex16_of-IsUtf8 n = IsUtf8-from_ascii (hex16_of n) (hex16_of-IsAscii n)

pub hex16_digit_at : (i n : ℕ) → i < 16 → (d : ℕ) × (d < 16) × (get_or (hex16_of n) i 0 ≡ hex_digit d)
unfolding hex16_of
hex16_digit_at i n within = digit_at 16 i n within

-- a text with a byte that is no digit is no number's
pub not_hex16_at : (i n : ℕ) (text : List ℕ) → i < 16 → ((d : ℕ) → d < 16 → get_or text i 0 ≢ hex_digit d) → text ≢ hex16_of n
not_hex16_at i n text within none same =
    let digit = hex16_digit_at i n within in
    none digit.0 digit.1 (ap (λ t. get_or t i 0) same ∙ digit.2)

-- the number that 16 digits spell
pub hex16_from_digits : (k n : ℕ) (text : List ℕ) → k ≡ 16 → length text ≡ 16 → take k text ≡ hex_digits k n → text ≡ hex16_of n
unfolding hex16_of
hex16_from_digits k n text all size read =
    sym (take_all k text (omega arith)) ∙ read ∙ ap (λ m. hex_digits m n) all

-- so few digits fit in 60 bits
pub digits_fit : (k : ℕ) → k < 16 → 16 ^ k ≤ 2 ^ 60
digits_fit k few =
    let below : k ≤ 15 = omega arith in
    let most : 16 ^ k ≤ 16 ^ 15 = pow-le-pow_right (omega arith) below in
    omega arith
