-- Different numbers have different ids, and an id is read as its number.
use Rattle.std.proofs.Common.{◌≡◌, ◌≢◌, ℕ, zero, suc, ◌+◌, ◌*◌, ◌/◌, ◌%◌, ◌<◌, ◌≤◌, ◌^◌, ◌==◌, true, nat_lt, List, [], ◌∷◌, ◌++◌, length, Option, Some, None, refl, sym, ap, ◌∙◌, subst, append-nil, arith, inl, inr}
use Rattle.std.proofs.lemmas.Bool.{cases_Bool}
use Rattle.std.proofs.lemmas.Bool.Decides.{nat_tests}
use Rattle.std.proofs.lemmas.List.{append_assoc}
use Rattle.std.proofs.Math.Nat.{pow-suc}
use Rattle.mam_archive.specs.Ids.{digit_value, digits_read, id_of, number_read, unless_zero}
use Rattle.base_lemmas.proofs.HexDigits.{hex_digits_push, hex16_of_same, length-hex16_of}
use Rattle.base_lemmas.specs.Hexadecimal.{hex_digit, hex_digits, hex16_of}

pub id_of_same : (m n : ℕ) → m < 2 ^ 64 → n < 2 ^ 64 → id_of m ≡ id_of n → m ≡ n
id_of_same = hex16_of_same

-- a digit has its value, and no other byte has one
digit_again : (d : ℕ) → d < 16 → digit_value (hex_digit d) ≡ d
digit_again d low = grind (arith, nat_tests)

digit_is : (c : ℕ) → digit_value c < 16 → c ≡ hex_digit (digit_value c)
digit_is c low = grind (arith, nat_tests)

-- one digit more, read
read_push : (m n d : ℕ) (text : List ℕ) → d < 16 → digits_read m text ≡ Some n → digits_read m (text ++ hex_digit d ∷ []) ≡ Some (n * 16 + d)
read_push m n d [] low is =
    let value = digit_again d low in
    let same : m ≡ n = cc is in
    let less : nat_lt d 16 ≡ true = grind (arith, nat_tests) in
    rw (value, less, same) refl
read_push m n d (c ∷ cs) low is = elim (cases_Bool (nat_lt (digit_value c) 16)) [
  | inl e ↦ let rest : digits_read (m * 16 + digit_value c) cs ≡ Some n = rw e at is in rw e (read_push (m * 16 + digit_value c) n d cs low rest)
  | inr e ↦ absurd (let none : None ≡ Some n = rw e at is in cc none)
]

-- the digits of a number are read as it
digits_again : (k n : ℕ) → n < 16 ^ k → digits_read 0 (hex_digits k n) ≡ Some n
digits_again zero n low = let none : n ≡ 0 = omega arith in rw none refl
digits_again (suc k) n low =
    let power : 16 ^ suc k ≡ 16 ^ k * 16 = pow-suc 16 k in
    let front : digits_read 0 (hex_digits k (n / 16)) ≡ Some (n / 16) = digits_again k (n / 16) (omega arith) in
    let whole : n / 16 * 16 + n % 16 ≡ n = omega arith in
    read_push 0 (n / 16) (n % 16) (hex_digits k (n / 16)) (omega arith) front ∙ ap Some whole

-- and what is read as a number are its digits
digits_from : (k m n : ℕ) (text : List ℕ) → m < 16 ^ k → digits_read m text ≡ Some n → (n < 16 ^ (k + length text)) × (hex_digits (k + length text) n ≡ hex_digits k m ++ text)
digits_from k m n [] low is =
    let same : m ≡ n = let p = is in cc in
    let size : k + 0 ≡ k = omega arith in
    rw (size, ← same) (low, sym (append-nil (hex_digits k m)))
digits_from k m n (c ∷ cs) low is = elim (cases_Bool (nat_lt (digit_value c) 16)) [
  | inl e ↦
      let d = digit_value c in
      let below : d < 16 = grind (arith, nat_tests) in
      let rest : digits_read (m * 16 + d) cs ≡ Some n = rw e at is in
      let power : 16 ^ suc k ≡ 16 ^ k * 16 = pow-suc 16 k in
      let less : m * 16 + d < 16 ^ suc k = omega arith in
      let all = digits_from (suc k) (m * 16 + d) n cs less rest in
      let size : suc k + length cs ≡ k + length (c ∷ cs) = omega arith in
      let text : hex_digits (suc k) (m * 16 + d) ++ cs ≡ hex_digits k m ++ c ∷ cs =
      ap (λ t. t ++ cs) (hex_digits_push k m d below) ∙ append_assoc (hex_digits k m) (hex_digit d ∷ []) cs ∙ ap (λ b. hex_digits k m ++ b ∷ cs) (sym (digit_is c below)) in
      (subst (λ j. n < 16 ^ j) size all.0, subst (λ j. hex_digits j n ≡ hex_digits k m ++ c ∷ cs) size (all.1 ∙ text))
  | inr e ↦ absurd (let none : None ≡ Some n = rw e at is in cc none)
]

-- an id is read as the number whose id it is
pub number_found : (id : List ℕ) (n : ℕ) → 1 ≤ n → n < 2 ^ 64 → id ≡ id_of n → Some n ≡ number_read id
unfolding hex16_of number_read
number_found id n some low is =
    let size : length id ≡ 16 = ap length is ∙ length-hex16_of n in
    let digits : digits_read 0 id ≡ Some n = ap (digits_read 0) is ∙ digits_again 16 n (omega arith) in
    let above : nat_lt 0 n ≡ true = grind (arith, nat_tests) in
    rw (size, digits, above) refl

-- and a text that is the id of none isn't read
module _ (id : List ℕ) (size : 0 + length id ≡ 16) (none : (n : ℕ) → 1 ≤ n → n < 2 ^ 64 → id ≢ id_of n) where
  read_none : (o : Option ℕ) → digits_read 0 id ≡ o → None ≡ unless_zero o
  unfolding hex16_of
  read_none None is = refl
  read_none (Some n) is = elim (cases_Bool (nat_lt 0 n)) [
    | inl e ↦
        let some : 1 ≤ n = grind (arith, nat_tests) in
        let all = digits_from 0 0 n id (omega arith) is in
        let low : n < 16 ^ 16 = subst (λ j. n < 16 ^ j) size all.0 in
        absurd (none n some (omega arith) (subst (λ j. id ≡ hex_digits j n) size (sym all.1)))
    | inr e ↦ rw e refl
  ]

pub number_none : (id : List ℕ) → ((n : ℕ) → 1 ≤ n → n < 2 ^ 64 → id ≢ id_of n) → None ≡ number_read id
unfolding number_read
number_none id none = elim (cases_Bool (length id == 16)) [
  | inl e ↦ let size : 0 + length id ≡ 16 = grind (arith, nat_tests) in rw e (read_none id size none (digits_read 0 id) refl)
  | inr e ↦ rw e refl
]
