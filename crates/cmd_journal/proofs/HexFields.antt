-- Hexadecimal digits in lower case, and the bytes that pairs of them spell.
use Rattle.std.proofs.Common.{◌≡◌, ℕ, zero, suc, ◌+◌, ◌*◌, ◌/◌, ◌%◌, ◌<◌, Bool, true, false, eqb, List, [], ◌∷◌, length, Option, Some, None, unwrap_or, Result, Ok, Err, slice_index, refl, sym, ap, ◌∙◌, inl, inr, arith}
use Rattle.std.specs.Prelude.{not, ◌&&◌, ◌||◌, nat_lt}
use Rattle.std.specs.List.{list_all}
use Rattle.std.specs.Result.{result_unwrap_or}
use Rattle.std.proofs.lemmas.Bool.{and_parts, and_from, cases_lt, eqb-true, false≢true, ltb-true, or_cases}
use Rattle.std.proofs.lemmas.Bool.Decides.{nat_tests}
use Rattle.hex.specs.Hex.{IsBytes, decode_of, decode_pairs, decode_sized, digit_or_error, encode_lower, encode_with, hex_digit_value, lower_digits, pair_value, value_at, ◌>>=◌}
use Rattle.hex.specs.declared.error.FromHexError.{FromHexError}
use Rattle.hex.proofs.HexLemmas.{decode_of-even, decode_of-encode_lower, decode_of-ok, decode_sized-encode_lower, decode_sized-ok, decode_sized-twice}
use Rattle.cmd_journal.proofs.ReadFields.{gate}
use Rattle.cmd_journal.specs.Journals.{are_bytes}
use Rattle.cmd_journal.specs.LineReading.{bytes_in, decoded, entropy_in, is_digit}
use Rattle.cmd_schedule.specs.Reading.{not_empty}
use Rattle.cmd_schedule.specs.declared.fault.LineWhy.TheVariants as why

-- ---- one digit

abbrev is_spelled_back : ℕ → Bool
is_spelled_back c = not (is_digit c) || eqb (slice_index lower_digits (unwrap_or (hex_digit_value c) 99)) c

abbrev are_spelled_back : ℕ → Bool
are_spelled_back zero = true
are_spelled_back (suc n) = is_spelled_back n && are_spelled_back n

spelled_back-at : (n k : ℕ) → are_spelled_back n ≡ true → k < n → is_spelled_back k ≡ true
spelled_back-at zero k h lt = absurd (omega arith)
spelled_back-at (suc n) k h lt =
    let parts = and_parts (is_spelled_back n) (are_spelled_back n) h in
    elim (cases_lt k n) [
      | inl below ↦ spelled_back-at n k parts.1 below
      | inr top ↦
          let e : k ≡ n = omega arith in
          rw e parts.0
    ]

digit_low : (c : ℕ) → is_digit c ≡ true → c < 103
digit_low c h = grind (arith, nat_tests)

-- the digit of a digit's value is that digit
digit_back : (c v : ℕ) → is_digit c ≡ true → hex_digit_value c ≡ Some v → slice_index lower_digits v ≡ c
digit_back c v h is =
    let whole : is_spelled_back c ≡ true = spelled_back-at 103 c refl (digit_low c h) in
    let told : (not (is_digit c) || eqb (slice_index lower_digits v) c) ≡ true = rw is at whole in
    elim (or_cases (not (is_digit c)) _ told) [
      | inl not_so ↦ absurd (false≢true (sym (ap not h) ∙ not_so))
      | inr same ↦ eqb-true (slice_index lower_digits v) c same
    ]

digit_value_small : (c v : ℕ) → hex_digit_value c ≡ Some v → v < 16
digit_value_small c v h = grind (arith)

abbrev are_digits_below : ℕ → Bool
are_digits_below zero = true
are_digits_below (suc n) = is_digit (slice_index lower_digits n) && are_digits_below n

below-at : (n k : ℕ) → are_digits_below n ≡ true → k < n → is_digit (slice_index lower_digits k) ≡ true
below-at zero k h lt = absurd (omega arith)
below-at (suc n) k h lt =
    let parts = and_parts (is_digit (slice_index lower_digits n)) (are_digits_below n) h in
    elim (cases_lt k n) [
      | inl below ↦ below-at n k parts.1 below
      | inr top ↦
          let e : k ≡ n = omega arith in
          rw e parts.0
    ]

-- ---- what hex's steps give

hex_bind_ok : {A B : Type 0} (r : Result A FromHexError) (f : A → Result B FromHexError) (y : B) → (r >>= f) ≡ Ok y → (x : A) × (r ≡ Ok x) × (f x ≡ Ok y)
hex_bind_ok (Ok x) f y h = (x, refl, h)
hex_bind_ok (Err e) f y h = absurd cc

value_read : (c i : ℕ) (o : Option ℕ) (v : ℕ) → digit_or_error c i o ≡ Ok v → o ≡ Some v
value_read c i (Some w) v h = ap Some (ap (λ (r : Result ℕ FromHexError). result_unwrap_or r 0) h)
value_read c i None v h = absurd cc

-- ---- bytes

-- digits in lower case that decode are the text of what they decode to
pairs_back : (i : ℕ) (text bytes : List ℕ) → list_all is_digit text ≡ true → decode_pairs i text ≡ Ok bytes → (text ≡ encode_lower bytes) × (are_bytes bytes ≡ true)
unfolding decode_pairs encode_with
pairs_back i [] bytes all h =
    let none : [] ≡ bytes = ap (λ (r : Result (List ℕ) FromHexError). result_unwrap_or r []) h in
    rw (← none) (refl, refl)
pairs_back i (a ∷ []) bytes all h = absurd cc
pairs_back i (a ∷ b ∷ rest) bytes all h =
    let high = and_parts (is_digit a) (list_all is_digit (b ∷ rest)) all in
    let low = and_parts (is_digit b) (list_all is_digit rest) high.1 in
    let p0 = hex_bind_ok (pair_value a b i) _ bytes h in
    let p1 = hex_bind_ok (value_at a i) _ p0.0 p0.1 in
    let p2 = hex_bind_ok (value_at b (i + 1)) _ p0.0 p1.2 in
    let p3 = hex_bind_ok (decode_pairs (i + 2) rest) _ bytes p0.2 in
    let ih = pairs_back (i + 2) rest p3.0 low.1 p3.1 in
    let whole : p0.0 ∷ p3.0 ≡ bytes = ap (λ (r : Result (List ℕ) FromHexError). result_unwrap_or r []) p3.2 in
    let byte : p1.0 * 16 + p2.0 ≡ p0.0 = ap (λ (r : Result ℕ FromHexError). result_unwrap_or r 0) p2.2 in
    let va = value_read a i (hex_digit_value a) p1.0 p1.1 in
    let vb = value_read b (i + 1) (hex_digit_value b) p2.0 p2.1 in
    let sa = digit_value_small a p1.0 va in
    let sb = digit_value_small b p2.0 vb in
    let quotient : p0.0 / 16 ≡ p1.0 = omega (arith, byte, sa, sb) in
    let remainder : p0.0 % 16 ≡ p2.0 = omega (arith, byte, sa, sb) in
    let fits : nat_lt p0.0 256 ≡ true = grind (arith, nat_tests) in
    rw (← whole) (
      rw (quotient, remainder, digit_back a p1.0 high.0 va, digit_back b p2.0 low.0 vb) (ap (λ (xs : List ℕ). a ∷ b ∷ xs) ih.0),
      and_from (nat_lt p0.0 256) (are_bytes p3.0) fits ih.1,
    )

decoded_ok : (r : Result (List ℕ) FromHexError) (bytes : List ℕ) → decoded r ≡ Ok bytes → r ≡ Ok bytes
decoded_ok (Ok other) bytes e = cc
decoded_ok (Err reason) bytes e = absurd cc

even_from : (text bytes : List ℕ) → decode_of text ≡ Ok bytes → decode_pairs 0 text ≡ Ok bytes
even_from text bytes e = let d = decode_of-ok text bytes e in sym (decode_of-even text (omega (arith, d.1))) ∙ e

pub bytes_found : (field bytes : List ℕ) → bytes_in field ≡ Ok bytes → (field ≡ encode_lower bytes) × (are_bytes bytes ≡ true)
unfolding bytes_in
bytes_found field bytes e =
    let a = gate (list_all is_digit field) why.Text _ bytes e in
    pairs_back 0 field bytes a.0 (even_from field bytes (decoded_ok (decode_of field) bytes a.1))

pub entropy_found : (field bytes : List ℕ) → entropy_in field ≡ Ok bytes → (field ≡ encode_lower bytes) × (are_bytes bytes ≡ true) × (length bytes ≡ 24)
unfolding entropy_in
entropy_found field bytes e =
    let a = gate (list_all is_digit field) why.Text _ bytes e in
    let d = decoded_ok (decode_sized field 24) bytes a.1 in
    let size = decode_sized-ok field 24 bytes d in
    let all : decode_of field ≡ Ok bytes = sym (decode_sized-twice field 24 size) ∙ d in
    let parts = decode_of-ok field bytes all in
    let back = pairs_back 0 field bytes a.0 (even_from field bytes all) in
    (back.0, back.1, omega (arith, size, parts.1))

pub some_bytes : (bytes : List ℕ) → not_empty (encode_lower bytes) ≡ true → not_empty bytes ≡ true
unfolding encode_with
some_bytes [] h = absurd (false≢true h)
some_bytes (b ∷ bytes) h = refl

-- ---- and back

bytes-from : (bytes : List ℕ) → are_bytes bytes ≡ true → IsBytes bytes
bytes-from [] h i = omega arith
bytes-from (b ∷ bytes) h zero = ltb-true b 256 (and_parts (nat_lt b 256) (are_bytes bytes) h).0
bytes-from (b ∷ bytes) h (suc i) = bytes-from bytes (and_parts (nat_lt b 256) (are_bytes bytes) h).1 i

pub lower_text : (bytes : List ℕ) → are_bytes bytes ≡ true → list_all is_digit (encode_lower bytes) ≡ true
unfolding encode_with
lower_text [] h = refl
lower_text (b ∷ bytes) h =
    let parts = and_parts (nat_lt b 256) (are_bytes bytes) h in
    let fits : b < 256 = ltb-true b 256 parts.0 in
    and_from _ _ (below-at 16 (b / 16) refl (omega (arith, fits)))
    (and_from _ _ (below-at 16 (b % 16) refl (omega (arith, fits))) (lower_text bytes parts.1))

pub bytes_again : (bytes : List ℕ) → are_bytes bytes ≡ true → bytes_in (encode_lower bytes) ≡ Ok bytes
unfolding bytes_in
bytes_again bytes h = rw (lower_text bytes h, decode_of-encode_lower bytes (bytes-from bytes h)) refl

pub entropy_again : (bytes : List ℕ) → are_bytes bytes ≡ true → length bytes ≡ 24 → entropy_in (encode_lower bytes) ≡ Ok bytes
unfolding entropy_in
entropy_again bytes h size = rw (lower_text bytes h, decode_sized-encode_lower bytes 24 size (bytes-from bytes h)) refl

pub text_some : (bytes : List ℕ) → not_empty bytes ≡ true → not_empty (encode_lower bytes) ≡ true
unfolding encode_with
text_some [] h = absurd (false≢true h)
text_some (b ∷ bytes) h = refl
