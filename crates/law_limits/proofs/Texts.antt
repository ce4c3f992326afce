-- Texts within bounds.
use Rattle.std.proofs.Common.{◌≡◌, ℕ, ◌+◌, ◌*◌, ◌%◌, ◌^◌, ◌<◌, ◌≤◌, true, List, [], ◌∷◌, ◌++◌, length, Option, Some, None, IfSome, refl, arith}
use Rattle.std.proofs.lemmas.Bool.{and_from, and_parts, leb-true}
use Rattle.std.proofs.lemmas.Bool.Decides.{nat_tests}
use Rattle.std.proofs.lemmas.Fmt.{decimal_by_steps, length-decimal-le}
use Rattle.std.specs.Fmt.{decimal}
use Rattle.std.specs.List.{list_all}
use Rattle.std.specs.Prelude.{nat_le}
use Rattle.base64.specs.Engines.{standard}
use Rattle.base64.specs.GeneralPurpose.{IsBytes, encode_of}
use Rattle.im_stanza.specs.Written.{unless_empty}
use Rattle.law_limits.specs.Bounds.{IsTextWithin}
use Rattle.law_limits.proofs.Ascii.{is_printable, printable_IsCharacters}
use Rattle.law_limits.proofs.Base64.{encoded_printable, encoded_short}

pub literal : (t : List ℕ) (most : ℕ) → list_all is_printable t ≡ true → nat_le (length t) most ≡ true → IsTextWithin most t
literal t most printable short = record { characters = printable_IsCharacters t printable; short = leb-true (length t) most short }

pub longer : (m n : ℕ) (t : List ℕ) → m ≤ n → IsTextWithin m t → IsTextWithin n t
longer m n t more h = record { characters = h.characters; short = omega (arith, h.short, more) }

pub printable_append : (xs ys : List ℕ) → list_all is_printable xs ≡ true → list_all is_printable ys ≡ true → list_all is_printable (xs ++ ys) ≡ true
printable_append [] ys h k = k
printable_append (x ∷ xs) ys h k = let p = and_parts (is_printable x) _ h in and_from _ _ p.0 (printable_append xs ys p.1 k)

-- ---- numbers

digit : (d : ℕ) → d < 10 → is_printable (48 + d) ≡ true
digit d low = grind (arith, nat_tests)

pub decimal_printable : (n : ℕ) → n < 2 ^ 64 → list_all is_printable (decimal n) ≡ true
decimal_printable n fits =
    decimal_by_steps (λ k ds. list_all is_printable ds ≡ true)
    (λ k low. and_from (is_printable (48 + k)) true (digit k low) refl)
    (λ k ds high before. printable_append ds ((48 + k % 10) ∷ []) before (and_from (is_printable (48 + k % 10)) true (digit (k % 10) (omega arith)) refl)) n fits

pub decimal_within : (k n : ℕ) → 0 < k → n < 10 ^ k → n < 2 ^ 64 → IsTextWithin k (decimal n)
decimal_within k n some low fits = record { characters = printable_IsCharacters (decimal n) (decimal_printable n fits); short = length-decimal-le k n some low fits }

-- ---- base64

pub encoded_within : (bytes : List ℕ) (most : ℕ) → IsBytes bytes → length bytes ≤ most → IsTextWithin (2 * most + 2) (encode_of standard bytes)
encoded_within bytes most fits short =
    record { characters = printable_IsCharacters (encode_of standard bytes) (encoded_printable bytes fits); short = omega (arith, encoded_short bytes, short) }

-- ---- texts that may be there

pub unless_empty_within : (t : List ℕ) (most : ℕ) → IsTextWithin most t → IfSome (unless_empty t) (IsTextWithin most)
unless_empty_within [] most h = tt
unless_empty_within (c ∷ cs) most h = h

pub longer_where : (m n : ℕ) (given : Option (List ℕ)) → m ≤ n → IfSome given (IsTextWithin m) → IfSome given (IsTextWithin n)
longer_where m n None more h = tt
longer_where m n (Some t) more h = longer m n t more h
