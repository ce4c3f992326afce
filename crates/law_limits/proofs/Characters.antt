-- Texts of XML's characters, put together.
use Rattle.std.proofs.Common.{◌≡◌, ℕ, ◌+◌, ◌*◌, ◌≤◌, ◌<◌, nat_le, true, List, [], ◌∷◌, ◌++◌, length, IsAscii, IsUtf8, chars, refl, sym, ap, ◌∙◌, arith, leb-true}
use Rattle.std.proofs.lemmas.Bool.{and_from, and_parts}
use Rattle.std.proofs.lemmas.Bool.Decides.{nat_tests}
use Rattle.std.proofs.lemmas.List.Folds.{list_all-append}
use Rattle.std.proofs.lemmas.List.Sums.{AllPass-from_list_all}
use Rattle.std.proofs.lemmas.Str.{IsUtf8-append, IsUtf8-from_ascii, chars-IsAscii, chars-append}
use Rattle.std.proofs.lemmas.Str.Ascii.{IsAscii-from_all}
use Rattle.std.specs.List.{list_all}
use Rattle.law_limits.proofs.TextSizes.{value_append, value_short}
use Rattle.law_limits.specs.Texts.{Said, is_printable}
use Rattle.xml_tokens.proofs.CharacterLaws.{characters_are_those}
use Rattle.xml_tokens.specs.Characters.{is_character}
use Rattle.xml_tokens.specs.Lines.{IsCharacters}

pub from_those : (t : List ℕ) → IsUtf8 t → list_all is_character (chars t) ≡ true → IsCharacters t
from_those t utf8 each = record { utf8 = utf8; characters = characters_are_those t utf8 ∙ each }

pub those_of : (t : List ℕ) → IsCharacters t → list_all is_character (chars t) ≡ true
those_of t h = sym (characters_are_those t h.utf8) ∙ h.characters

pub characters_append : (s t : List ℕ) → IsCharacters s → IsCharacters t → IsCharacters (s ++ t)
characters_append s t h k =
    from_those (s ++ t) (IsUtf8-append s t h.utf8 k.utf8)
    (ap (list_all is_character) (chars-append s t h.utf8) ∙ list_all-append is_character (chars s) (chars t) ∙ and_from _ _ (those_of s h) (those_of t k))

-- ---- ASCII

printable_low : (b : ℕ) → is_printable b ≡ true → b < 128
printable_low b e = grind (arith, nat_tests)

printable_character : (b : ℕ) → is_printable b ≡ true → is_character b ≡ true
printable_character b e = grind (arith, nat_tests)

pub printable_ascii : (t : List ℕ) → list_all is_printable t ≡ true → IsAscii t
printable_ascii t h = let each = AllPass-from_list_all is_printable t h in IsAscii-from_all t (λ k d lt. printable_low _ (each k d lt))

printable_each : (t : List ℕ) → list_all is_printable t ≡ true → list_all is_character t ≡ true
printable_each [] h = refl
printable_each (b ∷ t) h = let parts = and_parts (is_printable b) (list_all is_printable t) h in and_from _ _ (printable_character b parts.0) (printable_each t parts.1)

pub printable_characters : (t : List ℕ) → list_all is_printable t ≡ true → IsCharacters t
printable_characters t h =
    let ascii = printable_ascii t h in
    from_those t (IsUtf8-from_ascii t ascii) (ap (list_all is_character) (chars-IsAscii t ascii) ∙ printable_each t h)

pub printable_append : (s t : List ℕ) → list_all is_printable s ≡ true → list_all is_printable t ≡ true → list_all is_printable (s ++ t) ≡ true
printable_append s t h k = list_all-append is_printable s t ∙ and_from _ _ h k

-- ---- and within so many bytes

pub said_printable : (most : ℕ) (t : List ℕ) → list_all is_printable t ≡ true → 6 * length t ≤ most → Said most t
said_printable most t h short = let size = value_short t in record { characters = printable_characters t h; short = omega (arith, size, short) }

-- of a text that is written out
pub said_word : (most : ℕ) (t : List ℕ) → list_all is_printable t ≡ true → nat_le (6 * length t) most ≡ true → Said most t
said_word most t h short = said_printable most t h (leb-true (6 * length t) most short)

pub said_append : (m n most : ℕ) (s t : List ℕ) → Said m s → Said n t → m + n ≤ most → Said most (s ++ t)
said_append m n most s t h k within =
    let first = h.short in
    let second = k.short in
    record { characters = characters_append s t h.characters k.characters; short = omega (arith, first, second, within, value_append s t) }

pub said_more : (m n : ℕ) (t : List ℕ) → Said m t → m ≤ n → Said n t
said_more m n t h within = let short = h.short in record { characters = h.characters; short = omega (arith, short, within) }
