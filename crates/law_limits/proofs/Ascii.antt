-- Texts of printable ASCII are texts of XML's characters.
use Rattle.std.proofs.Common.{◌≡◌, ℕ, ◌<◌, Bool, true, false, ◌&&◌, List, [], ◌∷◌, refl, arith}
use Rattle.std.proofs.lemmas.Bool.{and_parts}
use Rattle.std.proofs.lemmas.Bool.Decides.{nat_tests}
use Rattle.std.proofs.lemmas.List.Elements.{All-from_recursion}
use Rattle.std.proofs.lemmas.Str.{IsUtf8-from_ascii}
use Rattle.std.proofs.lemmas.Str.Ascii.{IsAscii-from_all}
use Rattle.std.specs.List.{AllByRecursion, list_all}
use Rattle.std.specs.Prelude.{nat_le}
use Rattle.xml_tokens.specs.Characters.{are_characters, are_characters_after, ends_forbidden}
use Rattle.xml_tokens.specs.Lines.{IsCharacters}

abbrev pub is_printable : ℕ → Bool
is_printable b = nat_le 32 b && nat_le b 126

quiet : (x y b : ℕ) → is_printable b ≡ true → ends_forbidden x y b ≡ false
quiet x y b h = grind (arith, nat_tests)

pub printable_after : (x y : ℕ) (bs : List ℕ) → list_all is_printable bs ≡ true → are_characters_after x y bs ≡ true
printable_after x y [] h = refl
printable_after x y (b ∷ bs) h = let p = and_parts (is_printable b) _ h in rw (quiet x y b p.0) (printable_after y b bs p.1)

low : (b : ℕ) → is_printable b ≡ true → b < 128
low b h = grind (arith, nat_tests)

ascii : (bs : List ℕ) → list_all is_printable bs ≡ true → AllByRecursion (λ b. b < 128) bs
ascii [] h = tt
ascii (b ∷ bs) h = let p = and_parts (is_printable b) _ h in (low b p.0, ascii bs p.1)

pub printable_IsCharacters : (bs : List ℕ) → list_all is_printable bs ≡ true → IsCharacters bs
unfolding are_characters
printable_IsCharacters bs h =
    record { utf8 = IsUtf8-from_ascii bs (IsAscii-from_all bs (All-from_recursion (λ b. b < 128) bs (ascii bs h))); characters = printable_after 0 0 bs h }
