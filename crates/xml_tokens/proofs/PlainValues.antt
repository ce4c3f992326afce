-- A value of ASCII characters that it says as they are.
use Rattle.std.proofs.Common.{◌≡◌, ℕ, zero, suc, ◌<◌, true, false, List, [], ◌∷◌, Some, refl, ap, ◌∙◌, arith}
use Rattle.std.proofs.lemmas.Bool.{and_parts}
use Rattle.std.proofs.lemmas.Bool.Decides.{nat_tests}
use Rattle.std.proofs.lemmas.Str.{IsUtf8-from_ascii}
use Rattle.std.specs.List.{list_all}
use Rattle.std.specs.Str.{IsUtf8, IsAscii}
use Rattle.xml_tokens.proofs.Texts.{text_is}
use Rattle.xml_tokens.proofs.ValueRuns.{plain_byte}
use Rattle.xml_tokens.specs.Characters.{ends_forbidden, are_characters, are_characters_after}
use Rattle.xml_tokens.specs.Values.{text, in_front, value_from, as_text, value_of, is_plain, is_plain_ascii}

quiet : (x y b : ℕ) → is_plain_ascii b ≡ true → ends_forbidden x y b ≡ false
quiet x y b h = grind (arith, nat_tests)

plain : (b : ℕ) → is_plain_ascii b ≡ true → is_plain b ≡ true
plain b h = grind (arith, nat_tests)

small : (b : ℕ) → is_plain_ascii b ≡ true → b < 128
small b h = grind (arith, nat_tests)

characters : (x y : ℕ) (raw : List ℕ) → list_all is_plain_ascii raw ≡ true → are_characters_after x y raw ≡ true
characters x y [] h = refl
characters x y (b ∷ bs) h = let p = and_parts (is_plain_ascii b) _ h in rw (quiet x y b p.0) (characters y b bs p.1)

said_as_it_is : (raw : List ℕ) → list_all is_plain_ascii raw ≡ true → value_from (text false) raw ≡ Some raw
said_as_it_is [] h = refl
said_as_it_is (b ∷ bs) h = let p = and_parts (is_plain_ascii b) _ h in plain_byte b bs (plain b p.0) ∙ ap (in_front (b ∷ [])) (said_as_it_is bs p.1)

pub plain_ascii : (raw : List ℕ) → list_all is_plain_ascii raw ≡ true → IsAscii raw
plain_ascii [] h i = omega arith
plain_ascii (b ∷ bs) h zero = small b (and_parts (is_plain_ascii b) _ h).0
plain_ascii (b ∷ bs) h (suc i) = plain_ascii bs (and_parts (is_plain_ascii b) _ h).1 i

pub plain_utf8 : (raw : List ℕ) → list_all is_plain_ascii raw ≡ true → IsUtf8 raw
plain_utf8 raw h = IsUtf8-from_ascii raw (plain_ascii raw h)

pub plain_value : (raw : List ℕ) → list_all is_plain_ascii raw ≡ true → value_of raw ≡ Some raw
unfolding value_of are_characters
plain_value raw h = rw (characters 0 0 raw h) (ap as_text (said_as_it_is raw h) ∙ text_is raw (plain_utf8 raw h))
