-- Which bytes between quotes spell a value, in the grammar's words (XML 1.0, sections 2.3, 2.11, 3.3.3 and 4.1).
use Rattle.std.specs.Prelude.{ℕ, ◌≡◌, ◌==◌, ◌||◌, not, true, if◌then◌else◌, List, ◌∷◌, ◌++◌, map, encode_utf8}
use Rattle.std.specs.List.{list_all}
use Rattle.xml_tokens.specs.Characters.{is_white}
use Rattle.xml_tokens.specs.Lines.{IsCharacters, line_ends}
use Rattle.xml_tokens.specs.References.{referred}
use Rattle.xml_tokens.specs.declared.references.Reference.TheVariants.{Character}

-- a white space character that stands there itself says a space (3.3.3)
abbrev pub space_of : ℕ → ℕ
space_of b = if is_white b then 32 else b

abbrev pub spaces : List ℕ → List ℕ
spaces bytes = map space_of bytes

-- no `<` and no `&` (2.3, AttValue)
abbrev pub IsValueData : List ℕ → Type 0
IsValueData bytes = list_all (λ b. not (b == 60 || b == 38)) bytes ≡ true

-- ([^<&] | Reference)*, the inside of AttValue (2.3). A reference says its character, whatever that is. All else says
-- itself, with line ends replaced (2.11), and then each white space character by a space (3.3.3).
pub data SpellsValue : List ℕ → List ℕ → Type 0 where
  data_alone : (bytes says : List ℕ) → IsValueData bytes → says ≡ spaces (line_ends bytes) → SpellsValue bytes says
  with_reference : (bytes says plain name rest more : List ℕ) (c : ℕ) → IsValueData plain → referred name ≡ Character c → SpellsValue rest more
      → bytes ≡ plain ++ (38 ∷ (name ++ (59 ∷ rest))) → says ≡ spaces (line_ends plain) ++ (encode_utf8 c ++ more) → SpellsValue bytes says

-- Bytes between quotes spell a value: each of their characters is one of XML's.
pub record IsValue (bytes says : List ℕ) : Type 0 where
  pub characters : IsCharacters bytes
  pub spelled : SpellsValue bytes says
