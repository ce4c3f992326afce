-- Which bytes between tags spell a text, in the grammar's words (XML 1.0, sections 2.2, 2.4, 2.7, 2.11 and 4.1).
use Rattle.std.specs.Prelude.{ℕ, ◌≡◌, ◌==◌, Bool, true, false, not, ◌&&◌, ◌||◌, List, [], ◌∷◌, ◌++◌, codes, encode_utf8}
use Rattle.std.specs.List.{list_all}
use Rattle.xml_tokens.specs.Lines.{IsCharacters, line_ends}
use Rattle.xml_tokens.specs.References.{referred}
use Rattle.xml_tokens.specs.declared.references.Reference.TheVariants.{Character}

abbrev pub begins_section_end : List ℕ → Bool
begins_section_end [] = false
begins_section_end (a ∷ []) = false
begins_section_end (a ∷ b ∷ []) = false
begins_section_end (a ∷ b ∷ c ∷ bs) = a == 93 && (b == 93 && c == 62)

-- `]]>` stands in it
abbrev pub has_section_end : List ℕ → Bool
has_section_end [] = false
has_section_end (b ∷ bs) = begins_section_end (b ∷ bs) || has_section_end bs

-- no `<`, no `&` and no `]]>` (2.4, CharData)
pub record IsCharacterData (bytes : List ℕ) : Type 0 where
  pub no_markup : list_all (λ b. not (b == 60 || b == 38)) bytes ≡ true
  pub no_section_end : has_section_end bytes ≡ false

-- CharData? ((Reference | CDSect) CharData?)*, the part of `content` (3.1) without elements. A reference says its
-- character, and character data and a CDATA section (2.7) say what they hold, with line ends replaced.
pub data SpellsText : List ℕ → List ℕ → Type 0 where
  data_alone : (bytes says : List ℕ) → IsCharacterData bytes → says ≡ line_ends bytes → SpellsText bytes says
  with_reference : (bytes says plain name rest more : List ℕ) (c : ℕ) → IsCharacterData plain → referred name ≡ Character c → SpellsText rest more
      → bytes ≡ plain ++ (38 ∷ (name ++ (59 ∷ rest))) → says ≡ line_ends plain ++ (encode_utf8 c ++ more) → SpellsText bytes says
  with_section : (bytes says plain inside rest more : List ℕ) → IsCharacterData plain → has_section_end inside ≡ false → SpellsText rest more
      → bytes ≡ plain ++ (codes "<![CDATA[" ++ (inside ++ (codes "]]>" ++ rest))) → says ≡ line_ends plain ++ (line_ends inside ++ more) → SpellsText bytes says

-- Bytes between tags spell a text: each of their characters is one of XML's.
pub record IsText (bytes says : List ℕ) : Type 0 where
  pub characters : IsCharacters bytes
  pub spelled : SpellsText bytes says
