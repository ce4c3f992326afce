-- A text of XML's characters, and its line ends (XML 1.0, sections 2.2 and 2.11).
use Rattle.std.specs.Prelude.{ℕ, ◌≡◌, ◌==◌, Bool, true, false, ◌&&◌, if◌then◌else◌, List, [], ◌∷◌}
use Rattle.std.specs.Str.{IsUtf8}
use Rattle.xml_tokens.specs.Characters.{are_characters}

-- a text of XML's characters (2.2, Char)
pub record IsCharacters (bytes : List ℕ) : Type 0 where
  pub utf8 : IsUtf8 bytes
  pub characters : are_characters bytes ≡ true

-- Line ends (2.11): a carriage return with the line feed after it, or alone, is a line feed. `returned`: a carriage
-- return stands before the bytes.
abbrev pub line_ends_after : Bool → List ℕ → List ℕ
line_ends_after returned [] = []
line_ends_after returned (b ∷ bs) =
    if b == 13 then 10 ∷ line_ends_after true bs
    else (if returned && b == 10 then line_ends_after false bs else b ∷ line_ends_after false bs)

abbrev pub line_ends : List ℕ → List ℕ
line_ends bytes = line_ends_after false bytes
