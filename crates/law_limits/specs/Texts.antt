-- Texts of XML's characters, and how many bytes they take as they are written (XML 1.0, sections 2.2, 2.4 and 3.3.3).
use Rattle.std.specs.Prelude.{ℕ, ◌≤◌, Bool, ◌&&◌, nat_le, List, length}
use Rattle.xml_tokens.specs.Lines.{IsCharacters}
use Rattle.xml_tokens.specs.Spelling.{spelled_text, spelled_value}

-- as a value, which no text exceeds, and as content
unfoldable pub value_size : List ℕ → ℕ
value_size t = length (spelled_value t)

unfoldable pub text_size : List ℕ → ℕ
text_size t = length (spelled_text t)

-- printable ASCII: U+20 to U+7E
abbrev pub is_printable : ℕ → Bool
is_printable b = nat_le 32 b && nat_le b 126

-- a text of XML's characters that takes at most so many bytes as a value
pub record Said (most : ℕ) (t : List ℕ) : Type 0 where
  pub characters : IsCharacters t
  pub short : value_size t ≤ most
