-- How long the texts are of which a client says something.
use Rattle.std.specs.Prelude.{ℕ, ◌≤◌, List, length}
use Rattle.xml_tokens.specs.Lines.{IsCharacters}

-- a text of XML's characters, of so many bytes at most (XML 1.0, section 2.2)
pub record IsTextWithin (most : ℕ) (text : List ℕ) : Type 0 where
  pub characters : IsCharacters text
  pub short : length text ≤ most

-- a part of an address, and an address (RFC 7622, sections 3.1 to 3.4)
abbrev pub most_part : ℕ
most_part = 1023

abbrev pub most_address : ℕ
most_address = 3071

-- the text of a message
abbrev pub most_text : ℕ
most_text = 6000

-- an id that the server gave
abbrev pub most_id : ℕ
most_id = 4096
