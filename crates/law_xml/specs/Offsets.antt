-- Where a token begins that a byte belongs to (XML 1.0, sections 2.4, 2.7, 2.8, 3.1 and 4.1).
use Rattle.std.specs.Prelude.{ℕ, ◌≡◌, ◌≢◌, ◌==◌, ◌⊎◌, Bool, true, false, not, ◌&&◌, ◌||◌, if◌then◌else◌, List, [], ◌∷◌, ◌++◌, Option, None, codes, length}
use Rattle.std.specs.Option.{is_some}
use Rattle.std.specs.List.{list_all}
use Rattle.xml_tokens.specs.Characters.{is_white}
use Rattle.xml_tokens.specs.Tags.{quote_behind}
use Rattle.xml_tokens.specs.Utf8.{held_after}
use Rattle.xml_framer.specs.ManyBytes.{quote_after}
use Rattle.law_xml.specs.Streams.{position_of}
use Rattle.law_xml.specs.Texts.{has_section_end}
use Rattle.xml_framer.specs.declared.states.Mode.{Mode}
use Rattle.xml_framer.specs.declared.states.Mode.TheVariants as mode

-- a reference is in hand, and no markup
abbrev pub is_reference : Mode → Bool
is_reference mode.Reference = true
is_reference m = false

-- what a token in hand begins with: `&` or `<`
abbrev pub first_of : Mode → ℕ
first_of m = if is_reference m then 38 else 60

-- neither `<` nor `&`
abbrev pub is_no_markup : ℕ → Bool
is_no_markup b = not (b == 60 || b == 38)

-- no `;`
abbrev pub is_no_end : ℕ → Bool
is_no_end b = not (b == 59)

-- no `>` stands outside quotes
abbrev pub is_open_tag : Option ℕ → List ℕ → Bool
is_open_tag quote [] = true
is_open_tag quote (b ∷ bs) = not (b == 62 && not (is_some quote)) && is_open_tag (quote_behind quote b) bs

-- what stands after a `<` is the beginning of a tag, and not of `<!` or `<?`
abbrev pub leads_tag : List ℕ → Bool
leads_tag [] = true
leads_tag (b ∷ bs) = not (b == 33 || b == 63)

abbrev pub begins_declaration_end : List ℕ → Bool
begins_declaration_end [] = false
begins_declaration_end (a ∷ []) = false
begins_declaration_end (a ∷ b ∷ bs) = a == 63 && b == 62

-- `?>` stands in it
abbrev pub has_declaration_end : List ℕ → Bool
has_declaration_end [] = false
has_declaration_end (b ∷ bs) = begins_declaration_end (b ∷ bs) || has_declaration_end bs

-- the bytes of the character that text leaves unfinished
abbrev pub character_left : List ℕ → List ℕ → List ℕ
character_left held [] = held
character_left held (b ∷ bs) = character_left (held_after held b) bs

-- ---- tokens

-- What stands after a `<` is markup that hasn't ended: a tag (3.1), a CDATA section (2.7), a declaration (2.8), or the
-- first bytes of `<![CDATA[` or of `<?xml`.
pub data IsOpen : List ℕ → Type 0 where
  open_tag : (more : List ℕ) → leads_tag more ≡ true → is_open_tag None more ≡ true → IsOpen more
  opening_section : (more rest : List ℕ) → codes "![CDATA[" ≡ more ++ rest → IsOpen more
  open_section : (more inside : List ℕ) → more ≡ codes "![CDATA[" ++ inside → has_section_end inside ≡ false → IsOpen more
  opening_declaration : (more rest : List ℕ) → codes "?xml" ≡ more ++ rest → IsOpen more
  open_declaration : (more inside : List ℕ) (space : ℕ) → more ≡ codes "?xml" ++ space ∷ inside → is_white space ≡ true → has_declaration_end inside ≡ false → IsOpen more

-- Bytes are a whole token: a tag, whose last byte is its first `>` outside quotes, a reference with its first `;`, a CDATA
-- section with its first `]]>`, or a declaration with its first `?>`.
pub data IsWhole : List ℕ → Type 0 where
  whole_tag : (token more : List ℕ) → token ≡ 60 ∷ (more ++ 62 ∷ []) → leads_tag more ≡ true → is_open_tag None more ≡ true → quote_after None more ≡ None → IsWhole token
  whole_reference : (token name : List ℕ) → token ≡ 38 ∷ (name ++ 59 ∷ []) → list_all is_no_end name ≡ true → IsWhole token
  whole_section : (token inside : List ℕ) → token ≡ codes "<![CDATA[" ++ (inside ++ codes "]]>") → has_section_end inside ≡ false → IsWhole token
  whole_declaration : (token inside : List ℕ) (space : ℕ) → token ≡ codes "<?xml" ++ space ∷ (inside ++ codes "?>") → is_white space ≡ true → has_declaration_end inside ≡ false → IsWhole token

-- neither `<` nor `&` stands in it
abbrev pub IsRun : List ℕ → Type 0
IsRun text = list_all is_no_markup text ≡ true

-- Bytes are whole tokens, each with a text before it, which may be empty.
pub data AreTokens : List ℕ → Type 0 where
  no_token : (bytes : List ℕ) → bytes ≡ [] → AreTokens bytes
  one_more : (bytes before text token : List ℕ) → AreTokens before → IsRun text → IsWhole token → bytes ≡ before ++ (text ++ token) → AreTokens bytes

-- Whole tokens, and after them a text of whole characters.
pub record AreBefore (before : List ℕ) : Type 0 where
  pub front : List ℕ
  pub text : List ℕ
  pub tokens : AreTokens front
  pub is_run : IsRun text
  pub whole : character_left [] text ≡ []
  pub before_is : before ≡ front ++ text

-- A byte belongs to a token of which these bytes are known: markup or a reference that hasn't ended in them, or a text after
-- the last whole token. A `<` or `&` belongs to a text only where it breaks a character.
pub data IsToken : List ℕ → List ℕ → ℕ → Type 0 where
  a_markup : (before token : List ℕ) (b : ℕ) (more : List ℕ) → AreBefore before → token ≡ 60 ∷ more → IsOpen more → IsToken before token b
  a_reference : (before token : List ℕ) (b : ℕ) (more : List ℕ) → AreBefore before → token ++ b ∷ [] ≡ 38 ∷ more → list_all is_no_end token ≡ true → IsToken before token b
  a_text : (before token : List ℕ) (b : ℕ) → AreTokens before → IsRun token → (is_no_markup b ≡ true) ⊎ (character_left [] token ≢ []) → IsToken before token b

-- The token that a byte after others belongs to has this offset.
pub record IsAtToken (bytes : List ℕ) (b at : ℕ) : Type 0 where
  pub before : List ℕ
  pub token : List ℕ
  pub bytes_are : bytes ≡ before ++ token
  pub at_is : at ≡ position_of (length before)
  pub is_token : IsToken before token b
