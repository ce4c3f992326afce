-- Rows of the table of faults that the bytes of a token decide, stated on bytes: no field of a state stands in them (XML
-- 1.0, sections 2.7, 2.8 and 4.1; RFC 6120, sections 11.1 and 11.6; RFC 3629, section 4).
use Rattle.std.specs.Prelude.{ℕ, ◌≡◌, ◌≢◌, ◌-◌, ◌<◌, ◌≤◌, ◌==◌, Bool, true, false, List, [], ◌∷◌, ◌++◌, Some, codes, length, slice_index}
use Rattle.std.specs.List.{list_all}
use Rattle.xml_tokens.specs.Characters.{is_white}
use Rattle.xml_tokens.specs.Declarations.{declaration_of}
use Rattle.xml_tokens.specs.References.{reference_goes_on, referred}
use Rattle.xml_tokens.specs.Utf8.{continues}
use Rattle.xml_tokens.specs.declared.declarations.Declaration.TheVariants as declaration
use Rattle.xml_tokens.specs.declared.references.Reference.TheVariants as reference
use Rattle.xml_framer.specs.Readings.{fault_of}
use Rattle.xml_framer.specs.declared.fault.Why.{Why}
use Rattle.xml_framer.specs.declared.fault.Why.TheVariants as why
use Rattle.xml_framer.specs.declared.limits.Limits.{Limits}
use Rattle.law_xml.specs.Offsets.{AreBefore, IsAtToken, character_left, has_declaration_end, is_no_end}
use Rattle.law_xml.specs.Streams.{position_of}

-- One byte more isn't told as past the limit on bytes, which is told before all else.
abbrev pub IsNotTooLong : Limits → List ℕ → ℕ → Type 0
IsNotTooLong limits bytes b = (n : ℕ) → fault_of limits (bytes ++ b ∷ []) ≢ Some (record { at = n; why = why.TooLong })

-- ---- what the bytes end in

-- a reference without a `;`, with these bytes after its `&`
pub record EndInReference (bytes before name : List ℕ) : Type 0 where
  pub ahead : AreBefore before
  pub named : list_all is_no_end name ≡ true
  pub bytes_are : bytes ≡ before ++ 38 ∷ name

-- markup, with these bytes after its `<`
pub record EndInMarkup (bytes before more : List ℕ) : Type 0 where
  pub ahead : AreBefore before
  pub bytes_are : bytes ≡ before ++ 60 ∷ more

-- `<!`, and what has come of `<![CDATA[`, but not all
pub record OpensSection (more : List ℕ) : Type 0 where
  pub following : List ℕ
  pub more_is : more ≡ 33 ∷ following
  pub next : ℕ
  pub rest : List ℕ
  pub due : codes "![CDATA[" ≡ more ++ next ∷ rest

-- `<?`, and what has come of `<?xml`
pub record OpensDeclaration (more : List ℕ) : Type 0 where
  pub following : List ℕ
  pub more_is : more ≡ 63 ∷ following
  pub rest : List ℕ
  pub due : codes "?xml" ≡ more ++ rest

-- a declaration without a `?>`
pub record InDeclaration (more : List ℕ) : Type 0 where
  pub space : ℕ
  pub inside : List ℕ
  pub more_is : more ≡ codes "?xml" ++ space ∷ inside
  pub is_space : is_white space ≡ true
  pub no_end : has_declaration_end inside ≡ false

-- the last byte is a `?`
abbrev pub ends_in_question_mark : List ℕ → Bool
ends_in_question_mark token = slice_index token (length token - 1) == 63

-- ---- rows, on the bytes of the token

-- after the bytes of a reference's name
pub data ReferenceByteRow : List ℕ → ℕ → Why → Type 0 where
  unknown_name : (name : List ℕ) (b : ℕ) (w : Why) → b ≡ 59 → referred name ≡ reference.Unknown → w ≡ why.Restricted → ReferenceByteRow name b w
  no_character : (name : List ℕ) (b : ℕ) (w : Why) → b ≡ 59 → referred name ≡ reference.Malformed → w ≡ why.NotWellFormed → ReferenceByteRow name b w
  departing_name : (name : List ℕ) (b : ℕ) (w : Why) → b ≢ 59 → reference_goes_on name b ≡ false → w ≡ why.NotWellFormed → ReferenceByteRow name b w

-- after `<!..`
pub data BangByteRow : List ℕ → ℕ → Why → Type 0 where
  no_section : (token : List ℕ) (b : ℕ) (w : Why) → b ≢ slice_index (codes "<![CDATA[") (length token) → w ≡ why.Restricted → BangByteRow token b w

-- after `<?..`
pub data QuestionByteRow : List ℕ → ℕ → Why → Type 0 where
  no_xml : (token : List ℕ) (b : ℕ) (w : Why) → length token < 5 → b ≢ slice_index (codes "<?xml") (length token) → w ≡ why.Restricted → QuestionByteRow token b w
  no_space : (token : List ℕ) (b : ℕ) (w : Why) → 5 ≤ length token → is_white b ≡ false → w ≡ why.Restricted → QuestionByteRow token b w

-- after a `?` in a declaration
pub data DeclarationByteRow : List ℕ → ℕ → Why → Type 0 where
  names_encoding : (token : List ℕ) (b : ℕ) (w : Why) → b ≡ 62 → ends_in_question_mark token ≡ true → declaration_of (token ++ b ∷ []) ≡ declaration.Encoding
      → w ≡ why.Encoding → DeclarationByteRow token b w
  is_malformed : (token : List ℕ) (b : ℕ) (w : Why) → b ≡ 62 → ends_in_question_mark token ≡ true → declaration_of (token ++ b ∷ []) ≡ declaration.NotWellFormed
      → w ≡ why.NotWellFormed → DeclarationByteRow token b w

-- A byte after these decides this fault at this offset, if it isn't told as `TooLong`. A byte that breaks a character is
-- told before what it does to a token.
pub data ByteRow : List ℕ → ℕ → ℕ → Why → Type 0 where
  broken_character : (bytes : List ℕ) (b at : ℕ) (w : Why) → continues (character_left [] bytes) b ≡ false → IsAtToken bytes b at → w ≡ why.Encoding → ByteRow bytes b at w
  after_reference : (bytes : List ℕ) (b at : ℕ) (w : Why) (before name : List ℕ) → continues (character_left [] bytes) b ≡ true → EndInReference bytes before name
      → at ≡ position_of (length before) → ReferenceByteRow name b w → ByteRow bytes b at w
  after_bang : (bytes : List ℕ) (b at : ℕ) (w : Why) (before more : List ℕ) → continues (character_left [] bytes) b ≡ true → EndInMarkup bytes before more → OpensSection more
      → at ≡ position_of (length before) → BangByteRow (60 ∷ more) b w → ByteRow bytes b at w
  after_question : (bytes : List ℕ) (b at : ℕ) (w : Why) (before more : List ℕ) → continues (character_left [] bytes) b ≡ true → EndInMarkup bytes before more → OpensDeclaration more
      → at ≡ position_of (length before) → QuestionByteRow (60 ∷ more) b w → ByteRow bytes b at w
  after_declaration : (bytes : List ℕ) (b at : ℕ) (w : Why) (before more : List ℕ) → continues (character_left [] bytes) b ≡ true → EndInMarkup bytes before more → InDeclaration more
      → at ≡ position_of (length before) → DeclarationByteRow (60 ∷ more) b w → ByteRow bytes b at w
