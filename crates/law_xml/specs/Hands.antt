-- What a state has of the token in hand, said of the bytes: so the rows of the table of faults, which name a state, are
-- about bytes.
use Rattle.std.specs.Prelude.{ℕ, ◌≡◌, ◌<◌, ◌==◌, true, false, if◌then◌else◌, List, [], ◌∷◌, ◌++◌, None, codes, length}
use Rattle.std.specs.List.{list_all}
use Rattle.std.specs.Option.{is_some}
use Rattle.xml_tokens.specs.Characters.{is_white}
use Rattle.xml_tokens.specs.Tags.{is_empty, is_end}
use Rattle.xml_framer.specs.ManyBytes.{quote_after}
use Rattle.xml_framer.specs.States.{State, is_text, token_position}
use Rattle.law_xml.specs.Offsets.{AreBefore, AreTokens, IsRun, character_left, first_of, has_declaration_end, is_no_end, is_open_tag, leads_tag}
use Rattle.law_xml.specs.Streams.{position_of}
use Rattle.law_xml.specs.Texts.{has_section_end}
use Rattle.xml_framer.specs.declared.states.Mode.{Mode}
use Rattle.xml_framer.specs.declared.states.Mode.TheVariants as mode

-- how many `]` stand last, up to 2
abbrev pub brackets_last : ℕ → List ℕ → ℕ
brackets_last n [] = n
brackets_last n (b ∷ bs) = brackets_last (if b == 93 then (if n == 0 then 1 else 2) else 0) bs

-- The bytes after the first one of a token of this kind, as the state has them. Of an end tag outside elements it doesn't
-- have them all.
abbrev pub AreKept : Mode → State → List ℕ → Type 0
AreKept mode.Text s more = ⊥
AreKept mode.Reference s more = (s.token ≡ more) × (list_all is_no_end more ≡ true)
AreKept mode.Opening s more = (s.token ≡ 60 ∷ more) × (more ≡ [])
AreKept mode.Bang s more = (s.token ≡ 60 ∷ more) × (rest : List ℕ) × (codes "![CDATA[" ≡ more ++ rest) × (leads_tag more ≡ false) × (length more < 8)
AreKept mode.Question s more = (s.token ≡ 60 ∷ more) × (rest : List ℕ) × (codes "?xml" ≡ more ++ rest) × (leads_tag more ≡ false)
AreKept mode.Declaration s more =
    (s.token ≡ 60 ∷ more) × (space : ℕ) × (inside : List ℕ) × (more ≡ codes "?xml" ++ space ∷ inside) × (is_white space ≡ true) × (has_declaration_end inside ≡ false)
AreKept mode.Tag s more = (s.token ≡ 60 ∷ more) × (leads_tag more ≡ true) × (is_open_tag None more ≡ true) × (s.lexical.quote ≡ quote_after None more) × (is_empty more ≡ false)
AreKept mode.Footer s more = (leads_tag more ≡ true) × (is_open_tag None more ≡ true) × (s.lexical.quote ≡ quote_after None more) × (is_end (60 ∷ more) ≡ true)
AreKept mode.Section s more = (inside : List ℕ) × (more ≡ codes "![CDATA[" ++ inside) × (has_section_end inside ≡ false) × (s.pending ≡ [] → s.lexical.brackets ≡ brackets_last 0 inside)

-- A token is in hand: markup, or a reference.
pub record IsTokenHeld (s : State) (bytes : List ℕ) : Type 0 where
  pub before : List ℕ
  pub more : List ℕ
  pub bytes_are : bytes ≡ before ++ first_of s.lexical.mode ∷ more
  pub at_is : s.positions.token_at ≡ position_of (length before)
  pub ahead : AreBefore before
  pub kept : AreKept s.lexical.mode s more

-- A text is in hand, which may end in the first bytes of a character. In an element the `]` that it ends in are counted.
pub record IsRunHeld (s : State) (bytes : List ℕ) : Type 0 where
  pub before : List ℕ
  pub text : List ℕ
  pub bytes_are : bytes ≡ before ++ text
  pub at_is : token_position s ≡ position_of (length before)
  pub ahead : AreTokens before
  pub is_run : IsRun text
  pub held : s.pending ≡ character_left [] text
  pub counts : is_some s.here ≡ true → s.pending ≡ [] → s.lexical.brackets ≡ brackets_last 0 text

-- No token is in hand, and no text.
pub record IsNoneHeld (s : State) (bytes : List ℕ) : Type 0 where
  pub tokens : AreTokens bytes
  pub at_is : token_position s ≡ position_of (length bytes)
  pub none_held : s.pending ≡ []

-- The state has in hand a token that begins with this byte after these bytes, and these after that byte.
pub record IsHolding (s : State) (first : ℕ) (before more : List ℕ) : Type 0 where
  pub no_text : is_text s.lexical.mode ≡ false
  pub first_is : first_of s.lexical.mode ≡ first
  pub at_is : s.positions.token_at ≡ position_of (length before)
  pub kept : AreKept s.lexical.mode s more

-- The state has a text in hand, or nothing, after these bytes.
pub record IsReading (s : State) (before text : List ℕ) : Type 0 where
  pub text_mode : is_text s.lexical.mode ≡ true
  pub at_is : token_position s ≡ position_of (length before)
  pub held : s.pending ≡ character_left [] text
  pub counts : is_some s.here ≡ true → s.pending ≡ [] → s.lexical.in_run ≡ true → s.lexical.brackets ≡ brackets_last 0 text
  pub none_begun : s.lexical.in_run ≡ false → text ≡ []
