-- Rows of the table of faults that depend on what stands before a token, stated on bytes: the elements that are open, the
-- scope inside them, and what may follow (XML 1.0, sections 2.2, 2.4, 2.7, 3 and 3.1; Namespaces in XML 1.0; RFC 6120,
-- sections 4.2 to 4.9 and 11.1). No field of a state stands in them.
use Rattle.std.specs.Prelude.{ℕ, ◌≡◌, ◌≢◌, ◌+◌, ◌⊎◌, nat_lt, Bool, true, false, ◌&&◌, if◌then◌else◌, List, [], ◌∷◌, ◌++◌, None, Result, Ok, Err, codes, length}
use Rattle.xml_names.specs.Starts.{Tag, start_of}
use Rattle.xml_names.specs.declared.fault.StartWhy.{StartWhy}
use Rattle.xml_names.specs.declared.fault.StartWhy.TheVariants as start
use Rattle.xml_tokens.specs.Characters.{is_white}
use Rattle.xml_tokens.specs.Tags.{IsEndTag, is_empty, is_end}
use Rattle.xml_tokens.specs.Utf8.{continues, ends_character, ends_forbidden_character}
use Rattle.xml_framer.specs.ManyBytes.{quote_after}
use Rattle.xml_framer.specs.States.{admits_declaration}
use Rattle.xml_framer.specs.TagSteps.{largest_limits, says_stream, tag_limits}
use Rattle.xml_framer.specs.declared.fault.Why.{Why}
use Rattle.xml_framer.specs.declared.fault.Why.TheVariants as why
use Rattle.xml_framer.specs.declared.limits.Limits.{Limits}
use Rattle.xml_framer.specs.declared.states.Phase.TheVariants as phase
use Rattle.law_xml.specs.ByteRows.{EndInMarkup}
use Rattle.law_xml.specs.Contexts.{Context, HasContext}
use Rattle.law_xml.specs.Hands.{brackets_last}
use Rattle.law_xml.specs.Offsets.{AreTokens, IsRun, character_left, is_open_tag, leads_tag}
use Rattle.law_xml.specs.Streams.{position_of}
use Rattle.law_xml.specs.Texts.{has_section_end}

-- ---- what the bytes end in

-- whole tokens, and a text behind the last, which may be empty
pub record EndInText (bytes before text : List ℕ) : Type 0 where
  pub tokens : AreTokens before
  pub is_run : IsRun text
  pub bytes_are : bytes ≡ before ++ text

-- a tag, of which the `<` and more are there, and no quote is open
pub record EndInTag (bytes before more : List ℕ) : Type 0 where
  pub markup : EndInMarkup bytes before more
  pub some : is_empty more ≡ false
  pub leads : leads_tag more ≡ true
  pub not_ended : is_open_tag None more ≡ true
  pub unquoted : quote_after None more ≡ None

-- a CDATA section without a `]]>`
pub record EndInSection (bytes before inside : List ℕ) : Type 0 where
  pub markup : EndInMarkup bytes before (codes "![CDATA[" ++ inside)
  pub no_end : has_section_end inside ≡ false

-- ---- questions

abbrev pub are_none : List (List ℕ) → Bool
are_none [] = true
are_none (name ∷ outer) = false

-- a declaration may stand outside elements, before a header
abbrev pub admits : Context → Bool
admits c = are_none c.opens && admits_declaration c.phase

-- one element more is too deep
abbrev pub is_past_depth : Limits → Context → Bool
is_past_depth limits c = nat_lt limits.depth (length c.opens + 1)

-- the tag is a header's by the scope in force with its own declarations, also where it is past the limits
abbrev pub is_header_in : Context → List ℕ → Bool
is_header_in c token = says_stream (start_of largest_limits c.scope token)

-- of what a well-formed tag is past, the depth is told first
abbrev pub why_at : Bool → StartWhy → Why
why_at deep start.Restricted = why.Restricted
why_at deep start.NotWellFormed = why.NotWellFormed
why_at deep start.TooManyAttributes = if deep then why.TooDeep else why.TooManyAttributes
why_at deep start.LongNamespace = if deep then why.TooDeep else why.LongNamespace

-- what is wrong with the tag of a header
abbrev pub why_of_header : StartWhy → Why
why_of_header start.Restricted = why.Restricted
why_of_header start.NotWellFormed = why.NotWellFormed
why_of_header start.TooManyAttributes = why.TooManyAttributes
why_of_header start.LongNamespace = why.LongNamespace

-- what is wrong with a tag that may not stand there
abbrev pub why_misplaced : Result Tag StartWhy → Why
why_misplaced (Err start.Restricted) = why.Restricted
why_misplaced r = why.NotWellFormed

-- ---- rows

-- A byte of a text, behind the first bytes of a character or none.
pub data TextByteRow : Context → List ℕ → List ℕ → ℕ → Why → Type 0 where
  stray_character : (c : Context) (held text : List ℕ) (b : ℕ) (w : Why) → c.opens ≡ [] → b ≢ 60 → b ≢ 38 → ends_character held b ≡ true → is_white b ≡ false → w ≡ why.NotWellFormed → TextByteRow c held text b w
  forbidden_character : (c : Context) (held text : List ℕ) (b : ℕ) (w : Why) → c.opens ≢ [] → b ≢ 60 → b ≢ 38 → ends_character held b ≡ true → ends_forbidden_character held b ≡ true → w ≡ why.NotWellFormed
      → TextByteRow c held text b w
  -- `]]>`
  stray_section_end : (c : Context) (held text : List ℕ) (b : ℕ) (w : Why) → c.opens ≢ [] → b ≡ 62 → brackets_last 0 text ≡ 2 → w ≡ why.NotWellFormed → TextByteRow c held text b w

-- the byte after a `<`
pub data OpeningByteRow : Context → ℕ → Why → Type 0 where
  -- `<?`
  stray_question : (c : Context) (b : ℕ) (w : Why) → b ≡ 63 → admits c ≡ false → w ≡ why.Restricted → OpeningByteRow c b w
  -- `<>`
  nameless : (c : Context) (b : ℕ) (w : Why) → b ≡ 62 → w ≡ why.NotWellFormed → OpeningByteRow c b w

-- a whole tag, its `>` included
pub data TagByteRow : Limits → Context → List ℕ → Why → Type 0 where
  -- in an element
  wrong_end : (limits : Limits) (c : Context) (token : List ℕ) (w : Why) (name : List ℕ) (outer : List (List ℕ)) → c.opens ≡ name ∷ outer → is_end token ≡ true → ¬ (IsEndTag token name) → w ≡ why.NotWellFormed → TagByteRow limits c token w
  wrong_start : (limits : Limits) (c : Context) (token : List ℕ) (w : Why) (e : StartWhy) → c.opens ≢ [] → is_end token ≡ false → start_of (tag_limits limits) c.scope token ≡ Err e → w ≡ why_at (is_past_depth limits c) e
      → TagByteRow limits c token w
  start_past_depth : (limits : Limits) (c : Context) (token : List ℕ) (w : Why) (tag : Tag) → c.opens ≢ [] → is_end token ≡ false → start_of (tag_limits limits) c.scope token ≡ Ok tag → is_past_depth limits c ≡ true → w ≡ why.TooDeep
      → TagByteRow limits c token w
  -- outside elements
  wrong_first_header : (limits : Limits) (c : Context) (token : List ℕ) (w : Why) (e : StartWhy) → c.opens ≡ [] → (c.phase ≡ phase.First) ⊎ (c.phase ≡ phase.FirstDeclared)
      → start_of (tag_limits limits) [] token ≡ Err e → w ≡ why_of_header e → TagByteRow limits c token w
  wrong_next_header : (limits : Limits) (c : Context) (token : List ℕ) (w : Why) (e : StartWhy) → c.opens ≡ [] → (c.phase ≡ phase.Between) ⊎ (c.phase ≡ phase.Declared) → is_header_in c token ≡ true
      → start_of (tag_limits limits) [] token ≡ Err e → w ≡ why_of_header e → TagByteRow limits c token w
  wrong_top : (limits : Limits) (c : Context) (token : List ℕ) (w : Why) (e : StartWhy) → c.opens ≡ [] → c.phase ≡ phase.Between → is_header_in c token ≡ false → start_of (tag_limits limits) c.scope token ≡ Err e
      → w ≡ why_at (is_past_depth limits c) e → TagByteRow limits c token w
  top_past_depth : (limits : Limits) (c : Context) (token : List ℕ) (w : Why) (tag : Tag) → c.opens ≡ [] → c.phase ≡ phase.Between → is_header_in c token ≡ false → start_of (tag_limits limits) c.scope token ≡ Ok tag
      → is_past_depth limits c ≡ true → w ≡ why.TooDeep → TagByteRow limits c token w
  header_due : (limits : Limits) (c : Context) (token : List ℕ) (w : Why) → c.opens ≡ [] → c.phase ≡ phase.Declared → is_header_in c token ≡ false → w ≡ why_misplaced (start_of (tag_limits limits) c.scope token)
      → TagByteRow limits c token w
  behind_footer : (limits : Limits) (c : Context) (token : List ℕ) (w : Why) → c.opens ≡ [] → c.phase ≡ phase.Ended → w ≡ why_misplaced (start_of (tag_limits limits) c.scope token) → TagByteRow limits c token w

-- A byte after these decides this fault at this offset, if it isn't told as `TooLong`.
pub data OpenRow : Limits → List ℕ → ℕ → ℕ → Why → Type 0 where
  -- `&` outside elements
  stray_reference : (limits : Limits) (bytes : List ℕ) (b at : ℕ) (w : Why) (c : Context) (before text : List ℕ) → continues (character_left [] bytes) b ≡ true → EndInText bytes before text → HasContext limits c before
      → c.opens ≡ [] → b ≡ 38 → at ≡ position_of (length bytes) → w ≡ why.NotWellFormed → OpenRow limits bytes b at w
  after_text : (limits : Limits) (bytes : List ℕ) (b at : ℕ) (w : Why) (c : Context) (before text : List ℕ) → continues (character_left [] bytes) b ≡ true → EndInText bytes before text → HasContext limits c before
      → at ≡ position_of (length before) → TextByteRow c (character_left [] bytes) text b w → OpenRow limits bytes b at w
  after_less : (limits : Limits) (bytes : List ℕ) (b at : ℕ) (w : Why) (c : Context) (before : List ℕ) → continues (character_left [] bytes) b ≡ true → EndInMarkup bytes before [] → HasContext limits c before
      → at ≡ position_of (length before) → OpeningByteRow c b w → OpenRow limits bytes b at w
  -- `<![CDATA[` outside elements
  stray_section : (limits : Limits) (bytes : List ℕ) (b at : ℕ) (w : Why) (c : Context) (before : List ℕ) → continues (character_left [] bytes) b ≡ true → EndInMarkup bytes before (codes "![CDATA") → HasContext limits c before
      → c.opens ≡ [] → b ≡ 91 → at ≡ position_of (length before) → w ≡ why.NotWellFormed → OpenRow limits bytes b at w
  in_section : (limits : Limits) (bytes : List ℕ) (b at : ℕ) (w : Why) (before inside : List ℕ) → continues (character_left [] bytes) b ≡ true → EndInSection bytes before inside
      → at ≡ position_of (length before) → ends_character (character_left [] bytes) b ≡ true → ends_forbidden_character (character_left [] bytes) b ≡ true → w ≡ why.NotWellFormed → OpenRow limits bytes b at w
  after_tag : (limits : Limits) (bytes : List ℕ) (b at : ℕ) (w : Why) (c : Context) (before more : List ℕ) → continues (character_left [] bytes) b ≡ true → EndInTag bytes before more → HasContext limits c before
      → (c.opens ≡ [] → is_end (60 ∷ more) ≡ false) → b ≡ 62 → at ≡ position_of (length before) → TagByteRow limits c (60 ∷ (more ++ b ∷ [])) w → OpenRow limits bytes b at w
  -- an end tag outside elements that isn't the footer
  after_end : (limits : Limits) (bytes : List ℕ) (b at : ℕ) (w : Why) (c : Context) (before more : List ℕ) → continues (character_left [] bytes) b ≡ true → EndInTag bytes before more → HasContext limits c before
      → c.opens ≡ [] → is_end (60 ∷ more) ≡ true → b ≡ 62 → at ≡ position_of (length before) → ¬ ((c.phase ≡ phase.Between) × IsEndTag (60 ∷ (more ++ b ∷ [])) c.name) → w ≡ why.NotWellFormed
      → OpenRow limits bytes b at w
