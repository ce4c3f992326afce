-- The table of faults: in which state which byte decides which fault, and at which offset. A constructor is a row (RFC 6120,
-- sections 4.2 to 4.9, 11.1 and 11.6; XML 1.0, sections 2.2, 2.4, 2.7, 2.8, 3, 3.1 and 4.1; Namespaces in XML 1.0).
use Rattle.std.specs.Prelude.{ℕ, ◌≡◌, ◌≢◌, ◌<◌, ◌≤◌, ◌⊎◌, true, false, [], ◌∷◌, ◌++◌, None, Ok, Err, codes, length, slice_index}
use Rattle.std.specs.Option.{is_some}
use Rattle.xml_names.specs.Ends.{end_of}
use Rattle.xml_names.specs.Starts.{Tag}
use Rattle.xml_names.specs.declared.fault.StartWhy.{StartWhy}
use Rattle.xml_tokens.specs.Characters.{is_white}
use Rattle.xml_tokens.specs.Declarations.{declaration_of}
use Rattle.xml_tokens.specs.References.{reference_goes_on, referred}
use Rattle.xml_tokens.specs.Tags.{is_end}
use Rattle.xml_tokens.specs.Utf8.{continues, ends_character}
use Rattle.xml_tokens.specs.declared.declarations.Declaration.TheVariants as declaration
use Rattle.xml_tokens.specs.declared.references.Reference.TheVariants as reference
use Rattle.xml_framer.specs.Machine.{is_too_long}
use Rattle.xml_framer.specs.MarkupSteps.{ends_in_question}
use Rattle.xml_framer.specs.States.{State, gathered, is_text, may_declare, token_position}
use Rattle.xml_framer.specs.TagSteps.{ends_stream, header_why, is_header, is_spelled, is_too_deep, misplaced_why, start_why, tag_anew, tag_here}
use Rattle.xml_framer.specs.TextSteps.{is_forbidden}
use Rattle.law_xml.specs.FaultRows.{Takes}
use Rattle.xml_framer.specs.declared.fault.Why.{Why}
use Rattle.xml_framer.specs.declared.fault.Why.TheVariants as why
use Rattle.xml_framer.specs.declared.states.Mode.{Mode}
use Rattle.xml_framer.specs.declared.states.Mode.TheVariants as mode
use Rattle.xml_framer.specs.declared.states.Phase.TheVariants as phase

-- ---- texts

pub data TextRow : State → ℕ → ℕ → Why → Type 0 where
  reference_outside : (s : State) (b at : ℕ) (w : Why) → is_some s.here ≡ false → b ≡ 38 → at ≡ s.positions.at → w ≡ why.NotWellFormed → TextRow s b at w
  text_outside : (s : State) (b at : ℕ) (w : Why) → is_some s.here ≡ false → b ≢ 60 → b ≢ 38 → ends_character s.pending b ≡ true → is_white b ≡ false
      → at ≡ token_position s → w ≡ why.NotWellFormed → TextRow s b at w
  forbidden_in_text : (s : State) (b at : ℕ) (w : Why) → is_some s.here ≡ true → b ≢ 60 → b ≢ 38 → ends_character s.pending b ≡ true → is_forbidden s b ≡ true
      → at ≡ token_position s → w ≡ why.NotWellFormed → TextRow s b at w
  -- `]]>`
  section_end_in_text : (s : State) (b at : ℕ) (w : Why) → is_some s.here ≡ true → b ≡ 62 → s.lexical.in_run ≡ true → s.lexical.brackets ≡ 2
      → at ≡ token_position s → w ≡ why.NotWellFormed → TextRow s b at w

-- ---- references, CDATA sections, declarations

pub data ReferenceRow : State → ℕ → Why → Type 0 where
  unknown_reference : (s : State) (b : ℕ) (w : Why) → b ≡ 59 → referred s.token ≡ reference.Unknown → w ≡ why.Restricted → ReferenceRow s b w
  bad_reference : (s : State) (b : ℕ) (w : Why) → b ≡ 59 → referred s.token ≡ reference.Malformed → w ≡ why.NotWellFormed → ReferenceRow s b w
  departing_reference : (s : State) (b : ℕ) (w : Why) → b ≢ 59 → reference_goes_on s.token b ≡ false → w ≡ why.NotWellFormed → ReferenceRow s b w

-- the byte after a `<`
pub data OpeningRow : State → ℕ → Why → Type 0 where
  -- `<?` where no declaration may stand
  no_declaration : (s : State) (b : ℕ) (w : Why) → b ≡ 63 → may_declare s ≡ false → w ≡ why.Restricted → OpeningRow s b w
  -- `<>`
  no_name : (s : State) (b : ℕ) (w : Why) → b ≡ 62 → w ≡ why.NotWellFormed → OpeningRow s b w

-- after `<!`
pub data BangRow : State → ℕ → Why → Type 0 where
  departing_section : (s : State) (b : ℕ) (w : Why) → b ≢ slice_index (codes "<![CDATA[") (length s.token) → w ≡ why.Restricted → BangRow s b w
  section_outside : (s : State) (b : ℕ) (w : Why) → b ≡ slice_index (codes "<![CDATA[") (length s.token) → length s.token ≡ 8 → is_some s.here ≡ false
      → w ≡ why.NotWellFormed → BangRow s b w

pub data SectionRow : State → ℕ → Why → Type 0 where
  forbidden_in_section : (s : State) (b : ℕ) (w : Why) → ends_character s.pending b ≡ true → is_forbidden s b ≡ true → w ≡ why.NotWellFormed → SectionRow s b w

-- after `<?`
pub data QuestionRow : State → ℕ → Why → Type 0 where
  departing_declaration : (s : State) (b : ℕ) (w : Why) → length s.token < 5 → b ≢ slice_index (codes "<?xml") (length s.token) → w ≡ why.Restricted → QuestionRow s b w
  unspaced_declaration : (s : State) (b : ℕ) (w : Why) → 5 ≤ length s.token → is_white b ≡ false → w ≡ why.Restricted → QuestionRow s b w

pub data DeclarationRow : State → ℕ → Why → Type 0 where
  other_encoding : (s : State) (b : ℕ) (w : Why) → b ≡ 62 → ends_in_question s.token ≡ true → declaration_of (s.token ++ b ∷ []) ≡ declaration.Encoding
      → w ≡ why.Encoding → DeclarationRow s b w
  bad_declaration : (s : State) (b : ℕ) (w : Why) → b ≡ 62 → ends_in_question s.token ≡ true → declaration_of (s.token ++ b ∷ []) ≡ declaration.NotWellFormed
      → w ≡ why.NotWellFormed → DeclarationRow s b w

-- ---- tags

-- A whole tag, its `>` in the state's token.
pub data WholeTagRow : State → Why → Type 0 where
  -- in an element
  other_end : (s : State) (w : Why) → is_some s.here ≡ true → is_end s.token ≡ true → is_spelled s.here (end_of s.token) ≡ false → w ≡ why.NotWellFormed → WholeTagRow s w
  bad_start : (s : State) (w : Why) (e : StartWhy) → is_some s.here ≡ true → is_end s.token ≡ false → tag_here s ≡ Err e → w ≡ start_why s e → WholeTagRow s w
  deep_start : (s : State) (w : Why) (tag : Tag) → is_some s.here ≡ true → is_end s.token ≡ false → tag_here s ≡ Ok tag → is_too_deep s ≡ true → w ≡ why.TooDeep → WholeTagRow s w
  -- outside elements
  bad_first_header : (s : State) (w : Why) (e : StartWhy) → is_some s.here ≡ false → (s.lexical.phase ≡ phase.First) ⊎ (s.lexical.phase ≡ phase.FirstDeclared)
      → tag_anew s ≡ Err e → w ≡ header_why e → WholeTagRow s w
  bad_next_header : (s : State) (w : Why) (e : StartWhy) → is_some s.here ≡ false → (s.lexical.phase ≡ phase.Between) ⊎ (s.lexical.phase ≡ phase.Declared) → is_header s ≡ true
      → tag_anew s ≡ Err e → w ≡ header_why e → WholeTagRow s w
  bad_top : (s : State) (w : Why) (e : StartWhy) → is_some s.here ≡ false → s.lexical.phase ≡ phase.Between → is_header s ≡ false → tag_here s ≡ Err e → w ≡ start_why s e → WholeTagRow s w
  deep_top : (s : State) (w : Why) (tag : Tag) → is_some s.here ≡ false → s.lexical.phase ≡ phase.Between → is_header s ≡ false → tag_here s ≡ Ok tag → is_too_deep s ≡ true
      → w ≡ why.TooDeep → WholeTagRow s w
  no_header_declared : (s : State) (w : Why) → is_some s.here ≡ false → s.lexical.phase ≡ phase.Declared → is_header s ≡ false → w ≡ misplaced_why (tag_here s) → WholeTagRow s w
  after_footer : (s : State) (w : Why) → is_some s.here ≡ false → s.lexical.phase ≡ phase.Ended → w ≡ misplaced_why (tag_here s) → WholeTagRow s w

-- the `>` outside quotes that ends a tag
pub data TagRow : State → ℕ → Why → Type 0 where
  whole_tag_row : (s : State) (b : ℕ) (w : Why) → b ≡ 62 → s.lexical.quote ≡ None → WholeTagRow (gathered s b) w → TagRow s b w

-- an end tag outside elements
pub data FooterRow : State → ℕ → Why → Type 0 where
  bad_footer : (s : State) (b : ℕ) (w : Why) → b ≡ 62 → s.lexical.quote ≡ None → ends_stream (gathered s b) ≡ false → w ≡ why.NotWellFormed → FooterRow s b w

-- ---- all rows

abbrev pub TokenRow : Mode → State → ℕ → Why → Type 0
TokenRow mode.Text s b w = ⊥
TokenRow mode.Reference s b w = ReferenceRow s b w
TokenRow mode.Opening s b w = OpeningRow s b w
TokenRow mode.Bang s b w = BangRow s b w
TokenRow mode.Question s b w = QuestionRow s b w
TokenRow mode.Declaration s b w = DeclarationRow s b w
TokenRow mode.Tag s b w = TagRow s b w
TokenRow mode.Footer s b w = FooterRow s b w
TokenRow mode.Section s b w = SectionRow s b w

-- A byte decides this fault at this offset. Of several that it decides, the first row here is told.
pub data Row : State → ℕ → ℕ → Why → Type 0 where
  too_long : (s : State) (b at : ℕ) (w : Why) → s.fault ≡ None → is_too_long s b ≡ true → at ≡ s.positions.item_at → w ≡ why.TooLong → Row s b at w
  no_utf8 : (s : State) (b at : ℕ) (w : Why) → s.fault ≡ None → is_too_long s b ≡ false → continues s.pending b ≡ false → at ≡ token_position s → w ≡ why.Encoding → Row s b at w
  in_text_row : (s : State) (b at : ℕ) (w : Why) → Takes s mode.Text b → TextRow s b at w → Row s b at w
  in_token_row : (s : State) (b at : ℕ) (w : Why) (m : Mode) → Takes s m b → is_text m ≡ false → at ≡ s.positions.token_at → TokenRow m s b w → Row s b at w
