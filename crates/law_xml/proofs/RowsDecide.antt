-- Each row of the table of faults decides its fault, and no other fault is decided.
use Rattle.std.proofs.Common.{◌≡◌, ℕ, ◌↔◌, ⊎_elim, Bool, true, false, not, if◌then◌else◌, List, [], ◌∷◌, ◌++◌, Some, None, Err, refl, sym, ap, subst, ◌∙◌, arith}
use Rattle.std.proofs.lemmas.Bool.{cases_Bool}
use Rattle.std.specs.Option.{is_some}
use Rattle.std.specs.Prelude.{codes, slice_index}
use Rattle.xml_names.specs.declared.fault.StartWhy.{StartWhy}
use Rattle.xml_names.specs.declared.fault.StartWhy.TheVariants as start
use Rattle.xml_tokens.specs.Declarations.{declaration_of}
use Rattle.xml_tokens.specs.Tags.{is_end}
use Rattle.xml_framer.proofs.Pieces.{run_append}
use Rattle.law_xml.proofs.FaultLaws as laws
use Rattle.law_xml.proofs.OffsetMarks.{Mark}
use Rattle.law_xml.proofs.OffsetRuns.{known_of}
use Rattle.law_xml.proofs.OffsetTags.{Spot}
use Rattle.law_xml.proofs.ReadCharacters.{ascii_alone}
use Rattle.law_xml.proofs.RowsTold.{decides_row, fault_at, text_place}
use Rattle.law_xml.specs.FaultRows.{Decides, EndsTag, Takes}
use Rattle.law_xml.specs.Rows.{BangRow, DeclarationRow, FooterRow, OpeningRow, QuestionRow, ReferenceRow, Row, SectionRow, TagRow, TextRow, TokenRow, WholeTagRow, after_footer, bad_declaration, bad_first_header, bad_footer, bad_next_header, bad_reference, bad_start, bad_top, deep_start, deep_top, departing_declaration, departing_reference, departing_section, forbidden_in_section, forbidden_in_text, in_text_row, in_token_row, no_declaration, no_header_declared, no_name, no_utf8, other_encoding, other_end, reference_outside, section_end_in_text, section_outside, text_outside, too_long, unknown_reference, unspaced_declaration, whole_tag_row}
use Rattle.xml_framer.specs.Machine.{run, step}
use Rattle.xml_framer.specs.Readings.{fault_of, framed}
use Rattle.xml_framer.specs.States.{State, Turn, from_start, gathered, in_run, is_text, run_begun, token_position, turn}
use Rattle.xml_framer.specs.TagSteps.{ends_stream, is_too_deep, start_why, tag_here}
use Rattle.xml_framer.specs.declared.fault.Why.{Why}
use Rattle.xml_framer.specs.declared.fault.Why.TheVariants as why
use Rattle.xml_framer.specs.declared.limits.Limits.{Limits}
use Rattle.xml_framer.specs.declared.states.Mode.{Mode}
use Rattle.xml_framer.specs.declared.states.Mode.TheVariants as mode
use Rattle.xml_framer.specs.declared.states.Phase.TheVariants as phase

decided : (t : Turn) (b n : ℕ) (y : Why) (at : ℕ) (w : Why) → Decides t b n y → at ≡ n → w ≡ y → Decides t b at w
decided t b n y at w d at_is w_is = d ∙ (ap (λ k. fault_at k y) (sym at_is) ∙ ap (fault_at at) (sym w_is))

-- the place of a text
text_position : (s : State) → s.lexical.mode ≡ mode.Text → (in_run s).positions.token_at ≡ token_position s
text_position s text = run_position s.lexical.in_run ∙ sym (text_place s s.lexical.mode text)
  where
    run_position : (x : Bool) → (if x then s else run_begun s).positions.token_at ≡ (if not x then s.positions.at else s.positions.token_at)
    run_position true = refl
    run_position false = refl

running_position : (s : State) → s.lexical.mode ≡ mode.Text → s.lexical.in_run ≡ true → s.positions.token_at ≡ token_position s
running_position s text running = rw (text, running) refl

text_decides : (t : Turn) (b at : ℕ) (w : Why) → Takes t.state mode.Text b → TextRow t.state b at w → Decides t b at w
text_decides t b at w k (reference_outside _ _ _ _ outer is at_is w_is) =
    decided t b t.state.positions.at why.NotWellFormed at w
    (subst (λ d. Decides t d t.state.positions.at why.NotWellFormed) (sym is) (laws.reference_outside t (subst (Takes t.state mode.Text) is k) outer)) at_is w_is
text_decides t b at w k (text_outside _ _ _ _ outer less and ended other at_is w_is) =
    decided t b (in_run t.state).positions.token_at why.NotWellFormed at w (laws.text_outside_elements t b k outer less and ended other) (at_is ∙ sym (text_position t.state k.mode_is)) w_is
text_decides t b at w k (forbidden_in_text _ _ _ _ inner less and ended bad at_is w_is) =
    decided t b (in_run t.state).positions.token_at why.NotWellFormed at w (laws.forbidden t b k inner less and ended bad) (at_is ∙ sym (text_position t.state k.mode_is)) w_is
text_decides t b at w k (section_end_in_text _ _ _ _ inner is running two at_is w_is) =
    let there : Takes t.state mode.Text 62 = subst (Takes t.state mode.Text) is k in
    let none = (ascii_alone t.state.pending 62 (omega arith) there.is_text).0 in
    decided t b t.state.positions.token_at why.NotWellFormed at w
    (subst (λ d. Decides t d t.state.positions.token_at why.NotWellFormed) (sym is) (laws.brackets t there inner none running two))
    (at_is ∙ sym (running_position t.state k.mode_is running)) w_is

-- ---- tokens

module _ (t : Turn) (b : ℕ) (w : Why) where
  -- the fault of the token
  abbrev There : Type 0
  There = Decides t b t.state.positions.token_at w

  same : (y : Why) → Decides t b t.state.positions.token_at y → w ≡ y → There
  same y d w_is = decided t b t.state.positions.token_at y t.state.positions.token_at w d refl w_is

  -- at a certain byte
  at_byte : (n : ℕ) (y : Why) → b ≡ n → Decides t n t.state.positions.token_at y → w ≡ y → There
  at_byte n y is d w_is = same y (subst (λ d. Decides t d t.state.positions.token_at y) (sym is) d) w_is

  there : (m : Mode) (n : ℕ) → b ≡ n → Takes t.state m b → Takes t.state m n
  there m n is k = subst (Takes t.state m) is k

  reference_decides : Takes t.state mode.Reference b → ReferenceRow t.state b w → There
  reference_decides k (unknown_reference _ _ _ is e w_is) = at_byte 59 why.Restricted is (laws.unknown t (there mode.Reference 59 is k) e) w_is
  reference_decides k (bad_reference _ _ _ is e w_is) = at_byte 59 why.NotWellFormed is (laws.malformed_reference t (there mode.Reference 59 is k) e) w_is
  reference_decides k (departing_reference _ _ _ other e w_is) = same why.NotWellFormed (laws.reference_departs t b k other e) w_is

  bang_decides : Takes t.state mode.Bang b → BangRow t.state b w → There
  bang_decides k (departing_section _ _ _ other w_is) = same why.Restricted (laws.bang t b k other) w_is
  bang_decides k (section_outside _ _ _ is len outer w_is) =
      let last : b ≡ 91 = is ∙ ap (slice_index (codes "<![CDATA[")) len in
      at_byte 91 why.NotWellFormed last (laws.section t (there mode.Bang 91 last k) len outer) w_is

  question_decides : Takes t.state mode.Question b → QuestionRow t.state b w → There
  question_decides k (departing_declaration _ _ _ few other w_is) = same why.Restricted (laws.departs t b k few other) w_is
  question_decides k (unspaced_declaration _ _ _ most other w_is) = same why.Restricted (laws.unspaced t b k most other) w_is

  declaration_decides : Takes t.state mode.Declaration b → DeclarationRow t.state b w → There
  declaration_decides k (other_encoding _ _ _ is asked e w_is) =
      at_byte 62 why.Encoding is (laws.encoding t (there mode.Declaration 62 is k) asked (ap (λ d. declaration_of (t.state.token ++ d ∷ [])) (sym is) ∙ e)) w_is
  declaration_decides k (bad_declaration _ _ _ is asked e w_is) =
      at_byte 62 why.NotWellFormed is (laws.malformed_declaration t (there mode.Declaration 62 is k) asked (ap (λ d. declaration_of (t.state.token ++ d ∷ [])) (sym is) ∙ e)) w_is

  section_decides : Takes t.state mode.Section b → SectionRow t.state b w → There
  section_decides k (forbidden_in_section _ _ _ ended bad w_is) = same why.NotWellFormed (laws.forbidden_in_section t b k ended bad) w_is

-- a whole tag: its last byte is `>`
module _ (t : Turn) (w : Why) (h : EndsTag t.state mode.Tag) where
  abbrev At : Type 0
  At = Decides t 62 t.state.positions.token_at w

  abbrev g : State
  g = gathered t.state 62

  equal : (y : Why) → Decides t 62 t.state.positions.token_at y → w ≡ y → At
  equal y d w_is = decided t 62 t.state.positions.token_at y t.state.positions.token_at w d refl w_is

  start_decides : (e : StartWhy) → is_some t.state.here ≡ true → is_end g.token ≡ false → tag_here g ≡ Err e → w ≡ start_why g e → At
  start_decides start.Restricted inner started is w_is = equal why.Restricted (laws.restricted t inner h started is) w_is
  start_decides start.NotWellFormed inner started is w_is = equal why.NotWellFormed (laws.malformed t inner h started is) w_is
  start_decides start.TooManyAttributes inner started is w_is =
      ⊎_elim (λ (far : is_too_deep t.state ≡ true). equal why.TooDeep (laws.many_and_deep t inner h started is far) (w_is ∙ rw far refl))
      (λ (near : is_too_deep t.state ≡ false). equal why.TooManyAttributes (laws.many t inner h started is near) (w_is ∙ rw near refl)) (cases_Bool (is_too_deep t.state))
  start_decides start.LongNamespace inner started is w_is =
      ⊎_elim (λ (far : is_too_deep t.state ≡ true). equal why.TooDeep (laws.long_and_deep t inner h started is far) (w_is ∙ rw far refl))
      (λ (near : is_too_deep t.state ≡ false). equal why.LongNamespace (laws.long_name t inner h started is near) (w_is ∙ rw near refl)) (cases_Bool (is_too_deep t.state))

  top_why : (e : StartWhy) → start_why g e ≡ start_why t.state e
  top_why start.Restricted = refl
  top_why start.NotWellFormed = refl
  top_why start.TooManyAttributes = refl
  top_why start.LongNamespace = refl

  whole_decides : WholeTagRow g w → At
  whole_decides (other_end _ _ inner ended other w_is) = equal why.NotWellFormed (laws.mismatched t inner h ended other) w_is
  whole_decides (bad_start _ _ e inner started is w_is) = start_decides e inner started is w_is
  whole_decides (deep_start _ _ tag inner started is far w_is) = equal why.TooDeep (laws.deep t inner h tag started is far) w_is
  whole_decides (bad_first_header _ _ e outer p is w_is) =
      ⊎_elim (λ (first : t.state.lexical.phase ≡ phase.First). equal _ (laws.first t outer h e first is) w_is)
      (λ (declared : t.state.lexical.phase ≡ phase.FirstDeclared). equal _ (laws.first_declared t outer h e declared is) w_is) p
  whole_decides (bad_next_header _ _ e outer p named is w_is) =
      ⊎_elim (λ (between : t.state.lexical.phase ≡ phase.Between). equal _ (laws.header t outer h e between named is) w_is)
      (λ (declared : t.state.lexical.phase ≡ phase.Declared). equal _ (laws.header_after_declaration t outer h e declared named is) w_is) p
  whole_decides (bad_top _ _ e outer p other is w_is) = equal _ (laws.element t outer h e p other is) (w_is ∙ top_why e)
  whole_decides (deep_top _ _ tag outer p other is far w_is) = equal why.TooDeep (laws.top_deep t outer h tag p other is far) w_is
  whole_decides (no_header_declared _ _ outer p other w_is) = equal _ (laws.after_declaration t outer h p other) w_is
  whole_decides (after_footer _ _ outer p w_is) = equal _ (laws.behind_footer t outer h p) w_is

tag_decides : (t : Turn) (b : ℕ) (w : Why) → Takes t.state mode.Tag b → TagRow t.state b w → Decides t b t.state.positions.token_at w
tag_decides t b w k (whole_tag_row _ _ _ is quote row) =
    let there : Takes t.state mode.Tag 62 = subst (Takes t.state mode.Tag) is k in
    subst (λ d. Decides t d t.state.positions.token_at w) (sym is)
    (whole_decides t w (record { takes = there; unquoted = quote }) (subst (λ d. WholeTagRow (gathered t.state d) w) is row))

footer_decides : (t : Turn) (b : ℕ) (w : Why) → Takes t.state mode.Footer b → FooterRow t.state b w → Decides t b t.state.positions.token_at w
footer_decides t b w k (bad_footer _ _ _ is quote other w_is) =
    let there : Takes t.state mode.Footer 62 = subst (Takes t.state mode.Footer) is k in
    at_byte t b w 62 why.NotWellFormed is (laws.footer t (record { takes = there; unquoted = quote }) (subst (λ d. ends_stream (gathered t.state d) ≡ false) is other)) w_is

opening_decides : (t : Turn) (b : ℕ) (w : Why) → Takes t.state mode.Opening b → (t.state.token ≡ codes "<") × (t.state.lexical.quote ≡ None) → OpeningRow t.state b w → Decides t b t.state.positions.token_at w
opening_decides t b w k alone (no_declaration _ _ _ is may w_is) = at_byte t b w 63 why.Restricted is (laws.question t (subst (Takes t.state mode.Opening) is k) may) w_is
opening_decides t b w k alone (no_name _ _ _ is w_is) =
    at_byte t b w 62 why.NotWellFormed is (laws.without_name t (record { takes = subst (Takes t.state mode.Opening) is k; unquoted = alone.1 }) alone.0) w_is

token_decides : (m : Mode) (t : Turn) (b : ℕ) (w : Why) → Takes t.state m b → (t.state.lexical.mode ≡ mode.Opening → (t.state.token ≡ codes "<") × (t.state.lexical.quote ≡ None))
    → TokenRow m t.state b w → Decides t b t.state.positions.token_at w
token_decides mode.Text t b w k alone row = absurd row
token_decides mode.Reference t b w k alone row = reference_decides t b w k row
token_decides mode.Opening t b w k alone row = opening_decides t b w k (alone k.mode_is) row
token_decides mode.Bang t b w k alone row = bang_decides t b w k row
token_decides mode.Question t b w k alone row = question_decides t b w k row
token_decides mode.Declaration t b w k alone row = declaration_decides t b w k row
token_decides mode.Tag t b w k alone row = tag_decides t b w k row
token_decides mode.Footer t b w k alone row = footer_decides t b w k row
token_decides mode.Section t b w k alone row = section_decides t b w k row

pub row_decides : (t : Turn) (b at : ℕ) (w : Why) → (t.state.lexical.mode ≡ mode.Opening → (t.state.token ≡ codes "<") × (t.state.lexical.quote ≡ None)) → Row t.state b at w → Decides t b at w
row_decides t b at w alone (too_long _ _ _ _ none far at_is w_is) = decided t b t.state.positions.item_at why.TooLong at w (laws.long t b none far) at_is w_is
row_decides t b at w alone (no_utf8 _ _ _ _ none near bad at_is w_is) = decided t b (token_position t.state) why.Encoding at w (laws.broken t b none near bad) at_is w_is
row_decides t b at w alone (in_text_row _ _ _ _ k row) = text_decides t b at w k row
row_decides t b at w alone (in_token_row _ _ _ _ m k no_text at_is row) = decided t b t.state.positions.token_at w at w (token_decides m t b w k alone row) at_is refl

-- ---- bytes

-- the token that a `<` has begun is that byte alone
opened : (limits : Limits) (bytes : List ℕ) → (run (turn (from_start limits) []) bytes).state.fault ≡ None
    → let s = (run (turn (from_start limits) []) bytes).state in (s.lexical.mode ≡ mode.Opening → (s.token ≡ codes "<") × (s.lexical.quote ≡ None))
opened limits bytes none is =
    let s = (run (turn (from_start limits) []) bytes).state in
    let known = known_of limits bytes none in
    let k = known.token (ap is_text is) in
    let mark = subst (λ m. Mark m s k.more) is k.mark in
    let spot = subst (λ m. Spot m s.lexical.quote k.more) is k.spot in
    (mark.0, spot.1)

faults_are_rows : (limits : Limits) (bytes : List ℕ) (b at : ℕ) (w : Why) → (run (turn (from_start limits) []) bytes).state.fault ≡ None
    → ((run (turn (from_start limits) []) (bytes ++ b ∷ [])).state.fault ≡ Some (record { at = at; why = w })) ↔ Row (run (turn (from_start limits) []) bytes).state b at w
faults_are_rows limits bytes b at w none =
    let start = turn (from_start limits) [] in
    let one : run start (bytes ++ b ∷ []) ≡ step (run start bytes) b = run_append start bytes (b ∷ []) in
    let alone = opened limits bytes none in (
      λ is. decides_row (run start bytes) b at w none alone (sym (ap (λ (u : Turn). u.state.fault) one) ∙ is),
      λ row. ap (λ (u : Turn). u.state.fault) one ∙ row_decides (run start bytes) b at w alone row,
    )

pub rows_of_bytes : (limits : Limits) (bytes : List ℕ) (b at : ℕ) (w : Why) → fault_of limits bytes ≡ None
    → (fault_of limits (bytes ++ b ∷ []) ≡ Some (record { at = at; why = w })) ↔ Row (framed limits bytes).state b at w
unfolding framed
rows_of_bytes limits bytes b at w none = faults_are_rows limits bytes b at w none
