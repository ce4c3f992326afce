-- Rows that depend on what stands before a token: on bytes they are those of the state.
use Rattle.std.proofs.Common.{◌≡◌, ℕ, ◌+◌, ◌<◌, ◌^◌, ◌⊎◌, inl, inr, ⊎_elim, true, false, ◌==◌, List, [], ◌∷◌, ◌++◌, Option, Some, None, codes, length, length-append, refl, sym, ap, subst, ◌∙◌, arith, append_assoc, append-nil}
use Rattle.std.proofs.lemmas.Bool.{and_parts, cases_Bool, eqb-true, false≢true, not-true, true≢false}
use Rattle.std.proofs.lemmas.Slice.Eq.{bytes_eq-Decides}
use Rattle.std.specs.Option.{is_some}
use Rattle.std.specs.Prelude.{slice_index}
use Rattle.xml_tokens.specs.Tags.{IsEndTag, is_empty, is_end}
use Rattle.xml_tokens.specs.Utf8.{continues, ends_character, ends_forbidden_character}
use Rattle.xml_names.proofs.EndLaws.{end_tags_are_read}
use Rattle.xml_names.specs.Ends.{end_of}
use Rattle.xml_framer.specs.Machine.{is_too_long, step}
use Rattle.xml_framer.specs.Readings.{fault_of, framed}
use Rattle.xml_framer.specs.States.{OpenElement, State, Turn, gathered, is_text}
use Rattle.xml_framer.specs.TagSteps.{ends_stream, is_name_of}
use Rattle.xml_framer.specs.declared.fault.Why.{Why}
use Rattle.xml_framer.specs.declared.items.Item.{Item}
use Rattle.xml_framer.specs.declared.limits.Limits.{Limits}
use Rattle.xml_framer.specs.declared.states.Mode.{Mode}
use Rattle.xml_framer.specs.declared.states.Mode.TheVariants as mode
use Rattle.xml_framer.specs.declared.states.Phase.TheVariants as phase
use Rattle.law_xml.proofs.ByteRowLaws.{pending_is, thirty, unbroken}
use Rattle.law_xml.proofs.ContextRuns.{context_is}
use Rattle.law_xml.proofs.ContextStays.{at, at_more, markup_along, markup_same, none_before, text_same}
use Rattle.law_xml.proofs.ContextsTold.{context_in, context_of}
use Rattle.law_xml.proofs.FooterHands.{IsFooter, footer_begins, footer_more}
use Rattle.law_xml.proofs.OneHand.{markup_held, text_read}
use Rattle.law_xml.proofs.OneOffset.{heads}
use Rattle.law_xml.proofs.PrefixRuns.{known_first}
use Rattle.law_xml.proofs.ReadCharacters.{ascii_alone}
use Rattle.law_xml.proofs.ReadOutside.{footer_tag, is_phase}
use Rattle.law_xml.proofs.ReadSoFar.{BeginsNoEnd, Hand, Read}
use Rattle.law_xml.proofs.RowsDecide.{rows_of_bytes}
use Rattle.law_xml.proofs.TagByteRows.{admits_is, from_outside, inside, outside, to_whole}
use Rattle.law_xml.specs.ByteRows.{EndInMarkup}
use Rattle.law_xml.specs.Contexts.{Context, HasContext}
use Rattle.law_xml.specs.Hands.{AreKept, IsHolding, IsReading, brackets_last}
use Rattle.law_xml.specs.Offsets.{AreBefore, AreTokens, IsOpen, character_left, first_of, leads_tag, open_section, open_tag, opening_section}
use Rattle.law_xml.specs.OpenRows.{EndInTag, EndInText, OpenRow, OpeningByteRow, TagByteRow, TextByteRow, admits, after_end, after_less, after_tag, after_text, forbidden_character, in_section, nameless, stray_character, stray_question, stray_reference, stray_section, stray_section_end}
use Rattle.law_xml.specs.Rows.{Row, TextRow, TokenRow, bad_footer, forbidden_in_section, forbidden_in_text, in_text_row, in_token_row, no_declaration, no_name, reference_outside, section_end_in_text, section_outside, text_outside, whole_tag_row}
use Rattle.law_xml.specs.Streams.{position_of}
use Rattle.law_xml.proofs.OffsetMarks.{some_none}

pub text_mode : (m : Mode) → is_text m ≡ true → m ≡ mode.Text
text_mode mode.Text e = refl
text_mode mode.Reference e = absurd (false≢true e)
text_mode mode.Opening e = absurd (false≢true e)
text_mode mode.Bang e = absurd (false≢true e)
text_mode mode.Question e = absurd (false≢true e)
text_mode mode.Declaration e = absurd (false≢true e)
text_mode mode.Tag e = absurd (false≢true e)
text_mode mode.Footer e = absurd (false≢true e)
text_mode mode.Section e = absurd (false≢true e)

-- ---- the kind of a token

-- where no more than the `<` is there
opening_kind : (m : Mode) (s : State) → is_text m ≡ false → first_of m ≡ 60 → AreKept m s [] → m ≡ mode.Opening
opening_kind mode.Text s no_text e k = absurd (false≢true (sym no_text))
opening_kind mode.Reference s no_text e k = absurd (thirty e)
opening_kind mode.Opening s no_text e k = refl
opening_kind mode.Bang s no_text e k = absurd (true≢false k.3)
opening_kind mode.Question s no_text e k = absurd (true≢false k.3)
opening_kind mode.Declaration s no_text e k = absurd (some_none 63 (codes "xml" ++ k.1 ∷ k.2) (sym k.3))
opening_kind mode.Tag s no_text e k = absurd (true≢false k.4)
opening_kind mode.Footer s no_text e k = absurd (false≢true k.3)
opening_kind mode.Section s no_text e k = absurd (some_none 33 (codes "[CDATA[" ++ k.0) (sym k.1))

-- a tag, or an end tag outside elements
abbrev IsTagMode : Mode → State → List ℕ → Type 0
IsTagMode m s more = ((m ≡ mode.Tag) × (s.token ≡ 60 ∷ more)) ⊎ ((m ≡ mode.Footer) × (is_end (60 ∷ more) ≡ true))

tag_kind : (m : Mode) (s : State) (more : List ℕ) → is_empty more ≡ false → leads_tag more ≡ true → is_text m ≡ false → first_of m ≡ 60 → AreKept m s more → IsTagMode m s more
tag_kind mode.Text s more some leads no_text e k = absurd (false≢true (sym no_text))
tag_kind mode.Reference s more some leads no_text e k = absurd (thirty e)
tag_kind mode.Opening s more some leads no_text e k = absurd (true≢false (ap is_empty (sym k.1) ∙ some))
tag_kind mode.Bang s more some leads no_text e k = absurd (false≢true (sym k.3 ∙ leads))
tag_kind mode.Question s more some leads no_text e k = absurd (false≢true (sym k.3 ∙ leads))
tag_kind mode.Declaration s more some leads no_text e k = absurd (false≢true (ap leads_tag (sym k.3) ∙ leads))
tag_kind mode.Tag s more some leads no_text e k = inl (refl, k.0)
tag_kind mode.Footer s more some leads no_text e k = inr (refl, k.3)
tag_kind mode.Section s more some leads no_text e k = absurd (false≢true (ap leads_tag (sym k.1) ∙ leads))

-- all but the last byte of `<![CDATA[`
bang_kind : (m : Mode) (s : State) → is_text m ≡ false → first_of m ≡ 60 → AreKept m s (codes "![CDATA") → (m ≡ mode.Bang) × (s.token ≡ codes "<![CDATA")
bang_kind mode.Text s no_text e k = absurd (false≢true (sym no_text))
bang_kind mode.Reference s no_text e k = absurd (thirty e)
bang_kind mode.Opening s no_text e k = absurd (some_none 33 (codes "[CDATA") k.1)
bang_kind mode.Bang s no_text e k = (refl, k.0)
bang_kind mode.Question s no_text e k = absurd (let same = heads 63 33 (codes "xml") (codes "[CDATA" ++ k.1) k.2 in omega (arith, same))
bang_kind mode.Declaration s no_text e k = absurd (let same = heads 33 63 (codes "[CDATA") (codes "xml" ++ k.1 ∷ k.2) k.3 in omega (arith, same))
bang_kind mode.Tag s no_text e k = absurd (false≢true k.1)
bang_kind mode.Footer s no_text e k = absurd (false≢true k.0)
bang_kind mode.Section s no_text e k = absurd (longer (ap length k.1) (length-append (codes "![CDATA[") k.0))
  where
    longer : 7 ≡ length (codes "![CDATA[" ++ k.0) → length (codes "![CDATA[" ++ k.0) ≡ 8 + length k.0 → ⊥
    longer e f = omega (arith, e, f)

section_kind : (m : Mode) (s : State) (inside : List ℕ) → is_text m ≡ false → first_of m ≡ 60 → AreKept m s (codes "![CDATA[" ++ inside) → m ≡ mode.Section
section_kind mode.Text s inside no_text e k = absurd (false≢true (sym no_text))
section_kind mode.Reference s inside no_text e k = absurd (thirty e)
section_kind mode.Opening s inside no_text e k = absurd (some_none 33 (codes "[CDATA[" ++ inside) k.1)
section_kind mode.Bang s inside no_text e k = let short = k.4 in let n = length-append (codes "![CDATA[") inside in absurd (omega (arith, short, n))
section_kind mode.Question s inside no_text e k = absurd (let same = heads 63 33 (codes "xml") ((codes "[CDATA[" ++ inside) ++ k.1) k.2 in omega (arith, same))
section_kind mode.Declaration s inside no_text e k = absurd (let same = heads 33 63 (codes "[CDATA[" ++ inside) (codes "xml" ++ k.1 ∷ k.2) k.3 in omega (arith, same))
section_kind mode.Tag s inside no_text e k = absurd (false≢true k.1)
section_kind mode.Footer s inside no_text e k = absurd (false≢true k.0)
section_kind mode.Section s inside no_text e k = refl

-- ---- what the stream so far says of a tag

-- a tag outside elements is no end tag
pub tag_begins : (o : Option OpenElement) (m : Mode) (s : State) (used : ℕ) (items : List Item) (bytes : List ℕ) → Hand o m s used items bytes → m ≡ mode.Tag → is_some o ≡ false → BeginsNoEnd s.token
tag_begins (Some o) m s used items bytes h is outer = absurd (true≢false outer)
tag_begins None m s used items bytes h is outer = (subst (λ n. Hand None n s used items bytes) is h).1.0

-- no footer stands in an element
pub footer_outside : (o : Option OpenElement) (m : Mode) (s : State) (used : ℕ) (items : List Item) (bytes : List ℕ) → Hand o m s used items bytes → m ≡ mode.Footer → is_some o ≡ false
footer_outside None m s used items bytes h is = refl
footer_outside (Some o) m s used items bytes h is = absurd (subst (λ n. Hand (Some o) n s used items bytes) is h).2

module _ (limits : Limits) (few_bytes : limits.bytes < 2 ^ 64) (few : limits.attributes < 2 ^ 32) (short : limits.namespace_bytes < 2 ^ 32) where
  pub read_at : (bytes : List ℕ) → fault_of limits bytes ≡ None → Read limits (framed limits bytes) bytes
  unfolding framed
  read_at bytes none = (known_first limits bytes few short none).read

  front_none : (bytes front rest : List ℕ) → bytes ≡ front ++ rest → fault_of limits bytes ≡ None → fault_of limits front ≡ None
  unfolding framed
  front_none bytes front rest is none = none_before limits front rest (ap (λ l. (at limits l).state.fault) (sym is) ∙ none)

  abbrev state_at : List ℕ → State
  state_at bytes = (framed limits bytes).state

  -- between tokens the bytes have the state's context
  context_before : (before : List ℕ) → fault_of limits before ≡ None → AreBefore before → HasContext limits (context_of (state_at before)) before
  context_before before none ahead =
      let s = state_at before in
      let r = text_read limits before ahead.front ahead.text none ahead.tokens ahead.is_run ahead.before_is in
      let text = text_mode s.lexical.mode r.text_mode in
      let read = read_at before none in
      let same = read.kept.limits_are in
      let hand = subst (λ m. Hand s.here m s s.positions.used (framed limits before).items before) text read.hand in
      subst (λ l. HasContext l (context_of s) before) same (context_in s.here s s.positions.used (framed limits before).items before (subst (λ (l : Limits). l.bytes < 2 ^ 64) (sym same) few_bytes) (r.held ∙ ahead.whole) hand)

  context_told : (c : Context) (before : List ℕ) → HasContext limits c before → context_of (state_at before) ≡ c
  unfolding framed
  context_told c before h = context_is limits c before h

  ahead_of : (before : List ℕ) → AreTokens before → AreBefore before
  ahead_of before tokens = record { front = before; text = []; tokens = tokens; is_run = refl; whole = refl; before_is = sym (append-nil before) }

  -- ---- the context of the token in hand

  module _ (bytes : List ℕ) (none : fault_of limits bytes ≡ None) where
    abbrev s : State
    s = state_at bytes

    markup_stays : (before more : List ℕ) → EndInMarkup bytes before more → IsOpen more → context_of s ≡ context_of (state_at before)
    unfolding framed
    markup_stays before more e opens =
        ap (λ l. context_of (at limits l).state) e.bytes_are ∙ markup_same limits before more (ap (λ l. (at limits l).state.fault) (sym e.bytes_are) ∙ none) e.ahead opens

    text_stays : (before text : List ℕ) → EndInText bytes before text → context_of s ≡ context_of (state_at before)
    unfolding framed
    text_stays before text e =
        ap (λ l. context_of (at limits l).state) e.bytes_are ∙ text_same limits before text (ap (λ l. (at limits l).state.fault) (sym e.bytes_are) ∙ none) e.tokens e.is_run

    pub markup_context : (before more : List ℕ) → EndInMarkup bytes before more → IsOpen more → HasContext limits (context_of s) before
    markup_context before more e opens =
        subst (λ c. HasContext limits c before) (sym (markup_stays before more e opens)) (context_before before (front_none bytes before (60 ∷ more) e.bytes_are none) e.ahead)

    pub text_context : (before text : List ℕ) → EndInText bytes before text → HasContext limits (context_of s) before
    text_context before text e =
        subst (λ c. HasContext limits c before) (sym (text_stays before text e)) (context_before before (front_none bytes before text e.bytes_are none) (ahead_of before e.tokens))

    in_markup : (c : Context) (before more : List ℕ) → EndInMarkup bytes before more → IsOpen more → HasContext limits c before → context_of s ≡ c
    in_markup c before more e opens h = markup_stays before more e opens ∙ context_told c before h

    in_text : (c : Context) (before text : List ℕ) → EndInText bytes before text → HasContext limits c before → context_of s ≡ c
    in_text c before text e h = text_stays before text e ∙ context_told c before h

    pub limits_are : s.limits ≡ limits
    limits_are = (read_at bytes none).kept.limits_are

    holds : (before more : List ℕ) → EndInMarkup bytes before more → IsOpen more → IsHolding s 60 before more
    holds before more e opens = markup_held limits bytes before more none e.ahead opens e.bytes_are

    pub reads : (before text : List ℕ) → EndInText bytes before text → IsReading s before text
    reads before text e = text_read limits bytes before text none e.tokens e.is_run e.bytes_are

    tag_open : (before more : List ℕ) → EndInTag bytes before more → IsOpen more
    tag_open before more e = open_tag more e.leads e.not_ended

    -- ---- a row on bytes is one of the state

    module _ (b at_offset : ℕ) (w : Why) where
      abbrev Decided : Type 0
      Decided = fault_of limits (bytes ++ b ∷ []) ≡ Some (record { at = at_offset; why = w })

      decided : Row s b at_offset w → Decided
      decided row = (rows_of_bytes limits bytes b at_offset w none).1 row

      in_token : (m : Mode) (before more : List ℕ) → is_too_long s b ≡ false → continues (character_left [] bytes) b ≡ true → (h : IsHolding s 60 before more) → s.lexical.mode ≡ m → at_offset ≡ position_of (length before)
          → TokenRow m s b w → Decided
      in_token m before more brief good h is position row =
          decided
          (in_token_row s b at_offset w m (record { no_fault = none; mode_is = is; short = brief; is_text = unbroken limits bytes b at_offset w none good }) (ap is_text (sym is) ∙ h.no_text)
          (position ∙ sym h.at_is) row)

      in_text_mode : is_too_long s b ≡ false → continues (character_left [] bytes) b ≡ true → is_text s.lexical.mode ≡ true → TextRow s b at_offset w → Decided
      in_text_mode brief good text row =
          decided (in_text_row s b at_offset w (record { no_fault = none; mode_is = text_mode s.lexical.mode text; short = brief; is_text = unbroken limits bytes b at_offset w none good }) row)

      -- ---- texts

      to_text : (before text : List ℕ) (c : Context) → EndInText bytes before text → context_of s ≡ c → continues (character_left [] bytes) b ≡ true → at_offset ≡ position_of (length before)
          → TextByteRow c (character_left [] bytes) text b w → TextRow s b at_offset w
      to_text before text c e same good position (stray_character _ _ _ _ _ opens less and ended white w_is) =
          text_outside s b at_offset w (outside s (ap (λ (d : Context). d.opens) same ∙ opens)) less and (ap (λ l. ends_character l b) (pending_is limits bytes none) ∙ ended) white (position ∙ sym (reads before text e).at_is) w_is
      to_text before text c e same good position (forbidden_character _ _ _ _ _ opens less and ended bad w_is) =
          forbidden_in_text s b at_offset w (inside s (λ f. opens (ap (λ (d : Context). d.opens) (sym same) ∙ f))) less and (ap (λ l. ends_character l b) (pending_is limits bytes none) ∙ ended)
          (ap (λ l. ends_forbidden_character l b) (pending_is limits bytes none) ∙ bad) (position ∙ sym (reads before text e).at_is) w_is
      to_text before text c e same good position (stray_section_end _ _ _ _ _ opens is two w_is) =
          let r = reads before text e in
          let inner = inside s (λ f. opens (ap (λ (d : Context). d.opens) (sym same) ∙ f)) in
          let empty = (ascii_alone s.pending b (omega (arith, is)) (unbroken limits bytes b at_offset w none good)).0 in
          ⊎_elim
          (λ (on : s.lexical.in_run ≡ true). section_end_in_text s b at_offset w inner is on (r.counts inner empty on ∙ two) (position ∙ sym r.at_is) w_is)
          (λ (off : s.lexical.in_run ≡ false). let few_of : ◌≡◌ {A = ℕ} 0 2 = ap (brackets_last 0) (sym (r.none_begun off)) ∙ two in absurd (omega (arith, few_of)))
          (cases_Bool s.lexical.in_run)

      -- ---- the footer

      slash_first : (more : List ℕ) → is_end (60 ∷ more) ≡ true → (rest : List ℕ) × (more ≡ 47 ∷ rest)
      slash_first [] e = absurd (false≢true e)
      slash_first (x ∷ rest) e = (rest, ap (λ d. d ∷ rest) (eqb-true x 47 (and_parts (60 == 60) (x == 47) e).1))

      -- as a state has an end tag outside elements
      footer_there : (c : Context) (before more : List ℕ) → EndInMarkup bytes before more → IsOpen more → HasContext limits c before → c.opens ≡ [] → is_end (60 ∷ more) ≡ true → IsFooter s (60 ∷ more)
      unfolding framed
      footer_there c before more e opens h none_open ends =
          let r = slash_first more ends in
          let rest = r.0 in
          let all : bytes ≡ before ++ 60 ∷ ((47 ∷ []) ++ rest) = e.bytes_are ∙ ap (λ l. before ++ 60 ∷ l) r.1 in
          let bounded : (at limits (before ++ 60 ∷ ((47 ∷ []) ++ rest))).state.fault ≡ None = ap (λ l. (at limits l).state.fault) (sym all) ∙ none in
          let bounded_two : (at limits (before ++ 60 ∷ 47 ∷ [])).state.fault ≡ None =
          none_before limits (before ++ 60 ∷ 47 ∷ []) rest (ap (λ l. (at limits l).state.fault) (append_assoc before (60 ∷ 47 ∷ []) rest) ∙ bounded) in
          let bounded_one : (at limits (before ++ 60 ∷ [])).state.fault ≡ None =
          none_before limits (before ++ 60 ∷ []) (47 ∷ []) (ap (λ l. (at limits l).state.fault) (append_assoc before (60 ∷ []) (47 ∷ [])) ∙ bounded_two) in
          let alone = markup_held limits (before ++ 60 ∷ []) before [] bounded_one e.ahead (open_tag [] refl refl) refl in
          let u = at limits (before ++ 60 ∷ []) in
          let opening = opening_kind u.state.lexical.mode u.state alone.no_text alone.first_is alone.kept in
          let token : u.state.token ≡ 60 ∷ [] = (subst (λ m. AreKept m u.state []) opening alone.kept).0 in
          let same : context_of u.state ≡ c = markup_same limits before [] bounded_one e.ahead (open_tag [] refl refl) ∙ context_is limits c before h in
          let outer = outside u.state (ap (λ (d : Context). d.opens) same ∙ none_open) in
          let two : at limits (before ++ 60 ∷ 47 ∷ []) ≡ step u 47 = ap (at limits) (sym (append_assoc before (60 ∷ []) (47 ∷ []))) ∙ at_more limits (before ++ 60 ∷ []) 47 in
          let begun = footer_begins u opening outer token (ap (λ (v : Turn). v.state.fault) (sym two) ∙ bounded_two) in
          let start = subst (λ (v : Turn). IsFooter v.state (60 ∷ 47 ∷ [])) (sym two) begun in
          let open_all : IsOpen ((47 ∷ []) ++ rest) = subst IsOpen r.1 opens in
          let last =
          markup_along limits before (λ p v. IsFooter v.state (60 ∷ p)) (λ p d v k ok goes_on. footer_more v d (60 ∷ p) k ok goes_on) e.ahead (47 ∷ []) rest bounded open_all start in
          subst (λ l. IsFooter (at limits l).state (60 ∷ more)) (sym all) (subst (λ l. IsFooter (at limits (before ++ 60 ∷ ((47 ∷ []) ++ rest))).state (60 ∷ l)) (sym r.1) last)

      end_named : (token name : List ℕ) (r : Option (List ℕ)) → end_of token ≡ r → is_name_of r name ≡ true → IsEndTag token name
      end_named token name None is e = absurd (false≢true e)
      end_named token name (Some n) is e = subst (IsEndTag token) ((bytes_eq-Decides n name).0 e) ((end_tags_are_read token n).0 is)

      -- what ends the stream is the footer
      footer_is : (more : List ℕ) → IsFooter s (60 ∷ more) → b ≡ 62 → ends_stream (gathered s b) ≡ true → (s.lexical.phase ≡ phase.Between) × IsEndTag (60 ∷ (more ++ b ∷ [])) s.name
      footer_is more f is e =
          let p = and_parts _ _ e in
          let q = and_parts _ _ p.1 in
          let hand = f.1 (not-true s.lexical.spoiled p.0) in
          let tag = footer_tag s.token hand.white s.name b is hand.is_white (end_named (s.token ++ b ∷ []) s.name (end_of (s.token ++ b ∷ [])) refl q.1) in
          let whole : s.token ++ (hand.white ++ b ∷ []) ≡ 60 ∷ (more ++ b ∷ []) = sym (append_assoc s.token hand.white (b ∷ [])) ∙ ap (λ l. l ++ b ∷ []) (sym hand.hand_is) in
          (is_phase s.lexical.phase q.0, subst (λ l. IsEndTag l s.name) whole tag)

      -- ---- each row decides

      pub open_decides : is_too_long s b ≡ false → OpenRow limits bytes b at_offset w → Decided
      open_decides brief (stray_reference _ _ _ _ _ c before text good e h opens is position w_is) =
          in_text_mode brief good (reads before text e).text_mode
          (reference_outside s b at_offset w (outside s (ap (λ (d : Context). d.opens) (in_text c before text e h) ∙ opens)) is (position ∙ sym (read_at bytes none).kept.at_is) w_is)
      open_decides brief (after_text _ _ _ _ _ c before text good e h position row) =
          in_text_mode brief good (reads before text e).text_mode (to_text before text c e (in_text c before text e h) good position row)
      open_decides brief (after_less _ _ _ _ _ c before good e h position row) =
          let alone = open_tag [] refl refl in
          let hold = holds before [] e alone in
          let kind = opening_kind s.lexical.mode s hold.no_text hold.first_is hold.kept in
          in_token mode.Opening before [] brief good hold kind position (opening row)
        where
          opening : OpeningByteRow c b w → TokenRow mode.Opening s b w
          opening (stray_question _ _ _ is none_due w_is) = no_declaration s b w is (sym (admits_is s) ∙ ap admits (in_markup c before [] e (open_tag [] refl refl) h) ∙ none_due) w_is
          opening (nameless _ _ _ is w_is) = no_name s b w is w_is
      open_decides brief (stray_section _ _ _ _ _ c before good e h opens is position w_is) =
          let part = opening_section (codes "![CDATA") (codes "[") refl in
          let hold = holds before (codes "![CDATA") e part in
          let kind = bang_kind s.lexical.mode s hold.no_text hold.first_is hold.kept in
          let due : b ≡ slice_index (codes "<![CDATA[") (length s.token) = is ∙ ap (λ l. slice_index (codes "<![CDATA[") (length l)) (sym kind.1) in
          in_token mode.Bang before (codes "![CDATA") brief good hold kind.0 position
          (section_outside s b w due (ap length kind.1) (outside s (ap (λ (d : Context). d.opens) (in_markup c before (codes "![CDATA") e part h) ∙ opens)) w_is)
      open_decides brief (in_section _ _ _ _ _ before inner good e position ended bad w_is) =
          let part = open_section (codes "![CDATA[" ++ inner) inner refl e.no_end in
          let hold = holds before (codes "![CDATA[" ++ inner) e.markup part in
          let kind = section_kind s.lexical.mode s inner hold.no_text hold.first_is hold.kept in
          in_token mode.Section before (codes "![CDATA[" ++ inner) brief good hold kind position
          (forbidden_in_section s b w (ap (λ l. ends_character l b) (pending_is limits bytes none) ∙ ended) (ap (λ l. ends_forbidden_character l b) (pending_is limits bytes none) ∙ bad) w_is)
      open_decides brief (after_tag _ _ _ _ _ c before more good e h no_end is position row) =
          let hold = holds before more e.markup (tag_open before more e) in
          let same = in_markup c before more e.markup (tag_open before more e) h in
          ⊎_elim
          (λ (k : (s.lexical.mode ≡ mode.Tag) × (s.token ≡ 60 ∷ more)).
          let kept = subst (λ m. AreKept m s more) k.0 hold.kept in
          let token : 60 ∷ (more ++ b ∷ []) ≡ s.token ++ b ∷ [] = ap (λ l. l ++ b ∷ []) (sym k.1) in
          let there : TagByteRow s.limits (context_of s) (s.token ++ b ∷ []) w =
          subst (λ l. TagByteRow l (context_of s) (s.token ++ b ∷ []) w) (sym limits_are) (subst (λ d. TagByteRow limits d (s.token ++ b ∷ []) w) (sym same) (subst (λ l. TagByteRow limits c l w) token row)) in
          in_token mode.Tag before more brief good hold k.0 position (whole_tag_row s b w is (kept.3 ∙ e.unquoted) (to_whole s b w there)))
          (λ (k : (s.lexical.mode ≡ mode.Footer) × (is_end (60 ∷ more) ≡ true)).
          let outer = footer_outside s.here s.lexical.mode s s.positions.used (framed limits bytes).items bytes (read_at bytes none).hand k.0 in
          let none_open = ap (λ (d : Context). d.opens) (sym same) ∙ from_outside s outer in absurd (false≢true (sym (no_end none_open) ∙ k.1)))
          (tag_kind s.lexical.mode s more e.some e.leads hold.no_text hold.first_is hold.kept)
      open_decides brief (after_end _ _ _ _ _ c before more good e h opens ends is position other w_is) =
          let hold = holds before more e.markup (tag_open before more e) in
          let same = in_markup c before more e.markup (tag_open before more e) h in
          let outer = outside s (ap (λ (d : Context). d.opens) same ∙ opens) in
          ⊎_elim
          (λ (k : (s.lexical.mode ≡ mode.Tag) × (s.token ≡ 60 ∷ more)).
          let begins = tag_begins s.here s.lexical.mode s s.positions.used (framed limits bytes).items bytes (read_at bytes none).hand k.0 outer in
          absurd (false≢true (sym begins.1 ∙ ap is_end k.1 ∙ ends)))
          (λ (k : (s.lexical.mode ≡ mode.Footer) × (is_end (60 ∷ more) ≡ true)).
          let kept = subst (λ m. AreKept m s more) k.0 hold.kept in
          let f = footer_there c before more e.markup (tag_open before more e) h opens ends in
          ⊎_elim
          (λ (ended : ends_stream (gathered s b) ≡ true).
          let r = footer_is more f is ended in
          absurd (other (ap (λ (d : Context). d.phase) (sym same) ∙ r.0, subst (IsEndTag (60 ∷ (more ++ b ∷ []))) (ap (λ (d : Context). d.name) same) r.1)))
          (λ (goes_on : ends_stream (gathered s b) ≡ false). in_token mode.Footer before more brief good hold k.0 position (bad_footer s b w is (kept.2 ∙ e.unquoted) goes_on w_is))
          (cases_Bool (ends_stream (gathered s b))))
          (tag_kind s.lexical.mode s more e.some e.leads hold.no_text hold.first_is hold.kept)
