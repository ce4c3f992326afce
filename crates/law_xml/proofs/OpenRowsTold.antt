-- Each fault but `TooLong` has a row on bytes.
use Rattle.std.proofs.Common.{◌≡◌, ◌≢◌, ℕ, ◌<◌, ◌^◌, ◌⊎◌, inl, inr, ⊎_elim, true, false, List, [], ◌∷◌, ◌++◌, Some, None, codes, length, length-append, take, refl, sym, ap, subst, ◌∙◌, arith, append_assoc, append-nil}
use Rattle.std.proofs.Math.Seq.{take-append_seam}
use Rattle.std.proofs.lemmas.Bool.{cases_Bool, false≢true, true≢false}
use Rattle.std.specs.Option.{is_some}
use Rattle.std.specs.Prelude.{slice_index}
use Rattle.xml_tokens.specs.Tags.{IsEndTag, is_empty, is_end}
use Rattle.xml_tokens.specs.Utf8.{continues, ends_character, ends_forbidden_character}
use Rattle.xml_framer.specs.Machine.{is_too_long, run}
use Rattle.xml_framer.specs.Readings.{fault_of, framed}
use Rattle.xml_framer.specs.States.{State, Turn, from_start, is_text, turn}
use Rattle.xml_framer.specs.declared.fault.Why.{Why}
use Rattle.xml_framer.specs.declared.fault.Why.TheVariants as why
use Rattle.xml_framer.specs.declared.items.Item.TheVariants as item
use Rattle.xml_framer.specs.declared.limits.Limits.{Limits}
use Rattle.xml_framer.specs.declared.states.Mode.{Mode}
use Rattle.xml_framer.specs.declared.states.Mode.TheVariants as mode
use Rattle.xml_framer.specs.declared.states.Phase.TheVariants as phase
use Rattle.law_xml.proofs.ByteRowLaws.{broken_told, declaration_told, pending_is, question_told, reference_told}
use Rattle.law_xml.proofs.ContextRuns.{stands_there}
use Rattle.law_xml.proofs.ContextsTold.{context_of}
use Rattle.law_xml.proofs.ElementStates.{then_run}
use Rattle.law_xml.proofs.HandsTold.{none_told, run_told, token_told}
use Rattle.law_xml.proofs.ItemRuns.{footer_gives}
use Rattle.law_xml.proofs.OpenRowLaws.{footer_outside, limits_are, markup_context, read_at, reads, tag_begins, text_context}
use Rattle.law_xml.proofs.ReadCharacters.{ascii_alone}
use Rattle.law_xml.proofs.RowsDecide.{rows_of_bytes}
use Rattle.law_xml.proofs.TagByteRows.{admits_is, from_inside, from_outside, of_whole, outside}
use Rattle.law_xml.specs.ByteRows.{ByteRow, EndInMarkup, OpensDeclaration, OpensSection, after_bang, no_section}
use Rattle.law_xml.specs.Contexts.{HasContext}
use Rattle.law_xml.specs.FaultRows.{Takes}
use Rattle.law_xml.specs.Hands.{AreKept}
use Rattle.law_xml.specs.Offsets.{AreBefore, character_left, first_of, is_open_tag, leads_tag, open_tag, opening_section}
use Rattle.law_xml.specs.OpenRows.{EndInTag, EndInText, OpenRow, TagByteRow, after_end, after_less, after_tag, after_text, forbidden_character, in_section, nameless, stray_character, stray_question, stray_reference, stray_section, stray_section_end}
use Rattle.law_xml.specs.Rows.{DeclarationRow, FooterRow, QuestionRow, ReferenceRow, Row, TagRow, TextRow, TokenRow, bad_declaration, bad_footer, bad_reference, departing_declaration, departing_reference, departing_section, forbidden_in_section, forbidden_in_text, in_text_row, in_token_row, no_declaration, no_name, no_utf8, other_encoding, reference_outside, section_end_in_text, section_outside, text_outside, too_long, unknown_reference, unspaced_declaration, whole_tag_row}
use Rattle.law_xml.specs.Standing.{StandsOutside}
use Rattle.law_xml.specs.Streams.{position_of}
use Rattle.law_xml.proofs.OffsetSteps.{none_some as some_fault}
use Rattle.law_xml.proofs.OneOffset.{heads}

encoding_short : why.Encoding ≢ why.TooLong
encoding_short e = cc

restricted_short : why.Restricted ≢ why.TooLong
restricted_short e = cc

malformed_short : why.NotWellFormed ≢ why.TooLong
malformed_short e = cc

opens_section : (more rest : List ℕ) → codes "![CDATA[" ≡ more ++ rest → leads_tag more ≡ false → length more < 8 → OpensSection more
opens_section [] rest due lead few = absurd (true≢false lead)
opens_section (x ∷ xs) [] due lead few = let all : 8 ≡ length ((x ∷ xs) ++ []) = ap length due in let n = length-append (x ∷ xs) [] in absurd (omega (arith, all, n, few))
opens_section (x ∷ xs) (y ∷ ys) due lead few = record { following = xs; more_is = ap (λ d. d ∷ xs) (sym (heads 33 x (codes "[CDATA[") (xs ++ y ∷ ys) due)); next = y; rest = ys; due = due }

opens_declaration : (more rest : List ℕ) → codes "?xml" ≡ more ++ rest → leads_tag more ≡ false → OpensDeclaration more
opens_declaration [] rest due lead = absurd (true≢false lead)
opens_declaration (x ∷ xs) rest due lead = record { following = xs; more_is = ap (λ d. d ∷ xs) (sym (heads 63 x (codes "xml") (xs ++ rest) due)); rest = rest; due = due }

-- all but the last byte of `<![CDATA[`
whole_opening : (more rest : List ℕ) → codes "![CDATA[" ≡ more ++ rest → length more ≡ 7 → more ≡ codes "![CDATA"
whole_opening more rest due seven = sym (take-append_seam more rest) ∙ ap (λ n. take n (more ++ rest)) seven ∙ ap (take 7) (sym due)

-- a token is in hand
record IsInHand (s : State) (bytes : List ℕ) (b offset : ℕ) (m : Mode) (before more : List ℕ) : Type 0 where
  mode_is : s.lexical.mode ≡ m
  bytes_are : bytes ≡ before ++ first_of m ∷ more
  ahead : AreBefore before
  kept : AreKept m s more
  position : offset ≡ position_of (length before)
  good : continues (character_left [] bytes) b ≡ true

module _ (limits : Limits) (few_bytes : limits.bytes < 2 ^ 64) (few : limits.attributes < 2 ^ 32) (short : limits.namespace_bytes < 2 ^ 32) (bytes : List ℕ) (none : fault_of limits bytes ≡ None) where
  abbrev s : State
  s = (framed limits bytes).state

  -- the text in hand, or none
  text_in_hand : is_text s.lexical.mode ≡ true → (before : List ℕ) × (text : List ℕ) × EndInText bytes before text
  text_in_hand text_there =
      ⊎_elim (λ (on : s.lexical.in_run ≡ true). let k = run_told limits bytes none text_there on in (k.before, k.text, record { tokens = k.ahead; is_run = k.is_run; bytes_are = k.bytes_are }))
      (λ (off : s.lexical.in_run ≡ false). let k = none_told limits bytes none text_there off in (bytes, [], record { tokens = k.tokens; is_run = refl; bytes_are = sym (append-nil bytes) })) (cases_Bool s.lexical.in_run)

  module _ (b offset : ℕ) (w : Why) where
    abbrev Told : Type 0
    Told = ByteRow bytes b offset w ⊎ OpenRow limits bytes b offset w

    abbrev Decided : Type 0
    Decided = fault_of limits (bytes ++ b ∷ []) ≡ Some (record { at = offset; why = w })

    good_there : continues s.pending b ≡ true → continues (character_left [] bytes) b ≡ true
    good_there good = ap (λ l. continues l b) (sym (pending_is limits bytes none)) ∙ good

    ends_there : ends_character s.pending b ≡ true → ends_character (character_left [] bytes) b ≡ true
    ends_there e = ap (λ l. ends_character l b) (sym (pending_is limits bytes none)) ∙ e

    forbidden_there : ends_forbidden_character s.pending b ≡ true → ends_forbidden_character (character_left [] bytes) b ≡ true
    forbidden_there e = ap (λ l. ends_forbidden_character l b) (sym (pending_is limits bytes none)) ∙ e

    text_told : continues s.pending b ≡ true → is_text s.lexical.mode ≡ true → TextRow s b offset w → OpenRow limits bytes b offset w
    text_told good text_there row =
        let h = text_in_hand text_there in by_row h.0 h.1 h.2 (text_context limits few_bytes few short bytes none h.0 h.1 h.2) row
      where
        by_row : (before text : List ℕ) → EndInText bytes before text → HasContext limits (context_of s) before → TextRow s b offset w → OpenRow limits bytes b offset w
        by_row before text e c (reference_outside _ _ _ _ outer is at_is w_is) =
            stray_reference limits bytes b offset w (context_of s) before text (good_there good) e c (from_outside s outer) is (at_is ∙ (read_at limits few_bytes few short bytes none).kept.at_is) w_is
        by_row before text e c (text_outside _ _ _ _ outer less and ended white at_is w_is) =
            after_text limits bytes b offset w (context_of s) before text (good_there good) e c (at_is ∙ (reads limits few_bytes few short bytes none before text e).at_is)
            (stray_character (context_of s) (character_left [] bytes) text b w (from_outside s outer) less and (ends_there ended) white w_is)
        by_row before text e c (forbidden_in_text _ _ _ _ inner less and ended bad at_is w_is) =
            after_text limits bytes b offset w (context_of s) before text (good_there good) e c (at_is ∙ (reads limits few_bytes few short bytes none before text e).at_is)
            (forbidden_character (context_of s) (character_left [] bytes) text b w (from_inside s inner) less and (ends_there ended) (forbidden_there bad) w_is)
        by_row before text e c (section_end_in_text _ _ _ _ inner is running two at_is w_is) =
            let r = reads limits few_bytes few short bytes none before text e in
            let empty = (ascii_alone s.pending b (omega (arith, is)) good).0 in
            after_text limits bytes b offset w (context_of s) before text (good_there good) e c (at_is ∙ r.at_is)
            (stray_section_end (context_of s) (character_left [] bytes) text b w (from_inside s inner) is (sym (r.counts inner empty running) ∙ two) w_is)

    abbrev Hand : Mode → List ℕ → List ℕ → Type 0
    Hand m before more = IsInHand s bytes b offset m before more

    tag_context : (before more : List ℕ) → EndInMarkup bytes before more → leads_tag more ≡ true → is_open_tag None more ≡ true → HasContext limits (context_of s) before
    tag_context before more e leads none_ended = markup_context limits few_bytes few short bytes none before more e (open_tag more leads none_ended)

    -- a footer would give no fault
    no_footer : Decided → (before more : List ℕ) → EndInMarkup bytes before more → HasContext limits (context_of s) before → is_some s.here ≡ false
        → (s.lexical.phase ≡ phase.Between) × IsEndTag (60 ∷ (more ++ b ∷ [])) s.name → ⊥
    unfolding framed
    no_footer is before more e c outer (between, tag) =
        let start = turn (from_start limits) [] in
        let r = stands_there limits (context_of s) before c (from_outside s outer) in
        let stands : StandsOutside r.0 phase.Between c.now.scope s.name = subst (λ p. StandsOutside r.0 p c.now.scope s.name) between r.2 in
        let g = footer_gives r.0 c.items c.now.scope s.name (60 ∷ (more ++ b ∷ [])) item.Footer tag stands refl in
        let all : bytes ++ b ∷ [] ≡ before ++ 60 ∷ (more ++ b ∷ []) = ap (λ l. l ++ b ∷ []) e.bytes_are ∙ append_assoc before (60 ∷ more) (b ∷ []) in
        let there = ap (run start) all ∙ then_run start (turn r.0 c.items) _ before (60 ∷ (more ++ b ∷ [])) r.1 g.run_is in
        some_fault (record { at = offset; why = w }) (sym is ∙ ap (λ (u : Turn). u.state.fault) there ∙ g.stands.no_fault)

    tag_told : (before more : List ℕ) → Hand mode.Tag before more → TagRow s b w → Told
    tag_told before more h (whole_tag_row _ _ _ is quote row) =
        let k = h.kept in
        let e : EndInMarkup bytes before more = record { ahead = h.ahead; bytes_are = h.bytes_are } in
        let tag : EndInTag bytes before more = record { markup = e; some = k.4; leads = k.1; not_ended = k.2; unquoted = sym k.3 ∙ quote } in
        let token : s.token ++ b ∷ [] ≡ 60 ∷ (more ++ b ∷ []) = ap (λ l. l ++ b ∷ []) k.0 in
        let there : TagByteRow limits (context_of s) (60 ∷ (more ++ b ∷ [])) w =
        subst (λ l. TagByteRow limits (context_of s) l w) token (subst (λ l. TagByteRow l (context_of s) (s.token ++ b ∷ []) w) (limits_are limits few_bytes few short bytes none) (of_whole s b w row)) in
        inr (after_tag limits bytes b offset w (context_of s) before more h.good tag (tag_context before more e k.1 k.2) (no_end k.0) is h.position there)
      where
        no_end : s.token ≡ 60 ∷ more → (context_of s).opens ≡ [] → is_end (60 ∷ more) ≡ false
        no_end token opens =
            ap is_end (sym token) ∙ (tag_begins s.here s.lexical.mode s s.positions.used (framed limits bytes).items bytes (read_at limits few_bytes few short bytes none).hand h.mode_is (outside s opens)).1

    footer_told : Decided → (before more : List ℕ) → Hand mode.Footer before more → FooterRow s b w → Told
    footer_told is before more h (bad_footer _ _ _ last quote no_end w_is) =
        let k = h.kept in
        let e : EndInMarkup bytes before more = record { ahead = h.ahead; bytes_are = h.bytes_are } in
        let tag : EndInTag bytes before more = record { markup = e; some = some_more more k.3; leads = k.0; not_ended = k.1; unquoted = sym k.2 ∙ quote } in
        let outer = footer_outside s.here s.lexical.mode s s.positions.used (framed limits bytes).items bytes (read_at limits few_bytes few short bytes none).hand h.mode_is in
        let c = tag_context before more e k.0 k.1 in
        inr (after_end limits bytes b offset w (context_of s) before more h.good tag c (from_outside s outer) k.3 last h.position (no_footer is before more e c outer) w_is)
      where
        some_more : (l : List ℕ) → is_end (60 ∷ l) ≡ true → is_empty l ≡ false
        some_more [] e = absurd (false≢true e)
        some_more (x ∷ xs) e = refl

    reference_short : ReferenceRow s b w → w ≢ why.TooLong
    reference_short (unknown_reference _ _ _ last e w_is) f = restricted_short (sym w_is ∙ f)
    reference_short (bad_reference _ _ _ last e w_is) f = malformed_short (sym w_is ∙ f)
    reference_short (departing_reference _ _ _ departs e w_is) f = malformed_short (sym w_is ∙ f)

    question_short : QuestionRow s b w → w ≢ why.TooLong
    question_short (departing_declaration _ _ _ less departs w_is) f = restricted_short (sym w_is ∙ f)
    question_short (unspaced_declaration _ _ _ most departs w_is) f = restricted_short (sym w_is ∙ f)

    declaration_short : DeclarationRow s b w → w ≢ why.TooLong
    declaration_short (other_encoding _ _ _ last asked e w_is) f = encoding_short (sym w_is ∙ f)
    declaration_short (bad_declaration _ _ _ last asked e w_is) f = malformed_short (sym w_is ∙ f)

    in_hand_told : Decided → (m : Mode) → is_text m ≡ false → (before more : List ℕ) → Hand m before more → TokenRow m s b w → Told
    in_hand_told is mode.Text no_text before more h row = absurd (false≢true (sym no_text))
    in_hand_told is mode.Reference no_text before more h row =
        inl (reference_told limits bytes b offset w none is (reference_short row) before more (record { ahead = h.ahead; named = h.kept.1; bytes_are = h.bytes_are }))
    in_hand_told is mode.Opening no_text before more h row = inr (opening row)
      where
        alone : EndInMarkup bytes before []
        alone = record { ahead = h.ahead; bytes_are = h.bytes_are ∙ ap (λ l. before ++ 60 ∷ l) h.kept.1 }

        c : HasContext limits (context_of s) before
        c = tag_context before [] alone refl refl

        opening : TokenRow mode.Opening s b w → OpenRow limits bytes b offset w
        opening (no_declaration _ _ _ last none_due w_is) = after_less limits bytes b offset w (context_of s) before h.good alone c h.position (stray_question (context_of s) b w last (admits_is s ∙ none_due) w_is)
        opening (no_name _ _ _ last w_is) = after_less limits bytes b offset w (context_of s) before h.good alone c h.position (nameless (context_of s) b w last w_is)
    in_hand_told is mode.Bang no_text before more h row = by_row row
      where
        e : EndInMarkup bytes before more
        e = record { ahead = h.ahead; bytes_are = h.bytes_are }

        by_row : TokenRow mode.Bang s b w → Told
        by_row (departing_section _ _ _ departs w_is) =
            inl
            (after_bang bytes b offset w before more h.good e (opens_section more h.kept.1 h.kept.2 h.kept.3 h.kept.4) h.position
            (no_section (60 ∷ more) b w (subst (λ l. b ≢ slice_index (codes "<![CDATA[") (length l)) h.kept.0 departs) w_is))
        by_row (section_outside _ _ _ due eight outer w_is) =
            let all = ap length (sym h.kept.0) in
            let word : more ≡ codes "![CDATA" = whole_opening more h.kept.1 h.kept.2 (omega (arith, all, eight)) in
            let part : EndInMarkup bytes before (codes "![CDATA") = subst (EndInMarkup bytes before) word e in
            let c = markup_context limits few_bytes few short bytes none before (codes "![CDATA") part (opening_section (codes "![CDATA") (codes "[") refl) in
            inr (stray_section limits bytes b offset w (context_of s) before h.good part c (from_outside s outer) (due ∙ ap (slice_index (codes "<![CDATA[")) eight) h.position w_is)
    in_hand_told is mode.Question no_text before more h row =
        inl (question_told limits bytes b offset w none is (question_short row) before more (record { ahead = h.ahead; bytes_are = h.bytes_are }) (opens_declaration more h.kept.1 h.kept.2 h.kept.3))
    in_hand_told is mode.Declaration no_text before more h row =
        inl
        (declaration_told limits bytes b offset w none is (declaration_short row) before more (record { ahead = h.ahead; bytes_are = h.bytes_are })
        (record { space = h.kept.1; inside = h.kept.2; more_is = h.kept.3; is_space = h.kept.4; no_end = h.kept.5 }))
    in_hand_told is mode.Tag no_text before more h row = tag_told before more h row
    in_hand_told is mode.Footer no_text before more h row = footer_told is before more h row
    in_hand_told is mode.Section no_text before more h (forbidden_in_section _ _ _ ended bad w_is) =
        let k = h.kept in
        let e : EndInMarkup bytes before (codes "![CDATA[" ++ k.0) = record { ahead = h.ahead; bytes_are = h.bytes_are ∙ ap (λ l. before ++ 60 ∷ l) k.1 } in
        inr (in_section limits bytes b offset w before k.0 h.good (record { markup = e; no_end = k.2 }) h.position (ends_there ended) (forbidden_there bad) w_is)

    pub row_told : Decided → is_too_long s b ≡ false → Told
    row_told is near = by_row ((rows_of_bytes limits bytes b offset w none).0 is)
      where
        by_token : (m : Mode) → Takes s m b → is_text m ≡ false → offset ≡ s.positions.token_at → TokenRow m s b w → Told
        by_token m k no_text at_is row =
            let h = token_told limits bytes none (ap is_text k.mode_is ∙ no_text) in
            in_hand_told is m no_text h.before h.more
            (record {
              mode_is = k.mode_is;
              bytes_are = subst (λ n. bytes ≡ h.before ++ first_of n ∷ h.more) k.mode_is h.bytes_are;
              ahead = h.ahead;
              kept = subst (λ n. AreKept n s h.more) k.mode_is h.kept;
              position = at_is ∙ h.at_is;
              good = good_there k.is_text;
            })
            row

        by_row : Row s b offset w → Told
        by_row (too_long _ _ _ _ _ far at_is w_is) = absurd (false≢true (sym near ∙ far))
        by_row (no_utf8 _ _ _ _ _ brief bad at_is w_is) = inl (broken_told limits bytes b offset w none is (λ e. encoding_short (sym w_is ∙ e)) (ap (λ l. continues l b) (sym (pending_is limits bytes none)) ∙ bad))
        by_row (in_text_row _ _ _ _ k row) = inr (text_told k.is_text (ap is_text k.mode_is) row)
        by_row (in_token_row _ _ _ _ m k no_text at_is row) = by_token m k no_text at_is row
