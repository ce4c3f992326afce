-- Rows of the table of faults on bytes: each decides its fault, and of these tokens they are all.
use Rattle.std.proofs.Common.{◌≡◌, ◌≢◌, ℕ, ◌<◌, ◌≤◌, ⊎_elim, true, false, List, [], ◌∷◌, ◌++◌, Some, None, codes, drop, length, refl, sym, ap, subst, ◌∙◌, arith}
use Rattle.std.proofs.lemmas.Bool.{cases_Bool, false≢true}
use Rattle.std.specs.Prelude.{slice_index}
use Rattle.xml_tokens.specs.Declarations.{declaration_of}
use Rattle.xml_tokens.specs.References.{reference_goes_on, referred}
use Rattle.xml_tokens.specs.Utf8.{continues, held_after}
use Rattle.xml_framer.proofs.Pieces.{run_append}
use Rattle.law_xml.proofs.CountLaws.{takes}
use Rattle.law_xml.proofs.FaultLaws.{goes}
use Rattle.law_xml.proofs.OffsetRuns.{fault_at_token}
use Rattle.law_xml.proofs.OneHand.{markup_held, reference_held}
use Rattle.law_xml.proofs.OneOffset.{heads, one_offset}
use Rattle.law_xml.proofs.RowsDecide.{rows_of_bytes}
use Rattle.law_xml.proofs.RunPositions.{no_fault_before, taken_pending}
use Rattle.law_xml.specs.ByteRows.{BangByteRow, ByteRow, DeclarationByteRow, EndInMarkup, EndInReference, InDeclaration, IsNotTooLong, OpensDeclaration, OpensSection, QuestionByteRow, ReferenceByteRow, after_bang, after_declaration, after_question, after_reference, broken_character, departing_name, is_malformed, names_encoding, no_character, no_section, no_space, no_xml, unknown_name}
use Rattle.law_xml.specs.Hands.{AreKept, IsHolding}
use Rattle.law_xml.specs.Offsets.{IsAtToken, IsOpen, character_left, first_of, leads_tag, open_declaration, opening_declaration, opening_section}
use Rattle.law_xml.specs.Rows.{BangRow, DeclarationRow, QuestionRow, ReferenceRow, Row, TokenRow, bad_declaration, bad_reference, departing_declaration, departing_reference, departing_section, in_text_row, in_token_row, no_utf8, other_encoding, section_outside, too_long, unknown_reference, unspaced_declaration}
use Rattle.law_xml.specs.Streams.{position_of}
use Rattle.xml_framer.specs.Machine.{is_too_long, run, step}
use Rattle.xml_framer.specs.MarkupSteps.{ends_in_question}
use Rattle.xml_framer.specs.Readings.{fault_of, framed}
use Rattle.xml_framer.specs.States.{State, Turn, counted, from_start, is_text, moved, token_position, turn}
use Rattle.xml_framer.specs.declared.fault.Why.{Why}
use Rattle.xml_framer.specs.declared.fault.Why.TheVariants as why
use Rattle.xml_framer.specs.declared.limits.Limits.{Limits}
use Rattle.xml_framer.specs.declared.states.Mode.{Mode}
use Rattle.xml_framer.specs.declared.states.Mode.TheVariants as mode
use Rattle.law_xml.proofs.OffsetMarks.{some_none}

no_tail : (front : List ℕ) (x : ℕ) (xs : List ℕ) → [] ≡ front ++ x ∷ xs → ⊥
no_tail [] x xs e = some_none x xs (sym e)
no_tail (y ∷ ys) x xs e = some_none y (ys ++ x ∷ xs) (sym e)

bang_question : (xs ys : List ℕ) → 33 ∷ xs ≡ 63 ∷ ys → ⊥
bang_question xs ys e = let f : ◌≡◌ {A = ℕ} 33 63 = heads 33 63 xs ys e in omega (arith, f)

pub sixty : ◌≡◌ {A = ℕ} 60 38 → ⊥
sixty e = omega (arith, e)

pub thirty : ◌≡◌ {A = ℕ} 38 60 → ⊥
thirty e = omega (arith, e)

not_long : why.Encoding ≢ why.TooLong
not_long e = cc

-- ---- the character in hand is what the bytes leave unfinished

step_left : (t : Turn) (b : ℕ) → (step t b).state.fault ≡ None → (step t b).state.pending ≡ held_after t.state.pending b
step_left t b none =
    ap (λ (u : Turn). u.state.pending) (goes t t.state.lexical.mode b (takes t b none)) ∙ ap (λ l. held_after l b) (taken_pending t.state.lexical.mode (moved t (counted t.state)) b)

run_left : (bs : List ℕ) (t : Turn) → (run t bs).state.fault ≡ None → (run t bs).state.pending ≡ character_left t.state.pending bs
run_left [] t none = refl
run_left (b ∷ bs) t none = run_left bs (step t b) none ∙ ap (λ l. character_left l bs) (step_left t b (no_fault_before (step t b) bs none))

pub pending_is : (limits : Limits) (bytes : List ℕ) → fault_of limits bytes ≡ None → (framed limits bytes).state.pending ≡ character_left [] bytes
unfolding framed
pending_is limits bytes none = run_left bytes (turn (from_start limits) []) none

pub token_there : (limits : Limits) (bytes : List ℕ) (b at : ℕ) (w : Why) → fault_of limits bytes ≡ None → fault_of limits (bytes ++ b ∷ []) ≡ Some (record { at = at; why = w }) → w ≢ why.TooLong → IsAtToken bytes b at
unfolding framed
token_there limits bytes b at w none is other =
    let start = turn (from_start limits) [] in
    let one : run start (bytes ++ b ∷ []) ≡ step (run start bytes) b = run_append start bytes (b ∷ []) in
    fault_at_token limits bytes b (record { at = at; why = w }) none (sym (ap (λ (u : Turn). u.state.fault) one) ∙ is) other

-- ---- the bytes tell the kind of the token

reference_kind : (m : Mode) → is_text m ≡ false → first_of m ≡ 38 → m ≡ mode.Reference
reference_kind mode.Text no_text e = absurd (false≢true (sym no_text))
reference_kind mode.Reference no_text e = refl
reference_kind mode.Opening no_text e = absurd (sixty e)
reference_kind mode.Bang no_text e = absurd (sixty e)
reference_kind mode.Question no_text e = absurd (sixty e)
reference_kind mode.Declaration no_text e = absurd (sixty e)
reference_kind mode.Tag no_text e = absurd (sixty e)
reference_kind mode.Footer no_text e = absurd (sixty e)
reference_kind mode.Section no_text e = absurd (sixty e)

bang_kind : (m : Mode) (s : State) (more : List ℕ) → OpensSection more → is_text m ≡ false → first_of m ≡ 60 → AreKept m s more → m ≡ mode.Bang
bang_kind mode.Text s more o no_text e k = absurd (false≢true (sym no_text))
bang_kind mode.Reference s more o no_text e k = absurd (thirty e)
bang_kind mode.Opening s more o no_text e k = absurd (some_none 33 o.following (sym o.more_is ∙ k.1))
bang_kind mode.Bang s more o no_text e k = refl
bang_kind mode.Question s more o no_text e k = absurd (bang_question (o.following ++ k.1) (codes "xml") (ap (λ l. l ++ k.1) (sym o.more_is) ∙ sym k.2))
bang_kind mode.Declaration s more o no_text e k = absurd (bang_question o.following (codes "xml" ++ k.1 ∷ k.2) (sym o.more_is ∙ k.3))
bang_kind mode.Tag s more o no_text e k = absurd (false≢true (subst (λ l. leads_tag l ≡ true) o.more_is k.1))
bang_kind mode.Footer s more o no_text e k = absurd (false≢true (subst (λ l. leads_tag l ≡ true) o.more_is k.0))
bang_kind mode.Section s more o no_text e k = absurd (no_tail k.0 o.next o.rest (ap (drop 8) (o.due ∙ ap (λ l. l ++ o.next ∷ o.rest) k.1)))

question_kind : (m : Mode) (s : State) (more : List ℕ) → OpensDeclaration more → is_text m ≡ false → first_of m ≡ 60 → AreKept m s more → m ≡ mode.Question
question_kind mode.Text s more o no_text e k = absurd (false≢true (sym no_text))
question_kind mode.Reference s more o no_text e k = absurd (thirty e)
question_kind mode.Opening s more o no_text e k = absurd (some_none 63 o.following (sym o.more_is ∙ k.1))
question_kind mode.Bang s more o no_text e k = absurd (bang_question (codes "[CDATA[") (o.following ++ k.1) (k.2 ∙ ap (λ l. l ++ k.1) o.more_is))
question_kind mode.Question s more o no_text e k = refl
question_kind mode.Declaration s more o no_text e k = absurd (some_none k.1 (k.2 ++ o.rest) (sym (ap (drop 4) (o.due ∙ ap (λ l. l ++ o.rest) k.3))))
question_kind mode.Tag s more o no_text e k = absurd (false≢true (subst (λ l. leads_tag l ≡ true) o.more_is k.1))
question_kind mode.Footer s more o no_text e k = absurd (false≢true (subst (λ l. leads_tag l ≡ true) o.more_is k.0))
question_kind mode.Section s more o no_text e k = absurd (bang_question (codes "[CDATA[" ++ k.0) o.following (sym k.1 ∙ o.more_is))

declaration_kind : (m : Mode) (s : State) (more : List ℕ) → InDeclaration more → is_text m ≡ false → first_of m ≡ 60 → AreKept m s more → m ≡ mode.Declaration
declaration_kind mode.Text s more o no_text e k = absurd (false≢true (sym no_text))
declaration_kind mode.Reference s more o no_text e k = absurd (thirty e)
declaration_kind mode.Opening s more o no_text e k = absurd (some_none 63 (codes "xml" ++ o.space ∷ o.inside) (sym o.more_is ∙ k.1))
declaration_kind mode.Bang s more o no_text e k = absurd (bang_question (codes "[CDATA[") ((codes "xml" ++ o.space ∷ o.inside) ++ k.1) (k.2 ∙ ap (λ l. l ++ k.1) o.more_is))
declaration_kind mode.Question s more o no_text e k = absurd (some_none o.space (o.inside ++ k.1) (sym (ap (drop 4) (k.2 ∙ ap (λ l. l ++ k.1) o.more_is))))
declaration_kind mode.Declaration s more o no_text e k = refl
declaration_kind mode.Tag s more o no_text e k = absurd (false≢true (subst (λ l. leads_tag l ≡ true) o.more_is k.1))
declaration_kind mode.Footer s more o no_text e k = absurd (false≢true (subst (λ l. leads_tag l ≡ true) o.more_is k.0))
declaration_kind mode.Section s more o no_text e k = absurd (bang_question (codes "[CDATA[" ++ k.0) (codes "xml" ++ o.space ∷ o.inside) (sym k.1 ∙ o.more_is))

-- a token of this kind is in hand
pub record Held (s : State) (m : Mode) (before more : List ℕ) : Type 0 where
  is : s.lexical.mode ≡ m
  no_text : is_text m ≡ false
  at_is : s.positions.token_at ≡ position_of (length before)
  kept : AreKept m s more

module _ (limits : Limits) (bytes before more : List ℕ) (none : fault_of limits bytes ≡ None) where
  abbrev s : State
  s = (framed limits bytes).state

  held : (m : Mode) (first : ℕ) (h : IsHolding s first before more) → s.lexical.mode ≡ m → Held s m before more
  held m first h is = record { is = is; no_text = ap is_text (sym is) ∙ h.no_text; at_is = h.at_is; kept = subst (λ k. AreKept k s more) is h.kept }

  pub reference_in : EndInReference bytes before more → Held s mode.Reference before more
  reference_in e =
      let h = reference_held limits bytes before more none e.ahead e.named e.bytes_are in
      held mode.Reference 38 h (reference_kind s.lexical.mode h.no_text h.first_is)

  markup_in : EndInMarkup bytes before more → IsOpen more → IsHolding s 60 before more
  markup_in e opens = markup_held limits bytes before more none e.ahead opens e.bytes_are

  bang_in : EndInMarkup bytes before more → OpensSection more → Held s mode.Bang before more
  bang_in e o =
      let h = markup_in e (opening_section more (o.next ∷ o.rest) o.due) in held mode.Bang 60 h (bang_kind s.lexical.mode s more o h.no_text h.first_is h.kept)

  question_in : EndInMarkup bytes before more → OpensDeclaration more → Held s mode.Question before more
  question_in e o =
      let h = markup_in e (opening_declaration more o.rest o.due) in held mode.Question 60 h (question_kind s.lexical.mode s more o h.no_text h.first_is h.kept)

  declaration_in : EndInMarkup bytes before more → InDeclaration more → Held s mode.Declaration before more
  declaration_in e o =
      let h = markup_in e (open_declaration more o.inside o.space o.more_is o.is_space o.no_end) in
      held mode.Declaration 60 h (declaration_kind s.lexical.mode s more o h.no_text h.first_is h.kept)

-- ---- rows of one kind

-- the row of a state whose token these bytes are, and back
module _ (s : State) (token : List ℕ) (b : ℕ) (w : Why) (is : s.token ≡ token) where
  to_reference : ReferenceByteRow token b w → ReferenceRow s b w
  to_reference (unknown_name _ _ _ last e w_is) = unknown_reference s b w last (ap referred is ∙ e) w_is
  to_reference (no_character _ _ _ last e w_is) = bad_reference s b w last (ap referred is ∙ e) w_is
  to_reference (departing_name _ _ _ other e w_is) = departing_reference s b w other (ap (λ l. reference_goes_on l b) is ∙ e) w_is

  of_reference : ReferenceRow s b w → ReferenceByteRow token b w
  of_reference (unknown_reference _ _ _ last e w_is) = unknown_name token b w last (ap referred (sym is) ∙ e) w_is
  of_reference (bad_reference _ _ _ last e w_is) = no_character token b w last (ap referred (sym is) ∙ e) w_is
  of_reference (departing_reference _ _ _ other e w_is) = departing_name token b w other (ap (λ l. reference_goes_on l b) (sym is) ∙ e) w_is

  to_bang : BangByteRow token b w → BangRow s b w
  to_bang (no_section _ _ _ other w_is) = departing_section s b w (subst (λ l. b ≢ slice_index (codes "<![CDATA[") (length l)) (sym is) other) w_is

  of_bang : length token < 8 → BangRow s b w → BangByteRow token b w
  of_bang few (departing_section _ _ _ other w_is) = no_section token b w (subst (λ l. b ≢ slice_index (codes "<![CDATA[") (length l)) is other) w_is
  of_bang few (section_outside _ _ _ due eight outer w_is) = let same = ap length is in absurd (omega (arith, few, eight, same))

  to_question : QuestionByteRow token b w → QuestionRow s b w
  to_question (no_xml _ _ _ few other w_is) =
      departing_declaration s b w (subst (λ l. length l < 5) (sym is) few) (subst (λ l. b ≢ slice_index (codes "<?xml") (length l)) (sym is) other) w_is
  to_question (no_space _ _ _ most other w_is) = unspaced_declaration s b w (subst (λ l. 5 ≤ length l) (sym is) most) other w_is

  of_question : QuestionRow s b w → QuestionByteRow token b w
  of_question (departing_declaration _ _ _ few other w_is) =
      no_xml token b w (subst (λ l. length l < 5) is few) (subst (λ l. b ≢ slice_index (codes "<?xml") (length l)) is other) w_is
  of_question (unspaced_declaration _ _ _ most other w_is) = no_space token b w (subst (λ l. 5 ≤ length l) is most) other w_is

  to_declaration : DeclarationByteRow token b w → DeclarationRow s b w
  to_declaration (names_encoding _ _ _ last asked e w_is) = other_encoding s b w last (ap ends_in_question is ∙ asked) (ap (λ l. declaration_of (l ++ b ∷ [])) is ∙ e) w_is
  to_declaration (is_malformed _ _ _ last asked e w_is) = bad_declaration s b w last (ap ends_in_question is ∙ asked) (ap (λ l. declaration_of (l ++ b ∷ [])) is ∙ e) w_is

  of_declaration : DeclarationRow s b w → DeclarationByteRow token b w
  of_declaration (other_encoding _ _ _ last asked e w_is) =
      names_encoding token b w last (ap ends_in_question (sym is) ∙ asked) (ap (λ l. declaration_of (l ++ b ∷ [])) (sym is) ∙ e) w_is
  of_declaration (bad_declaration _ _ _ last asked e w_is) =
      is_malformed token b w last (ap ends_in_question (sym is) ∙ asked) (ap (λ l. declaration_of (l ++ b ∷ [])) (sym is) ∙ e) w_is

-- ---- a byte

module _ (limits : Limits) (bytes : List ℕ) (b at : ℕ) (w : Why) (none : fault_of limits bytes ≡ None) where
  abbrev here : State
  here = (framed limits bytes).state

  abbrev Decided : Type 0
  Decided = fault_of limits (bytes ++ b ∷ []) ≡ Some (record { at = at; why = w })

  pub near : IsNotTooLong limits bytes b → is_too_long here b ≡ false
  near short =
      ⊎_elim
      (λ (far : is_too_long here b ≡ true). absurd (short here.positions.item_at ((rows_of_bytes limits bytes b here.positions.item_at why.TooLong none).1 (too_long here b here.positions.item_at why.TooLong none far refl refl))))
      (λ (e : is_too_long here b ≡ false). e) (cases_Bool (is_too_long here b))

  pub unbroken : continues (character_left [] bytes) b ≡ true → continues here.pending b ≡ true
  unbroken good = ap (λ l. continues l b) (pending_is limits bytes none) ∙ good

  decides : (m : Mode) (before more : List ℕ) → is_too_long here b ≡ false → continues (character_left [] bytes) b ≡ true → Held here m before more → at ≡ position_of (length before) → TokenRow m here b w → Decided
  decides m before more short good h position row =
      (rows_of_bytes limits bytes b at w none).1
      (in_token_row here b at w m (record { no_fault = none; mode_is = h.is; short = short; is_text = unbroken good }) h.no_text (position ∙ sym h.at_is) row)

  -- a fault of a token in hand: the byte breaks a character, or a row of the token's kind says so
  told : (m : Mode) (before more : List ℕ) (C : Type 0) → Held here m before more → Decided → w ≢ why.TooLong → (continues (character_left [] bytes) b ≡ false → w ≡ why.Encoding → C)
      → (continues (character_left [] bytes) b ≡ true → at ≡ position_of (length before) → TokenRow m here b w → C) → C
  told m before more C h is other broken taken = by_row ((rows_of_bytes limits bytes b at w none).0 is)
    where
      by_row : Row here b at w → C
      by_row (too_long _ _ _ _ _ far at_is w_is) = absurd (other w_is)
      by_row (no_utf8 _ _ _ _ _ short bad at_is w_is) = broken (ap (λ l. continues l b) (sym (pending_is limits bytes none)) ∙ bad) w_is
      by_row (in_text_row _ _ _ _ k row) = absurd (false≢true (sym h.no_text ∙ (ap is_text (sym h.is ∙ k.mode_is))))
      by_row (in_token_row _ _ _ _ n k no_text at_is row) =
          taken (ap (λ l. continues l b) (sym (pending_is limits bytes none)) ∙ k.is_text) (at_is ∙ h.at_is) (subst (λ j. TokenRow j here b w) (sym k.mode_is ∙ h.is) row)

  broken_decides : is_too_long here b ≡ false → continues (character_left [] bytes) b ≡ false → IsAtToken bytes b at → w ≡ why.Encoding → Decided
  broken_decides short bad position w_is =
      let n = token_position here in
      let breaks = ap (λ l. continues l b) (pending_is limits bytes none) ∙ bad in
      let there = (rows_of_bytes limits bytes b n why.Encoding none).1 (no_utf8 here b n why.Encoding none short breaks refl refl) in
      let same = one_offset bytes b at n position (token_there limits bytes b n why.Encoding none there not_long) in
      (rows_of_bytes limits bytes b at w none).1 (no_utf8 here b at w none short breaks same w_is)

  pub near_decides : is_too_long here b ≡ false → ByteRow bytes b at w → Decided
  near_decides short (broken_character _ _ _ _ bad position w_is) = broken_decides short bad position w_is
  near_decides short (after_reference _ _ _ _ before name good e position row) =
      let h = reference_in limits bytes before name none e in
      decides mode.Reference before name short good h position (to_reference here name b w h.kept.0 row)
  near_decides short (after_bang _ _ _ _ before more good e o position row) =
      let h = bang_in limits bytes before more none e o in decides mode.Bang before more short good h position (to_bang here (60 ∷ more) b w h.kept.0 row)
  near_decides short (after_question _ _ _ _ before more good e o position row) =
      let h = question_in limits bytes before more none e o in decides mode.Question before more short good h position (to_question here (60 ∷ more) b w h.kept.0 row)
  near_decides short (after_declaration _ _ _ _ before more good e o position row) =
      let h = declaration_in limits bytes before more none e o in decides mode.Declaration before more short good h position (to_declaration here (60 ∷ more) b w h.kept.0 row)

  pub row_decides : IsNotTooLong limits bytes b → ByteRow bytes b at w → Decided
  row_decides brief row = near_decides (near brief) row

  module _ (is : Decided) (other : w ≢ why.TooLong) where
    broken_row : continues (character_left [] bytes) b ≡ false → w ≡ why.Encoding → ByteRow bytes b at w
    broken_row bad w_is = broken_character bytes b at w bad (token_there limits bytes b at w none is other) w_is

    -- a byte that breaks a character
    pub broken_told : continues (character_left [] bytes) b ≡ false → ByteRow bytes b at w
    broken_told bad = by_row ((rows_of_bytes limits bytes b at w none).0 is)
      where
        breaks : continues here.pending b ≡ true → ⊥
        breaks good = false≢true (sym bad ∙ (ap (λ l. continues l b) (sym (pending_is limits bytes none)) ∙ good))

        by_row : Row here b at w → ByteRow bytes b at w
        by_row (too_long _ _ _ _ _ far at_is w_is) = absurd (other w_is)
        by_row (no_utf8 _ _ _ _ _ short broken at_is w_is) = broken_row bad w_is
        by_row (in_text_row _ _ _ _ k row) = absurd (breaks k.is_text)
        by_row (in_token_row _ _ _ _ n k no_text at_is row) = absurd (breaks k.is_text)

    pub reference_told : (before name : List ℕ) → EndInReference bytes before name → ByteRow bytes b at w
    reference_told before name e =
        let h = reference_in limits bytes before name none e in
        told mode.Reference before name (ByteRow bytes b at w) h is other broken_row
        (λ good position row. after_reference bytes b at w before name good e position (of_reference here name b w h.kept.0 row))

    pub bang_told : (before more : List ℕ) → EndInMarkup bytes before more → OpensSection more → length more < 7 → ByteRow bytes b at w
    bang_told before more e o few =
        let h = bang_in limits bytes before more none e o in
        let short : length (60 ∷ more) < 8 = omega (arith, few) in
        told mode.Bang before more (ByteRow bytes b at w) h is other broken_row
        (λ good position row. after_bang bytes b at w before more good e o position (of_bang here (60 ∷ more) b w h.kept.0 short row))

    pub question_told : (before more : List ℕ) → EndInMarkup bytes before more → OpensDeclaration more → ByteRow bytes b at w
    question_told before more e o =
        let h = question_in limits bytes before more none e o in
        told mode.Question before more (ByteRow bytes b at w) h is other broken_row
        (λ good position row. after_question bytes b at w before more good e o position (of_question here (60 ∷ more) b w h.kept.0 row))

    pub declaration_told : (before more : List ℕ) → EndInMarkup bytes before more → InDeclaration more → ByteRow bytes b at w
    declaration_told before more e o =
        let h = declaration_in limits bytes before more none e o in
        told mode.Declaration before more (ByteRow bytes b at w) h is other broken_row
        (λ good position row. after_declaration bytes b at w before more good e o position (of_declaration here (60 ∷ more) b w h.kept.0 row))
