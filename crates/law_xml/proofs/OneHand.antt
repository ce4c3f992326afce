-- The bytes tell what a state has in hand.
use Rattle.std.proofs.Common.{◌≡◌, ℕ, ⊎_elim, Bool, true, false, if◌then◌else◌, List, [], ◌∷◌, ◌++◌, None, length, refl, sym, ap, subst, ◌∙◌, append-nil}
use Rattle.std.proofs.lemmas.Bool.{cases_Bool, false≢true}
use Rattle.std.specs.List.{list_all}
use Rattle.law_xml.proofs.HandsTold.{are_kept, none_held, run_held}
use Rattle.law_xml.proofs.OffsetMarks.{is_open, tails}
use Rattle.law_xml.proofs.OffsetRuns.{Known, known_of}
use Rattle.law_xml.proofs.OffsetTags.{named_there}
use Rattle.law_xml.proofs.OneOffset.{Hand, before_hand as spread, from_first, hand_marked, hand_no_text, hand_rest, markup_in_hand, one_front, one_run, reference_in_hand, text_rest, heads}
use Rattle.law_xml.specs.Hands.{AreKept, IsHolding, IsReading, brackets_last}
use Rattle.law_xml.specs.Offsets.{AreBefore, AreTokens, IsOpen, IsRun, character_left, first_of, is_no_end, is_reference}
use Rattle.law_xml.specs.Streams.{position_of}
use Rattle.xml_framer.specs.Machine.{run}
use Rattle.xml_framer.specs.Readings.{fault_of, framed}
use Rattle.xml_framer.specs.States.{State, from_start, is_text, turn}
use Rattle.xml_framer.specs.declared.limits.Limits.{Limits}

module _ (s : State) (bytes : List ℕ) (h : Known s bytes) where
  -- the token that the state has
  hand_of : (no_text : is_text s.lexical.mode ≡ false) → Hand (first_of s.lexical.mode ∷ (h.token no_text).more)
  hand_of no_text =
      let k = h.token no_text in
      ⊎_elim
      (λ (e : is_reference s.lexical.mode ≡ true).
      reference_in_hand _ k.more (ap (λ (x : Bool). (if x then 38 else 60) ∷ k.more) e) (named_there s.lexical.mode s.lexical.quote k.more k.spot e))
      (λ (e : is_reference s.lexical.mode ≡ false).
      markup_in_hand _ k.more (ap (λ (x : Bool). (if x then 38 else 60) ∷ k.more) e) (is_open s.lexical.mode s k.more no_text e k.spot k.mark))
      (cases_Bool (is_reference s.lexical.mode))

  -- where the bytes are a text after whole tokens, the state has no token
  no_token_here : (before text : List ℕ) → AreTokens before → IsRun text → bytes ≡ before ++ text → is_text s.lexical.mode ≡ false → ⊥
  no_token_here before text tokens plain are no_text =
      let k = h.token no_text in
      let hand = first_of s.lexical.mode ∷ k.more in
      hand_no_text k.ahead.front before k.ahead.text hand text (first_of s.lexical.mode) k.more k.ahead.tokens tokens k.ahead.is_run (hand_of no_text) refl plain
      (sym (spread bytes k.before hand k.ahead k.bytes_are) ∙ are)

  -- where they end in a token that hasn't ended, it has no text
  no_text_here : (before hand : List ℕ) (x : ℕ) (xs : List ℕ) → AreBefore before → Hand hand → hand ≡ x ∷ xs → bytes ≡ before ++ hand → is_text s.lexical.mode ≡ true → ⊥
  no_text_here before hand x xs ahead held some are text =
      let there = spread bytes before hand ahead are in
      ⊎_elim
      (λ (on : s.lexical.in_run ≡ true).
      let k = h.running text on in hand_no_text ahead.front k.before ahead.text hand k.token x xs ahead.tokens k.after ahead.is_run held some k.plain (sym there ∙ k.bytes_are))
      (λ (off : s.lexical.in_run ≡ false).
      let k = h.between text off in hand_no_text ahead.front bytes ahead.text hand [] x xs ahead.tokens k.0 ahead.is_run held some refl (sym there ∙ sym (append-nil bytes)))
      (cases_Bool s.lexical.in_run)

  holding : (before more : List ℕ) (first : ℕ) → AreBefore before → Hand (first ∷ more) → bytes ≡ before ++ first ∷ more → IsHolding s first before more
  holding before more first ahead held are =
      ⊎_elim (λ (text : is_text s.lexical.mode ≡ true). absurd (no_text_here before (first ∷ more) first more ahead held refl are text))
      (λ (no_text : is_text s.lexical.mode ≡ false).
      let k = h.token no_text in
      let hand = first_of s.lexical.mode ∷ k.more in
      let mine = hand_of no_text in
      let same = sym (spread bytes k.before hand k.ahead k.bytes_are) ∙ spread bytes before (first ∷ more) ahead are in
      let fronts = one_front k.ahead.front ahead.front (k.ahead.text ++ hand) (ahead.text ++ first ∷ more) (from_first k.ahead.front k.ahead.tokens) (from_first ahead.front ahead.tokens)
      (hand_rest k.ahead.text hand k.ahead.is_run mine) (hand_rest ahead.text (first ∷ more) ahead.is_run held) same in
      let texts = one_run k.ahead.text ahead.text hand (first ∷ more) k.ahead.is_run ahead.is_run (hand_marked hand mine) (hand_marked (first ∷ more) held) fronts.1 in
      let befores : k.before ≡ before = k.ahead.before_is ∙ ap (λ l. l ++ k.ahead.text) fronts.0 ∙ ap (λ l. ahead.front ++ l) texts.0 ∙ sym ahead.before_is in
      record {
        no_text = no_text;
        first_is = heads (first_of s.lexical.mode) first k.more more texts.1;
        at_is = k.at_is ∙ ap (λ l. position_of (length l)) befores;
        kept = subst (AreKept s.lexical.mode s) (tails (first_of s.lexical.mode) first k.more more texts.1) (are_kept s.lexical.mode s k.more no_text k.spot k.mark);
      })
      (cases_Bool (is_text s.lexical.mode))

  reading : (before text : List ℕ) → AreTokens before → IsRun text → bytes ≡ before ++ text → IsReading s before text
  reading before text tokens plain are =
      ⊎_elim
      (λ (mode_text : is_text s.lexical.mode ≡ true).
      ⊎_elim
      (λ (on : s.lexical.in_run ≡ true).
      let k = run_held s bytes h mode_text on in
      let fronts = one_front k.before before k.text text (from_first k.before k.ahead) (from_first before tokens) (text_rest k.text k.is_run) (text_rest text plain) (sym k.bytes_are ∙ are) in
      record {
        text_mode = mode_text;
        at_is = k.at_is ∙ ap (λ l. position_of (length l)) fronts.0;
        held = k.held ∙ ap (character_left []) fronts.1;
        counts = λ inner none begun. k.counts inner none ∙ ap (brackets_last 0) fronts.1;
        none_begun = λ off. absurd (false≢true (sym off ∙ on));
      })
      (λ (off : s.lexical.in_run ≡ false).
      let k = none_held s bytes h mode_text off in
      let fronts = one_front bytes before [] text (from_first bytes k.tokens) (from_first before tokens) (text_rest [] refl) (text_rest text plain) (append-nil bytes ∙ are) in
      record {
        text_mode = mode_text;
        at_is = k.at_is ∙ ap (λ l. position_of (length l)) fronts.0;
        held = k.none_held ∙ ap (character_left []) fronts.1;
        counts = λ inner none begun. absurd (false≢true (sym off ∙ begun));
        none_begun = λ same. sym fronts.1;
      })
      (cases_Bool s.lexical.in_run))
      (λ (no_text : is_text s.lexical.mode ≡ false). absurd (no_token_here before text tokens plain are no_text))
      (cases_Bool (is_text s.lexical.mode))

pub markup_held : (limits : Limits) (bytes before more : List ℕ) → fault_of limits bytes ≡ None → AreBefore before → IsOpen more → bytes ≡ before ++ 60 ∷ more → IsHolding (framed limits bytes).state 60 before more
unfolding framed
markup_held limits bytes before more none ahead opens are =
    holding (run (turn (from_start limits) []) bytes).state bytes (known_of limits bytes none) before more 60 ahead (markup_in_hand (60 ∷ more) more refl opens) are

pub reference_held : (limits : Limits) (bytes before more : List ℕ) → fault_of limits bytes ≡ None → AreBefore before → list_all is_no_end more ≡ true → bytes ≡ before ++ 38 ∷ more
    → IsHolding (framed limits bytes).state 38 before more
unfolding framed
reference_held limits bytes before more none ahead named are =
    holding (run (turn (from_start limits) []) bytes).state bytes (known_of limits bytes none) before more 38 ahead (reference_in_hand (38 ∷ more) more refl named) are

pub text_read : (limits : Limits) (bytes before text : List ℕ) → fault_of limits bytes ≡ None → AreTokens before → IsRun text → bytes ≡ before ++ text → IsReading (framed limits bytes).state before text
unfolding framed
text_read limits bytes before text none tokens plain are = reading (run (turn (from_start limits) []) bytes).state bytes (known_of limits bytes none) before text tokens plain are
