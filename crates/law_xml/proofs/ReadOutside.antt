-- A byte outside elements keeps what is known of the bytes behind it.
use Rattle.std.proofs.Common.{◌≡◌, ℕ, ◌+◌, ◌^◌, ◌<◌, ◌≤◌, ◌⊎◌, inl, inr, ⊎_elim, Bool, true, false, not, ◌&&◌, ◌||◌, ◌==◌, if◌then◌else◌, List, [], ◌∷◌, ◌++◌, length, length-append, codes, Option, Some, None, Result, Ok, Err, refl, sym, ap, subst, ◌∙◌, arith, append_assoc, append-nil}
use Rattle.std.proofs.lemmas.Bool.{and_parts, and_from, cond_both, eqb-true, true≢false, false≢true, ltb-true, ltb-false, not-true}
use Rattle.std.proofs.lemmas.Bool.Decides.{nat_tests}
use Rattle.std.proofs.lemmas.List.Folds.{list_all-append}
use Rattle.std.proofs.lemmas.Slice.Eq.{bytes_eq-Decides}
use Rattle.std.specs.Option.{is_some}
use Rattle.std.specs.Str.{bytes_eq}
use Rattle.xml_tokens.specs.Characters.{is_white}
use Rattle.xml_tokens.specs.Declarations.{declaration_of}
use Rattle.xml_tokens.specs.Tags as tokens
use Rattle.xml_tokens.specs.Tags.{IsEndTag, are_white, is_empty, is_quote}
use Rattle.xml_tokens.specs.Utf8.{continues, ends_character, held_after}
use Rattle.xml_tokens.specs.declared.declarations.Declaration.{Declaration}
use Rattle.xml_tokens.specs.declared.declarations.Declaration.TheVariants as declaration
use Rattle.xml_names.proofs.EndLaws.{end_tags_are_read}
use Rattle.xml_names.proofs.StartLaws as start_laws
use Rattle.xml_names.specs.Ends.{end_of}
use Rattle.xml_names.specs.Grammar.{IsStart, IsWithin}
use Rattle.xml_names.specs.Headers.{header_of, opens_stream}
use Rattle.xml_names.specs.Scopes.{Scope}
use Rattle.xml_names.specs.Starts.{Tag, start_of}
use Rattle.xml_names.specs.declared.fault.StartWhy.{StartWhy}
use Rattle.xml_framer.proofs.LargerLimits.{in_largest}
use Rattle.law_xml.proofs.OpenLevels.{AreCovered, leaf_spelled, level_begun}
use Rattle.law_xml.proofs.SpelledTrees.{spelled_stays}
use Rattle.law_xml.proofs.ReadSoFar.{After, BeginsNoEnd, FooterIn, Kept, Outside, TokenIn, TopIsNoHeader, in_force, kept_on}
use Rattle.law_xml.proofs.TextFronts.{front_seen, no_front}
use Rattle.law_xml.proofs.ReadCharacters.{ascii_alone, grown_after, nothing_judged, Judged}
use Rattle.xml_writer.specs.Canon.{streams_namespace}
use Rattle.xml_framer.specs.Machine.{shows_unlimited, taken_in}
use Rattle.xml_framer.specs.MarkupSteps.{declared_phase, declares, ends_in_question, in_bang, in_declaration, in_phase, in_question, section_opened}
use Rattle.law_xml.specs.Spells.{IsHeaderName, SpellsEmptyHeader, SpellsHeader}
use Rattle.xml_framer.specs.States.{OpenElement, State, Turn, admits_declaration, fails, gathered, gathered_in, gives, in_run, item_ended, may_declare, next_position, run_begun, token_fails, turn}
use Rattle.law_xml.proofs.WithinParts.{AreShallow, StreamIn, counted_length, counted_more}
use Rattle.law_xml.specs.StreamLimits.{IsEmptyHeaderInWithin, IsHeaderInWithin}
use Rattle.law_xml.specs.Within.{IsHeadWithin}
use Rattle.xml_framer.specs.declared.limits.Limits.{Limits}
use Rattle.law_xml.specs.Streams.{InForce, IsDeclared, SpellsEmptyHeaderIn, SpellsHeaderIn, declared, ended, headed, headed_and_ended, white_space, with_element}
use Rattle.xml_framer.specs.TagSteps.{begun, element_from, ends_stream, footer_closes, footer_gathered, header_items, header_tag, heads, in_footer, in_opening, in_tag, is_between, is_header, is_name_of, is_too_deep, largest_limits, leaf, level, misplaced, phase_behind, says_stream, scope_in, starts, tag_anew, tag_closes, tag_gathered, tag_here, tag_in, tag_limits, tag_outside, unlimited}
use Rattle.xml_framer.specs.TextSteps.{between, character_begun, in_text, judged_outside, markup_begun, text_outside}
use Rattle.xml_framer.specs.declared.fault.Why.{Why}
use Rattle.xml_framer.specs.declared.fault.Why.TheVariants as why
use Rattle.xml_framer.specs.declared.items.Item.{Item}
use Rattle.xml_framer.specs.declared.items.Item.TheVariants as item
use Rattle.xml_framer.specs.declared.states.Mode.{Mode}
use Rattle.xml_framer.specs.declared.states.Mode.TheVariants as mode
use Rattle.xml_framer.specs.declared.states.Phase.{Phase}
use Rattle.xml_framer.specs.declared.states.Phase.TheVariants as phase
use Rattle.law_xml.proofs.OffsetSteps.{none_some as no_fault}
use Rattle.std.proofs.Math.Bool.{and-true}

pub grown_some : (xs : List ℕ) (b : ℕ) → xs ++ b ∷ [] ≡ [] → ⊥
grown_some [] b e = absurd cc
grown_some (x ∷ xs) b e = absurd cc

pub white_low : (b : ℕ) → is_white b ≡ true → b < 128
white_low b h = grind (arith, nat_tests)

token_more : (limits : Limits) (used next : ℕ) (now : InForce) (items : List Item) (bytes token : List ℕ) (position b : ℕ) → (limits.bytes < 2 ^ 64 → 0 < used → next ≡ used + 1) → TokenIn limits used now items bytes token position
    → TokenIn limits next now items (bytes ++ b ∷ []) (token ++ b ∷ []) position
token_more limits used next now items bytes token position b is h = record {
  done = h.done;
  stream = h.stream;
  count = λ few. counted_more used next h.done bytes b (is few (h.count few).0) (h.count few);
  bytes_are = ap (λ l. l ++ b ∷ []) h.bytes_are ∙ append_assoc h.done token (b ∷ []);
  position_is = h.position_is;
}

is_declared : (p : Phase) → admits_declaration p ≡ true → IsDeclared p (declared_phase p)
is_declared phase.First e = inl (refl, refl)
is_declared phase.FirstDeclared e = absurd (false≢true e)
is_declared phase.Between e = inr (refl, refl)
is_declared phase.Declared e = absurd (false≢true e)
is_declared phase.Ended e = absurd (false≢true e)

pub is_phase : (p : Phase) → is_between p ≡ true → p ≡ phase.Between
is_phase phase.First e = absurd (false≢true e)
is_phase phase.FirstDeclared e = absurd (false≢true e)
is_phase phase.Between e = refl
is_phase phase.Declared e = absurd (false≢true e)
is_phase phase.Ended e = absurd (false≢true e)

-- all but the last byte
abbrev init : List ℕ → List ℕ
init [] = []
init (x ∷ []) = []
init (x ∷ y ∷ ys) = x ∷ init (y ∷ ys)

init-append : (xs : List ℕ) (b : ℕ) → init (xs ++ b ∷ []) ≡ xs
init-append [] b = refl
init-append (x ∷ []) b = refl
init-append (x ∷ y ∷ ys) b = ap (λ l. x ∷ l) (init-append (y ∷ ys) b)

-- white space in front of the `>` of an end tag
pub footer_tag : (token white name : List ℕ) (b : ℕ) → b ≡ 62 → are_white white ≡ true → IsEndTag (token ++ b ∷ []) name → IsEndTag (token ++ (white ++ b ∷ [])) name
footer_tag token white name b is w h =
    let front : token ≡ 60 ∷ 47 ∷ (name ++ h.space) =
    sym (init-append token 62) ∙ ap init (ap (λ d. token ++ d ∷ []) (sym is) ∙ h.bytes_are ∙ ap (λ l. 60 ∷ 47 ∷ l) (sym (append_assoc name h.space (62 ∷ []))))
    ∙ init-append (60 ∷ 47 ∷ (name ++ h.space)) 62 in
    record {
      space = h.space ++ white;
      bytes_are = ap (λ d. token ++ (white ++ d ∷ [])) is ∙ ap (λ t. t ++ (white ++ 62 ∷ [])) front ∙ simp (append_assoc);
      name_is = h.name_is;
      space_white = list_all-append is_white h.space white ∙ and_from _ _ h.space_white w;
    }

-- a tag with a header's name inside a scope
record Named (scope : Scope) (bytes : List ℕ) : Type 0 where
  raw : List tokens.Attribute
  tag : Tag
  start : IsStart scope bytes raw tag
  is_named : IsHeaderName tag.ns tag.name

named_by : (scope : Scope) (bytes : List ℕ) (r : Result Tag StartWhy) → start_of largest_limits scope bytes ≡ r → says_stream r ≡ true → Named scope bytes
named_by scope bytes (Err fault) is e = absurd (false≢true e)
named_by scope bytes (Ok t) is e =
    let w = (start_laws.read largest_limits scope bytes t).0 is in
    let p = and_parts (bytes_eq t.ns streams_namespace) (bytes_eq t.name (codes "stream")) e in
    record { raw = w.0; tag = t; start = w.1; is_named = ((bytes_eq-Decides t.ns streams_namespace).0 p.0, (bytes_eq-Decides t.name (codes "stream")).0 p.1) }

named_header : (s : State) → is_header s ≡ true → Named (scope_in s.scopes) s.token
unfolding is_header
named_header s e = named_by (scope_in s.scopes) s.token (start_of largest_limits (scope_in s.scopes) s.token) refl e

begins_more : (token : List ℕ) (b : ℕ) → BeginsNoEnd token → BeginsNoEnd (token ++ b ∷ [])
begins_more [] b h = absurd (omega (arith, h.0))
begins_more (x ∷ []) b h = absurd (omega (arith, h.0))
begins_more (x ∷ y ∷ rest) b h = (omega arith, h.1)

begins_with : (token : List ℕ) (b : ℕ) → token ≡ 60 ∷ [] → (b == 47 && true) ≡ false → BeginsNoEnd (token ++ b ∷ [])
begins_with token b is other = subst (λ t. BeginsNoEnd (t ++ b ∷ [])) (sym is) (omega arith, sym (and-true (b == 47)) ∙ other)

-- a state outside elements
abbrev pub outer : State → Mode → State
outer s m = record s { here = None; lexical = record s.lexical { mode = m } }

-- a byte and what it finds
module _ (given : Limits) (s : State) (items : List Item) (b : ℕ) (bytes : List ℕ) (used : ℕ) (k : Kept given s.positions.at s.lexical.spent s.limits bytes) (c : continues s.pending b ≡ true)
    (idle : used ≡ 0 → s.positions.used ≡ 0) (low : s.below ≡ []) where
  abbrev now : InForce
  now = in_force s.lexical.phase s.scopes s.name

  abbrev P : State → Type 0
  P r = After given b bytes (turn r items)

  on : Kept given (next_position s.positions.at) s.lexical.spent s.limits (bytes ++ b ∷ [])
  on = kept_on given s.positions.at s.lexical.spent s.limits bytes b k

  failed : (r : State) (gave : List Item) (at : ℕ) (w : Why) → After given b bytes (turn (fails r at w) gave)
  failed r gave at w none = absurd (no_fault (record { at = at; why = w }) none)

  -- ---- white space

  white_hand : (s.pending ≡ [] → StreamIn s.limits now bytes items) → is_white b ≡ true → StreamIn s.limits now (bytes ++ b ∷ []) items
  white_hand h w = let so_far = h (ascii_alone s.pending b (white_low b w) c).0 in (white_space now (bytes ++ b ∷ []) items bytes (b ∷ []) so_far.0 (and_from _ _ w refl) refl, so_far.1)

  -- there is room for the byte
  abbrev Room : Type 0
  Room = s.limits.bytes < 2 ^ 64 → 0 < used → (used + 1 ≤ s.limits.bytes) × (s.positions.used ≡ used + 1)

  abbrev HasToken : Type 0
  HasToken = TokenIn s.limits used now items bytes s.token s.positions.token_at

  grows : Room → HasToken → TokenIn s.limits s.positions.used now items (bytes ++ b ∷ []) (s.token ++ b ∷ []) s.positions.token_at
  grows room h = token_more s.limits used s.positions.used now items bytes s.token s.positions.token_at b (λ few p. (room few p).1) h

  whole_short : Room → HasToken → s.limits.bytes < 2 ^ 64 → length (s.token ++ b ∷ []) ≤ s.limits.bytes
  whole_short room h few =
      let more = grows room h in
      let n = counted_length s.positions.used more.done (bytes ++ b ∷ []) (s.token ++ b ∷ []) (more.count few) more.bytes_are in
      let r = room few (h.count few).0 in
      let fits = r.0 in
      let is = r.1 in omega (arith, n, fits, is)

  grown : ends_character s.pending b ≡ false → held_after s.pending b ≡ [] → ⊥
  grown e none = grown_some s.pending b (sym (grown_after s.pending b c e) ∙ none)

  text_case : Outside mode.Text (outer s mode.Text) used items bytes → P (text_outside (outer s mode.Text) b)
  unfolding text_outside
  text_case h =
      let r = outer s mode.Text in
      cond_both (ends_character s.pending b) (judged_outside (in_run r) b) (character_begun (in_run r)) P
      (λ e. cond_both s.lexical.in_run r (run_begun r) (λ u. P (judged_outside u b))
      (λ i. cond_both (is_white b) r (token_fails r why.NotWellFormed) P (λ w none. record { kept = on; hand = (low, (h.0, idle h.1, λ p. white_hand h.2 w)) }) (λ w. failed r items _ _))
      (λ i. cond_both (is_white b) (run_begun r) (token_fails (run_begun r) why.NotWellFormed) P (λ w none. record { kept = on; hand = (low, (h.0, idle h.1, λ p. white_hand h.2 w)) }) (λ w. failed (run_begun r) items _ _)))
      (λ e. cond_both s.lexical.in_run r (run_begun r) (λ u. P (character_begun u))
      (λ i. cond_both (is_empty s.pending) (record r { positions = record r.positions { item_at = r.positions.at } }) r P (λ w none. record { kept = on; hand = (low, (h.0, idle h.1, λ p. absurd (grown e p))) }) (λ w none. record { kept = on; hand = (low, (h.0, idle h.1, λ p. absurd (grown e p))) }))
      (λ i. cond_both (is_empty s.pending) (record (run_begun r) { positions = record (run_begun r).positions { item_at = r.positions.at } }) (run_begun r) P (λ w none. record { kept = on; hand = (low, (h.0, idle h.1, λ p. absurd (grown e p))) }) (λ w none. record { kept = on; hand = (low, (h.0, idle h.1, λ p. absurd (grown e p))) })))

  markup_case : Outside mode.Text (outer s mode.Text) used items bytes → (b == 60) ≡ true → P (markup_begun (outer s mode.Text))
  markup_case h e none =
      let is = eqb-true b 60 e in
      record {
        kept = on;
        hand = (
          low,
          (
            ap (λ t. t ++ 60 ∷ []) h.0,
            record {
              done = bytes;
              stream = h.2 (ascii_alone s.pending b (omega (arith, is)) c).0;
              count = λ few. (omega arith, let n = length-append bytes (b ∷ []) in omega (arith, n));
              bytes_are = ap (λ l. bytes ++ l) (ap (λ d. d ∷ []) is ∙ ap (λ t. t ++ 60 ∷ []) (sym h.0));
              position_is = k.at_is;
            },
          ),
        );
      }

  pub outside_text : Outside mode.Text (outer s mode.Text) used items bytes → P (in_text (outer s mode.Text) b)
  unfolding in_text between
  outside_text h =
      let r = outer s mode.Text in
      cond_both (b == 60) (markup_begun r) (if b == 38 then fails r r.positions.at why.NotWellFormed else text_outside r b) P (λ e. markup_case h e)
      (λ e. cond_both (b == 38) (fails r r.positions.at why.NotWellFormed) (text_outside r b) P (λ f. failed r items _ _) (λ f. text_case h))

  -- ---- declarations

  pub outside_bang : used ≡ 0 → P (in_bang (outer s mode.Bang) b)
  unfolding in_bang
  outside_bang none_used =
      let r = outer s mode.Bang in
      cond_both _ (if length r.token == 8 then section_opened r else gathered r b) (token_fails r why.Restricted) P
      (λ e. cond_both (length r.token == 8) (section_opened r) (gathered r b) P (λ f. failed r items _ _) (λ f none. record { kept = on; hand = (low, idle none_used) }))
      (λ e. failed r items _ _)

  outside_question : Room → Outside mode.Question (outer s mode.Question) used items bytes → P (in_question (outer s mode.Question) b)
  unfolding in_question
  outside_question room h =
      let r = outer s mode.Question in
      let more = grows room h.1 in
      cond_both _ (if _ then gathered r b else token_fails r why.Restricted) (if is_white b then gathered_in r mode.Declaration b else token_fails r why.Restricted) P
      (λ e. cond_both _ (gathered r b) (token_fails r why.Restricted) P (λ f none. record { kept = on; hand = (low, (h.0, more)) }) (λ f. failed r items _ _))
      (λ e. cond_both (is_white b) (gathered_in r mode.Declaration b) (token_fails r why.Restricted) P (λ f none. record { kept = on; hand = (low, (h.0, more)) }) (λ f. failed r items _ _))

  declared_at : Room → Outside mode.Declaration (outer s mode.Declaration) used items bytes → (d : Declaration) → declaration_of (s.token ++ b ∷ []) ≡ d → P (declares (gathered (outer s mode.Declaration) b) d)
  declared_at room h declaration.Good e none =
      let more = grows room h.1 in
      record {
        kept = on;
        hand = (low, (refl, refl, λ p. (declared (in_force (declared_phase s.lexical.phase) s.scopes s.name) (bytes ++ b ∷ []) items now more.done (s.token ++ b ∷ []) more.stream.0 (is_declared s.lexical.phase h.0) refl refl e more.bytes_are, λ few. (more.stream.1 few, whole_short room h.1 few))));
      }
  declared_at room h declaration.Encoding e none = failed (gathered (outer s mode.Declaration) b) items _ _ none
  declared_at room h declaration.NotWellFormed e none = failed (gathered (outer s mode.Declaration) b) items _ _ none

  outside_declaration : Room → Outside mode.Declaration (outer s mode.Declaration) used items bytes → P (in_declaration (outer s mode.Declaration) b)
  unfolding in_declaration
  outside_declaration room h =
      let r = outer s mode.Declaration in
      cond_both (b == 62 && ends_in_question r.token) (declares (gathered r b) (declaration_of (r.token ++ b ∷ []))) (gathered r b) P
      (λ e. declared_at room h (declaration_of (s.token ++ b ∷ [])) refl)
      (λ e none. record { kept = on; hand = (low, (h.0, grows room h.1)) })

  -- ---- the footer

  outside_footer_begun : HasToken → FooterIn s.limits now items (bytes ++ b ∷ []) (s.token ++ b ∷ [])
  outside_footer_begun h = record {
    done = h.done;
    white = [];
    stream = h.stream;
    bytes_are = ap (λ l. l ++ b ∷ []) h.bytes_are ∙ append_assoc h.done s.token (b ∷ []) ∙ ap (λ l. h.done ++ l) (sym (append-nil (s.token ++ b ∷ [])));
    is_white = refl;
    whole = inl refl;
  }

  footer_more : FooterIn s.limits now items bytes s.token → length s.token < length s.name + 2 → FooterIn s.limits now items (bytes ++ b ∷ []) (s.token ++ b ∷ [])
  footer_more h short =
      let none : h.white ≡ [] = ⊎_elim (λ e. e) (λ long. absurd (omega (arith, short, long))) h.whole in
      record {
        done = h.done;
        white = [];
        stream = h.stream;
        bytes_are =
            ap (λ l. l ++ b ∷ []) (h.bytes_are ∙ ap (λ w. h.done ++ (s.token ++ w)) none ∙ ap (λ l. h.done ++ l) (append-nil s.token))
            ∙ append_assoc h.done s.token (b ∷ []) ∙ ap (λ l. h.done ++ l) (sym (append-nil (s.token ++ b ∷ [])));
        is_white = refl;
        whole = inl refl;
      }

  footer_white : FooterIn s.limits now items bytes s.token → length s.name + 2 ≤ length s.token → is_white b ≡ true → FooterIn s.limits now items (bytes ++ b ∷ []) s.token
  footer_white h long w = record {
    done = h.done;
    white = h.white ++ b ∷ [];
    stream = h.stream;
    bytes_are = ap (λ l. l ++ b ∷ []) h.bytes_are ∙ append_assoc h.done (s.token ++ h.white) (b ∷ []) ∙ ap (λ l. h.done ++ l) (append_assoc s.token h.white (b ∷ []));
    is_white = list_all-append is_white h.white (b ∷ []) ∙ and_from _ _ h.is_white (and_from _ _ w refl);
    whole = inr long;
  }

  footer_gathers : Outside mode.Footer (outer s mode.Footer) used items bytes → P (footer_gathered (outer s mode.Footer) b)
  footer_gathers h =
      let r = outer s mode.Footer in
      cond_both (is_some s.lexical.quote || is_quote b) _ (if _ then gathered r b else (if is_white b then r else record r { lexical = record r.lexical { spoiled = true } })) P
      (λ e none. record { kept = on; hand = (low, (idle h.0, λ f. absurd (true≢false f))) })
      (λ e. cond_both _ (gathered r b) (if is_white b then r else record r { lexical = record r.lexical { spoiled = true } }) P
      (λ f none. record { kept = on; hand = (low, (idle h.0, λ g. footer_more (h.1 g) (ltb-true (length s.token) (length s.name + 2) f))) })
      (λ f. cond_both (is_white b) r (record r { lexical = record r.lexical { spoiled = true } }) P
      (λ w none. record { kept = on; hand = (low, (idle h.0, λ g. footer_white (h.1 g) (ltb-false (length s.token) (length s.name + 2) f) w)) })
      (λ w none. record { kept = on; hand = (low, (idle h.0, λ g. absurd (true≢false g))) })))

  footer_ends : FooterIn s.limits now items bytes s.token → (b == 62) ≡ true → is_between s.lexical.phase ≡ true → is_name_of (end_of (s.token ++ b ∷ [])) s.name ≡ true
      → StreamIn s.limits (in_force phase.Ended s.scopes s.name) (bytes ++ b ∷ []) (items ++ item.Footer ∷ [])
  footer_ends h e p n =
      let tag = footer_tag s.token h.white s.name b (eqb-true b 62 e) h.is_white (named (end_of (s.token ++ b ∷ [])) refl n) in (
        ended (in_force phase.Ended s.scopes s.name) (bytes ++ b ∷ []) (items ++ item.Footer ∷ []) now h.done (s.token ++ (h.white ++ b ∷ [])) items
            h.stream.0 (is_phase s.lexical.phase p) tag refl refl refl
            (ap (λ l. l ++ b ∷ []) h.bytes_are ∙ append_assoc h.done (s.token ++ h.white) (b ∷ []) ∙ ap (λ l. h.done ++ l) (append_assoc s.token h.white (b ∷ []))) refl,
        h.stream.1,
      )
    where
      named : (o : Option (List ℕ)) → end_of (s.token ++ b ∷ []) ≡ o → is_name_of o s.name ≡ true → IsEndTag (s.token ++ b ∷ []) s.name
      named None is f = absurd (false≢true f)
      named (Some n) is f = subst (IsEndTag (s.token ++ b ∷ [])) ((bytes_eq-Decides n s.name).0 f) ((end_tags_are_read (s.token ++ b ∷ []) n).0 is)

  footer_whole : Outside mode.Footer (outer s mode.Footer) used items bytes → (b == 62) ≡ true → After given b bytes (footer_closes (turn (gathered (outer s mode.Footer) b) items))
  unfolding footer_closes
  footer_whole h e =
      let r = gathered (outer s mode.Footer) b in
      cond_both (ends_stream r) (gives (in_phase (item_ended r) phase.Ended) items item.Footer) (turn (token_fails r why.NotWellFormed) items) (After given b bytes)
      (λ f none.
      let p = and_parts _ _ f in
      let q = and_parts _ _ p.1 in
      record { kept = on; hand = (low, (refl, refl, λ n. footer_ends (h.1 (not-true s.lexical.spoiled p.0)) e q.0 q.1)) })
      (λ f. failed r items _ _)

  pub outside_footer : Outside mode.Footer (outer s mode.Footer) used items bytes → After given b bytes (in_footer (turn (outer s mode.Footer) items) b)
  unfolding in_footer
  outside_footer h =
      let r = outer s mode.Footer in
      cond_both (b == 62 && not (is_some s.lexical.quote)) (footer_closes (turn (gathered r b) items)) (turn (footer_gathered r b) items) (After given b bytes)
      (λ e. footer_whole h (and_parts _ _ e).0) (λ e. footer_gathers h)

  -- ---- a whole tag

  -- the state with the whole tag in hand
  abbrev full : Mode → State
  full m = gathered (outer s m) b

  abbrev whole : List ℕ
  whole = s.token ++ b ∷ []

  abbrev Q : Turn → Type 0
  Q = After given b bytes

  module _ (m : Mode) (h : TokenIn s.limits s.positions.used now items (bytes ++ b ∷ []) (s.token ++ b ∷ []) s.positions.token_at) (short : s.limits.bytes < 2 ^ 64 → length (s.token ++ b ∷ []) ≤ s.limits.bytes) where
    -- what the tag of a header has to spell
    abbrev Heads : Tag → Type 0
    Heads t =
        (t.empty ≡ false → (x : SpellsHeaderIn s.lexical.phase (scope_in s.scopes) whole t.spelled (t.bindings ++ []) (header_of t))
        × (s.limits.bytes < 2 ^ 64 → IsHeaderInWithin s.limits s.lexical.phase (scope_in s.scopes) whole t.spelled (t.bindings ++ []) (header_of t) x))
        × (t.empty ≡ true → (x : SpellsEmptyHeaderIn s.lexical.phase (scope_in s.scopes) whole t.spelled (t.bindings ++ []) (header_of t))
        × (s.limits.bytes < 2 ^ 64 → IsEmptyHeaderInWithin s.limits s.lexical.phase (scope_in s.scopes) whole t.spelled (t.bindings ++ []) (header_of t) x))

    headed_at : (t : Tag) → Heads t → (empty : Bool) → t.empty ≡ empty
        → Q (turn (in_phase (item_ended (record (full m) { scopes = t.bindings ∷ []; name = t.spelled })) (phase_behind empty)) (items ++ header_items s.positions.token_at (header_of t) empty))
    headed_at t heads false e none = record {
      kept = on;
      hand = (low, (refl, refl, λ p. (headed (in_force phase.Between (t.bindings ∷ []) t.spelled) (bytes ++ b ∷ []) _ now h.done whole items (header_of t) h.stream.0 (heads.0 e).0 refl h.bytes_are (ap (λ at. items ++ item.Header at (header_of t) ∷ []) h.position_is), λ few. (h.stream.1 few, (heads.0 e).1 few))));
    }
    headed_at t heads true e none = record {
      kept = on;
      hand = (low, (refl, refl, λ p. (headed_and_ended (in_force phase.Ended (t.bindings ∷ []) t.spelled) (bytes ++ b ∷ []) _ now h.done whole items (header_of t) h.stream.0 (heads.1 e).0 refl h.bytes_are (ap (λ at. items ++ item.Header at (header_of t) ∷ item.Footer ∷ []) h.position_is), λ few. (h.stream.1 few, (heads.1 e).1 few))));
    }

    heads_at : ((t : Tag) → tag_anew (full m) ≡ Ok t → Heads t) → (r : Result Tag StartWhy) → tag_anew (full m) ≡ r → Q (heads (turn (full m) items) r)
    heads_at f (Ok t) e = headed_at t (f t e) t.empty refl
    heads_at f (Err fault) e = failed (full m) items _ _

    header_case : ((t : Tag) → tag_anew (full m) ≡ Ok t → Heads t) → Q (header_tag (turn (full m) items))
    unfolding header_tag
    header_case f = heads_at f (tag_anew (full m)) refl

    started : (t : Tag) → tag_anew (full m) ≡ Ok t → (xs : List tokens.Attribute) × IsStart [] whole xs t × IsWithin (tag_limits s.limits) xs t
    started t e = (start_laws.read (tag_limits s.limits) [] whole t).0 e

    first_header : (t : Tag) → tag_anew (full m) ≡ Ok t → t.empty ≡ false → (x : SpellsHeader whole t.spelled (t.bindings ++ []) (header_of t)) × (s.limits.bytes < 2 ^ 64 → IsHeadWithin s.limits whole x.raw x.tag)
    first_header t e n =
        let w = started t e in
        (record { raw = w.0; tag = t; start = w.1; not_empty = n; name_is = refl; scope_is = sym (append-nil t.bindings); says = refl }, λ few. record { short = short few; tag = w.2 })

    first_empty_header : (t : Tag) → tag_anew (full m) ≡ Ok t → t.empty ≡ true → (x : SpellsEmptyHeader whole t.spelled (t.bindings ++ []) (header_of t)) × (s.limits.bytes < 2 ^ 64 → IsHeadWithin s.limits whole x.raw x.tag)
    first_empty_header t e n =
        let w = started t e in
        (record { raw = w.0; tag = t; start = w.1; is_empty = n; name_is = refl; scope_is = sym (append-nil t.bindings); says = refl }, λ few. record { short = short few; tag = w.2 })

    first_heads : (s.lexical.phase ≡ phase.First) ⊎ (s.lexical.phase ≡ phase.FirstDeclared) → (t : Tag) → tag_anew (full m) ≡ Ok t → Heads t
    first_heads (inl is) t e = (λ n. rw is (first_header t e n), λ n. rw is (first_empty_header t e n))
    first_heads (inr is) t e = (λ n. rw is (first_header t e n), λ n. rw is (first_empty_header t e n))

    next_heads : (s.lexical.phase ≡ phase.Between) ⊎ (s.lexical.phase ≡ phase.Declared) → is_header (full m) ≡ true → (t : Tag) → tag_anew (full m) ≡ Ok t → Heads t
    next_heads phases opens t e = at phases
      where
        w : Named (scope_in s.scopes) whole
        w = named_header (full m) opens

        at : (s.lexical.phase ≡ phase.Between) ⊎ (s.lexical.phase ≡ phase.Declared) → Heads t
        at (inl is) = (
          λ n. let x = first_header t e n in rw is (record { spelled = x.0; raw = w.raw; tag = w.tag; start = w.start; named = w.is_named }, λ few. record { head = x.1 few; attributes_fit = k.few_attributes; names_fit = k.short_namespaces }),
          λ n. let x = first_empty_header t e n in rw is (record { spelled = x.0; raw = w.raw; tag = w.tag; start = w.start; named = w.is_named }, λ few. record { head = x.1 few; attributes_fit = k.few_attributes; names_fit = k.short_namespaces }),
        )
        at (inr is) = (
          λ n. let x = first_header t e n in rw is (record { spelled = x.0; raw = w.raw; tag = w.tag; start = w.start; named = w.is_named }, λ few. record { head = x.1 few; attributes_fit = k.few_attributes; names_fit = k.short_namespaces }),
          λ n. let x = first_empty_header t e n in rw is (record { spelled = x.0; raw = w.raw; tag = w.tag; start = w.start; named = w.is_named }, λ few. record { head = x.1 few; attributes_fit = k.few_attributes; names_fit = k.short_namespaces }),
        )

    -- ---- an element begins

    hand_after : (b == 62) ≡ true → Judged [] (held_after s.pending b)
    hand_after e = let is = eqb-true b 62 e in subst (Judged []) (sym (ascii_alone s.pending b (omega (arith, is)) c).1) nothing_judged

    not_named : (t : Tag) → tag_here (full m) ≡ Ok t → is_header (full m) ≡ false → ¬ (IsHeaderName t.ns t.name)
    unfolding is_header
    not_named t e other n =
        let larger : start_of largest_limits (scope_in s.scopes) whole ≡ Ok t = in_largest (tag_limits s.limits) (scope_in s.scopes) whole t k.few_attributes k.short_namespaces e in
        let opens : opens_stream t ≡ true = and_from _ _ ((bytes_eq-Decides t.ns streams_namespace).1 n.0) ((bytes_eq-Decides t.name (codes "stream")).1 n.1) in
        true≢false (sym opens ∙ ap says_stream (sym larger) ∙ other)

    started_here : (t : Tag) → tag_here (full m) ≡ Ok t → (xs : List tokens.Attribute) × IsStart (scope_in s.scopes) whole xs t × IsWithin (tag_limits s.limits) xs t
    started_here t e = (start_laws.read (tag_limits s.limits) (scope_in s.scopes) whole t).0 e

    module _ (between : s.lexical.phase ≡ phase.Between) (other : is_header (full m) ≡ false) (e : (b == 62) ≡ true) where
      shallow : is_too_deep (full m) ≡ false → 1 ≤ s.limits.depth
      shallow f = ltb-false s.limits.depth 1 f

      leaf_case : is_too_deep (full m) ≡ false → (t : Tag) → tag_here (full m) ≡ Ok t → t.empty ≡ true → Q (leaf (turn (full m) items) t)
      unfolding leaf
      leaf_case near t is n none =
          let w = started_here t is in
          let spelled = leaf_spelled s.limits (scope_in s.scopes) whole w.0 t w.1 w.2 n in
          record {
            kept = on;
            hand = (
              low,
              (
                refl,
                refl,
                λ p. (
                  with_element now (bytes ++ b ∷ []) _ h.done whole items (element_from t) h.stream.0 between (record { spelled = spelled.0; no_header = not_named t is other }) h.bytes_are
                      (ap (λ x. items ++ item.Element x ∷ []) (spelled_stays (scope_in s.scopes) whole (element_from t) spelled.0)),
                  λ few. (h.stream.1 few, record { short = short few; shallow = shallow near; tags = spelled.1 }),
                ),
              ),
            );
          }

      level_case : is_too_deep (full m) ≡ false → (t : Tag) → tag_here (full m) ≡ Ok t → t.empty ≡ false → Q (turn (level (full m) t) items)
      unfolding level
      level_case near t is n none =
          let w = started_here t is in
          let o : OpenElement = record { spelled = t.spelled; element = element_from t } in
          record {
            kept = on;
            hand = (
              [],
              record {
                between = between;
                base = s.scopes;
                own = t.bindings;
                rest = s.scopes;
                scopes_are = refl;
                top = subst (TopIsNoHeader o) (sym low) (not_named t is other);
                done = h.done;
                outer = [];
                level = whole;
                stream = subst (λ p. StreamIn s.limits (in_force p s.scopes s.name) h.done items) between h.stream;
                count = h.count;
                fits = λ few. let n = counted_length s.positions.used h.done (bytes ++ b ∷ []) (s.token ++ b ∷ []) (h.count few) h.bytes_are in let most = short few in omega (arith, n, most);
                shallow = subst (AreShallow s.limits.depth o) (sym low) (shallow near);
                covered = subst (λ l. AreCovered s.limits s.scopes s.scopes l []) (sym low) (refl, refl);
                open_level = level_begun s.limits (scope_in s.scopes) whole w.0 t w.1 w.2 n;
                bytes_are = h.bytes_are ∙ ap (λ l. h.done ++ l) (sym (append-nil whole));
              },
              (refl, record { whole = []; hand_is = sym (ascii_alone s.pending b (let l = eqb-true b 62 e in omega (arith, l)) c).1; judged = hand_after e; seen = front_seen [] [] no_front }),
            );
          }

      starts_at : (r : Result Tag StartWhy) → tag_here (full m) ≡ r → Q (starts (turn (full m) items) r)
      unfolding begun
      starts_at (Err fault) is = failed (full m) items _ _
      starts_at (Ok t) is =
          cond_both (is_too_deep (full m)) (turn (token_fails (full m) why.TooDeep) items) (if t.empty then leaf (turn (full m) items) t else turn (level (full m) t) items) Q
          (λ f. failed (full m) items _ _)
          (λ f. cond_both t.empty (leaf (turn (full m) items) t) (turn (level (full m) t) items) Q (λ n. leaf_case f t is n) (λ n. level_case f t is n))

    misplaced_case : Q (misplaced (turn (full m) items))
    unfolding misplaced
    misplaced_case = failed (full m) items _ _

    at_phase : (b == 62) ≡ true → (p : Phase) → s.lexical.phase ≡ p → Q (tag_in p (turn (full m) items))
    at_phase e phase.First is = header_case (first_heads (inl is))
    at_phase e phase.FirstDeclared is = header_case (first_heads (inr is))
    at_phase e phase.Between is =
        cond_both (is_header (full m)) (header_tag (turn (full m) items)) (starts (turn (full m) items) (tag_here (full m))) Q
        (λ f. header_case (next_heads (inl is) f)) (λ f. starts_at is f e (tag_here (full m)) refl)
    at_phase e phase.Declared is =
        cond_both (is_header (full m)) (header_tag (turn (full m) items)) (misplaced (turn (full m) items)) Q (λ f. header_case (next_heads (inr is) f)) (λ f. misplaced_case)
    at_phase e phase.Ended is = misplaced_case

    closes_case : (b == 62) ≡ true → Q (tag_closes (turn (full m) items))
    unfolding tag_closes tag_outside
    closes_case e = at_phase e s.lexical.phase refl

  tag_case : (m : Mode) → Room → BeginsNoEnd (s.token ++ b ∷ []) → HasToken → After given b bytes (in_tag (turn (outer s m) items) b)
  unfolding in_tag
  tag_case m room begins h =
      let more = grows room h in
      cond_both (b == 62 && not (is_some s.lexical.quote)) (tag_closes (turn (full m) items)) (turn (tag_gathered (outer s m) b) items) Q
      (λ e. closes_case m more (whole_short room h) (and_parts _ _ e).0) (λ e none. record { kept = on; hand = (low, (begins, more)) })

  outside_tag : Room → Outside mode.Tag (outer s mode.Tag) used items bytes → After given b bytes (in_tag (turn (outer s mode.Tag) items) b)
  outside_tag room h = tag_case mode.Tag room (begins_more s.token b h.0) h.1

  -- the byte shows that a declaration begins, or a tag
  asks : (b == 33) ≡ false → (b == 63) ≡ true → may_declare (outer s mode.Opening) ≡ true → shows_unlimited (outer s mode.Opening) b ≡ false
  asks e f g = let no_slash : (b == 47) ≡ false = subst (λ d. (d == 47) ≡ false) (sym (eqb-true b 63 f)) refl in rw (no_slash, e, f, g) refl

  begins_tag : (b == 33) ≡ false → (b == 63) ≡ false → (b == 47 && true) ≡ false → shows_unlimited (outer s mode.Opening) b ≡ false
  begins_tag e f g = rw (sym (and-true (b == 47)) ∙ g, e, f) refl

  outside_opening : (s.limits.bytes < 2 ^ 64 → 0 < used → shows_unlimited (outer s mode.Opening) b ≡ false → (used + 1 ≤ s.limits.bytes) × (s.positions.used ≡ used + 1)) → Outside mode.Opening (outer s mode.Opening) used items bytes → After given b bytes (in_opening (turn (outer s mode.Opening) items) b)
  unfolding in_opening
  outside_opening room (alone, h) =
      let r = outer s mode.Opening in
      let question = turn (if may_declare r then gathered_in r mode.Question b else token_fails r why.Restricted) items in
      let footer = turn (gathered_in (unlimited r) mode.Footer b) items in
      let last = (if b == 47 && true then footer else in_tag (turn r items) b) in
      cond_both (b == 33) (turn (gathered_in (unlimited r) mode.Bang b) items) (if b == 63 then question else last) Q
      (λ e none. record { kept = on; hand = (low, refl) })
      (λ e. cond_both (b == 63) question last Q
      (λ f. cond_both (may_declare r) (gathered_in r mode.Question b) (token_fails r why.Restricted) P (λ g none. record { kept = on; hand = (low, (g, grows (λ few p. room few p (asks e f g)) h)) }) (λ g. failed r items _ _))
      (λ f. cond_both (b == 47 && true) footer (in_tag (turn r items) b) Q (λ g none. record { kept = on; hand = (low, (refl, λ n. outside_footer_begun h)) }) (λ g. tag_case mode.Opening (λ few p. room few p (begins_tag e f g)) (begins_with s.token b alone g) h)))

  -- a byte outside elements
  pub outside_byte : (m : Mode) → (s.limits.bytes < 2 ^ 64 → 0 < used → shows_unlimited (outer s m) b ≡ false → (used + 1 ≤ s.limits.bytes) × (s.positions.used ≡ used + 1)) → Outside m (outer s m) used items bytes → After given b bytes (taken_in m (turn (outer s m) items) b)
  outside_byte mode.Text room h = outside_text h
  outside_byte mode.Reference room h = absurd h
  outside_byte mode.Opening room h = outside_opening room h
  outside_byte mode.Bang room h = outside_bang h
  outside_byte mode.Question room h = outside_question (λ few p. room few p refl) h
  outside_byte mode.Declaration room h = outside_declaration (λ few p. room few p refl) h
  outside_byte mode.Tag room h = outside_tag (λ few p. room few p refl) h
  outside_byte mode.Footer room h = outside_footer h
  outside_byte mode.Section room h = absurd h
