-- A byte in an element keeps what is known of the bytes behind it.
use Rattle.std.proofs.Common.{◌≡◌, ℕ, ◌+◌, ◌^◌, ◌<◌, ◌≤◌, Bool, true, false, not, ◌&&◌, ◌||◌, ◌==◌, if◌then◌else◌, List, [], ◌∷◌, ◌++◌, length, Option, Some, None, Result, Ok, Err, refl, sym, ap, subst, ◌∙◌, arith, append_assoc, append-nil}
use Rattle.std.proofs.lemmas.Bool.{and_parts, cond_both, eqb-true, or_from, or_parts, false≢true, ltb-false}
use Rattle.std.proofs.lemmas.Slice.Eq.{bytes_eq-Decides}
use Rattle.std.specs.Option.{is_some}
use Rattle.xml_tokens.specs.References.{reference_goes_on, referred}
use Rattle.xml_tokens.specs.Tags as tokens
use Rattle.xml_tokens.specs.Tags.{IsEndTag, is_end}
use Rattle.xml_tokens.specs.Utf8.{continues, ends_character, held_after}
use Rattle.xml_tokens.specs.declared.references.Reference.{Reference}
use Rattle.xml_tokens.specs.declared.references.Reference.TheVariants as reference
use Rattle.xml_names.proofs.EndLaws.{end_tags_are_read}
use Rattle.xml_names.proofs.StartLaws as start_laws
use Rattle.xml_names.specs.Ends.{end_of}
use Rattle.xml_names.specs.Grammar.{IsStart, IsWithin}
use Rattle.xml_names.specs.Scopes.{Scope}
use Rattle.xml_names.specs.Starts.{Tag}
use Rattle.xml_names.specs.declared.fault.StartWhy.{StartWhy}
use Rattle.law_xml.proofs.OpenLevels.{AreCovered, CoveredLevel, leaf_spelled, level_begun, level_closed, level_covered, level_resumed}
use Rattle.law_xml.proofs.SpelledTrees.{spelled_stays}
use Rattle.law_xml.proofs.ReadSoFar.{After, Around, Inside, Kept, MarkIn, OpensSection, SectionIn, TextIn, TopIsNoHeader, in_force, kept_on}
use Rattle.law_xml.proofs.TextFronts.{front_seen, no_front}
use Rattle.law_xml.proofs.TextHands.{mark_begun, mark_more, marked_text, opens_more, reference_ends, section_bracket, section_ends, section_opens, section_other, section_third, section_waits, text_grows, text_waits}
use Rattle.law_xml.proofs.ReadCharacters.{Judged, ascii_alone, nothing_judged}
use Rattle.xml_framer.specs.Machine.{taken_in}
use Rattle.xml_framer.specs.MarkupSteps.{in_bang, section_opened}
use Rattle.law_xml.proofs.WithinParts.{AreShallow, IsCounted, SpellsIn, StreamIn, counted_length, counted_more, depth_more, depth_text, shallow_own, shallow_with}
use Rattle.xml_framer.specs.declared.limits.Limits.{Limits}
use Rattle.xml_framer.specs.States.{OpenElement, State, Turn, fails, gathered, gathered_in, next_position, token_begun, token_ended, token_fails, turn, with_more, with_text}
use Rattle.law_xml.specs.Streams.{with_element}
use Rattle.xml_framer.specs.TagSteps.{added_to, begun, closed, element_from, ends, first_of, in_opening, in_tag, is_spelled, is_too_deep, joined_text, leaf, level, outer_scopes, rest_of, scope_in, starts, tag_closes, tag_gathered, tag_here, tag_inside, tag_limits, unlimited}
use Rattle.law_xml.specs.Texts.{IsText}
use Rattle.xml_framer.specs.TextSteps.{bracket_taken, character_taken, ends_section, in_reference, in_section, in_text, inside, is_forbidden, judged_section, judged_text, markup_begun, other_taken, refers, section_taken, text_inside}
use Rattle.xml_trees.specs.Tidied.{tidied}
use Rattle.xml_trees.specs.Trees.{Elem, element, Nodes, no_nodes, child, name_of, namespace_of, with_nodes}
use Rattle.xml_framer.specs.declared.fault.Why.{Why}
use Rattle.xml_framer.specs.declared.fault.Why.TheVariants as why
use Rattle.xml_framer.specs.declared.items.Item.{Item}
use Rattle.xml_framer.specs.declared.items.Item.TheVariants as item
use Rattle.xml_framer.specs.declared.states.Mode.{Mode}
use Rattle.xml_framer.specs.declared.states.Mode.TheVariants as mode
use Rattle.xml_framer.specs.declared.states.Phase.{Phase}
use Rattle.xml_framer.specs.declared.states.Phase.TheVariants as phase
use Rattle.law_xml.proofs.OffsetSteps.{none_some as no_fault}

-- a state in an element
abbrev pub inner : State → OpenElement → Mode → State
inner s o m = record s { here = Some o; lexical = record s.lexical { mode = m } }

around_more : (limits : Limits) (used next : ℕ) (p : Phase) (scopes : List Scope) (name : List ℕ) (below : List OpenElement) (o : OpenElement) (items : List Item) (bytes hand : List ℕ) (b : ℕ) → (limits.bytes < 2 ^ 64 → next ≡ used + 1) → (limits.bytes < 2 ^ 64 → next ≤ limits.bytes) → Around limits used p scopes name below o items bytes hand → Around limits next p scopes name below o items (bytes ++ b ∷ []) (hand ++ b ∷ [])
around_more limits used next p scopes name below o items bytes hand b is fits h = record {
  between = h.between;
  base = h.base;
  own = h.own;
  rest = h.rest;
  scopes_are = h.scopes_are;
  top = h.top;
  done = h.done;
  outer = h.outer;
  level = h.level;
  stream = h.stream;
  count = λ few. counted_more used next h.done bytes b (is few) (h.count few);
  fits = fits;
  shallow = h.shallow;
  covered = h.covered;
  open_level = h.open_level;
  bytes_are = ap (λ l. l ++ b ∷ []) h.bytes_are ∙ append_assoc h.done (h.outer ++ (h.level ++ hand)) (b ∷ []) ∙ ap (λ l. h.done ++ l) (append_assoc h.outer (h.level ++ hand) (b ∷ []) ∙ ap (λ l. h.outer ++ l) (append_assoc h.level hand (b ∷ [])));
}

-- nodes more don't change a name
same_name : (e : Elem) (more : Nodes) → (namespace_of (with_nodes e more) ≡ namespace_of e) × (name_of (with_nodes e more) ≡ name_of e)
same_name (element ns name attrs kids) more = (refl, refl)

pub top_more : (o : OpenElement) (more : Nodes) (below : List OpenElement) → TopIsNoHeader o below → TopIsNoHeader (with_more o more) below
top_more o more [] h = λ n. let same = same_name o.element more in h (sym same.0 ∙ n.0, sym same.1 ∙ n.1)
top_more o more (p ∷ ps) h = h

-- a byte and what it finds
module _ (given : Limits) (s : State) (o : OpenElement) (items : List Item) (b : ℕ) (bytes hand : List ℕ) (used : ℕ) (k : Kept given s.positions.at s.lexical.spent s.limits bytes) (c : continues s.pending b ≡ true)
    (room : s.limits.bytes < 2 ^ 64 → 0 < used → (used + 1 ≤ s.limits.bytes) × (s.positions.used ≡ used + 1)) (a : Around s.limits used s.lexical.phase s.scopes s.name s.below o items bytes hand) where
  abbrev P : State → Type 0
  P r = After given b bytes (turn r items)

  abbrev Q : Turn → Type 0
  Q = After given b bytes

  abbrev on : Kept given (next_position s.positions.at) s.lexical.spent s.limits (bytes ++ b ∷ [])
  on = kept_on given s.positions.at s.lexical.spent s.limits bytes b k

  counts : s.limits.bytes < 2 ^ 64 → s.positions.used ≡ used + 1
  counts few = (room few (a.count few).0).1

  fits : s.limits.bytes < 2 ^ 64 → s.positions.used ≤ s.limits.bytes
  fits few = let r = room few (a.count few).0 in let most = r.0 in let is = r.1 in omega (arith, most, is)

  around : Around s.limits s.positions.used s.lexical.phase s.scopes s.name s.below o items (bytes ++ b ∷ []) (hand ++ b ∷ [])
  around = around_more s.limits used s.positions.used s.lexical.phase s.scopes s.name s.below o items bytes hand b counts fits a

  failed : (r : State) (at : ℕ) (w : Why) → P (fails r at w)
  failed r at w none = absurd (no_fault (record { at = at; why = w }) none)

  -- ---- a text

  -- the state in a text of which a run has begun or not
  abbrev in_text_run : Bool → State
  in_text_run run = record (inner s o mode.Text) { lexical = record s.lexical { mode = mode.Text; in_run = run } }

  -- the same where one has, and this is known of it
  abbrev running : Bool → ℕ → ℕ → State
  running r n at = record (inner s o mode.Text) { positions = record s.positions { token_at = at }; lexical = record s.lexical { mode = mode.Text; in_run = true; returned = r; brackets = n } }

  character_case : (r : Bool) (n at : ℕ) → s.token ≡ [] → TextIn hand s.pending s.chars true r n → (b == 60 || b == 38) ≡ false → P (if ends_character s.pending b then judged_text (running r n at) b else running r n at)
  character_case r n at none h mark =
      let u = running r n at in
      cond_both (ends_character s.pending b) (judged_text u b) u P
      (λ e. cond_both (is_forbidden u b || ends_section u b) (token_fails u why.NotWellFormed) (character_taken u b) P (λ f. failed u _ _)
      (λ f sound. let p = or_parts _ _ f in record { kept = on; hand = (hand ++ b ∷ [], around, (none, text_grows hand s.pending s.chars r n b h c e p.0 mark p.1)) }))
      (λ e sound. record { kept = on; hand = (hand ++ b ∷ [], around, (none, text_waits hand s.pending s.chars r n b h c e)) })

  marks : (run : Bool) → s.token ≡ [] → TextIn hand s.pending s.chars run s.lexical.returned s.lexical.brackets → s.pending ≡ [] → MarkIn (hand ++ b ∷ []) s.chars (b ∷ [])
  marks true none h ended = mark_begun hand s.pending s.chars s.lexical.returned s.lexical.brackets b h ended
  marks false none h ended = mark_begun hand s.pending s.chars false 0 b (record { whole = h.whole; hand_is = h.hand_is; judged = h.judged; seen = h.seen }) ended

  after_text : (run : Bool) → s.token ≡ [] → TextIn hand s.pending s.chars run s.lexical.returned s.lexical.brackets → (b == 60 || b == 38) ≡ false → P (text_inside (in_text_run run) b)
  unfolding text_inside
  after_text true none h mark = character_case s.lexical.returned s.lexical.brackets s.positions.token_at none h mark
  after_text false none h mark = character_case false 0 s.positions.at none (record { whole = h.whole; hand_is = h.hand_is; judged = h.judged; seen = h.seen }) mark

  inside_text : (run : Bool) → s.token ≡ [] → TextIn hand s.pending s.chars run s.lexical.returned s.lexical.brackets → P (in_text (in_text_run run) b)
  unfolding in_text inside
  inside_text run none h =
      let r = in_text_run run in
      cond_both (b == 60) (markup_begun r) (if b == 38 then token_begun r mode.Reference else text_inside r b) P
      (λ e sound.
      let is = eqb-true b 60 e in
      let one : b ∷ [] ≡ s.token ++ 60 ∷ [] = ap (λ d. d ∷ []) is ∙ ap (λ t. t ++ 60 ∷ []) (sym none) in
      let mark = marks run none h (ascii_alone s.pending b (omega (arith, is)) c).0 in
      record { kept = on; hand = (hand ++ b ∷ [], around, (ap (λ t. t ++ 60 ∷ []) none, (refl, refl), subst (MarkIn (hand ++ b ∷ []) s.chars) one mark)) })
      (λ e. cond_both (b == 38) (token_begun r mode.Reference) (text_inside r b) P
      (λ f sound.
      let is = eqb-true b 38 f in
      let one : b ∷ [] ≡ 38 ∷ s.token = ap (λ d. d ∷ []) is ∙ ap (λ t. 38 ∷ t) (sym none) in
      let mark = marks run none h (ascii_alone s.pending b (omega (arith, is)) c).0 in
      record { kept = on; hand = (hand ++ b ∷ [], around, subst (MarkIn (hand ++ b ∷ []) s.chars) one mark) })
      (λ f. after_text run none h (or_from _ _ e f)))

  -- ---- a reference

  refers_at : MarkIn hand s.chars (38 ∷ s.token) → (b == 59) ≡ true → (r : Reference) → referred s.token ≡ r → P (refers (inner s o mode.Reference) r)
  refers_at h e (reference.Character d) is sound =
      record { kept = on; hand = (hand ++ b ∷ [], around, (refl, reference_ends hand s.pending s.chars s.token b d h c (eqb-true b 59 e) is s.lexical.returned s.lexical.brackets)) }
  refers_at h e reference.Unknown is sound = failed (inner s o mode.Reference) _ _ sound
  refers_at h e reference.Malformed is sound = failed (inner s o mode.Reference) _ _ sound

  inside_reference : MarkIn hand s.chars (38 ∷ s.token) → P (in_reference (inner s o mode.Reference) b)
  unfolding in_reference
  inside_reference h =
      let r = inner s o mode.Reference in
      cond_both (b == 59) (refers r (referred s.token)) (if reference_goes_on s.token b then gathered r b else token_fails r why.NotWellFormed) P
      (λ e. refers_at h e (referred s.token) refl)
      (λ e. cond_both (reference_goes_on s.token b) (gathered r b) (token_fails r why.NotWellFormed) P
      (λ f sound. record { kept = on; hand = (hand ++ b ∷ [], around, mark_more hand s.chars (38 ∷ s.token) b h) })
      (λ f. failed r _ _))

  -- ---- a CDATA section

  inside_bang : Inside mode.Bang (inner s o mode.Bang) o items bytes hand → P (in_bang (inner s o mode.Bang) b)
  unfolding in_bang
  inside_bang h =
      let r = inner s o mode.Bang in
      cond_both _ (if length r.token == 8 then section_opened r else gathered r b) (token_fails r why.Restricted) P
      (λ e. cond_both (length r.token == 8) (section_opened r) (gathered r b) P
      (λ f sound.
      let opened = section_opens hand s.pending s.chars s.token b h.0 h.2 c f e in
      let with_count = subst (SectionIn (hand ++ b ∷ []) (held_after s.pending b) s.chars false) (sym h.1.1) opened in
      record { kept = on; hand = (hand ++ b ∷ [], around, (refl, subst (λ t. SectionIn (hand ++ b ∷ []) (held_after s.pending b) s.chars t s.lexical.brackets) (sym h.1.0) with_count)) })
      (λ f sound. record { kept = on; hand = (hand ++ b ∷ [], around, (opens_more s.token b h.0 f e, h.1, mark_more hand s.chars s.token b h.2)) }))
      (λ e. failed r _ _)

  section_case : s.token ≡ [] → SectionIn hand s.pending s.chars s.lexical.returned s.lexical.brackets → ends_character s.pending b ≡ true → P (judged_section (inner s o mode.Section) b)
  unfolding judged_section
  section_case none h e =
      let r = inner s o mode.Section in
      cond_both (is_forbidden r b) (token_fails r why.NotWellFormed) (if ends_section r b then token_ended r else section_taken r b) P (λ f. failed r _ _)
      (λ f. cond_both (ends_section r b) (token_ended r) (section_taken r b) P
      (λ g sound. record { kept = on; hand = (hand ++ b ∷ [], around, (refl, section_ends hand s.pending s.chars s.lexical.returned s.lexical.brackets b h c e f g s.lexical.returned s.lexical.brackets)) })
      (λ g. cond_both (b == 93) (bracket_taken r) (other_taken r b) P
      (λ i. cond_both (s.lexical.brackets == 2) _ _ P
      (λ j sound. record { kept = on; hand = (hand ++ b ∷ [], around, (none, section_third hand s.pending s.chars s.lexical.returned s.lexical.brackets b h c e f i j)) })
      (λ j sound. record { kept = on; hand = (hand ++ b ∷ [], around, (none, section_bracket hand s.pending s.chars s.lexical.returned s.lexical.brackets b h c e f i j)) }))
      (λ i sound. record { kept = on; hand = (hand ++ b ∷ [], around, (none, section_other hand s.pending s.chars s.lexical.returned s.lexical.brackets b h c e f g i)) })))

  inside_section : s.token ≡ [] → SectionIn hand s.pending s.chars s.lexical.returned s.lexical.brackets → P (in_section (inner s o mode.Section) b)
  unfolding in_section
  inside_section none h =
      let r = inner s o mode.Section in
      cond_both (ends_character s.pending b) (judged_section r b) r P (λ e. section_case none h e)
      (λ e sound. record { kept = on; hand = (hand ++ b ∷ [], around, (none, section_waits hand s.pending s.chars s.lexical.returned s.lexical.brackets b h c e)) })

  -- ---- a whole tag

  -- the state with the whole tag in hand
  abbrev full : Mode → State
  full m = gathered (inner s o m) b

  abbrev whole : List ℕ
  whole = s.token ++ b ∷ []

  module _ (m : Mode) (h : MarkIn hand s.chars s.token) (e : (b == 62) ≡ true) where
    text_is : IsText h.text s.chars
    text_is = marked_text hand s.chars s.token h

    -- the innermost open element with the text
    abbrev texted : OpenElement
    texted = with_text o s.chars

    covered : CoveredLevel s.limits (scope_in a.rest) a.own texted (a.level ++ h.text)
    covered = level_covered s.limits (scope_in a.rest) a.own o a.level h.text s.chars a.open_level text_is

    bytes_are : bytes ++ b ∷ [] ≡ a.done ++ (a.outer ++ (a.level ++ (h.text ++ whole)))
    unfolding around around_more
    bytes_are = around.bytes_are ∙ ap (λ l. a.done ++ (a.outer ++ (a.level ++ l))) (ap (λ l. l ++ b ∷ []) h.hand_is ∙ append_assoc h.text s.token (b ∷ []))

    scope_is : scope_in s.scopes ≡ a.own ++ scope_in a.rest
    scope_is = ap scope_in a.scopes_are

    -- nothing is in hand behind a tag
    no_hand : (r : Bool) (n : ℕ) → TextIn [] (held_after s.pending b) [] false r n
    no_hand r n =
        let is = eqb-true b 62 e in
        let none = (ascii_alone s.pending b (omega (arith, is)) c).1 in
        record { whole = []; hand_is = sym none; judged = subst (Judged []) (sym none) nothing_judged; seen = front_seen [] [] no_front }

    started : (t : Tag) → tag_here (full m) ≡ Ok t → (xs : List tokens.Attribute) × IsStart (scope_in s.scopes) whole xs t × IsWithin (tag_limits s.limits) xs t
    started t is = (start_laws.read (tag_limits s.limits) (scope_in s.scopes) whole t).0 is

    -- there is room for a level more
    next_level : is_too_deep (full m) ≡ false → length s.below + 1 + 1 ≤ s.limits.depth
    next_level near = ltb-false s.limits.depth (length s.below + 1 + 1) near

    count_on : s.limits.bytes < 2 ^ 64 → IsCounted s.positions.used a.done (bytes ++ b ∷ [])
    count_on few = counted_more used s.positions.used a.done bytes b (counts few) (a.count few)

    texted_shallow : AreShallow s.limits.depth texted s.below
    texted_shallow =
        let own = shallow_own s.limits.depth o s.below a.shallow in
        let same = depth_text o.element s.chars in shallow_with s.limits.depth o texted s.below a.shallow (rw same own)

    leaf_shallow : (t : Tag) → is_too_deep (full m) ≡ false → AreShallow s.limits.depth (with_more texted (child (element_from t) no_nodes)) s.below
    leaf_shallow t near =
        let own = shallow_own s.limits.depth texted s.below texted_shallow in
        let deeper = depth_more texted.element (element_from t) in
        let room_for = next_level near in
        shallow_with s.limits.depth texted (with_more texted (child (element_from t) no_nodes)) s.below texted_shallow (rw deeper (omega (arith, own, room_for)))

    leaf_case : is_too_deep (full m) ≡ false → (t : Tag) → tag_here (full m) ≡ Ok t → t.empty ≡ true → Q (leaf (turn (full m) items) t)
    unfolding leaf
    leaf_case near t is n sound =
        let w = started t is in
        let spelled = subst (λ x. SpellsIn s.limits x whole (element_from t)) scope_is (leaf_spelled s.limits (scope_in s.scopes) whole w.0 t w.1 w.2 n) in
        record {
          kept = on;
          hand = (
            [],
            record {
              between = a.between;
              base = a.base;
              own = a.own;
              rest = a.rest;
              scopes_are = a.scopes_are;
              top = top_more texted (child (element_from t) no_nodes) s.below (top_more o _ s.below a.top);
              done = a.done;
              outer = a.outer;
              level = (a.level ++ h.text) ++ whole;
              stream = a.stream;
              count = count_on;
              fits = fits;
              shallow = leaf_shallow t near;
              covered = a.covered;
              open_level = level_resumed s.limits (scope_in a.rest) a.own texted (a.level ++ h.text) whole (element_from t) covered spelled;
              bytes_are = bytes_are ∙ ap (λ l. a.done ++ (a.outer ++ l)) (sym (append-nil ((a.level ++ h.text) ++ whole) ∙ append_assoc a.level h.text whole));
            },
            (refl, no_hand s.lexical.returned s.lexical.brackets),
          );
        }

    level_case : is_too_deep (full m) ≡ false → (t : Tag) → tag_here (full m) ≡ Ok t → t.empty ≡ false → Q (turn (level (full m) t) items)
    unfolding level
    level_case near t is n sound =
        let w = started t is in
        record {
          kept = on;
          hand = (
            [],
            record {
              between = a.between;
              base = a.base;
              own = t.bindings;
              rest = s.scopes;
              scopes_are = refl;
              top = top_more o _ s.below a.top;
              done = a.done;
              outer = a.outer ++ (a.level ++ h.text);
              level = whole;
              stream = a.stream;
              count = count_on;
              fits = fits;
              shallow = (let room_for = next_level near in omega (arith, room_for), texted_shallow);
              covered = subst (λ l. AreCovered s.limits a.base l (texted ∷ s.below) (a.outer ++ (a.level ++ h.text))) (sym a.scopes_are) (a.outer, a.level ++ h.text, a.covered, covered, refl);
              open_level = level_begun s.limits (scope_in s.scopes) whole w.0 t w.1 w.2 n;
              bytes_are =
                  bytes_are ∙ ap (λ l. a.done ++ (a.outer ++ l)) (sym (append_assoc a.level h.text whole)) ∙ ap (λ l. a.done ++ l) (sym (append_assoc a.outer (a.level ++ h.text) whole))
                  ∙ ap (λ l. a.done ++ ((a.outer ++ (a.level ++ h.text)) ++ l)) (sym (append-nil whole));
            },
            (refl, no_hand s.lexical.returned s.lexical.brackets),
          );
        }

    starts_at : (r : Result Tag StartWhy) → tag_here (full m) ≡ r → Q (starts (turn (full m) items) r)
    unfolding begun
    starts_at (Err fault) is = failed (full m) _ _
    starts_at (Ok t) is =
        cond_both (is_too_deep (full m)) (turn (token_fails (full m) why.TooDeep) items) (if t.empty then leaf (turn (full m) items) t else turn (level (full m) t) items) Q
        (λ f. failed (full m) _ _)
        (λ f. cond_both t.empty (leaf (turn (full m) items) t) (turn (level (full m) t) items) Q (λ n. leaf_case f t is n) (λ n. level_case f t is n))

    -- ---- an end tag

    -- the element is whole
    abbrev closing : Elem
    closing = texted.element

    closing_spelled : IsEndTag whole o.spelled → SpellsIn s.limits (scope_in a.rest) (a.level ++ (h.text ++ whole)) closing
    closing_spelled end = level_closed s.limits (scope_in a.rest) a.own o a.level h.text s.chars whole a.open_level text_is end

    -- the state without the element
    abbrev left : List OpenElement → State
    left below = record (joined_text (full m)) { here = first_of below; below = rest_of below; scopes = outer_scopes s.scopes }

    given_at : s.below ≡ [] → IsEndTag whole o.spelled → StreamIn s.limits (in_force s.lexical.phase (outer_scopes s.scopes) s.name) (bytes ++ b ∷ []) (items ++ item.Element (tidied closing) ∷ [])
    given_at low end =
        let last = a.level ++ (h.text ++ whole) in
        let down = subst (λ l. AreCovered s.limits a.base a.rest l a.outer) low a.covered in
        let top = subst (TopIsNoHeader texted) low (top_more o _ s.below a.top) in
        let spelled = closing_spelled end in
        let at_base = subst (λ l. SpellsIn s.limits (scope_in l) last closing) down.0 spelled in
        let all = bytes_are ∙ ap (λ l. a.done ++ (l ++ last)) down.1 in
        let short : s.limits.bytes < 2 ^ 64 → length last ≤ s.limits.bytes =
        λ few. let long = counted_length s.positions.used a.done (bytes ++ b ∷ []) last (count_on few) all in let fits = (room few (a.count few).0).0 in let is = counts few in omega (arith, long, fits, is) in
        let made : StreamIn s.limits (in_force phase.Between a.base s.name) (bytes ++ b ∷ []) (items ++ item.Element (tidied closing) ∷ []) = (
          with_element (in_force phase.Between a.base s.name) (bytes ++ b ∷ []) _ a.done last items closing a.stream.0 refl (record { spelled = at_base.0; no_header = top }) all
              (ap (λ x. items ++ item.Element x ∷ []) (spelled_stays (scope_in a.rest) last closing spelled.0)),
          λ few. (a.stream.1 few, record { short = short few; shallow = subst (AreShallow s.limits.depth texted) low texted_shallow; tags = at_base.1 }),
        ) in
        subst (λ p. StreamIn s.limits (in_force p (outer_scopes s.scopes) s.name) (bytes ++ b ∷ []) (items ++ item.Element (tidied closing) ∷ [])) (sym a.between)
        (subst (λ l. StreamIn s.limits (in_force phase.Between l s.name) (bytes ++ b ∷ []) (items ++ item.Element (tidied closing) ∷ [])) (sym (ap outer_scopes a.scopes_are ∙ down.0)) made)

    closing_shallow : (p : OpenElement) (ps : List OpenElement) → s.below ≡ p ∷ ps → AreShallow s.limits.depth (with_more p (child closing no_nodes)) ps
    closing_shallow p ps low =
        let both = subst (AreShallow s.limits.depth texted) low texted_shallow in
        let own = shallow_own s.limits.depth p ps both.1 in
        let inner_one = both.0 in
        let deeper = depth_more p.element closing in
        shallow_with s.limits.depth p (with_more p (child closing no_nodes)) ps both.1 (rw deeper (omega (arith, own, inner_one)))

    resumed : (p : OpenElement) (ps : List OpenElement) → s.below ≡ p ∷ ps → (rest : List Scope) → a.rest ≡ rest → AreCovered s.limits a.base rest (p ∷ ps) a.outer → SpellsIn s.limits (scope_in rest) (a.level ++ (h.text ++ whole)) closing
        → Around s.limits s.positions.used s.lexical.phase (outer_scopes s.scopes) s.name ps (with_more p (child closing no_nodes)) items (bytes ++ b ∷ []) []
    resumed p ps low [] is down spelled = absurd down
    resumed p ps low (own ∷ rest) is down spelled =
        let last = a.level ++ (h.text ++ whole) in
        record {
          between = a.between;
          base = a.base;
          own = own;
          rest = rest;
          scopes_are = ap outer_scopes a.scopes_are ∙ is;
          top = top_more p (child closing no_nodes) ps (subst (TopIsNoHeader o) low a.top);
          done = a.done;
          outer = down.0;
          level = down.1 ++ last;
          stream = a.stream;
          count = count_on;
          fits = fits;
          shallow = closing_shallow p ps low;
          covered = down.2;
          open_level = level_resumed s.limits (scope_in rest) own p down.1 last closing down.3 spelled;
          bytes_are =
              bytes_are ∙ ap (λ l. a.done ++ (l ++ last)) down.4
              ∙ ap (λ l. a.done ++ l) (append_assoc down.0 down.1 last ∙ ap (λ l. down.0 ++ l) (sym (append-nil (down.1 ++ last))));
        }

    added_at : (below : List OpenElement) → s.below ≡ below → IsEndTag whole o.spelled → Q (added_to (first_of below) (turn (left below) items) closing)
    added_at [] low end sound = record { kept = on; hand = (refl, (refl, refl, λ p. given_at low end)) }
    added_at (p ∷ ps) low end sound =
        let down = subst (λ l. AreCovered s.limits a.base a.rest l a.outer) low a.covered in
        record {
          kept = on;
          hand = ([], resumed p ps low a.rest refl down (closing_spelled end), (refl, no_hand s.lexical.returned s.lexical.brackets));
        }

    closed_case : IsEndTag whole o.spelled → Q (closed (turn (full m) items))
    unfolding closed
    closed_case end = added_at s.below refl end

    end_named : (name : Option (List ℕ)) → end_of whole ≡ name → is_spelled (Some o) name ≡ true → IsEndTag whole o.spelled
    end_named None is f = absurd (false≢true f)
    end_named (Some n) is f = subst (IsEndTag whole) ((bytes_eq-Decides n o.spelled).0 f) ((end_tags_are_read whole n).0 is)

    ends_case : Q (ends (turn (full m) items))
    unfolding ends
    ends_case =
        cond_both (is_spelled (Some o) (end_of whole)) (closed (turn (full m) items)) (turn (token_fails (full m) why.NotWellFormed) items) Q
        (λ f. closed_case (end_named (end_of whole) refl f)) (λ f. failed (full m) _ _)

    closes_case : Q (tag_closes (turn (full m) items))
    unfolding tag_closes tag_inside
    closes_case =
        cond_both (is_end whole) (ends (turn (full m) items)) (starts (turn (full m) items) (tag_here (full m))) Q (λ f. ends_case) (λ f. starts_at (tag_here (full m)) refl)

  tag_case : (m : Mode) → MarkIn hand s.chars s.token → Q (in_tag (turn (inner s o m) items) b)
  unfolding in_tag
  tag_case m h =
      cond_both (b == 62 && not (is_some s.lexical.quote)) (tag_closes (turn (full m) items)) (turn (tag_gathered (inner s o m) b) items) Q
      (λ e. closes_case m h (and_parts _ _ e).0)
      (λ e sound. record { kept = on; hand = (hand ++ b ∷ [], around, mark_more hand s.chars s.token b h) })

  opens_two : s.token ≡ 60 ∷ [] → (b == 33) ≡ true → OpensSection (s.token ++ b ∷ [])
  opens_two is e = subst OpensSection (sym (ap (λ t. t ++ b ∷ []) is ∙ ap (λ d. 60 ∷ d ∷ []) (eqb-true b 33 e))) (refl, omega arith)

  inside_opening : Inside mode.Opening (inner s o mode.Opening) o items bytes hand → Q (in_opening (turn (inner s o mode.Opening) items) b)
  unfolding in_opening
  inside_opening h =
      let r = inner s o mode.Opening in
      let question = turn (token_fails r why.Restricted) items in
      let footer = turn (gathered_in (unlimited r) mode.Footer b) items in
      let last = (if b == 47 && false then footer else in_tag (turn r items) b) in
      cond_both (b == 33) (turn (gathered_in (unlimited r) mode.Bang b) items) (if b == 63 then question else last) Q
      (λ e sound. record { kept = on; hand = (hand ++ b ∷ [], around, (opens_two h.0 e, h.1, mark_more hand s.chars s.token b h.2)) })
      (λ e. cond_both (b == 63) question last Q (λ f. failed r _ _)
      (λ f. cond_both (b == 47 && false) footer (in_tag (turn r items) b) Q (λ g. absurd (false≢true (and_parts _ _ g).1)) (λ g. tag_case mode.Opening h.2)))

  -- ---- a byte

  with_run : (run : Bool) → s.token ≡ [] → TextIn hand s.pending s.chars run s.lexical.returned s.lexical.brackets → Q (taken_in mode.Text (turn (in_text_run run) items) b)
  with_run run none h = inside_text run none h

  pub inside_byte : (m : Mode) → Inside m (inner s o m) o items bytes hand → Q (taken_in m (turn (inner s o m) items) b)
  inside_byte mode.Text h = with_run s.lexical.in_run h.0 h.1
  inside_byte mode.Reference h = inside_reference h
  inside_byte mode.Opening h = inside_opening h
  inside_byte mode.Bang h = inside_bang h
  inside_byte mode.Question h = absurd h
  inside_byte mode.Declaration h = absurd h
  inside_byte mode.Tag h = tag_case mode.Tag h
  inside_byte mode.Footer h = absurd h
  inside_byte mode.Section h = inside_section h.0 h.1
