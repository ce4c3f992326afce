-- A token in hand keeps its offset, and its faults have it.
use Rattle.std.proofs.Common.{◌≡◌, ℕ, ◌+◌, ◌⊎◌, inl, inr, Bool, true, false, not, ◌&&◌, ◌||◌, ◌==◌, if◌then◌else◌, [], ◌∷◌, ◌++◌, Option, Some, None, Result, Ok, Err, refl, sym, ap, ◌∙◌, length}
use Rattle.std.proofs.lemmas.Bool.{and_parts, cond_both, eqb-true, false≢true}
use Rattle.std.specs.Option.{is_some}
use Rattle.std.specs.Prelude.{codes, nat_lt, slice_index}
use Rattle.xml_names.specs.Ends.{end_of}
use Rattle.xml_names.specs.Starts.{Tag}
use Rattle.xml_names.specs.declared.fault.StartWhy.{StartWhy}
use Rattle.xml_tokens.specs.Characters.{is_white}
use Rattle.xml_tokens.specs.Declarations.{declaration_of}
use Rattle.xml_tokens.specs.References.{reference_goes_on, referred}
use Rattle.xml_tokens.specs.Tags.{is_empty, is_end, is_quote, quote_behind}
use Rattle.xml_tokens.specs.Utf8.{ends_character}
use Rattle.xml_tokens.specs.declared.declarations.Declaration.{Declaration}
use Rattle.xml_tokens.specs.declared.declarations.Declaration.TheVariants as declaration
use Rattle.xml_tokens.specs.declared.references.Reference.{Reference}
use Rattle.xml_tokens.specs.declared.references.Reference.TheVariants as reference
use Rattle.law_xml.specs.Offsets.{is_no_markup, is_reference}
use Rattle.xml_framer.specs.Machine.{taken_in}
use Rattle.xml_framer.specs.MarkupSteps.{declares, ends_in_question, in_bang, in_declaration, in_phase, in_question, section_opened}
use Rattle.xml_framer.specs.States.{OpenElement, State, Turn, fails, gathered, gathered_in, gives, in_mode, in_run, is_text, item_ended, may_declare, moved, run_begun, token_begun, token_ended, token_fails}
use Rattle.xml_framer.specs.TagSteps.{added_to, begun, closed, closed_open, element_from, ends, ends_stream, footer_closes, footer_gathered, header_tag, heads, in_footer, in_opening, in_tag, is_header, is_spelled, is_too_deep, joined_text, leaf, level, misplaced, shallower, starts, tag_anew, tag_closes, tag_gathered, tag_here, tag_in, tag_inside, tag_outside, unlimited}
use Rattle.xml_framer.specs.TextSteps.{between, bracket_taken, character_begun, character_taken, ends_section, in_reference, in_section, in_text, inside, is_forbidden, judged_outside, judged_section, judged_text, markup_begun, other_taken, refers, section_taken, text_inside, text_outside}
use Rattle.xml_trees.specs.Trees.{Elem}
use Rattle.xml_framer.specs.declared.items.Item.TheVariants as item
use Rattle.xml_framer.specs.declared.fault.Fault.{Fault}
use Rattle.xml_framer.specs.declared.fault.Why.{Why}
use Rattle.xml_framer.specs.declared.fault.Why.TheVariants as why
use Rattle.xml_framer.specs.declared.states.Mode.{Mode}
use Rattle.xml_framer.specs.declared.states.Mode.TheVariants as mode
use Rattle.xml_framer.specs.declared.states.Phase.{Phase}
use Rattle.xml_framer.specs.declared.states.Phase.TheVariants as phase

-- A byte of a token at this offset: the token goes on, or it ends in this byte, and a fault has the offset.
pub record Goes (b n : ℕ) (r : Bool) (u : State) : Type 0 where
  pub token_at : u.positions.token_at ≡ n
  pub fault : (f : Fault) → u.fault ≡ Some f → f.at ≡ n
  pub ends : is_text u.lexical.mode ≡ true → (u.lexical.in_run ≡ false) × ((b ≡ 62) ⊎ (b ≡ 59))
  pub goes : is_text u.lexical.mode ≡ false → is_reference u.lexical.mode ≡ r
  pub quiet : is_text u.lexical.mode ≡ true → u.lexical.quote ≡ None

one : (b n : ℕ) (r : Bool) (u v : State) (c : Bool) → (c ≡ true → Goes b n r u) → (c ≡ false → Goes b n r v) → Goes b n r (if c then u else v)
one b n r u v true x y = x refl
one b n r u v false x y = y refl

turns : (b n : ℕ) (r : Bool) (u v : Turn) (c : Bool) → (c ≡ true → Goes b n r u.state) → (c ≡ false → Goes b n r v.state) → Goes b n r (if c then u else v).state
turns b n r u v true x y = x refl
turns b n r u v false x y = y refl

no_fault : (o : Option Fault) (n : ℕ) → o ≡ None → (f : Fault) → o ≡ Some f → f.at ≡ n
no_fault o n none f is = absurd (let e = sym none ∙ is in cc)

one_fault : (n : ℕ) (w : Why) (f : Fault) → Some (record { at = n; why = w }) ≡ Some f → f.at ≡ n
one_fault n w f is = let same : record { at = n; why = w } ≡ f = cc in ap (λ (g : Fault). g.at) (sym same)

-- a token is in hand
pub record InHand (r : Bool) (s : State) : Type 0 where
  pub none : s.fault ≡ None
  pub no_text : is_text s.lexical.mode ≡ false
  pub kind : is_reference s.lexical.mode ≡ r

module _ (b : ℕ) (r : Bool) (s : State) (h : InHand r s) where
  abbrev At : State → Type 0
  At = Goes b s.positions.token_at r

  abbrev TurnAt : Turn → Type 0
  TurnAt u = Goes b s.positions.token_at r u.state

  -- the same token goes on
  more : (u : State) → u.positions.token_at ≡ s.positions.token_at → u.fault ≡ s.fault → u.lexical.mode ≡ s.lexical.mode → At u
  more u at fault same = record {
    token_at = at;
    fault = no_fault u.fault s.positions.token_at (fault ∙ h.none);
    ends = λ e. absurd (false≢true (sym h.no_text ∙ (ap is_text (sym same) ∙ e)));
    goes = λ e. ap is_reference same ∙ h.kind;
    quiet = λ e. absurd (false≢true (sym h.no_text ∙ (ap is_text (sym same) ∙ e)));
  }

  -- it has another mode
  other : (u : State) (m : Mode) → u.positions.token_at ≡ s.positions.token_at → u.fault ≡ s.fault → u.lexical.mode ≡ m → is_text m ≡ false → is_reference m ≡ r → At u
  other u m at fault is no_text kind = record {
    token_at = at;
    fault = no_fault u.fault s.positions.token_at (fault ∙ h.none);
    ends = λ e. absurd (false≢true (sym no_text ∙ (ap is_text (sym is) ∙ e)));
    goes = λ e. ap is_reference is ∙ kind;
    quiet = λ e. absurd (false≢true (sym no_text ∙ (ap is_text (sym is) ∙ e)));
  }

  -- it has a fault
  fails_so : (u : State) (w : Why) → u.positions.token_at ≡ s.positions.token_at → u.fault ≡ Some (record { at = u.positions.token_at; why = w }) → u.lexical.mode ≡ s.lexical.mode → At u
  fails_so u w at fault same = record {
    token_at = at;
    fault = λ f is. one_fault u.positions.token_at w f (sym fault ∙ is) ∙ at;
    ends = λ e. absurd (false≢true (sym h.no_text ∙ (ap is_text (sym same) ∙ e)));
    goes = λ e. ap is_reference same ∙ h.kind;
    quiet = λ e. absurd (false≢true (sym h.no_text ∙ (ap is_text (sym same) ∙ e)));
  }

  -- it ends
  ended : (u : State) → (b ≡ 62) ⊎ (b ≡ 59) → u.positions.token_at ≡ s.positions.token_at → u.fault ≡ s.fault → u.lexical.in_run ≡ false → u.lexical.mode ≡ mode.Text → u.lexical.quote ≡ None → At u
  ended u last at fault run is quote = record {
    token_at = at;
    fault = no_fault u.fault s.positions.token_at (fault ∙ h.none);
    ends = λ e. (run, last);
    goes = λ e. absurd (false≢true (sym e ∙ ap is_text is));
    quiet = λ e. quote;
  }

  -- ---- references, sections, declarations

  refers_at : (b == 59) ≡ true → (x : Reference) → At (refers s x)
  refers_at e (reference.Character c) = ended (refers s (reference.Character c)) (inr (eqb-true b 59 e)) refl refl refl refl refl
  refers_at e reference.Unknown = fails_so (refers s reference.Unknown) _ refl refl refl
  refers_at e reference.Malformed = fails_so (refers s reference.Malformed) _ refl refl refl

  reference_at : At (in_reference s b)
  unfolding in_reference
  reference_at =
      let fault = token_fails s why.NotWellFormed in
      one b s.positions.token_at r (refers s (referred s.token)) (if reference_goes_on s.token b then gathered s b else fault) (b == 59) (λ e. refers_at e (referred s.token))
      (λ e. one b s.positions.token_at r (gathered s b) fault (reference_goes_on s.token b) (λ f. more (gathered s b) refl refl refl) (λ f. fails_so fault _ refl refl refl))

  section_at : At (in_section s b)
  unfolding in_section judged_section
  section_at =
      let n = s.positions.token_at in
      let fault = token_fails s why.NotWellFormed in
      let taken = section_taken s b in
      let rest = (if ends_section s b then token_ended s else taken) in
      let third = record s { chars = s.chars ++ 93 ∷ []; lexical = record s.lexical { returned = false } } in
      one b n r (if is_forbidden s b then fault else rest) s (ends_character s.pending b)
      (λ e. one b n r fault rest (is_forbidden s b) (λ f. fails_so fault _ refl refl refl)
      (λ f. one b n r (token_ended s) taken (ends_section s b) (λ g. ended (token_ended s) (inl (eqb-true b 62 (and_parts (s.lexical.brackets == 2) (b == 62) g).1)) refl refl refl refl refl)
      (λ g. one b n r (bracket_taken s) (other_taken s b) (b == 93)
      (λ i. one b n r third _ (s.lexical.brackets == 2) (λ j. more third refl refl refl) (λ j. more _ refl refl refl))
      (λ i. more (other_taken s b) refl refl refl))))
      (λ e. more s refl refl refl)

  bang_at : r ≡ false → At (in_bang s b)
  unfolding in_bang
  bang_at plain =
      let n = s.positions.token_at in
      let fault = token_fails s why.Restricted in
      let inner = (if length s.token == 8 then section_opened s else gathered s b) in
      let opened = in_mode (record s { token = [] }) mode.Section in
      one b n r inner fault (b == slice_index (codes "<![CDATA[") (length s.token))
      (λ e. one b n r (section_opened s) (gathered s b) (length s.token == 8)
      (λ f. one b n r opened (token_fails s why.NotWellFormed) (is_some s.here) (λ g. other opened mode.Section refl refl refl refl (sym plain)) (λ g. fails_so (token_fails s why.NotWellFormed) _ refl refl refl))
      (λ f. more (gathered s b) refl refl refl)) (λ e. fails_so fault _ refl refl refl)

  question_at : r ≡ false → At (in_question s b)
  unfolding in_question
  question_at plain =
      let n = s.positions.token_at in
      let fault = token_fails s why.Restricted in
      one b n r (if b == slice_index (codes "<?xml") (length s.token) then gathered s b else fault) (if is_white b then gathered_in s mode.Declaration b else fault) (nat_lt (length s.token) 5)
      (λ e. one b n r (gathered s b) fault (b == slice_index (codes "<?xml") (length s.token)) (λ f. more (gathered s b) refl refl refl) (λ f. fails_so fault _ refl refl refl))
      (λ e. one b n r (gathered_in s mode.Declaration b) fault (is_white b) (λ f. other (gathered_in s mode.Declaration b) mode.Declaration refl refl refl refl (sym plain)) (λ f. fails_so fault _ refl refl refl))

  declares_at : b ≡ 62 → (d : Declaration) → At (declares (gathered s b) d)
  declares_at last declaration.Good = ended (declares (gathered s b) declaration.Good) (inl last) refl refl refl refl refl
  declares_at last declaration.Encoding = fails_so (declares (gathered s b) declaration.Encoding) _ refl refl refl
  declares_at last declaration.NotWellFormed = fails_so (declares (gathered s b) declaration.NotWellFormed) _ refl refl refl

  declaration_at : At (in_declaration s b)
  unfolding in_declaration
  declaration_at =
      let told = declaration_of (s.token ++ b ∷ []) in
      one b s.positions.token_at r (declares (gathered s b) told) (gathered s b) (b == 62 && ends_in_question s.token)
      (λ e. declares_at (eqb-true b 62 (and_parts (b == 62) (ends_in_question s.token) e).0) told) (λ e. more (gathered s b) refl refl refl)

-- ---- tags

added_at : (b : ℕ) (r : Bool) (o : Option OpenElement) (t : Turn) (e : Elem) → InHand r t.state → (b ≡ 62) ⊎ (b ≡ 59) → Goes b t.state.positions.token_at r (added_to o t e).state
added_at b r None t e h last = ended b r t.state h (added_to None t e).state last refl refl refl refl refl
added_at b r (Some o) t e h last = ended b r t.state h (added_to (Some o) t e).state last refl refl refl refl refl

leaf_at : (b : ℕ) (r : Bool) (t : Turn) (tag : Tag) → InHand r t.state → (b ≡ 62) ⊎ (b ≡ 59) → Goes b t.state.positions.token_at r (leaf t tag).state
unfolding leaf
leaf_at b r t tag h last = added_at b r (joined_text t.state).here (moved t (joined_text t.state)) (element_from tag) (record { none = h.none; no_text = h.no_text; kind = h.kind }) last

begun_at : (b : ℕ) (r : Bool) (t : Turn) (tag : Tag) → InHand r t.state → (b ≡ 62) ⊎ (b ≡ 59) → Goes b t.state.positions.token_at r (begun t tag).state
unfolding begun level
begun_at b r t tag h last =
    let n = t.state.positions.token_at in
    let deep = moved t (token_fails t.state why.TooDeep) in
    let inner = moved t (level t.state tag) in
    turns b n r deep (if tag.empty then leaf t tag else inner) (is_too_deep t.state) (λ e. fails_so b r t.state h deep.state _ refl refl refl)
    (λ e. turns b n r (leaf t tag) inner tag.empty (λ f. leaf_at b r t tag h last) (λ f. ended b r t.state h inner.state last refl refl refl refl refl))

starts_at : (b : ℕ) (r : Bool) (t : Turn) (x : Result Tag StartWhy) → InHand r t.state → (b ≡ 62) ⊎ (b ≡ 59) → Goes b t.state.positions.token_at r (starts t x).state
starts_at b r t (Ok tag) h last = begun_at b r t tag h last
starts_at b r t (Err fault) h last = fails_so b r t.state h (starts t (Err fault)).state _ refl refl refl

open_at : (b : ℕ) (r : Bool) (o : Option OpenElement) (t : Turn) → InHand r t.state → (b ≡ 62) ⊎ (b ≡ 59) → Goes b t.state.positions.token_at r (closed_open o t).state
open_at b r None t h last = more b r t.state h t.state refl refl refl
open_at b r (Some o) t h last = added_at b r (shallower t.state).here (moved t (shallower t.state)) o.element (record { none = h.none; no_text = h.no_text; kind = h.kind }) last

closed_at : (b : ℕ) (r : Bool) (t : Turn) → InHand r t.state → (b ≡ 62) ⊎ (b ≡ 59) → Goes b t.state.positions.token_at r (closed t).state
unfolding closed
closed_at b r t h last = open_at b r (joined_text t.state).here (moved t (joined_text t.state)) (record { none = h.none; no_text = h.no_text; kind = h.kind }) last

ends_at : (b : ℕ) (r : Bool) (t : Turn) → InHand r t.state → (b ≡ 62) ⊎ (b ≡ 59) → Goes b t.state.positions.token_at r (ends t).state
unfolding ends
ends_at b r t h last =
    let fault = moved t (token_fails t.state why.NotWellFormed) in
    turns b t.state.positions.token_at r (closed t) fault (is_spelled t.state.here (end_of t.state.token)) (λ e. closed_at b r t h last) (λ e. fails_so b r t.state h fault.state _ refl refl refl)

inside_at : (b : ℕ) (r : Bool) (t : Turn) → InHand r t.state → (b ≡ 62) ⊎ (b ≡ 59) → Goes b t.state.positions.token_at r (tag_inside t).state
unfolding tag_inside
inside_at b r t h last = turns b t.state.positions.token_at r (ends t) (starts t (tag_here t.state)) (is_end t.state.token) (λ e. ends_at b r t h last) (λ e. starts_at b r t (tag_here t.state) h last)

heads_at : (b : ℕ) (r : Bool) (t : Turn) (x : Result Tag StartWhy) → InHand r t.state → (b ≡ 62) ⊎ (b ≡ 59) → Goes b t.state.positions.token_at r (heads t x).state
heads_at b r t (Ok tag) h last = ended b r t.state h (heads t (Ok tag)).state last refl refl refl refl refl
heads_at b r t (Err fault) h last = fails_so b r t.state h (heads t (Err fault)).state _ refl refl refl

header_at : (b : ℕ) (r : Bool) (t : Turn) → InHand r t.state → (b ≡ 62) ⊎ (b ≡ 59) → Goes b t.state.positions.token_at r (header_tag t).state
unfolding header_tag
header_at b r t h last = heads_at b r t (tag_anew t.state) h last

misplaced_at : (b : ℕ) (r : Bool) (t : Turn) → InHand r t.state → Goes b t.state.positions.token_at r (misplaced t).state
unfolding misplaced
misplaced_at b r t h = fails_so b r t.state h (token_fails t.state _) _ refl refl refl

phase_at : (b : ℕ) (r : Bool) (p : Phase) (t : Turn) → InHand r t.state → (b ≡ 62) ⊎ (b ≡ 59) → Goes b t.state.positions.token_at r (tag_in p t).state
phase_at b r phase.First t h last = header_at b r t h last
phase_at b r phase.FirstDeclared t h last = header_at b r t h last
phase_at b r phase.Between t h last = turns b t.state.positions.token_at r (header_tag t) (starts t (tag_here t.state)) (is_header t.state) (λ e. header_at b r t h last) (λ e. starts_at b r t (tag_here t.state) h last)
phase_at b r phase.Declared t h last = turns b t.state.positions.token_at r (header_tag t) (misplaced t) (is_header t.state) (λ e. header_at b r t h last) (λ e. misplaced_at b r t h)
phase_at b r phase.Ended t h last = misplaced_at b r t h

closes_at : (b : ℕ) (r : Bool) (t : Turn) → InHand r t.state → (b ≡ 62) ⊎ (b ≡ 59) → Goes b t.state.positions.token_at r (tag_closes t).state
unfolding tag_closes tag_outside
closes_at b r t h last = turns b t.state.positions.token_at r (tag_inside t) (tag_outside t) (is_some t.state.here) (λ e. inside_at b r t h last) (λ e. phase_at b r t.state.lexical.phase t h last)

tag_at : (b : ℕ) (t : Turn) → InHand false t.state → Goes b t.state.positions.token_at false (in_tag t b).state
unfolding in_tag
tag_at b t h =
    let whole = moved t (gathered t.state b) in
    let more_of = moved t (tag_gathered t.state b) in
    turns b t.state.positions.token_at false (tag_closes whole) more_of (b == 62 && not (is_some t.state.lexical.quote))
    (λ e. closes_at b false whole (record { none = h.none; no_text = h.no_text; kind = h.kind }) (inl (eqb-true b 62 (and_parts (b == 62) (not (is_some t.state.lexical.quote)) e).0)))
    (λ e. other b false t.state h more_of.state mode.Tag refl refl refl refl refl)

footer_closes_at : (b : ℕ) (r : Bool) (t : Turn) → InHand r t.state → (b ≡ 62) ⊎ (b ≡ 59) → Goes b t.state.positions.token_at r (footer_closes t).state
unfolding footer_closes
footer_closes_at b r t h last =
    let given = gives (in_phase (item_ended t.state) phase.Ended) t.items item.Footer in
    let fault = moved t (token_fails t.state why.NotWellFormed) in
    turns b t.state.positions.token_at r given fault (ends_stream t.state) (λ e. ended b r t.state h given.state last refl refl refl refl refl) (λ e. fails_so b r t.state h fault.state _ refl refl refl)

gathered_at : (b : ℕ) (r : Bool) (s : State) → InHand r s → Goes b s.positions.token_at r (footer_gathered s b)
gathered_at b r s h =
    let n = s.positions.token_at in
    let spoiled = record s { lexical = record s.lexical { spoiled = true } } in
    let quoted = record s { lexical = record s.lexical { quote = quote_behind s.lexical.quote b; spoiled = true } } in
    one b n r quoted (if nat_lt (length s.token) (length s.name + 2) then gathered s b else (if is_white b then s else spoiled)) (is_some s.lexical.quote || is_quote b)
    (λ e. more b r s h quoted refl refl refl)
    (λ e. one b n r (gathered s b) (if is_white b then s else spoiled) (nat_lt (length s.token) (length s.name + 2)) (λ f. more b r s h (gathered s b) refl refl refl)
    (λ f. one b n r s spoiled (is_white b) (λ g. more b r s h s refl refl refl) (λ g. more b r s h spoiled refl refl refl)))

footer_at : (b : ℕ) (r : Bool) (t : Turn) → InHand r t.state → Goes b t.state.positions.token_at r (in_footer t b).state
unfolding in_footer
footer_at b r t h =
    let whole = moved t (gathered t.state b) in
    turns b t.state.positions.token_at r (footer_closes whole) (moved t (footer_gathered t.state b)) (b == 62 && not (is_some t.state.lexical.quote))
    (λ e. footer_closes_at b r whole (record { none = h.none; no_text = h.no_text; kind = h.kind }) (inl (eqb-true b 62 (and_parts (b == 62) (not (is_some t.state.lexical.quote)) e).0)))
    (λ e. gathered_at b r t.state h)

unlimited_at : (b : ℕ) (s : State) (m : Mode) → InHand false s → is_text m ≡ false → is_reference m ≡ false → Goes b s.positions.token_at false (gathered_in (unlimited s) m b)
unlimited_at b s m h no_text kind =
    let free = record s { positions = record s.positions { used = 0 } } in
    cond_both (is_some s.here) s free (λ u. Goes b s.positions.token_at false (gathered_in u m b))
    (λ e. other b false s h (gathered_in s m b) m refl refl refl no_text kind) (λ e. other b false s h (gathered_in free m b) m refl refl refl no_text kind)

opening_at : (b : ℕ) (t : Turn) → InHand false t.state → Goes b t.state.positions.token_at false (in_opening t b).state
unfolding in_opening
opening_at b t h =
    let n = t.state.positions.token_at in
    let bang = moved t (gathered_in (unlimited t.state) mode.Bang b) in
    let question = gathered_in t.state mode.Question b in
    let fault = token_fails t.state why.Restricted in
    let asked = (if may_declare t.state then question else fault) in
    let footer = moved t (gathered_in (unlimited t.state) mode.Footer b) in
    let last = (if b == 47 && not (is_some t.state.here) then footer else in_tag t b) in
    turns b n false bang (if b == 63 then moved t asked else last) (b == 33) (λ e. unlimited_at b t.state mode.Bang h refl refl)
    (λ e. turns b n false (moved t asked) last (b == 63)
    (λ f. one b n false question fault (may_declare t.state) (λ g. other b false t.state h question mode.Question refl refl refl refl refl) (λ g. fails_so b false t.state h fault _ refl refl refl))
    (λ f. turns b n false footer (in_tag t b) (b == 47 && not (is_some t.state.here)) (λ g. unlimited_at b t.state mode.Footer h refl refl) (λ g. tag_at b t h)))

in_hand : (r : Bool) (m : Mode) (s : State) → s.lexical.mode ≡ m → s.fault ≡ None → is_text m ≡ false → is_reference m ≡ r → InHand r s
in_hand r m s is none no_text kind = record { none = none; no_text = ap is_text is ∙ no_text; kind = ap is_reference is ∙ kind }

-- a byte of a token
pub token_goes : (m : Mode) (t : Turn) (b : ℕ) → t.state.lexical.mode ≡ m → t.state.fault ≡ None → is_text m ≡ false → Goes b t.state.positions.token_at (is_reference m) (taken_in m t b).state
token_goes mode.Text t b is none no_text = absurd (false≢true (sym no_text))
token_goes mode.Reference t b is none no_text = reference_at b true t.state (in_hand true mode.Reference t.state is none refl refl)
token_goes mode.Opening t b is none no_text = opening_at b t (in_hand false mode.Opening t.state is none refl refl)
token_goes mode.Bang t b is none no_text = bang_at b false t.state (in_hand false mode.Bang t.state is none refl refl) refl
token_goes mode.Question t b is none no_text = question_at b false t.state (in_hand false mode.Question t.state is none refl refl) refl
token_goes mode.Declaration t b is none no_text = declaration_at b false t.state (in_hand false mode.Declaration t.state is none refl refl)
token_goes mode.Tag t b is none no_text = tag_at b t (in_hand false mode.Tag t.state is none refl refl)
token_goes mode.Footer t b is none no_text = footer_at b false t (in_hand false mode.Footer t.state is none refl refl)
token_goes mode.Section t b is none no_text = section_at b false t.state (in_hand false mode.Section t.state is none refl refl)

-- ---- texts

-- what a text is left for
abbrev pub is_first : Mode → Bool
is_first mode.Opening = true
is_first mode.Reference = true
is_first m = false

-- A byte of a text whose run begins at an offset: it begins markup or a reference, or it belongs to the run.
pub record Takes (b at run : ℕ) (u : State) : Type 0 where
  pub fault : (f : Fault) → u.fault ≡ Some f → ((f.at ≡ run) × (is_no_markup b ≡ true)) ⊎ ((f.at ≡ at) × (b ≡ 38))
  pub begins : is_text u.lexical.mode ≡ false → (u.positions.token_at ≡ at) × (b ≡ (if is_reference u.lexical.mode then 38 else 60)) × (is_first u.lexical.mode ≡ true)
  pub goes : u.fault ≡ None → is_text u.lexical.mode ≡ true → (u.positions.token_at ≡ run) × (u.lexical.in_run ≡ true) × (is_no_markup b ≡ true)

pick : (b at run : ℕ) (u v : State) (c : Bool) → (c ≡ true → Takes b at run u) → (c ≡ false → Takes b at run v) → Takes b at run (if c then u else v)
pick b at run u v true x y = x refl
pick b at run u v false x y = y refl

pub none_some : (f : Fault) → Some f ≡ None → ⊥
none_some f e = cc

-- a state in a run of text
record Running (v : State) : Type 0 where
  none : v.fault ≡ None
  running : v.lexical.in_run ≡ true
  text : is_text v.lexical.mode ≡ true

runs_on : (s : State) → s.fault ≡ None → is_text s.lexical.mode ≡ true → Running (in_run s)
runs_on s none text = with_run s.lexical.in_run refl
  where
    with_run : (c : Bool) → s.lexical.in_run ≡ c → Running (if c then s else run_begun s)
    with_run true is = record { none = none; running = is; text = text }
    with_run false is = record { none = none; running = refl; text = text }

module _ (b at : ℕ) (v : State) (h : Running v) (plain : is_no_markup b ≡ true) where
  run_more : (u : State) → u.positions.token_at ≡ v.positions.token_at → u.fault ≡ v.fault → u.lexical.in_run ≡ v.lexical.in_run → u.lexical.mode ≡ v.lexical.mode → Takes b at v.positions.token_at u
  run_more u same fault run is = record {
    fault = λ f e. absurd (none_some f (sym e ∙ (fault ∙ h.none)));
    begins = λ e. absurd (false≢true (sym e ∙ (ap is_text is ∙ h.text)));
    goes = λ e t. (same, run ∙ h.running, plain);
  }

  run_fails : (w : Why) → Takes b at v.positions.token_at (token_fails v w)
  run_fails w = record {
    fault = λ f e. inl (one_fault v.positions.token_at w f e, plain);
    begins = λ e. absurd (false≢true (sym e ∙ h.text));
    goes = λ e t. absurd (none_some _ e);
  }

  run_outside : (c : Bool) → Takes b at v.positions.token_at (if c then judged_outside v b else character_begun v)
  run_outside c =
      let n = v.positions.token_at in
      let placed = record v { positions = record v.positions { item_at = v.positions.at } } in
      pick b at n (judged_outside v b) (character_begun v) c
      (λ e. pick b at n v (token_fails v why.NotWellFormed) (is_white b) (λ f. run_more v refl refl refl refl) (λ f. run_fails _))
      (λ e. pick b at n placed v (is_empty v.pending) (λ f. run_more placed refl refl refl refl) (λ f. run_more v refl refl refl refl))

  run_within : (c : Bool) → Takes b at v.positions.token_at (if c then judged_text v b else v)
  run_within c =
      let n = v.positions.token_at in
      pick b at n (judged_text v b) v c
      (λ e. pick b at n (token_fails v why.NotWellFormed) (character_taken v b) (is_forbidden v b || ends_section v b) (λ f. run_fails _) (λ f. run_more (character_taken v b) refl refl refl refl))
      (λ e. run_more v refl refl refl refl)

token_takes : (b at run : ℕ) (u : State) (m : Mode) → u.lexical.mode ≡ m → is_text m ≡ false → u.positions.token_at ≡ at → u.fault ≡ None → b ≡ (if is_reference m then 38 else 60) → is_first m ≡ true → Takes b at run u
token_takes b at run u m is no_text position none first new = record {
  fault = λ f e. absurd (none_some f (sym e ∙ none));
  begins = λ e. (position, first ∙ ap (λ k. if is_reference k then 38 else 60) (sym is), ap is_first is ∙ new);
  goes = λ e t. absurd (false≢true (sym no_text ∙ (ap is_text (sym is) ∙ t)));
}

module _ (s : State) (b : ℕ) (none : s.fault ≡ None) (text : is_text s.lexical.mode ≡ true) where
  abbrev T : State → Type 0
  T = Takes b s.positions.at (in_run s).positions.token_at

  markup_takes : (b == 60) ≡ true → T (markup_begun s)
  markup_takes e =
      let begun = token_begun s mode.Opening in
      let placed = record begun { positions = record begun.positions { item_at = begun.positions.at; used = 1 } } in
      cond_both (is_some s.here) begun placed (λ u. T (gathered u 60))
      (λ f. token_takes b s.positions.at _ (gathered begun 60) mode.Opening refl refl refl none (eqb-true b 60 e) refl)
      (λ f. token_takes b s.positions.at _ (gathered placed 60) mode.Opening refl refl refl none (eqb-true b 60 e) refl)

  not_either : (b == 60) ≡ false → (b == 38) ≡ false → is_no_markup b ≡ true
  not_either e f = rw (e, f) refl

  text_takes : T (in_text s b)
  unfolding in_text inside between text_inside text_outside
  text_takes =
      let n = (in_run s).positions.token_at in
      let running = runs_on s none text in
      let reference = token_begun s mode.Reference in
      let fault = fails s s.positions.at why.NotWellFormed in
      pick b s.positions.at n (inside s b) (between s b) (is_some s.here)
      (λ i. pick b s.positions.at n (markup_begun s) (if b == 38 then reference else text_inside s b) (b == 60) markup_takes
      (λ e. pick b s.positions.at n reference (text_inside s b) (b == 38) (λ f. token_takes b s.positions.at n reference mode.Reference refl refl refl none (eqb-true b 38 f) refl)
      (λ f. run_within b s.positions.at (in_run s) running (not_either e f) (ends_character s.pending b))))
      (λ i. pick b s.positions.at n (markup_begun s) (if b == 38 then fault else text_outside s b) (b == 60) markup_takes
      (λ e. pick b s.positions.at n fault (text_outside s b) (b == 38)
      (λ f. record {
        fault = λ g is. inr (one_fault s.positions.at _ g is, eqb-true b 38 f);
        begins = λ g. absurd (false≢true (sym g ∙ text));
        goes = λ g t. absurd (none_some _ g);
      })
      (λ f. run_outside b s.positions.at (in_run s) running (not_either e f) (ends_character s.pending b))))

-- a byte of a text
pub text_goes : (m : Mode) (t : Turn) (b : ℕ) → t.state.lexical.mode ≡ m → t.state.fault ≡ None → is_text m ≡ true → Takes b t.state.positions.at (in_run t.state).positions.token_at (taken_in m t b).state
text_goes mode.Text t b is none text = text_takes t.state b none (ap is_text is)
text_goes mode.Reference t b is none text = absurd (false≢true text)
text_goes mode.Opening t b is none text = absurd (false≢true text)
text_goes mode.Bang t b is none text = absurd (false≢true text)
text_goes mode.Question t b is none text = absurd (false≢true text)
text_goes mode.Declaration t b is none text = absurd (false≢true text)
text_goes mode.Tag t b is none text = absurd (false≢true text)
text_goes mode.Footer t b is none text = absurd (false≢true text)
text_goes mode.Section t b is none text = absurd (false≢true text)
