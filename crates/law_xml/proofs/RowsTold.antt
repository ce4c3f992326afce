-- Each fault that a byte decides is a row of the table.
use Rattle.std.proofs.Common.{◌≡◌, ℕ, ◌+◌, ◌≤◌, inl, inr, ⊎_elim, Bool, true, false, not, ◌&&◌, ◌||◌, ◌==◌, if◌then◌else◌, List, [], ◌∷◌, ◌++◌, Option, Some, None, Result, Ok, Err, refl, sym, ap, ◌∙◌, length, arith}
use Rattle.std.proofs.lemmas.Bool.{and_parts, cases_Bool, cond_both, eqb-false, eqb-true, ltb-true, or_cases, true≢false}
use Rattle.std.proofs.lemmas.Bool.Decides.{nat_tests}
use Rattle.std.specs.Option.{is_some}
use Rattle.std.specs.Prelude.{codes, nat_lt, slice_index}
use Rattle.xml_names.specs.Ends.{end_of}
use Rattle.xml_names.specs.Starts.{Tag}
use Rattle.xml_names.specs.declared.fault.StartWhy.{StartWhy}
use Rattle.xml_names.specs.declared.fault.StartWhy.TheVariants as start
use Rattle.xml_tokens.specs.Characters.{is_white}
use Rattle.xml_tokens.specs.Declarations.{declaration_of}
use Rattle.xml_tokens.specs.References.{reference_goes_on, referred}
use Rattle.xml_tokens.specs.Tags.{is_empty, is_end, is_quote, quote_behind}
use Rattle.xml_tokens.specs.Utf8.{continues, ends_character, ends_forbidden_character}
use Rattle.xml_tokens.specs.declared.declarations.Declaration.{Declaration}
use Rattle.xml_tokens.specs.declared.declarations.Declaration.TheVariants as declaration
use Rattle.xml_tokens.specs.declared.references.Reference.{Reference}
use Rattle.xml_tokens.specs.declared.references.Reference.TheVariants as reference
use Rattle.law_xml.proofs.FaultLaws.{broken, goes, long, nothing_closes}
use Rattle.law_xml.specs.FaultRows.{Decides, Takes}
use Rattle.law_xml.specs.Rows.{BangRow, DeclarationRow, FooterRow, OpeningRow, QuestionRow, ReferenceRow, Row, SectionRow, TagRow, TextRow, WholeTagRow, after_footer, bad_declaration, bad_first_header, bad_footer, bad_next_header, bad_reference, bad_start, bad_top, deep_start, deep_top, departing_declaration, departing_reference, departing_section, forbidden_in_section, forbidden_in_text, in_text_row, in_token_row, no_declaration, no_header_declared, no_name, no_utf8, other_encoding, other_end, reference_outside, section_end_in_text, section_outside, too_long, unknown_reference, unspaced_declaration, whole_tag_row}
use Rattle.law_xml.specs.Rows as rows
use Rattle.xml_framer.specs.Machine.{is_too_long, taken_in}
use Rattle.xml_framer.specs.MarkupSteps.{declares, ends_in_question, in_bang, in_declaration, in_phase, in_question, section_opened}
use Rattle.xml_framer.specs.States.{OpenElement, State, Turn, counted, fails, gathered, gathered_in, gives, in_mode, in_run, is_text, item_ended, may_declare, moved, run_begun, token_begun, token_ended, token_fails, token_position, turn}
use Rattle.xml_framer.specs.TagSteps.{added_to, begun, closed, closed_open, element_from, ends, ends_stream, footer_closes, footer_gathered, header_tag, header_why, heads, in_footer, in_opening, in_tag, is_header, is_spelled, is_too_deep, joined_text, leaf, level, misplaced, misplaced_why, shallower, start_why, starts, tag_anew, tag_closes, tag_gathered, tag_here, tag_in, tag_inside, tag_outside, unlimited}
use Rattle.xml_framer.specs.TextSteps.{between, bracket_taken, brackets_after, character_begun, character_taken, ends_section, in_reference, in_section, in_text, inside, is_forbidden, judged_outside, judged_section, judged_text, markup_begun, other_taken, refers, section_taken, text_inside, text_outside}
use Rattle.xml_trees.specs.Trees.{Elem}
use Rattle.xml_framer.specs.declared.fault.Fault.{Fault}
use Rattle.xml_framer.specs.declared.fault.Why.{Why}
use Rattle.xml_framer.specs.declared.fault.Why.TheVariants as why
use Rattle.xml_framer.specs.declared.items.Item.{Item}
use Rattle.xml_framer.specs.declared.items.Item.TheVariants as item
use Rattle.xml_framer.specs.declared.states.Mode.{Mode}
use Rattle.xml_framer.specs.declared.states.Mode.TheVariants as mode
use Rattle.xml_framer.specs.declared.states.Phase.{Phase}
use Rattle.xml_framer.specs.declared.states.Phase.TheVariants as phase
use Rattle.law_xml.proofs.OffsetSteps.{none_some}

abbrev pub fault_at : ℕ → Why → Option Fault
fault_at at w = Some (record { at = at; why = w })

-- a token of a text stands where its run began
pub text_place : (s : State) (m : Mode) → m ≡ mode.Text → (if is_text m && not s.lexical.in_run then s.positions.at else s.positions.token_at) ≡ (if not s.lexical.in_run then s.positions.at else s.positions.token_at)
text_place s m is = rw is refl

pub one_some : (f g : Fault) → Some f ≡ Some g → f ≡ g
one_some f g e = cc

told : (n : ℕ) (y : Why) (at : ℕ) (w : Why) → fault_at n y ≡ fault_at at w → (at ≡ n) × (w ≡ y)
told n y at w e = let f = one_some _ _ e in (sym (ap (λ (g : Fault). g.at) f), sym (ap (λ (g : Fault). g.why) f))

-- ---- what ends a token has no fault of its own

added_calm : (o : Option OpenElement) (t : Turn) (e : Elem) → (added_to o t e).state.fault ≡ t.state.fault
added_calm None t e = refl
added_calm (Some o) t e = refl

leaf_calm : (t : Turn) (tag : Tag) → (leaf t tag).state.fault ≡ t.state.fault
unfolding leaf
leaf_calm t tag = added_calm (joined_text t.state).here (moved t (joined_text t.state)) (element_from tag)

open_calm : (o : Option OpenElement) (t : Turn) → (closed_open o t).state.fault ≡ t.state.fault
open_calm None t = refl
open_calm (Some o) t = added_calm (shallower t.state).here (moved t (shallower t.state)) o.element

closed_calm : (t : Turn) → (closed t).state.fault ≡ t.state.fault
unfolding closed
closed_calm t = open_calm (joined_text t.state).here (moved t (joined_text t.state))

same_why : (s : State) (b : ℕ) (e : StartWhy) → start_why (gathered (counted s) b) e ≡ start_why (gathered s b) e
same_why s b start.Restricted = refl
same_why s b start.NotWellFormed = refl
same_why s b start.TooManyAttributes = refl
same_why s b start.LongNamespace = refl

pub least : (n : ℕ) → nat_lt n 5 ≡ false → 5 ≤ n
least n e = grind (arith, nat_tests)

pub no_quote : (q : Option ℕ) → not (is_some q) ≡ true → q ≡ None
no_quote None e = refl
no_quote (Some x) e = absurd (true≢false (sym e))

module _ (s : State) (b at : ℕ) (w : Why) (none : s.fault ≡ None) where
  -- the byte is counted
  abbrev c : State
  c = counted s

  -- with it in the token
  abbrev g : State
  g = gathered s b

  abbrev Found : State → Type 0
  Found u = u.fault ≡ fault_at at w

  -- a fault of the token
  abbrev Has : Type 0 → Type 0
  Has P = (at ≡ s.positions.token_at) × P

  calm : {P : Type 0} (u : State) → u.fault ≡ s.fault → Found u → P
  calm u same e = absurd (none_some (record { at = at; why = w }) (sym e ∙ (same ∙ none)))

  split : {P : Type 0} (x : Bool) (u v : State) → (x ≡ true → Found u → P) → (x ≡ false → Found v → P) → Found (if x then u else v) → P
  split true u v f h = f refl
  split false u v f h = h refl

  splits : {P : Type 0} (x : Bool) (u v : Turn) → (x ≡ true → Found u.state → P) → (x ≡ false → Found v.state → P) → Found (if x then u else v).state → P
  splits true u v f h = f refl
  splits false u v f h = h refl

  -- ---- references

  refers_row : (x : Reference) → b ≡ 59 → referred s.token ≡ x → Found (refers c x) → Has (ReferenceRow s b w)
  refers_row (reference.Character n) is e f = calm (refers c (reference.Character n)) refl f
  refers_row reference.Unknown is e f = let k = told s.positions.token_at why.Restricted at w f in (k.0, unknown_reference s b w is e k.1)
  refers_row reference.Malformed is e f = let k = told s.positions.token_at why.NotWellFormed at w f in (k.0, bad_reference s b w is e k.1)

  reference_row : Found (in_reference c b) → Has (ReferenceRow s b w)
  unfolding in_reference
  reference_row =
      let fault = token_fails c why.NotWellFormed in
      split (b == 59) (refers c (referred s.token)) (if reference_goes_on s.token b then gathered c b else fault) (λ e. refers_row (referred s.token) (eqb-true b 59 e) refl)
      (λ e. split (reference_goes_on s.token b) (gathered c b) fault (λ f h. calm (gathered c b) refl h)
      (λ f h. let k = told s.positions.token_at why.NotWellFormed at w h in (k.0, departing_reference s b w (eqb-false b 59 e) f k.1)))

  -- ---- `<!` and `<?`

  bang_row : Found (in_bang c b) → Has (BangRow s b w)
  unfolding in_bang
  bang_row =
      let due = slice_index (codes "<![CDATA[") (length s.token) in
      let opened = in_mode (record c { token = [] }) mode.Section in
      let fault = token_fails c why.NotWellFormed in
      let restricted = token_fails c why.Restricted in
      split (b == due) (if length s.token == 8 then section_opened c else gathered c b) restricted
      (λ e. split (length s.token == 8) (section_opened c) (gathered c b)
      (λ f. split (is_some s.here) opened fault (λ i h. calm opened refl h)
      (λ i h. let k = told s.positions.token_at why.NotWellFormed at w h in (k.0, section_outside s b w (eqb-true b due e) (eqb-true (length s.token) 8 f) i k.1)))
      (λ f h. calm (gathered c b) refl h))
      (λ e h. let k = told s.positions.token_at why.Restricted at w h in (k.0, departing_section s b w (eqb-false b due e) k.1))

  question_row : Found (in_question c b) → Has (QuestionRow s b w)
  unfolding in_question
  question_row =
      let due = slice_index (codes "<?xml") (length s.token) in
      let fault = token_fails c why.Restricted in
      let declaring = gathered_in c mode.Declaration b in
      split (nat_lt (length s.token) 5) (if b == due then gathered c b else fault) (if is_white b then declaring else fault)
      (λ e. split (b == due) (gathered c b) fault (λ f h. calm (gathered c b) refl h)
      (λ f h. let k = told s.positions.token_at why.Restricted at w h in (k.0, departing_declaration s b w (ltb-true (length s.token) 5 e) (eqb-false b due f) k.1)))
      (λ e. split (is_white b) declaring fault (λ f h. calm declaring refl h)
      (λ f h. let k = told s.positions.token_at why.Restricted at w h in (k.0, unspaced_declaration s b w (least (length s.token) e) f k.1)))

  declares_row : (x : Declaration) → b ≡ 62 → ends_in_question s.token ≡ true → declaration_of (s.token ++ b ∷ []) ≡ x → Found (declares (gathered c b) x) → Has (DeclarationRow s b w)
  declares_row declaration.Good is asked e h = calm (declares (gathered c b) declaration.Good) refl h
  declares_row declaration.Encoding is asked e h = let k = told s.positions.token_at why.Encoding at w h in (k.0, other_encoding s b w is asked e k.1)
  declares_row declaration.NotWellFormed is asked e h = let k = told s.positions.token_at why.NotWellFormed at w h in (k.0, bad_declaration s b w is asked e k.1)

  declaration_row : Found (in_declaration c b) → Has (DeclarationRow s b w)
  unfolding in_declaration
  declaration_row =
      let what = declaration_of (s.token ++ b ∷ []) in
      split (b == 62 && ends_in_question s.token) (declares (gathered c b) what) (gathered c b)
      (λ e. let p = and_parts (b == 62) (ends_in_question s.token) e in declares_row what (eqb-true b 62 p.0) p.1 refl) (λ e h. calm (gathered c b) refl h)

  -- ---- sections

  section_row : Found (in_section c b) → Has (SectionRow s b w)
  unfolding in_section judged_section
  section_row =
      let fault = token_fails c why.NotWellFormed in
      let taken = section_taken c b in
      let rest = (if ends_section c b then token_ended c else taken) in
      let third = record c { chars = c.chars ++ 93 ∷ []; lexical = record c.lexical { returned = false } } in
      let other = record c { lexical = record c.lexical { returned = false; brackets = brackets_after c.lexical.brackets 93 } } in
      split (ends_character s.pending b) (if is_forbidden c b then fault else rest) c
      (λ e. split (is_forbidden c b) fault rest (λ f h. let k = told s.positions.token_at why.NotWellFormed at w h in (k.0, forbidden_in_section s b w e f k.1))
      (λ f. split (ends_section c b) (token_ended c) taken (λ i h. calm (token_ended c) refl h)
      (λ i. split (b == 93) (bracket_taken c) (other_taken c b) (λ j. split (c.lexical.brackets == 2) third other (λ l h. calm third refl h) (λ l h. calm other refl h)) (λ j h. calm (other_taken c b) refl h))))
      (λ e h. calm c refl h)

  -- ---- tags

  -- the tag with its last byte
  abbrev whole : List Item → Turn
  whole items = turn (gathered c b) items

  starts_row : (items : List Item) (r : Result Tag StartWhy) → ((tag : Tag) → r ≡ Ok tag → is_too_deep g ≡ true → w ≡ why.TooDeep → WholeTagRow g w)
      → ((e : StartWhy) → r ≡ Err e → w ≡ start_why g e → WholeTagRow g w) → Found (starts (whole items) r).state → Has (WholeTagRow g w)
  unfolding begun level
  starts_row items (Ok tag) deep bad =
      let t = whole items in
      let far = moved t (token_fails t.state why.TooDeep) in
      let inner = moved t (level t.state tag) in
      splits (is_too_deep g) far (if tag.empty then leaf t tag else inner) (λ e h. let n = told s.positions.token_at why.TooDeep at w h in (n.0, deep tag refl e n.1))
      (λ e. splits tag.empty (leaf t tag) inner (λ f h. calm (leaf t tag).state (leaf_calm t tag) h) (λ f h. calm inner.state refl h))
  starts_row items (Err e) deep bad = λ h. let n = told s.positions.token_at (start_why (gathered c b) e) at w h in (n.0, bad e refl (n.1 ∙ same_why s b e))

  inside_row : (items : List Item) → is_some s.here ≡ true → Found (tag_inside (whole items)).state → Has (WholeTagRow g w)
  unfolding tag_inside ends
  inside_row items inner =
      let t = whole items in
      let fault = moved t (token_fails t.state why.NotWellFormed) in
      splits (is_end g.token) (ends t) (starts t (tag_here g))
      (λ e. splits (is_spelled s.here (end_of g.token)) (closed t) fault (λ f h. calm (closed t).state (closed_calm t) h)
      (λ f h. let n = told s.positions.token_at why.NotWellFormed at w h in (n.0, other_end g w inner e f n.1)))
      (λ e. starts_row items (tag_here g) (λ tag is far n. deep_start g w tag inner e is far n) (λ x is n. bad_start g w x inner e is n))

  heads_row : (items : List Item) (r : Result Tag StartWhy) → ((e : StartWhy) → r ≡ Err e → w ≡ header_why e → WholeTagRow g w) → Found (heads (whole items) r).state → Has (WholeTagRow g w)
  heads_row items (Ok tag) bad = λ h. calm (heads (whole items) (Ok tag)).state refl h
  heads_row items (Err e) bad = λ h. let n = told s.positions.token_at (header_why e) at w h in (n.0, bad e refl n.1)

  header_row : (items : List Item) → ((e : StartWhy) → tag_anew g ≡ Err e → w ≡ header_why e → WholeTagRow g w) → Found (header_tag (whole items)).state → Has (WholeTagRow g w)
  unfolding header_tag
  header_row items bad = heads_row items (tag_anew g) bad

  misplaced_row : (items : List Item) → (w ≡ misplaced_why (tag_here g) → WholeTagRow g w) → Found (misplaced (whole items)).state → Has (WholeTagRow g w)
  unfolding misplaced
  misplaced_row items bad h = let n = told s.positions.token_at (misplaced_why (tag_here g)) at w h in (n.0, bad n.1)

  phase_row : (p : Phase) (items : List Item) → s.lexical.phase ≡ p → is_some s.here ≡ false → Found (tag_in p (whole items)).state → Has (WholeTagRow g w)
  unfolding is_header
  phase_row phase.First items is outer = header_row items (λ e r n. bad_first_header g w e outer (inl is) r n)
  phase_row phase.FirstDeclared items is outer = header_row items (λ e r n. bad_first_header g w e outer (inr is) r n)
  phase_row phase.Between items is outer =
      splits (is_header g) (header_tag (whole items)) (starts (whole items) (tag_here g)) (λ named. header_row items (λ e r n. bad_next_header g w e outer (inl is) named r n))
      (λ other. starts_row items (tag_here g) (λ tag r far n. deep_top g w tag outer is other r far n) (λ e r n. bad_top g w e outer is other r n))
  phase_row phase.Declared items is outer =
      splits (is_header g) (header_tag (whole items)) (misplaced (whole items)) (λ named. header_row items (λ e r n. bad_next_header g w e outer (inr is) named r n))
      (λ other. misplaced_row items (λ n. no_header_declared g w outer is other n))
  phase_row phase.Ended items is outer = misplaced_row items (λ n. after_footer g w outer is n)

  outside_row : (items : List Item) → is_some s.here ≡ false → Found (tag_outside (whole items)).state → Has (WholeTagRow g w)
  unfolding tag_outside
  outside_row items outer = phase_row s.lexical.phase items refl outer

  closes_row : (items : List Item) → Found (tag_closes (whole items)).state → Has (WholeTagRow g w)
  unfolding tag_closes
  closes_row items = splits (is_some s.here) (tag_inside (whole items)) (tag_outside (whole items)) (λ e. inside_row items e) (λ e. outside_row items e)

  tag_row : (items : List Item) → Found (in_tag (turn c items) b).state → Has (TagRow s b w)
  unfolding in_tag
  tag_row items =
      let more = moved (turn c items) (tag_gathered c b) in
      splits (b == 62 && not (is_some s.lexical.quote)) (tag_closes (whole items)) more
      (λ e h. let p = and_parts (b == 62) (not (is_some s.lexical.quote)) e in let n = closes_row items h in (n.0, whole_tag_row s b w (eqb-true b 62 p.0) (no_quote s.lexical.quote p.1) n.1))
      (λ e h. calm more.state refl h)

  -- ---- an end tag outside elements

  footer_calm : (footer_gathered c b).fault ≡ s.fault
  footer_calm =
      let quoted = record c { lexical = record c.lexical { quote = quote_behind c.lexical.quote b; spoiled = true } } in
      let spoiled = record c { lexical = record c.lexical { spoiled = true } } in
      let rest = (if is_white b then c else spoiled) in
      let P = λ (v : State). v.fault ≡ s.fault in
      cond_both (is_some s.lexical.quote || is_quote b) quoted (if nat_lt (length s.token) (length s.name + 2) then gathered c b else rest) P (λ e. refl)
      (λ e. cond_both (nat_lt (length s.token) (length s.name + 2)) (gathered c b) rest P (λ f. refl) (λ f. cond_both (is_white b) c spoiled P (λ i. refl) (λ i. refl)))

  footer_row : (items : List Item) → Found (in_footer (turn c items) b).state → Has (FooterRow s b w)
  unfolding in_footer footer_closes
  footer_row items =
      let t = whole items in
      let given = gives (in_phase (item_ended t.state) phase.Ended) t.items item.Footer in
      let fault = moved t (token_fails t.state why.NotWellFormed) in
      splits (b == 62 && not (is_some s.lexical.quote)) (footer_closes t) (moved (turn c items) (footer_gathered c b))
      (λ e. let p = and_parts (b == 62) (not (is_some s.lexical.quote)) e in
      splits (ends_stream (gathered c b)) given fault (λ f h. calm given.state refl h)
      (λ f h. let n = told s.positions.token_at why.NotWellFormed at w h in (n.0, bad_footer s b w (eqb-true b 62 p.0) (no_quote s.lexical.quote p.1) f n.1)))
      (λ e h. calm (footer_gathered c b) footer_calm h)

  -- ---- the byte after a `<`

  open_calm_in : (m : Mode) → (gathered_in (unlimited c) m b).fault ≡ s.fault
  open_calm_in m =
      cond_both (is_some s.here) c (record c { positions = record c.positions { used = 0 } }) (λ (v : State). (gathered_in v m b).fault ≡ s.fault) (λ e. refl) (λ e. refl)

  opening_row : (items : List Item) → s.token ≡ codes "<" → s.lexical.quote ≡ None → Found (in_opening (turn c items) b).state → Has (OpeningRow s b w)
  unfolding in_opening in_tag
  opening_row items one quote =
      let t = turn c items in
      let bang = moved t (gathered_in (unlimited c) mode.Bang b) in
      let question = gathered_in c mode.Question b in
      let fault = token_fails c why.Restricted in
      let asked = (if may_declare c then question else fault) in
      let footer = moved t (gathered_in (unlimited c) mode.Footer b) in
      let more = moved t (tag_gathered c b) in
      splits (b == 33) bang (if b == 63 then moved t asked else (if b == 47 && not (is_some s.here) then footer else in_tag t b)) (λ e h. calm bang.state (open_calm_in mode.Bang) h)
      (λ e. splits (b == 63) (moved t asked) (if b == 47 && not (is_some s.here) then footer else in_tag t b)
      (λ f. split (may_declare c) question fault (λ i h. calm question refl h)
      (λ i h. let n = told s.positions.token_at why.Restricted at w h in (n.0, no_declaration s b w (eqb-true b 63 f) i n.1)))
      (λ f. splits (b == 47 && not (is_some s.here)) footer (in_tag t b) (λ i h. calm footer.state (open_calm_in mode.Footer) h)
      (λ i. splits (b == 62 && not (is_some s.lexical.quote)) (tag_closes (whole items)) more
      (λ j h. let is = eqb-true b 62 (and_parts (b == 62) (not (is_some s.lexical.quote)) j).0 in
      let token_is : s.token ++ b ∷ [] ≡ codes "<>" = ap (λ l. l ++ b ∷ []) one ∙ ap (λ d. 60 ∷ d ∷ []) is in
      let n = told s.positions.token_at why.NotWellFormed at w (sym (nothing_closes (whole items) (is_some s.here) refl token_is) ∙ h) in
      (n.0, no_name s b w is n.1))
      (λ j h. calm more.state refl h))))

  -- ---- texts

  abbrev r : State
  r = in_run c

  run_calm : r.fault ≡ s.fault
  run_calm = cond_both s.lexical.in_run c (run_begun c) (λ (v : State). v.fault ≡ s.fault) (λ e. refl) (λ e. refl)

  run_held : r.pending ≡ s.pending
  run_held = cond_both s.lexical.in_run c (run_begun c) (λ (v : State). v.pending ≡ s.pending) (λ e. refl) (λ e. refl)

  run_position : r.positions.token_at ≡ (if not s.lexical.in_run then s.positions.at else s.positions.token_at)
  run_position = placed s.lexical.in_run
    where
      placed : (x : Bool) → (if x then c else run_begun c).positions.token_at ≡ (if not x then s.positions.at else s.positions.token_at)
      placed true = refl
      placed false = refl

  run_section : (x : Bool) → s.lexical.in_run ≡ x → ends_section (if x then c else run_begun c) b ≡ true → (s.lexical.in_run ≡ true) × (s.lexical.brackets ≡ 2) × (b ≡ 62)
  run_section true is e = let p = and_parts (s.lexical.brackets == 2) (b == 62) e in (is, eqb-true s.lexical.brackets 2 p.0, eqb-true b 62 p.1)
  run_section false is e = absurd (true≢false (sym e))

  markup_calm : (markup_begun c).fault ≡ s.fault
  markup_calm =
      let t = token_begun c mode.Opening in
      cond_both (is_some s.here) t (record t { positions = record t.positions { item_at = t.positions.at; used = 1 } }) (λ (v : State). (gathered v 60).fault ≡ s.fault) (λ e. refl) (λ e. refl)

  begun_calm : (character_begun r).fault ≡ s.fault
  begun_calm = cond_both (is_empty r.pending) (record r { positions = record r.positions { item_at = r.positions.at } }) r (λ (v : State). v.fault ≡ s.fault) (λ e. run_calm) (λ e. run_calm)

  module _ (text : s.lexical.mode ≡ mode.Text) where
    at_text : at ≡ r.positions.token_at → at ≡ token_position s
    at_text e = e ∙ (run_position ∙ sym (text_place s s.lexical.mode text))

    inside_text_row : is_some s.here ≡ true → Found (inside c b) → TextRow s b at w
    unfolding inside text_inside
    inside_text_row inner =
        let fault = token_fails r why.NotWellFormed in
        let reference = token_begun c mode.Reference in
        split (b == 60) (markup_begun c) (if b == 38 then reference else text_inside c b) (λ e h. calm (markup_begun c) markup_calm h)
        (λ e. split (b == 38) reference (text_inside c b) (λ f h. calm reference refl h)
        (λ f. split (ends_character s.pending b) (judged_text r b) r
        (λ i. split (is_forbidden r b || ends_section r b) fault (character_taken r b)
        (λ j h.
        let n = told r.positions.token_at why.NotWellFormed at w h in
        ⊎_elim
        (λ (k : is_forbidden r b ≡ true).
        let same : is_forbidden s b ≡ true = ap (λ l. ends_forbidden_character l b) (sym run_held) ∙ k in
        forbidden_in_text s b at w inner (eqb-false b 60 e) (eqb-false b 38 f) i same (at_text n.0) n.1)
        (λ (k : ends_section r b ≡ true). let p = run_section s.lexical.in_run refl k in section_end_in_text s b at w inner p.2 p.0 p.1 (at_text n.0) n.1)
        (or_cases (is_forbidden r b) (ends_section r b) j))
        (λ j h. calm (character_taken r b) run_calm h))
        (λ i h. calm r run_calm h)))

    outside_text_row : is_some s.here ≡ false → Found (between c b) → TextRow s b at w
    unfolding between text_outside
    outside_text_row outer =
        let fault = fails c s.positions.at why.NotWellFormed in
        split (b == 60) (markup_begun c) (if b == 38 then fault else text_outside c b) (λ e h. calm (markup_begun c) markup_calm h)
        (λ e. split (b == 38) fault (text_outside c b) (λ f h. let n = told s.positions.at why.NotWellFormed at w h in reference_outside s b at w outer (eqb-true b 38 f) n.0 n.1)
        (λ f. split (ends_character s.pending b) (judged_outside r b) (character_begun r)
        (λ i. split (is_white b) r (token_fails r why.NotWellFormed) (λ j h. calm r run_calm h)
        (λ j h. let n = told r.positions.token_at why.NotWellFormed at w h in rows.text_outside s b at w outer (eqb-false b 60 e) (eqb-false b 38 f) i j (at_text n.0) n.1))
        (λ i h. calm (character_begun r) begun_calm h)))

    text_row : Found (in_text c b) → TextRow s b at w
    unfolding in_text
    text_row = split (is_some s.here) (inside c b) (between c b) (λ e. inside_text_row e) (λ e. outside_text_row e)

  -- ---- a byte that goes to a token, or to a text

  by_mode : (m : Mode) (items : List Item) → Takes s m b → (s.lexical.mode ≡ mode.Opening → (s.token ≡ codes "<") × (s.lexical.quote ≡ None)) → Found (taken_in m (turn c items) b).state → Row s b at w
  by_mode mode.Text items k alone h = in_text_row s b at w k (text_row k.mode_is h)
  by_mode mode.Reference items k alone h = let n = reference_row h in in_token_row s b at w mode.Reference k refl n.0 n.1
  by_mode mode.Opening items k alone h = let o = alone k.mode_is in let n = opening_row items o.0 o.1 h in in_token_row s b at w mode.Opening k refl n.0 n.1
  by_mode mode.Bang items k alone h = let n = bang_row h in in_token_row s b at w mode.Bang k refl n.0 n.1
  by_mode mode.Question items k alone h = let n = question_row h in in_token_row s b at w mode.Question k refl n.0 n.1
  by_mode mode.Declaration items k alone h = let n = declaration_row h in in_token_row s b at w mode.Declaration k refl n.0 n.1
  by_mode mode.Tag items k alone h = let n = tag_row items h in in_token_row s b at w mode.Tag k refl n.0 n.1
  by_mode mode.Footer items k alone h = let n = footer_row items h in in_token_row s b at w mode.Footer k refl n.0 n.1
  by_mode mode.Section items k alone h = let n = section_row h in in_token_row s b at w mode.Section k refl n.0 n.1

-- Each fault that a byte decides is a row, where the token that a `<` has begun is that byte alone.
pub decides_row : (t : Turn) (b at : ℕ) (w : Why) → t.state.fault ≡ None → (t.state.lexical.mode ≡ mode.Opening → (t.state.token ≡ codes "<") × (t.state.lexical.quote ≡ None))
    → Decides t b at w → Row t.state b at w
decides_row t b at w none alone d =
    let s = t.state in
    ⊎_elim (λ (far : is_too_long s b ≡ true). let n = told s.positions.item_at why.TooLong at w (sym (long t b none far) ∙ d) in too_long s b at w none far n.0 n.1)
    (λ (near : is_too_long s b ≡ false).
    ⊎_elim
    (λ (good : continues s.pending b ≡ true).
    let k : Takes s s.lexical.mode b = record { no_fault = none; mode_is = refl; short = near; is_text = good } in
    by_mode s b at w none s.lexical.mode t.items k alone (ap (λ (u : Turn). u.state.fault) (sym (goes t s.lexical.mode b k)) ∙ d))
    (λ (bad : continues s.pending b ≡ false). let n = told (token_position s) why.Encoding at w (sym (broken t b none near bad) ∙ d) in no_utf8 s b at w none near bad n.0 n.1)
    (cases_Bool (continues s.pending b)))
    (cases_Bool (is_too_long s b))
