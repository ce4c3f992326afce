-- What is unfinished begins where nothing was, and stays where it began.
use Rattle.std.proofs.Common.{◌≡◌, ℕ, ◌+◌, ◌≤◌, ◌⊎◌, inl, inr, Bool, true, false, not, ◌&&◌, ◌||◌, ◌==◌, if◌then◌else◌, ⊎_elim, List, [], ◌∷◌, ◌++◌, Option, Some, None, Result, Ok, Err, refl, sym, ap, ◌∙◌, length, arith}
use Rattle.std.proofs.lemmas.Bool.{and_parts, cases_lt, cond_both, eqb-true, false≢true, not-true}
use Rattle.std.specs.Option.{is_some}
use Rattle.std.specs.Prelude.{codes, nat_lt, slice_index}
use Rattle.xml_names.specs.Ends.{end_of}
use Rattle.xml_names.specs.Starts.{Tag}
use Rattle.xml_names.specs.declared.fault.StartWhy.{StartWhy}
use Rattle.xml_tokens.specs.Characters.{is_white}
use Rattle.xml_tokens.specs.Declarations.{declaration_of}
use Rattle.xml_tokens.specs.References.{reference_goes_on, referred}
use Rattle.xml_tokens.specs.Tags.{is_empty, is_end, is_quote, quote_behind}
use Rattle.xml_tokens.specs.Utf8.{continues, ends_character, held_after}
use Rattle.xml_tokens.specs.declared.declarations.Declaration.{Declaration}
use Rattle.xml_tokens.specs.declared.declarations.Declaration.TheVariants as declaration
use Rattle.xml_tokens.specs.declared.references.Reference.{Reference}
use Rattle.xml_tokens.specs.declared.references.Reference.TheVariants as reference
use Rattle.law_xml.proofs.CountLaws.{outside_in}
use Rattle.law_xml.proofs.ReadCharacters.{ascii_alone, ascii_ends, ended_after}
use Rattle.law_xml.specs.FaultRows.{may_stand}
use Rattle.xml_framer.specs.Machine.{taken_in}
use Rattle.xml_framer.specs.MarkupSteps.{declares, ends_in_question, in_bang, in_declaration, in_phase, in_question, section_opened}
use Rattle.xml_framer.specs.States.{OpenElement, State, Turn, fails, gathered, gathered_in, gives, in_mode, in_run, is_text, item_ended, may_declare, moved, run_begun, token_begun, token_ended, token_fails}
use Rattle.xml_framer.specs.TagSteps.{added_to, begun, closed, closed_open, element_from, ends, ends_stream, footer_closes, footer_gathered, header_tag, heads, in_footer, in_opening, in_tag, is_header, is_spelled, is_too_deep, joined_text, leaf, level, misplaced, shallower, starts, tag_anew, tag_closes, tag_gathered, tag_here, tag_in, tag_inside, tag_outside, unlimited}
use Rattle.xml_framer.specs.TextSteps.{between, bracket_taken, character_begun, character_taken, ends_section, in_reference, in_section, in_text, inside, is_forbidden, judged_outside, judged_section, judged_text, markup_begun, other_taken, refers, section_taken, text_inside, text_outside}
use Rattle.xml_trees.specs.Trees.{Elem}
use Rattle.xml_framer.specs.declared.items.Item.TheVariants as item
use Rattle.xml_framer.specs.declared.fault.Why.TheVariants as why
use Rattle.xml_framer.specs.declared.states.Mode.{Mode}
use Rattle.xml_framer.specs.declared.states.Mode.TheVariants as mode
use Rattle.xml_framer.specs.declared.states.Phase.{Phase}
use Rattle.xml_framer.specs.declared.states.Phase.TheVariants as phase

-- something is unfinished where this character is in hand
abbrev pub has_part : State → List ℕ → Bool
has_part s held = is_some s.here || (not (is_text s.lexical.mode) || not (is_empty held))

-- where something is unfinished after the byte, no item was given, and it begins at this offset
abbrev pub Keeps : ℕ → ℕ → Turn → Turn → Type 0
Keeps b n t u = has_part u.state (held_after u.state.pending b) ≡ true → (u.items ≡ t.items) × (u.state.positions.item_at ≡ n)

either : (b n : ℕ) (t u v : Turn) (c : Bool) → Keeps b n t u → Keeps b n t v → Keeps b n t (if c then u else v)
either b n t u v true x y = x
either b n t u v false x y = y

-- the same of states
abbrev Stays : ℕ → ℕ → State → Type 0
Stays b n u = has_part u (held_after u.pending b) ≡ true → u.positions.item_at ≡ n

one : (b n : ℕ) (u v : State) (c : Bool) → Stays b n u → Stays b n v → Stays b n (if c then u else v)
one b n u v true x y = x
one b n u v false x y = y

by_test : (b n : ℕ) (u v : State) (c : Bool) → (c ≡ true → Stays b n u) → (c ≡ false → Stays b n v) → Stays b n (if c then u else v)
by_test b n u v true x y = x refl
by_test b n u v false x y = y refl

kept : (b n : ℕ) (t : Turn) (u : State) → Stays b n u → Keeps b n t (moved t u)
kept b n t u h e = (refl, h e)

-- what has ended leaves nothing unfinished
over : (b n : ℕ) (t u : Turn) → is_some u.state.here ≡ false → is_text u.state.lexical.mode ≡ true → held_after u.state.pending b ≡ [] → Keeps b n t u
over b n t u outer text none h = absurd (false≢true (rw (outer, text, none) at h))

-- ---- nothing is unfinished before the byte

run_position : (c : Bool) (s : State) → (if c then s else run_begun s).positions.at ≡ s.positions.at
run_position true s = refl
run_position false s = refl

run_item : (c : Bool) (s : State) → (if c then s else run_begun s).positions.item_at ≡ s.positions.item_at
run_item true s = refl
run_item false s = refl

-- a state outside elements with no token in hand
abbrev pub outside_text : State → List ℕ → State
outside_text s held = record s { here = None; pending = held; lexical = record s.lexical { mode = mode.Text } }

first_text : (s : State) (b : ℕ) → Stays b s.positions.at (text_outside (outside_text s []) b)
unfolding text_outside
first_text s b =
    let r = outside_text s [] in
    let n = s.positions.at in
    by_test b n (judged_outside (in_run r) b) (character_begun (in_run r)) (ends_character [] b)
    (λ e. let none = ended_after [] b e in
    cond_both s.lexical.in_run r (run_begun r) (λ u. Stays b n (judged_outside u b))
    (λ i. one b n r (token_fails r why.NotWellFormed) (is_white b) (λ h. absurd (false≢true (rw none at h))) (λ h. absurd (false≢true (rw none at h))))
    (λ i. one b n (run_begun r) (token_fails (run_begun r) why.NotWellFormed) (is_white b) (λ h. absurd (false≢true (rw none at h))) (λ h. absurd (false≢true (rw none at h)))))
    (λ e. cond_both s.lexical.in_run r (run_begun r) (λ u. Stays b n (character_begun u)) (λ i h. refl) (λ i h. refl))

pub first_begins : (t : Turn) (b : ℕ) → continues [] b ≡ true → Keeps b t.state.positions.at t (taken_in mode.Text (moved t (outside_text t.state [])) b)
unfolding in_text between
first_begins t b c =
    let s = t.state in
    let r = outside_text s [] in
    let n = s.positions.at in
    kept b n t (in_text r b)
    (one b n (markup_begun r) (if b == 38 then fails r n why.NotWellFormed else text_outside r b) (b == 60) (λ h. refl)
    (by_test b n (fails r n why.NotWellFormed) (text_outside r b) (b == 38)
    (λ e h. let low = eqb-true b 38 e in absurd (false≢true (rw ((ascii_alone [] b (omega (arith, low)) c).1) at h)))
    (λ e. first_text s b)))

-- only `<` and a byte that is no ASCII begin what is unfinished
abbrev pub IsFirst : ℕ → State → Type 0
IsFirst b u = has_part u (held_after u.pending b) ≡ true → (b ≡ 60) ⊎ (128 ≤ b)

pick : (b : ℕ) (u v : State) (c : Bool) → (c ≡ true → IsFirst b u) → (c ≡ false → IsFirst b v) → IsFirst b (if c then u else v)
pick b u v true x y = x refl
pick b u v false x y = y refl

high : (b : ℕ) → ends_character [] b ≡ false → 128 ≤ b
high b e = ⊎_elim (λ low. absurd (false≢true (sym e ∙ ascii_ends b low))) (λ above. above) (cases_lt b 128)

first_is : (s : State) (b : ℕ) → continues [] b ≡ true → IsFirst b (in_text (outside_text s []) b)
unfolding in_text between text_outside
first_is s b c =
    let r = outside_text s [] in
    let fault = fails r s.positions.at why.NotWellFormed in
    pick b (markup_begun r) (if b == 38 then fault else text_outside r b) (b == 60) (λ e h. inl (eqb-true b 60 e))
    (λ e. pick b fault (text_outside r b) (b == 38)
    (λ f h. let low = eqb-true b 38 f in absurd (false≢true (rw ((ascii_alone [] b (omega (arith, low)) c).1) at h)))
    (λ f. pick b (judged_outside (in_run r) b) (character_begun (in_run r)) (ends_character [] b)
    (λ g. let none = ended_after [] b g in
    cond_both s.lexical.in_run r (run_begun r) (λ u. IsFirst b (judged_outside u b))
    (λ i. pick b r (token_fails r why.NotWellFormed) (is_white b) (λ w h. absurd (false≢true (rw none at h))) (λ w h. absurd (false≢true (rw none at h))))
    (λ i. pick b (run_begun r) (token_fails (run_begun r) why.NotWellFormed) (is_white b) (λ w h. absurd (false≢true (rw none at h))) (λ w h. absurd (false≢true (rw none at h)))))
    (λ g h. inr (high b g))))

-- the same of a state in which nothing is unfinished
pub first_from : (o : Option OpenElement) (m : Mode) (held : List ℕ) (t : Turn) (b : ℕ) → (is_some o || (not (is_text m) || not (is_empty held))) ≡ false → continues held b ≡ true
    → IsFirst b (taken_in m (moved t (record t.state { here = o; pending = held; lexical = record t.state.lexical { mode = m } })) b).state
first_from (Some o) m held t b e c = absurd (false≢true (sym e))
first_from None mode.Text [] t b e c = first_is t.state b c
first_from None mode.Text (x ∷ xs) t b e c = absurd (false≢true (sym e))
first_from None mode.Reference held t b e c = absurd (false≢true (sym e))
first_from None mode.Opening held t b e c = absurd (false≢true (sym e))
first_from None mode.Bang held t b e c = absurd (false≢true (sym e))
first_from None mode.Question held t b e c = absurd (false≢true (sym e))
first_from None mode.Declaration held t b e c = absurd (false≢true (sym e))
first_from None mode.Tag held t b e c = absurd (false≢true (sym e))
first_from None mode.Footer held t b e c = absurd (false≢true (sym e))
first_from None mode.Section held t b e c = absurd (false≢true (sym e))

pub begins_from : (o : Option OpenElement) (m : Mode) (held : List ℕ) (t : Turn) (b : ℕ) → (is_some o || (not (is_text m) || not (is_empty held))) ≡ false → continues held b ≡ true
    → Keeps b t.state.positions.at t (taken_in m (moved t (record t.state { here = o; pending = held; lexical = record t.state.lexical { mode = m } })) b)
begins_from (Some o) m held t b e c = absurd (false≢true (sym e))
begins_from None mode.Text [] t b e c = first_begins t b c
begins_from None mode.Text (x ∷ xs) t b e c = absurd (false≢true (sym e))
begins_from None mode.Reference held t b e c = absurd (false≢true (sym e))
begins_from None mode.Opening held t b e c = absurd (false≢true (sym e))
begins_from None mode.Bang held t b e c = absurd (false≢true (sym e))
begins_from None mode.Question held t b e c = absurd (false≢true (sym e))
begins_from None mode.Declaration held t b e c = absurd (false≢true (sym e))
begins_from None mode.Tag held t b e c = absurd (false≢true (sym e))
begins_from None mode.Footer held t b e c = absurd (false≢true (sym e))
begins_from None mode.Section held t b e c = absurd (false≢true (sym e))

-- ---- something is: texts, sections and references

inside_text : (s : State) (b : ℕ) → Stays b s.positions.item_at (text_inside s b)
unfolding text_inside
inside_text s b =
    let begun = in_run s in
    let n = s.positions.item_at in
    let same = run_item s.lexical.in_run s in
    one b n (judged_text begun b) begun (ends_character s.pending b)
    (one b n (token_fails begun why.NotWellFormed) (character_taken begun b) (is_forbidden begun b || ends_section begun b) (λ h. same) (λ h. same))
    (λ h. same)

inside_stays : (s : State) (b : ℕ) → is_some s.here ≡ true → Stays b s.positions.item_at (inside s b)
unfolding inside
inside_stays s b inner =
    let n = s.positions.item_at in
    let other = (if b == 38 then token_begun s mode.Reference else text_inside s b) in
    one b n (markup_begun s) other (b == 60) (λ h. rw inner refl) (one b n (token_begun s mode.Reference) (text_inside s b) (b == 38) (λ h. refl) (inside_text s b))

outside_stays : (s : State) (b : ℕ) → continues s.pending b ≡ true → is_empty s.pending ≡ false → Stays b s.positions.item_at (between s b)
unfolding between text_outside
outside_stays s b c held =
    let n = s.positions.item_at in
    let begun = in_run s in
    let same = run_item s.lexical.in_run s in
    by_test b n (markup_begun s) (if b == 38 then fails s s.positions.at why.NotWellFormed else text_outside s b) (b == 60)
    (λ e h. let is = eqb-true b 60 e in absurd (false≢true (sym held ∙ ap is_empty (ascii_alone s.pending b (omega (arith, is)) c).0)))
    (λ e. one b n (fails s s.positions.at why.NotWellFormed) (text_outside s b) (b == 38) (λ h. refl)
    (one b n (judged_outside begun b) (character_begun begun) (ends_character s.pending b)
    (one b n begun (token_fails begun why.NotWellFormed) (is_white b) (λ h. same) (λ h. same))
    (cond_both s.lexical.in_run s (run_begun s) (λ u. Stays b n (character_begun u)) (λ i h. rw held refl) (λ i h. rw held refl))))

text_stays : (s : State) (b : ℕ) → continues s.pending b ≡ true → s.lexical.mode ≡ mode.Text → has_part s s.pending ≡ true → Stays b s.positions.item_at (in_text s b)
unfolding in_text
text_stays s b c is part =
    by_test b s.positions.item_at (inside s b) (between s b) (is_some s.here) (inside_stays s b) (λ outer. outside_stays s b c (not-true (is_empty s.pending) (rw (outer, is) at part)))

refers_stays : (s : State) (b : ℕ) (r : Reference) → Stays b s.positions.item_at (refers s r)
refers_stays s b (reference.Character c) h = refl
refers_stays s b reference.Unknown h = refl
refers_stays s b reference.Malformed h = refl

reference_stays : (s : State) (b : ℕ) → Stays b s.positions.item_at (in_reference s b)
unfolding in_reference
reference_stays s b =
    let n = s.positions.item_at in
    one b n (refers s (referred s.token)) (if reference_goes_on s.token b then gathered s b else token_fails s why.NotWellFormed) (b == 59) (refers_stays s b (referred s.token))
    (one b n (gathered s b) (token_fails s why.NotWellFormed) (reference_goes_on s.token b) (λ h. refl) (λ h. refl))

bracket_stays : (s : State) (b : ℕ) → Stays b s.positions.item_at (bracket_taken s)
bracket_stays s b =
    one b s.positions.item_at (record s { chars = s.chars ++ 93 ∷ []; lexical = record s.lexical { returned = false } }) _ (s.lexical.brackets == 2) (λ h. refl) (λ h. refl)

section_stays : (s : State) (b : ℕ) → Stays b s.positions.item_at (in_section s b)
unfolding in_section judged_section
section_stays s b =
    let n = s.positions.item_at in
    let taken = section_taken s b in
    let ended = (if ends_section s b then token_ended s else taken) in
    one b n (if is_forbidden s b then token_fails s why.NotWellFormed else ended) s (ends_character s.pending b)
    (one b n (token_fails s why.NotWellFormed) ended (is_forbidden s b) (λ h. refl)
    (one b n (token_ended s) taken (ends_section s b) (λ h. refl) (one b n (bracket_taken s) (other_taken s b) (b == 93) (bracket_stays s b) (λ h. refl))))
    (λ h. refl)

-- ---- markup

bang_stays : (s : State) (b : ℕ) → Stays b s.positions.item_at (in_bang s b)
unfolding in_bang
bang_stays s b =
    let n = s.positions.item_at in
    let inner = (if length s.token == 8 then section_opened s else gathered s b) in
    one b n inner (token_fails s why.Restricted) (b == slice_index (codes "<![CDATA[") (length s.token))
    (one b n (section_opened s) (gathered s b) (length s.token == 8)
    (one b n (in_mode (record s { token = [] }) mode.Section) (token_fails s why.NotWellFormed) (is_some s.here) (λ h. refl) (λ h. refl)) (λ h. refl)) (λ h. refl)

question_stays : (s : State) (b : ℕ) → Stays b s.positions.item_at (in_question s b)
unfolding in_question
question_stays s b =
    let n = s.positions.item_at in
    let fault = token_fails s why.Restricted in
    one b n (if b == slice_index (codes "<?xml") (length s.token) then gathered s b else fault) (if is_white b then gathered_in s mode.Declaration b else fault) (nat_lt (length s.token) 5)
    (one b n (gathered s b) fault (b == slice_index (codes "<?xml") (length s.token)) (λ h. refl) (λ h. refl))
    (one b n (gathered_in s mode.Declaration b) fault (is_white b) (λ h. refl) (λ h. refl))

-- a `>` leaves no character in hand
none_held : (held : List ℕ) (b : ℕ) (more : Bool) → continues held b ≡ true → (b == 62 && more) ≡ true → held_after held b ≡ []
none_held held b more c e = let is = eqb-true b 62 (and_parts (b == 62) more e).0 in (ascii_alone held b (omega (arith, is)) c).1

declares_stays : (s : State) (b : ℕ) (d : Declaration) → is_some s.here ≡ false → held_after s.pending b ≡ [] → Stays b s.positions.item_at (declares s d)
declares_stays s b declaration.Good outer none h = absurd (false≢true (rw (outer, none) at h))
declares_stays s b declaration.Encoding outer none h = refl
declares_stays s b declaration.NotWellFormed outer none h = refl

declaration_stays : (s : State) (b : ℕ) → continues s.pending b ≡ true → is_some s.here ≡ false → Stays b s.positions.item_at (in_declaration s b)
unfolding in_declaration
declaration_stays s b c outer =
    let told = declaration_of (s.token ++ b ∷ []) in
    by_test b s.positions.item_at (declares (gathered s b) told) (gathered s b) (b == 62 && ends_in_question s.token)
    (λ e. declares_stays (gathered s b) b told outer (none_held s.pending b (ends_in_question s.token) c e)) (λ e h. refl)

-- ---- tags

turn_by_test : (b n : ℕ) (t u v : Turn) (c : Bool) → (c ≡ true → Keeps b n t u) → (c ≡ false → Keeps b n t v) → Keeps b n t (if c then u else v)
turn_by_test b n t u v true x y = x refl
turn_by_test b n t u v false x y = y refl

added_keeps : (o : Option OpenElement) (t : Turn) (b : ℕ) (e : Elem) → t.state.here ≡ o → held_after t.state.pending b ≡ [] → Keeps b t.state.positions.item_at t (added_to o t e)
added_keeps None t b e is none h = over b t.state.positions.item_at t (added_to None t e) (ap is_some is) refl none h
added_keeps (Some o) t b e is none h = (refl, refl)

leaf_keeps : (t : Turn) (b : ℕ) (tag : Tag) → held_after t.state.pending b ≡ [] → Keeps b t.state.positions.item_at t (leaf t tag)
unfolding leaf
leaf_keeps t b tag none = added_keeps (joined_text t.state).here (moved t (joined_text t.state)) b (element_from tag) refl none

begun_keeps : (t : Turn) (b : ℕ) (tag : Tag) → held_after t.state.pending b ≡ [] → Keeps b t.state.positions.item_at t (begun t tag)
unfolding begun level
begun_keeps t b tag none =
    let n = t.state.positions.item_at in
    let deep = moved t (token_fails t.state why.TooDeep) in
    let inner = moved t (level t.state tag) in
    either b n t deep (if tag.empty then leaf t tag else inner) (is_too_deep t.state) (λ h. (refl, refl)) (either b n t (leaf t tag) inner tag.empty (leaf_keeps t b tag none) (λ h. (refl, refl)))

starts_keep : (t : Turn) (b : ℕ) (r : Result Tag StartWhy) → held_after t.state.pending b ≡ [] → Keeps b t.state.positions.item_at t (starts t r)
starts_keep t b (Ok tag) none = begun_keeps t b tag none
starts_keep t b (Err fault) none = λ h. (refl, refl)

open_keeps : (o : Option OpenElement) (t : Turn) (b : ℕ) → held_after t.state.pending b ≡ [] → Keeps b t.state.positions.item_at t (closed_open o t)
open_keeps None t b none h = (refl, refl)
open_keeps (Some o) t b none h = added_keeps (shallower t.state).here (moved t (shallower t.state)) b o.element refl none h

closed_keeps : (t : Turn) (b : ℕ) → held_after t.state.pending b ≡ [] → Keeps b t.state.positions.item_at t (closed t)
unfolding closed
closed_keeps t b none = open_keeps (joined_text t.state).here (moved t (joined_text t.state)) b none

ends_keep : (t : Turn) (b : ℕ) → held_after t.state.pending b ≡ [] → Keeps b t.state.positions.item_at t (ends t)
unfolding ends
ends_keep t b none =
    either b t.state.positions.item_at t (closed t) (moved t (token_fails t.state why.NotWellFormed)) (is_spelled t.state.here (end_of t.state.token)) (closed_keeps t b none) (λ h. (refl, refl))

inside_keeps : (t : Turn) (b : ℕ) → held_after t.state.pending b ≡ [] → Keeps b t.state.positions.item_at t (tag_inside t)
unfolding tag_inside
inside_keeps t b none = either b t.state.positions.item_at t (ends t) (starts t (tag_here t.state)) (is_end t.state.token) (ends_keep t b none) (starts_keep t b (tag_here t.state) none)

heads_keep : (t : Turn) (b : ℕ) (r : Result Tag StartWhy) → is_some t.state.here ≡ false → held_after t.state.pending b ≡ [] → Keeps b t.state.positions.item_at t (heads t r)
heads_keep t b (Ok tag) outer none = over b t.state.positions.item_at t (heads t (Ok tag)) outer refl none
heads_keep t b (Err fault) outer none = λ h. (refl, refl)

header_keeps : (t : Turn) (b : ℕ) → is_some t.state.here ≡ false → held_after t.state.pending b ≡ [] → Keeps b t.state.positions.item_at t (header_tag t)
unfolding header_tag
header_keeps t b outer none = heads_keep t b (tag_anew t.state) outer none

misplaced_keeps : (t : Turn) (b : ℕ) → Keeps b t.state.positions.item_at t (misplaced t)
unfolding misplaced
misplaced_keeps t b h = (refl, refl)

phase_keeps : (p : Phase) (t : Turn) (b : ℕ) → is_some t.state.here ≡ false → held_after t.state.pending b ≡ [] → Keeps b t.state.positions.item_at t (tag_in p t)
phase_keeps phase.First t b outer none = header_keeps t b outer none
phase_keeps phase.FirstDeclared t b outer none = header_keeps t b outer none
phase_keeps phase.Between t b outer none =
    either b t.state.positions.item_at t (header_tag t) (starts t (tag_here t.state)) (is_header t.state) (header_keeps t b outer none) (starts_keep t b (tag_here t.state) none)
phase_keeps phase.Declared t b outer none = either b t.state.positions.item_at t (header_tag t) (misplaced t) (is_header t.state) (header_keeps t b outer none) (misplaced_keeps t b)
phase_keeps phase.Ended t b outer none = misplaced_keeps t b

closes_keep : (t : Turn) (b : ℕ) → held_after t.state.pending b ≡ [] → Keeps b t.state.positions.item_at t (tag_closes t)
unfolding tag_closes tag_outside
closes_keep t b none =
    turn_by_test b t.state.positions.item_at t (tag_inside t) (tag_outside t) (is_some t.state.here) (λ inner. inside_keeps t b none) (λ outer. phase_keeps t.state.lexical.phase t b outer none)

tag_keeps : (t : Turn) (b : ℕ) → continues t.state.pending b ≡ true → Keeps b t.state.positions.item_at t (in_tag t b)
unfolding in_tag
tag_keeps t b c =
    let whole = moved t (gathered t.state b) in
    turn_by_test b t.state.positions.item_at t (tag_closes whole) (moved t (tag_gathered t.state b)) (b == 62 && not (is_some t.state.lexical.quote))
    (λ e. closes_keep whole b (none_held t.state.pending b (not (is_some t.state.lexical.quote)) c e)) (λ e h. (refl, refl))

footer_keeps : (t : Turn) (b : ℕ) → is_some t.state.here ≡ false → held_after t.state.pending b ≡ [] → Keeps b t.state.positions.item_at t (footer_closes t)
unfolding footer_closes
footer_keeps t b outer none =
    let n = t.state.positions.item_at in
    let given = gives (in_phase (item_ended t.state) phase.Ended) t.items item.Footer in
    either b n t given (moved t (token_fails t.state why.NotWellFormed)) (ends_stream t.state) (over b n t given outer refl none) (λ h. (refl, refl))

gathered_stays : (s : State) (b : ℕ) → Stays b s.positions.item_at (footer_gathered s b)
gathered_stays s b =
    let n = s.positions.item_at in
    let spoiled = record s { lexical = record s.lexical { spoiled = true } } in
    one b n (record s { lexical = record s.lexical { quote = quote_behind s.lexical.quote b; spoiled = true } })
    (if nat_lt (length s.token) (length s.name + 2) then gathered s b else (if is_white b then s else spoiled)) (is_some s.lexical.quote || is_quote b)
    (λ h. refl)
    (one b n (gathered s b) (if is_white b then s else spoiled) (nat_lt (length s.token) (length s.name + 2)) (λ h. refl) (one b n s spoiled (is_white b) (λ h. refl) (λ h. refl)))

in_footer_keeps : (t : Turn) (b : ℕ) → continues t.state.pending b ≡ true → is_some t.state.here ≡ false → Keeps b t.state.positions.item_at t (in_footer t b)
unfolding in_footer
in_footer_keeps t b c outer =
    let n = t.state.positions.item_at in
    let whole = moved t (gathered t.state b) in
    turn_by_test b n t (footer_closes whole) (moved t (footer_gathered t.state b)) (b == 62 && not (is_some t.state.lexical.quote))
    (λ e. footer_keeps whole b outer (none_held t.state.pending b (not (is_some t.state.lexical.quote)) c e)) (λ e. kept b n t (footer_gathered t.state b) (gathered_stays t.state b))

unlimited_keeps : (t : Turn) (m : Mode) (b : ℕ) → Keeps b t.state.positions.item_at t (moved t (gathered_in (unlimited t.state) m b))
unlimited_keeps t m b =
    let s = t.state in
    cond_both (is_some s.here) s (record s { positions = record s.positions { used = 0 } }) (λ u. Keeps b s.positions.item_at t (moved t (gathered_in u m b))) (λ e h. (refl, refl)) (λ e h. (refl, refl))

opening_keeps : (t : Turn) (b : ℕ) → continues t.state.pending b ≡ true → Keeps b t.state.positions.item_at t (in_opening t b)
unfolding in_opening
opening_keeps t b c =
    let n = t.state.positions.item_at in
    let bang = moved t (gathered_in (unlimited t.state) mode.Bang b) in
    let asked = (if may_declare t.state then gathered_in t.state mode.Question b else token_fails t.state why.Restricted) in
    let footer = moved t (gathered_in (unlimited t.state) mode.Footer b) in
    let last = (if b == 47 && not (is_some t.state.here) then footer else in_tag t b) in
    either b n t bang (if b == 63 then moved t asked else last) (b == 33) (unlimited_keeps t mode.Bang b)
    (either b n t (moved t asked) last (b == 63)
    (kept b n t asked (one b n (gathered_in t.state mode.Question b) (token_fails t.state why.Restricted) (may_declare t.state) (λ h. refl) (λ h. refl)))
    (either b n t footer (in_tag t b) (b == 47 && not (is_some t.state.here)) (unlimited_keeps t mode.Footer b) (tag_keeps t b c)))

-- a byte where something is unfinished
pub keeps_on : (m : Mode) (t : Turn) (b : ℕ) → t.state.lexical.mode ≡ m → continues t.state.pending b ≡ true → may_stand t.state ≡ true → has_part t.state t.state.pending ≡ true
    → Keeps b t.state.positions.item_at t (taken_in m t b)
keeps_on mode.Text t b is c stands part = kept b t.state.positions.item_at t (in_text t.state b) (text_stays t.state b c is part)
keeps_on mode.Reference t b is c stands part = kept b t.state.positions.item_at t (in_reference t.state b) (reference_stays t.state b)
keeps_on mode.Opening t b is c stands part = opening_keeps t b c
keeps_on mode.Bang t b is c stands part = kept b t.state.positions.item_at t (in_bang t.state b) (bang_stays t.state b)
keeps_on mode.Question t b is c stands part = kept b t.state.positions.item_at t (in_question t.state b) (question_stays t.state b)
keeps_on mode.Declaration t b is c stands part =
    kept b t.state.positions.item_at t (in_declaration t.state b) (declaration_stays t.state b c (outside_in t.state mode.Declaration is refl stands))
keeps_on mode.Tag t b is c stands part = tag_keeps t b c
keeps_on mode.Footer t b is c stands part = in_footer_keeps t b c (outside_in t.state mode.Footer is refl stands)
keeps_on mode.Section t b is c stands part = kept b t.state.positions.item_at t (in_section t.state b) (section_stays t.state b)
