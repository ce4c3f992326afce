-- What a byte does to a token leaves the place of the next byte and the character in hand, and counts no more bytes than
-- before, or the first. So the place rises by one with each byte, and by nothing else.
use Rattle.std.proofs.Common.{◌≡◌, ℕ, ◌+◌, ◌≤◌, arith, Bool, true, false, true≢false, ◌==◌, ◌&&◌, ◌||◌, not, if◌then◌else◌, List, [], ◌∷◌, ◌++◌, Option, Some, None, Result, Ok, Err, codes, length, refl, sym, ap, ◌∙◌}
use Rattle.std.specs.Option.{is_some}
use Rattle.std.specs.Prelude.{nat_lt, slice_index}
use Rattle.xml_tokens.specs.Characters.{is_white}
use Rattle.xml_tokens.specs.Declarations.{declaration_of}
use Rattle.xml_tokens.specs.References.{reference_goes_on, referred}
use Rattle.xml_tokens.specs.Tags.{is_empty, is_end, is_quote}
use Rattle.xml_tokens.specs.Utf8.{continues, ends_character}
use Rattle.xml_tokens.specs.declared.declarations.Declaration.{Declaration}
use Rattle.xml_tokens.specs.declared.declarations.Declaration.TheVariants as declaration
use Rattle.xml_tokens.specs.declared.references.Reference.{Reference}
use Rattle.xml_tokens.specs.declared.references.Reference.TheVariants as reference
use Rattle.xml_names.specs.Ends.{end_of}
use Rattle.xml_names.specs.Starts.{Tag}
use Rattle.xml_names.specs.declared.fault.StartWhy.{StartWhy}
use Rattle.xml_framer.proofs.Pieces.{stays}
use Rattle.xml_framer.specs.Machine.{behind_byte, goes_on, is_too_long, run, step, taken, taken_in}
use Rattle.xml_framer.specs.ManyBytes.{position_after}
use Rattle.xml_framer.specs.MarkupSteps.{declares, ends_in_question, in_bang, in_declaration, in_question, section_opened}
use Rattle.xml_framer.specs.States.{OpenElement, State, Turn, counted, fails, gathered, gathered_in, in_mode, in_run, may_declare, moved, next_position, run_begun, token_begun, token_ended, token_fails, token_position}
use Rattle.xml_framer.specs.TagSteps.{added_to, begun, closed, closed_open, element_from, ends, ends_stream, footer_closes, footer_gathered, header_tag, heads, in_footer, in_opening, in_tag, is_header, is_spelled, is_too_deep, joined_text, leaf, level, misplaced, shallower, starts, tag_anew, tag_closes, tag_gathered, tag_here, tag_in, tag_inside, tag_outside, unlimited}
use Rattle.xml_framer.specs.TextSteps.{between, bracket_taken, character_begun, character_taken, ends_section, in_reference, in_section, in_text, inside, is_forbidden, judged_outside, judged_section, judged_text, markup_begun, other_taken, refers, section_taken, text_inside, text_outside}
use Rattle.xml_trees.specs.Trees.{Elem}
use Rattle.xml_framer.specs.declared.fault.Fault.{Fault}
use Rattle.xml_framer.specs.declared.fault.Why.TheVariants as why
use Rattle.xml_framer.specs.declared.states.Mode.{Mode}
use Rattle.xml_framer.specs.declared.states.Mode.TheVariants as mode
use Rattle.xml_framer.specs.declared.states.Phase.{Phase}
use Rattle.xml_framer.specs.declared.states.Phase.TheVariants as phase

-- ---- states

-- the place of the next byte, and the character in hand
abbrev passing : State → ℕ × List ℕ
passing s = (s.positions.at, s.pending)

-- as many are counted as before, or 1, or none
abbrev Counted : State → State → Type 0
Counted s t = (n : ℕ) → 1 ≤ n → s.positions.used ≤ n → t.positions.used ≤ n

abbrev Stays : State → State → Type 0
Stays s t = (passing t ≡ passing s) × Counted s t

one : (s t u : State) (b : Bool) → Stays s t → Stays s u → Stays s (if b then t else u)
one s t u true x y = x
one s t u false x y = y

run_stays : (s : State) → Stays s (in_run s)
run_stays s = one s s (run_begun s) s.lexical.in_run (refl, λ n p h. h) (refl, λ n p h. h)

markup_stays : (s : State) → Stays s (markup_begun s)
markup_stays s =
    let t = token_begun s mode.Opening in
    one s t (record t { positions = record t.positions { item_at = t.positions.at; used = 1 } }) (is_some t.here) (refl, λ n p h. h) (refl, λ n p h. p)

outside_stays : (s : State) (b : ℕ) → Stays s (text_outside s b)
unfolding text_outside
outside_stays s b =
    let t = in_run s in
    let judged : Stays s (judged_outside t b) = one s t (token_fails t why.NotWellFormed) (is_white b) (run_stays s) (run_stays s) in
    let begun : Stays s (character_begun t) = one s (record t { positions = record t.positions { item_at = t.positions.at } }) t (is_empty t.pending) (run_stays s) (run_stays s) in
    one s (judged_outside t b) (character_begun t) (ends_character s.pending b) judged begun

between_stays : (s : State) (b : ℕ) → Stays s (between s b)
unfolding between
between_stays s b =
    let fault = fails s s.positions.at why.NotWellFormed in
    one s (markup_begun s) (if b == 38 then fault else text_outside s b) (b == 60) (markup_stays s) (one s fault (text_outside s b) (b == 38) (refl, λ n p h. h) (outside_stays s b))

inside_stays : (s : State) (b : ℕ) → Stays s (inside s b)
unfolding inside text_inside
inside_stays s b =
    let t = in_run s in
    let judged : Stays s (judged_text t b) = one s (token_fails t why.NotWellFormed) (character_taken t b) (is_forbidden t b || ends_section t b) (run_stays s) (run_stays s) in
    let text : Stays s (text_inside s b) = one s (judged_text t b) t (ends_character s.pending b) judged (run_stays s) in
    one s (markup_begun s) (if b == 38 then token_begun s mode.Reference else text_inside s b) (b == 60) (markup_stays s) (one s (token_begun s mode.Reference) (text_inside s b) (b == 38) (refl, λ n p h. h) text)

text_stays : (s : State) (b : ℕ) → Stays s (in_text s b)
unfolding in_text
text_stays s b = one s (inside s b) (between s b) (is_some s.here) (inside_stays s b) (between_stays s b)

bracket_stays : (s : State) → Stays s (bracket_taken s)
bracket_stays s =
    one s (record s { chars = s.chars ++ 93 ∷ []; lexical = record s.lexical { returned = false } })
    (record s { lexical = record s.lexical { returned = false; brackets = if s.lexical.brackets == 0 then 1 else 2 } }) (s.lexical.brackets == 2) (refl, λ n p h. h) (refl, λ n p h. h)

section_stays : (s : State) (b : ℕ) → Stays s (in_section s b)
unfolding in_section judged_section
section_stays s b =
    let taken_is : Stays s (section_taken s b) = one s (bracket_taken s) (other_taken s b) (b == 93) (bracket_stays s) (refl, λ n p h. h) in
    let rest : Stays s (if ends_section s b then token_ended s else section_taken s b) = one s (token_ended s) (section_taken s b) (ends_section s b) (refl, λ n p h. h) taken_is in
    let judged : Stays s (judged_section s b) = one s (token_fails s why.NotWellFormed) (if ends_section s b then token_ended s else section_taken s b) (is_forbidden s b) (refl, λ n p h. h) rest in
    one s (judged_section s b) s (ends_character s.pending b) judged (refl, λ n p h. h)

refers_stays : (s : State) (r : Reference) → Stays s (refers s r)
refers_stays s (reference.Character c) = (refl, λ n p h. h)
refers_stays s reference.Unknown = (refl, λ n p h. h)
refers_stays s reference.Malformed = (refl, λ n p h. h)

reference_stays : (s : State) (b : ℕ) → Stays s (in_reference s b)
unfolding in_reference
reference_stays s b =
    let fault = token_fails s why.NotWellFormed in
    one s (refers s (referred s.token)) (if reference_goes_on s.token b then gathered s b else fault) (b == 59) (refers_stays s (referred s.token)) (one s (gathered s b) fault (reference_goes_on s.token b) (refl, λ n p h. h) (refl, λ n p h. h))

bang_stays : (s : State) (b : ℕ) → Stays s (in_bang s b)
unfolding in_bang
bang_stays s b =
    let opened : Stays s (section_opened s) = one s (in_mode (record s { token = [] }) mode.Section) (token_fails s why.NotWellFormed) (is_some s.here) (refl, λ n p h. h) (refl, λ n p h. h) in
    let next = if length s.token == 8 then section_opened s else gathered s b in
    one s next (token_fails s why.Restricted) (b == slice_index (codes "<![CDATA[") (length s.token)) (one s (section_opened s) (gathered s b) (length s.token == 8) opened (refl, λ n p h. h)) (refl, λ n p h. h)

question_stays : (s : State) (b : ℕ) → Stays s (in_question s b)
unfolding in_question
question_stays s b =
    let fault = token_fails s why.Restricted in
    let begun = if b == slice_index (codes "<?xml") (length s.token) then gathered s b else fault in
    let spaced = if is_white b then gathered_in s mode.Declaration b else fault in
    one s begun spaced (nat_lt (length s.token) 5) (one s (gathered s b) fault (b == slice_index (codes "<?xml") (length s.token)) (refl, λ n p h. h) (refl, λ n p h. h)) (one s (gathered_in s mode.Declaration b) fault (is_white b) (refl, λ n p h. h) (refl, λ n p h. h))

declares_stays : (s : State) (d : Declaration) → Stays s (declares s d)
declares_stays s declaration.Good = (refl, λ n p h. omega arith)
declares_stays s declaration.Encoding = (refl, λ n p h. h)
declares_stays s declaration.NotWellFormed = (refl, λ n p h. h)

declaration_stays : (s : State) (b : ℕ) → Stays s (in_declaration s b)
unfolding in_declaration
declaration_stays s b =
    one s (declares (gathered s b) (declaration_of (s.token ++ b ∷ []))) (gathered s b) (b == 62 && ends_in_question s.token) (declares_stays (gathered s b) (declaration_of (s.token ++ b ∷ []))) (refl, λ n p h. h)

-- ---- turns

abbrev Remains : Turn → Turn → Type 0
Remains t u = Stays t.state u.state

either : (t u v : Turn) (b : Bool) → Remains t u → Remains t v → Remains t (if b then u else v)
either t u v true x y = x
either t u v false x y = y

added_remains : (o : Option OpenElement) (t : Turn) (e : Elem) → Remains t (added_to o t e)
added_remains None t e = (refl, λ n p h. omega arith)
added_remains (Some o) t e = (refl, λ n p h. h)

leaf_remains : (t : Turn) (tag : Tag) → Remains t (leaf t tag)
unfolding leaf
leaf_remains t tag = added_remains (joined_text t.state).here (moved t (joined_text t.state)) (element_from tag)

begun_remains : (t : Turn) (tag : Tag) → Remains t (begun t tag)
unfolding begun level
begun_remains t tag =
    let deep = moved t (token_fails t.state why.TooDeep) in
    let inner = moved t (level t.state tag) in
    either t deep (if tag.empty then leaf t tag else inner) (is_too_deep t.state) (refl, λ n p h. h) (either t (leaf t tag) inner tag.empty (leaf_remains t tag) (refl, λ n p h. h))

starts_remains : (t : Turn) (r : Result Tag StartWhy) → Remains t (starts t r)
starts_remains t (Ok tag) = begun_remains t tag
starts_remains t (Err fault) = (refl, λ n p h. h)

open_remains : (o : Option OpenElement) (t : Turn) → Remains t (closed_open o t)
open_remains None t = (refl, λ n p h. h)
open_remains (Some o) t = added_remains (shallower t.state).here (moved t (shallower t.state)) o.element

closed_remains : (t : Turn) → Remains t (closed t)
unfolding closed
closed_remains t = open_remains (joined_text t.state).here (moved t (joined_text t.state))

ends_remain : (t : Turn) → Remains t (ends t)
unfolding ends
ends_remain t = either t (closed t) (moved t (token_fails t.state why.NotWellFormed)) (is_spelled t.state.here (end_of t.state.token)) (closed_remains t) (refl, λ n p h. h)

inside_remains : (t : Turn) → Remains t (tag_inside t)
unfolding tag_inside
inside_remains t = either t (ends t) (starts t (tag_here t.state)) (is_end t.state.token) (ends_remain t) (starts_remains t (tag_here t.state))

heads_remain : (t : Turn) (r : Result Tag StartWhy) → Remains t (heads t r)
heads_remain t (Ok tag) = (refl, λ n p h. omega arith)
heads_remain t (Err fault) = (refl, λ n p h. h)

header_remains : (t : Turn) → Remains t (header_tag t)
unfolding header_tag
header_remains t = heads_remain t (tag_anew t.state)

misplaced_remains : (t : Turn) → Remains t (misplaced t)
unfolding misplaced
misplaced_remains t = (refl, λ n p h. h)

tag_in_remains : (p : Phase) (t : Turn) → Remains t (tag_in p t)
tag_in_remains phase.First t = header_remains t
tag_in_remains phase.FirstDeclared t = header_remains t
tag_in_remains phase.Between t = either t (header_tag t) (starts t (tag_here t.state)) (is_header t.state) (header_remains t) (starts_remains t (tag_here t.state))
tag_in_remains phase.Declared t = either t (header_tag t) (misplaced t) (is_header t.state) (header_remains t) (misplaced_remains t)
tag_in_remains phase.Ended t = misplaced_remains t

closes_remains : (t : Turn) → Remains t (tag_closes t)
unfolding tag_closes tag_outside
closes_remains t = either t (tag_inside t) (tag_outside t) (is_some t.state.here) (inside_remains t) (tag_in_remains t.state.lexical.phase t)

tag_remains : (t : Turn) (b : ℕ) → Remains t (in_tag t b)
unfolding in_tag
tag_remains t b =
    either t (tag_closes (moved t (gathered t.state b))) (moved t (tag_gathered t.state b)) (b == 62 && not (is_some t.state.lexical.quote)) (closes_remains (moved t (gathered t.state b))) (refl, λ n p h. h)

footer_closes_remains : (t : Turn) → Remains t (footer_closes t)
unfolding footer_closes
footer_closes_remains t = either t _ (moved t (token_fails t.state why.NotWellFormed)) (ends_stream t.state) (refl, λ n p h. omega arith) (refl, λ n p h. h)

footer_stays : (s : State) (b : ℕ) → Stays s (footer_gathered s b)
footer_stays s b =
    let spoiled = record s { lexical = record s.lexical { spoiled = true } } in
    let following = if is_white b then s else spoiled in
    one s _ (if nat_lt (length s.token) (length s.name + 2) then gathered s b else following) (is_some s.lexical.quote || is_quote b) (refl, λ n p h. h)
    (one s (gathered s b) following (nat_lt (length s.token) (length s.name + 2)) (refl, λ n p h. h) (one s s spoiled (is_white b) (refl, λ n p h. h) (refl, λ n p h. h)))

footer_remains : (t : Turn) (b : ℕ) → Remains t (in_footer t b)
unfolding in_footer
footer_remains t b =
    either t (footer_closes (moved t (gathered t.state b))) (moved t (footer_gathered t.state b)) (b == 62 && not (is_some t.state.lexical.quote)) (footer_closes_remains (moved t (gathered t.state b)))
    (footer_stays t.state b)

unlimited_stays : (s : State) → Stays s (unlimited s)
unlimited_stays s = one s s (record s { positions = record s.positions { used = 0 } }) (is_some s.here) (refl, λ n p h. h) (refl, λ n p h. omega arith)

opening_remains : (t : Turn) (b : ℕ) → Remains t (in_opening t b)
unfolding in_opening
opening_remains t b =
    let bang = moved t (gathered_in (unlimited t.state) mode.Bang b) in
    let asked = if may_declare t.state then gathered_in t.state mode.Question b else token_fails t.state why.Restricted in
    let slash = moved t (gathered_in (unlimited t.state) mode.Footer b) in
    let third = if b == 47 && not (is_some t.state.here) then slash else in_tag t b in
    either t bang (if b == 63 then moved t asked else third) (b == 33) (unlimited_stays t.state)
    (either t (moved t asked) third (b == 63) (one t.state (gathered_in t.state mode.Question b) (token_fails t.state why.Restricted) (may_declare t.state) (refl, λ n p h. h) (refl, λ n p h. h))
    (either t slash (in_tag t b) (b == 47 && not (is_some t.state.here)) (unlimited_stays t.state) (tag_remains t b)))

taken_remains : (m : Mode) (t : Turn) (b : ℕ) → Remains t (taken_in m t b)
taken_remains mode.Text t b = text_stays t.state b
taken_remains mode.Reference t b = reference_stays t.state b
taken_remains mode.Opening t b = opening_remains t b
taken_remains mode.Bang t b = bang_stays t.state b
taken_remains mode.Question t b = question_stays t.state b
taken_remains mode.Declaration t b = declaration_stays t.state b
taken_remains mode.Tag t b = tag_remains t b
taken_remains mode.Footer t b = footer_remains t b
taken_remains mode.Section t b = section_stays t.state b

pub taken_at : (m : Mode) (t : Turn) (b : ℕ) → (taken_in m t b).state.positions.at ≡ t.state.positions.at
taken_at m t b = ap (λ p. p.0) (taken_remains m t b).0

pub taken_pending : (m : Mode) (t : Turn) (b : ℕ) → (taken_in m t b).state.pending ≡ t.state.pending
taken_pending m t b = ap (λ p. p.1) (taken_remains m t b).0

pub taken_used : (m : Mode) (t : Turn) (b n : ℕ) → 1 ≤ n → t.state.positions.used ≤ n → (taken_in m t b).state.positions.used ≤ n
taken_used m t b = (taken_remains m t b).1

-- ---- runs

-- one way is to a fault
past_fault : (n : ℕ) (b : Bool) (u v : Turn) → (b ≡ true → is_some u.state.fault ≡ true) → (v.state.fault ≡ None → v.state.positions.at ≡ n) → (if b then u else v).state.fault ≡ None
    → (if b then u else v).state.positions.at ≡ n
past_fault n true u v f h e = absurd (true≢false (sym (f refl) ∙ ap is_some e))
past_fault n false u v f h e = h e

pub step_position : (t : Turn) (b : ℕ) → (step t b).state.fault ≡ None → (step t b).state.positions.at ≡ next_position t.state.positions.at
unfolding goes_on taken
step_position t b =
    let n = next_position t.state.positions.at in
    let next = behind_byte (taken (moved t (counted t.state)) b) b in
    let broken = moved t (fails t.state (token_position t.state) why.Encoding) in
    let long = moved t (fails t.state t.state.positions.item_at why.TooLong) in
    let rest = if not (continues t.state.pending b) then broken else next in
    past_fault n (is_some t.state.fault) t (goes_on t b) (λ e. e)
    (past_fault n (is_too_long t.state b) long rest (λ e. refl)
    (past_fault n (not (continues t.state.pending b)) broken next (λ e. refl) (λ e. ap next_position (taken_at t.state.lexical.mode (moved t (counted t.state)) b))))

pub no_fault_before : (t : Turn) (bs : List ℕ) → (run t bs).state.fault ≡ None → t.state.fault ≡ None
no_fault_before t bs e = was t.state.fault refl
  where
    was : (o : Option Fault) → t.state.fault ≡ o → o ≡ None
    was None is = refl
    was (Some f) is = absurd (true≢false (sym (ap is_some (ap (λ (u : Turn). u.state.fault) (stays t bs f is) ∙ is)) ∙ ap is_some e))

-- Each of the bytes that led to no fault raised the next byte's place.
pub run_position : (bs : List ℕ) (t : Turn) → (run t bs).state.fault ≡ None → (run t bs).state.positions.at ≡ position_after bs t.state.positions.at
run_position [] t e = refl
run_position (b ∷ bs) t e = run_position bs (step t b) e ∙ ap (position_after bs) (step_position t b (no_fault_before (step t b) bs e))
