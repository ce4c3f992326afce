-- Which bytes are counted, from the first byte of an element, a tag or a declaration on.
use Rattle.std.proofs.Common.{◌≡◌, ℕ, ◌≢◌, ◌+◌, ◌<◌, Bool, true, false, not, ◌&&◌, ◌||◌, ◌==◌, if◌then◌else◌, ⊎_elim, [], ◌∷◌, ◌++◌, Option, Some, None, Result, Ok, Err, refl, sym, ap, subst, ◌∙◌, length, arith}
use Rattle.std.proofs.lemmas.Bool.{cases_Bool, false≢true}
use Rattle.std.proofs.lemmas.Bool.Decides.{nat_tests}
use Rattle.std.specs.Option.{is_some}
use Rattle.std.specs.Prelude.{codes, nat_lt, slice_index}
use Rattle.xml_names.specs.Ends.{end_of}
use Rattle.xml_names.specs.Starts.{Tag}
use Rattle.xml_names.specs.declared.fault.StartWhy.{StartWhy}
use Rattle.xml_tokens.specs.Characters.{is_white}
use Rattle.xml_tokens.specs.Declarations.{declaration_of}
use Rattle.xml_tokens.specs.References.{reference_goes_on, referred}
use Rattle.xml_tokens.specs.Tags.{is_end, is_quote, quote_behind}
use Rattle.xml_tokens.specs.Utf8.{continues, ends_character}
use Rattle.xml_tokens.specs.declared.declarations.Declaration.{Declaration}
use Rattle.xml_tokens.specs.declared.declarations.Declaration.TheVariants as declaration
use Rattle.xml_tokens.specs.declared.references.Reference.{Reference}
use Rattle.xml_tokens.specs.declared.references.Reference.TheVariants as reference
use Rattle.law_xml.proofs.FaultLaws.{broken, goes, long}
use Rattle.law_xml.specs.FaultRows.{Counts, Takes, has_limit, is_in_hand, is_limited, is_outer, may_stand}
use Rattle.xml_framer.specs.Machine.{is_too_long, step, taken_in}
use Rattle.xml_framer.specs.MarkupSteps.{declares, ends_in_question, in_bang, in_declaration, in_phase, in_question, section_opened}
use Rattle.xml_framer.specs.States.{OpenElement, State, Turn, counted, gathered, gathered_in, gives, in_mode, in_run, item_ended, may_declare, moved, next_position, run_begun, token_begun, token_ended, token_fails}
use Rattle.xml_framer.specs.TagSteps.{added_to, begun, closed, closed_open, element_from, ends, ends_stream, footer_closes, footer_gathered, header_tag, heads, in_footer, in_opening, in_tag, is_header, is_spelled, is_too_deep, joined_text, leaf, level, misplaced, shallower, starts, tag_anew, tag_closes, tag_gathered, tag_here, tag_in, tag_inside, tag_outside, unlimited}
use Rattle.xml_framer.specs.TextSteps.{between, bracket_taken, character_taken, ends_section, in_reference, in_section, in_text, inside, is_forbidden, judged_section, judged_text, markup_begun, other_taken, refers, section_taken, text_inside}
use Rattle.xml_trees.specs.Trees.{Elem}
use Rattle.xml_framer.specs.declared.fault.Fault.{Fault}
use Rattle.xml_framer.specs.declared.fault.Why.TheVariants as why
use Rattle.xml_framer.specs.declared.items.Item.TheVariants as item
use Rattle.xml_framer.specs.declared.states.Mode.{Mode}
use Rattle.xml_framer.specs.declared.states.Mode.TheVariants as mode
use Rattle.xml_framer.specs.declared.states.Phase.{Phase}
use Rattle.xml_framer.specs.declared.states.Phase.TheVariants as phase

-- the count and the first byte's place stay
abbrev Same : State → State → Type 0
Same s u = (u.positions.used ≡ s.positions.used) × (u.positions.item_at ≡ s.positions.item_at)

-- they stay where something with a limit is still in hand
abbrev Keeps : State → State → Type 0
Keeps s u = has_limit u ≡ true → Same s u

abbrev KeepsTurn : State → Turn → Type 0
KeepsTurn s t = Keeps s t.state

kept : (s u : State) → u.positions ≡ s.positions → Keeps s u
kept s u e h = (ap (λ p. p.used) e, ap (λ p. p.item_at) e)

either : (s u v : State) (b : Bool) → Keeps s u → Keeps s v → Keeps s (if b then u else v)
either s u v true x y = x
either s u v false x y = y

either_turn : (s : State) (u v : Turn) (b : Bool) → KeepsTurn s u → KeepsTurn s v → KeepsTurn s (if b then u else v)
either_turn s u v true x y = x
either_turn s u v false x y = y

by_test : (s : State) (u v : Turn) (b : Bool) → (b ≡ true → KeepsTurn s u) → (b ≡ false → KeepsTurn s v) → KeepsTurn s (if b then u else v)
by_test s u v true x y = x refl
by_test s u v false x y = y refl

-- ---- texts, sections and references

run_positions : (b : Bool) (s : State) → Same s (if b then s else run_begun s)
run_positions true s = (refl, refl)
run_positions false s = (refl, refl)

markup_keeps : (s : State) → is_some s.here ≡ true → Keeps s (markup_begun s)
markup_keeps s inner h = (rw inner refl, rw inner refl)

text_keeps : (s : State) (b : ℕ) → Keeps s (text_inside s b)
unfolding text_inside
text_keeps s b =
    let begun = in_run s in
    let same = run_positions s.lexical.in_run s in
    either s (judged_text begun b) begun (ends_character s.pending b)
    (either s (token_fails begun why.NotWellFormed) (character_taken begun b) (is_forbidden begun b || ends_section begun b)
    (λ h. same) (λ h. same))
    (λ h. same)

inside_keeps : (s : State) (b : ℕ) → is_some s.here ≡ true → Keeps s (inside s b)
unfolding inside
inside_keeps s b inner =
    let other = (if b == 38 then token_begun s mode.Reference else text_inside s b) in
    either s (markup_begun s) other (b == 60) (markup_keeps s inner)
    (either s (token_begun s mode.Reference) (text_inside s b) (b == 38) (λ h. (refl, refl)) (text_keeps s b))

in_text_keeps : (s : State) (b : ℕ) → is_some s.here ≡ true → Keeps s (in_text s b)
unfolding in_text
in_text_keeps s b inner = rw inner (inside_keeps s b inner)

refers_keeps : (s : State) (r : Reference) → Keeps s (refers s r)
refers_keeps s (reference.Character c) h = (refl, refl)
refers_keeps s reference.Unknown h = (refl, refl)
refers_keeps s reference.Malformed h = (refl, refl)

reference_keeps : (s : State) (b : ℕ) → Keeps s (in_reference s b)
unfolding in_reference
reference_keeps s b =
    either s (refers s (referred s.token)) (if reference_goes_on s.token b then gathered s b else token_fails s why.NotWellFormed) (b == 59) (refers_keeps s (referred s.token))
    (either s (gathered s b) (token_fails s why.NotWellFormed) (reference_goes_on s.token b) (kept s (gathered s b) refl) (kept s (token_fails s why.NotWellFormed) refl))

bracket_keeps : (s : State) → Keeps s (bracket_taken s)
bracket_keeps s =
    either s (record s { chars = s.chars ++ 93 ∷ []; lexical = record s.lexical { returned = false } }) _ (s.lexical.brackets == 2) (λ h. (refl, refl)) (λ h. (refl, refl))

section_keeps : (s : State) (b : ℕ) → Keeps s (in_section s b)
unfolding in_section judged_section
section_keeps s b =
    let taken = section_taken s b in
    let ended = (if ends_section s b then token_ended s else taken) in
    either s (if is_forbidden s b then token_fails s why.NotWellFormed else ended) s (ends_character s.pending b)
    (either s (token_fails s why.NotWellFormed) ended (is_forbidden s b) (kept s (token_fails s why.NotWellFormed) refl)
    (either s (token_ended s) taken (ends_section s b) (kept s (token_ended s) refl) (either s (bracket_taken s) (other_taken s b) (b == 93) (bracket_keeps s) (kept s (other_taken s b) refl))))
    (kept s s refl)

-- ---- markup

opened_keeps : (s : State) → Keeps s (section_opened s)
opened_keeps s = either s (in_mode (record s { token = [] }) mode.Section) (token_fails s why.NotWellFormed) (is_some s.here) (λ h. (refl, refl)) (kept s (token_fails s why.NotWellFormed) refl)

bang_keeps : (s : State) (b : ℕ) → Keeps s (in_bang s b)
unfolding in_bang
bang_keeps s b =
    let inner = (if length s.token == 8 then section_opened s else gathered s b) in
    either s inner (token_fails s why.Restricted) (b == slice_index (codes "<![CDATA[") (length s.token))
    (either s (section_opened s) (gathered s b) (length s.token == 8) (opened_keeps s) (kept s (gathered s b) refl)) (kept s (token_fails s why.Restricted) refl)

question_keeps : (s : State) (b : ℕ) → Keeps s (in_question s b)
unfolding in_question
question_keeps s b =
    let fault = token_fails s why.Restricted in
    either s (if b == slice_index (codes "<?xml") (length s.token) then gathered s b else fault) (if is_white b then gathered_in s mode.Declaration b else fault) (nat_lt (length s.token) 5)
    (either s (gathered s b) fault (b == slice_index (codes "<?xml") (length s.token)) (kept s (gathered s b) refl) (kept s fault refl))
    (either s (gathered_in s mode.Declaration b) fault (is_white b) (kept s (gathered_in s mode.Declaration b) refl) (kept s fault refl))

-- where nothing else is in hand, what ended leaves nothing with a limit
over : (s u : State) → is_some u.here ≡ false → is_limited u.lexical.mode ≡ false → Keeps s u
over s u outer other h = absurd (false≢true (rw (outer, other) at h))

declares_keeps : (s : State) (d : Declaration) → is_some s.here ≡ false → Keeps s (declares s d)
declares_keeps s declaration.Good outer h = over s (declares s declaration.Good) outer refl h
declares_keeps s declaration.Encoding outer h = (refl, refl)
declares_keeps s declaration.NotWellFormed outer h = (refl, refl)

declaration_keeps : (s : State) (b : ℕ) → is_some s.here ≡ false → Keeps s (in_declaration s b)
unfolding in_declaration
declaration_keeps s b outer =
    let told = declaration_of (s.token ++ b ∷ []) in
    either s (declares (gathered s b) told) (gathered s b) (b == 62 && ends_in_question s.token) (declares_keeps (gathered s b) told outer) (kept s (gathered s b) refl)

-- ---- tags

added_keeps : (o : Option OpenElement) (t : Turn) (e : Elem) → t.state.here ≡ o → KeepsTurn t.state (added_to o t e)
added_keeps None t e is h = over t.state (added_to None t e).state (ap is_some is) refl h
added_keeps (Some o) t e is h = (refl, refl)

leaf_keeps : (t : Turn) (tag : Tag) → KeepsTurn t.state (leaf t tag)
unfolding leaf
leaf_keeps t tag = added_keeps (joined_text t.state).here (moved t (joined_text t.state)) (element_from tag) refl

begun_keeps : (t : Turn) (tag : Tag) → KeepsTurn t.state (begun t tag)
unfolding begun level
begun_keeps t tag =
    let deep = moved t (token_fails t.state why.TooDeep) in
    let inner = moved t (level t.state tag) in
    either_turn t.state deep (if tag.empty then leaf t tag else inner) (is_too_deep t.state) (λ h. (refl, refl))
    (either_turn t.state (leaf t tag) inner tag.empty (leaf_keeps t tag) (λ h. (refl, refl)))

starts_keep : (t : Turn) (r : Result Tag StartWhy) → KeepsTurn t.state (starts t r)
starts_keep t (Ok tag) = begun_keeps t tag
starts_keep t (Err fault) = λ h. (refl, refl)

open_keeps : (o : Option OpenElement) (t : Turn) → KeepsTurn t.state (closed_open o t)
open_keeps None t = λ h. (refl, refl)
open_keeps (Some o) t = added_keeps (shallower t.state).here (moved t (shallower t.state)) o.element refl

closed_keeps : (t : Turn) → KeepsTurn t.state (closed t)
unfolding closed
closed_keeps t = open_keeps (joined_text t.state).here (moved t (joined_text t.state))

ends_keep : (t : Turn) → KeepsTurn t.state (ends t)
unfolding ends
ends_keep t = either_turn t.state (closed t) (moved t (token_fails t.state why.NotWellFormed)) (is_spelled t.state.here (end_of t.state.token)) (closed_keeps t) (λ h. (refl, refl))

tag_inside_keeps : (t : Turn) → KeepsTurn t.state (tag_inside t)
unfolding tag_inside
tag_inside_keeps t = either_turn t.state (ends t) (starts t (tag_here t.state)) (is_end t.state.token) (ends_keep t) (starts_keep t (tag_here t.state))

heads_keep : (t : Turn) (r : Result Tag StartWhy) → is_some t.state.here ≡ false → KeepsTurn t.state (heads t r)
heads_keep t (Ok tag) outer = over t.state (heads t (Ok tag)).state outer refl
heads_keep t (Err fault) outer = λ h. (refl, refl)

header_keeps : (t : Turn) → is_some t.state.here ≡ false → KeepsTurn t.state (header_tag t)
unfolding header_tag
header_keeps t outer = heads_keep t (tag_anew t.state) outer

misplaced_keeps : (t : Turn) → KeepsTurn t.state (misplaced t)
unfolding misplaced
misplaced_keeps t h = (refl, refl)

phase_keeps : (p : Phase) (t : Turn) → is_some t.state.here ≡ false → KeepsTurn t.state (tag_in p t)
phase_keeps phase.First t outer = header_keeps t outer
phase_keeps phase.FirstDeclared t outer = header_keeps t outer
phase_keeps phase.Between t outer = either_turn t.state (header_tag t) (starts t (tag_here t.state)) (is_header t.state) (header_keeps t outer) (starts_keep t (tag_here t.state))
phase_keeps phase.Declared t outer = either_turn t.state (header_tag t) (misplaced t) (is_header t.state) (header_keeps t outer) (misplaced_keeps t)
phase_keeps phase.Ended t outer = misplaced_keeps t

tag_outside_keeps : (t : Turn) → is_some t.state.here ≡ false → KeepsTurn t.state (tag_outside t)
unfolding tag_outside
tag_outside_keeps t outer = phase_keeps t.state.lexical.phase t outer

closes_keep : (t : Turn) → KeepsTurn t.state (tag_closes t)
unfolding tag_closes
closes_keep t = by_test t.state (tag_inside t) (tag_outside t) (is_some t.state.here) (λ inner. tag_inside_keeps t) (tag_outside_keeps t)

tag_keeps : (t : Turn) (b : ℕ) → KeepsTurn t.state (in_tag t b)
unfolding in_tag
tag_keeps t b =
    let whole = moved t (gathered t.state b) in
    either_turn t.state (tag_closes whole) (moved t (tag_gathered t.state b)) (b == 62 && not (is_some t.state.lexical.quote)) (closes_keep whole) (λ h. (refl, refl))

footer_keeps : (t : Turn) → is_some t.state.here ≡ false → KeepsTurn t.state (footer_closes t)
unfolding footer_closes
footer_keeps t outer =
    let given = gives (in_phase (item_ended t.state) phase.Ended) t.items item.Footer in
    either_turn t.state given (moved t (token_fails t.state why.NotWellFormed)) (ends_stream t.state) (over t.state given.state outer refl) (λ h. (refl, refl))

gathered_keeps : (s : State) (b : ℕ) → Keeps s (footer_gathered s b)
gathered_keeps s b =
    let spoiled = record s { lexical = record s.lexical { spoiled = true } } in
    either s (record s { lexical = record s.lexical { quote = quote_behind s.lexical.quote b; spoiled = true } }) (if nat_lt (length s.token) (length s.name + 2) then gathered s b else (if is_white b then s else spoiled)) (is_some s.lexical.quote || is_quote b)
    (λ h. (refl, refl))
    (either s (gathered s b) (if is_white b then s else spoiled) (nat_lt (length s.token) (length s.name + 2)) (λ h. (refl, refl)) (either s s spoiled (is_white b) (λ h. (refl, refl)) (λ h. (refl, refl))))

in_footer_keeps : (t : Turn) (b : ℕ) → is_some t.state.here ≡ false → KeepsTurn t.state (in_footer t b)
unfolding in_footer
in_footer_keeps t b outer =
    let whole = moved t (gathered t.state b) in
    either_turn t.state (footer_closes whole) (moved t (footer_gathered t.state b)) (b == 62 && not (is_some t.state.lexical.quote)) (footer_keeps whole outer) (gathered_keeps t.state b)

unlimited_keeps : (s : State) (m : Mode) (b : ℕ) → is_limited m ≡ false → Keeps s (gathered_in (unlimited s) m b)
unlimited_keeps s m b other =
    ⊎_elim (λ (inner : is_some s.here ≡ true). rw inner (λ h. (refl, refl)))
    (λ (outer : is_some s.here ≡ false). rw outer (over s (gathered_in (record s { positions = record s.positions { used = 0 } }) m b) outer other))
    (cases_Bool (is_some s.here))

opening_keeps : (t : Turn) (b : ℕ) → KeepsTurn t.state (in_opening t b)
unfolding in_opening
opening_keeps t b =
    let bang = moved t (gathered_in (unlimited t.state) mode.Bang b) in
    let asked = (if may_declare t.state then gathered_in t.state mode.Question b else token_fails t.state why.Restricted) in
    let footer = moved t (gathered_in (unlimited t.state) mode.Footer b) in
    let last = (if b == 47 && not (is_some t.state.here) then footer else in_tag t b) in
    either_turn t.state bang (if b == 63 then moved t asked else last) (b == 33) (unlimited_keeps t.state mode.Bang b refl)
    (either_turn t.state (moved t asked) last (b == 63) (either t.state (gathered_in t.state mode.Question b) (token_fails t.state why.Restricted) (may_declare t.state) (λ h. (refl, refl)) (λ h. (refl, refl)))
    (either_turn t.state footer (in_tag t b) (b == 47 && not (is_some t.state.here)) (unlimited_keeps t.state mode.Footer b refl) (tag_keeps t b)))

-- ---- a byte

pub outside_in : (s : State) (m : Mode) → s.lexical.mode ≡ m → is_outer m ≡ true → may_stand s ≡ true → is_some s.here ≡ false
outside_in s m is outer h =
    ⊎_elim (λ (inner : is_some s.here ≡ true). absurd (false≢true (rw (inner, is, outer) at h)))
    (λ (e : is_some s.here ≡ false). e)
    (cases_Bool (is_some s.here))

pub inside_in : (s : State) → s.lexical.mode ≡ mode.Text → is_in_hand s ≡ true → is_some s.here ≡ true
inside_in s is h =
    ⊎_elim (λ (inner : is_some s.here ≡ true). inner)
    (λ (e : is_some s.here ≡ false). absurd (false≢true (rw (e, is) at h)))
    (cases_Bool (is_some s.here))

mode_keeps : (m : Mode) (t : Turn) (b : ℕ) → t.state.lexical.mode ≡ m → is_in_hand t.state ≡ true → may_stand t.state ≡ true → KeepsTurn t.state (taken_in m t b)
mode_keeps mode.Text t b is hand stands = in_text_keeps t.state b (inside_in t.state is hand)
mode_keeps mode.Reference t b is hand stands = reference_keeps t.state b
mode_keeps mode.Opening t b is hand stands = opening_keeps t b
mode_keeps mode.Bang t b is hand stands = bang_keeps t.state b
mode_keeps mode.Question t b is hand stands = question_keeps t.state b
mode_keeps mode.Declaration t b is hand stands = declaration_keeps t.state b (outside_in t.state mode.Declaration is refl stands)
mode_keeps mode.Tag t b is hand stands = tag_keeps t b
mode_keeps mode.Footer t b is hand stands = in_footer_keeps t b (outside_in t.state mode.Footer is refl stands)
mode_keeps mode.Section t b is hand stands = section_keeps t.state b

some_fault : (f : Fault) → Some f ≢ None
some_fault f e = cc

-- a byte behind which there is no fault goes to the token in hand
no_fault_before : (t : Turn) (b : ℕ) (o : Option Fault) → t.state.fault ≡ o → (step t b).state.fault ≡ None → t.state.fault ≡ None
no_fault_before t b None is none = is
no_fault_before t b (Some f) is none = let same : step t b ≡ t = rw is refl in sym (ap (λ u. u.state.fault) same) ∙ none

pub takes : (t : Turn) (b : ℕ) → (step t b).state.fault ≡ None → Takes t.state t.state.lexical.mode b
takes t b none =
    let before = no_fault_before t b t.state.fault refl none in
    ⊎_elim (λ (far : is_too_long t.state b ≡ true). absurd (some_fault _ (sym (long t b before far) ∙ none)))
    (λ (near : is_too_long t.state b ≡ false).
    ⊎_elim (λ (good : continues t.state.pending b ≡ true). record { no_fault = before; mode_is = refl; short = near; is_text = good })
    (λ (bad : continues t.state.pending b ≡ false). absurd (some_fault _ (sym (broken t b before near bad) ∙ none)))
    (cases_Bool (continues t.state.pending b)))
    (cases_Bool (is_too_long t.state b))

positive : (n : ℕ) → 0 < n → (n == 0) ≡ false
positive n h = grind (arith, nat_tests)

pub more : (t : Turn) (b : ℕ) → is_in_hand t.state ≡ true → may_stand t.state ≡ true → 0 < t.state.positions.used → (step t b).state.fault ≡ None → has_limit (step t b).state ≡ true → Counts t.state (step t b).state
more t b hand stands some none limited =
    let goes_on = goes t t.state.lexical.mode b (takes t b none) in
    let same = mode_keeps t.state.lexical.mode (moved t (counted t.state)) b refl hand stands (subst (λ u. has_limit u.state ≡ true) goes_on limited) in
    let one : (counted t.state).positions.used ≡ next_position t.state.positions.used = rw (positive t.state.positions.used some) refl in
    record { used = ap (λ u. u.state.positions.used) goes_on ∙ same.0 ∙ one; item_at = ap (λ u. u.state.positions.item_at) goes_on ∙ same.1 }

begins : (s : State) → is_some s.here ≡ false → ((in_text s 60).positions.used ≡ 1) × ((in_text s 60).positions.item_at ≡ s.positions.at)
unfolding in_text between
begins s outer = (rw outer refl, rw outer refl)

pub first : (t : Turn) → Takes t.state mode.Text 60 → is_some t.state.here ≡ false → ((step t 60).state.positions.used ≡ 1) × ((step t 60).state.positions.item_at ≡ t.state.positions.at)
first t h outer =
    let goes_on = goes t mode.Text 60 h in
    let same = begins (counted t.state) outer in
    (ap (λ u. u.state.positions.used) goes_on ∙ same.0, ap (λ u. u.state.positions.item_at) goes_on ∙ same.1)
