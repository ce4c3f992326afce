-- In each run the count is the number of bytes from the first one on.
use Rattle.std.proofs.Common.{◌≡◌, ℕ, ◌+◌, ◌^◌, ◌<◌, Bool, true, false, not, ◌&&◌, ◌||◌, ◌==◌, if◌then◌else◌, ⊎_elim, List, [], ◌∷◌, ◌++◌, Option, Some, None, Result, Ok, Err, refl, sym, ap, subst, ◌∙◌, length, arith}
use Rattle.std.proofs.lemmas.Bool.{cases_Bool, eqb-true, false≢true, not-true, and_parts}
use Rattle.std.specs.Option.{is_some}
use Rattle.std.specs.Prelude.{codes, nat_lt, slice_index}
use Rattle.xml_names.specs.Ends.{end_of}
use Rattle.xml_names.specs.Starts.{Tag}
use Rattle.xml_names.specs.declared.fault.StartWhy.{StartWhy}
use Rattle.xml_tokens.specs.Characters.{is_white}
use Rattle.xml_tokens.specs.Declarations.{declaration_of}
use Rattle.xml_tokens.specs.References.{reference_goes_on, referred}
use Rattle.xml_tokens.specs.Tags.{is_empty, is_end, is_quote, quote_behind}
use Rattle.xml_tokens.specs.Utf8.{ends_character}
use Rattle.xml_tokens.specs.declared.declarations.Declaration.{Declaration}
use Rattle.xml_tokens.specs.declared.declarations.Declaration.TheVariants as declaration
use Rattle.xml_tokens.specs.declared.references.Reference.{Reference}
use Rattle.xml_tokens.specs.declared.references.Reference.TheVariants as reference
use Rattle.law_xml.proofs.CountLaws.{first, inside_in, more, outside_in, takes}
use Rattle.law_xml.proofs.FaultLaws.{goes}
use Rattle.law_xml.proofs.RunPositions.{no_fault_before, step_position}
use Rattle.law_xml.specs.FaultRows.{Takes, has_limit, is_in_hand, is_limited, is_outer, may_stand}
use Rattle.xml_framer.specs.Machine.{run, step, taken_in}
use Rattle.xml_framer.specs.MarkupSteps.{declares, ends_in_question, in_bang, in_declaration, in_phase, in_question, section_opened}
use Rattle.xml_framer.specs.States.{OpenElement, State, Turn, admits_declaration, counted, fails, from_start, gathered, gathered_in, gives, in_mode, in_run, is_text, item_ended, may_declare, moved, next_position, run_begun, token_begun, token_ended, token_fails, turn}
use Rattle.xml_framer.specs.TagSteps.{added_to, begun, closed, closed_open, element_from, ends, ends_stream, footer_closes, footer_gathered, header_tag, heads, in_footer, in_opening, in_tag, is_header, is_spelled, is_too_deep, joined_text, leaf, level, misplaced, shallower, starts, tag_anew, tag_closes, tag_gathered, tag_here, tag_in, tag_inside, tag_outside, unlimited}
use Rattle.xml_framer.specs.TextSteps.{between, bracket_taken, character_begun, character_taken, ends_section, in_reference, in_section, in_text, inside, is_forbidden, judged_outside, judged_section, judged_text, markup_begun, other_taken, refers, section_taken, text_inside, text_outside}
use Rattle.xml_trees.specs.Trees.{Elem}
use Rattle.xml_framer.specs.declared.fault.Why.TheVariants as why
use Rattle.xml_framer.specs.declared.items.Item.TheVariants as item
use Rattle.xml_framer.specs.declared.limits.Limits.{Limits}
use Rattle.xml_framer.specs.declared.states.Mode.{Mode}
use Rattle.xml_framer.specs.declared.states.Mode.TheVariants as mode
use Rattle.xml_framer.specs.declared.states.Phase.{Phase}
use Rattle.xml_framer.specs.declared.states.Phase.TheVariants as phase
use Rattle.law_xml.proofs.OpenRowLaws.{text_mode}
use Rattle.std.proofs.Math.Bool.{or-true}

-- ---- no footer and no declaration comes to be in hand in an element

abbrev Stands : State → Type 0
Stands s = may_stand s ≡ true

abbrev StandsTurn : Turn → Type 0
StandsTurn t = Stands t.state

pick : (u v : State) (b : Bool) → Stands u → Stands v → Stands (if b then u else v)
pick u v true x y = x
pick u v false x y = y

pick_turn : (u v : Turn) (b : Bool) → StandsTurn u → StandsTurn v → StandsTurn (if b then u else v)
pick_turn u v true x y = x
pick_turn u v false x y = y

by_test : (u v : Turn) (b : Bool) → (b ≡ true → StandsTurn u) → (b ≡ false → StandsTurn v) → StandsTurn (if b then u else v)
by_test u v true x y = x refl
by_test u v false x y = y refl

free : (b : Bool) → not (b && false) ≡ true
free true = refl
free false = refl

run_stands : (b : Bool) (s : State) → Stands s → Stands (if b then s else run_begun s)
run_stands true s p = p
run_stands false s p = p

markup_stands : (s : State) → Stands (markup_begun s)
markup_stands s = each (is_some s.here)
  where
    each : (b : Bool) → Stands (gathered (if b then token_begun s mode.Opening else record (token_begun s mode.Opening) { positions = record (token_begun s mode.Opening).positions { item_at = s.positions.at; used = 1 } }) 60)
    each true = free (is_some s.here)
    each false = free (is_some s.here)

inner_stands : (s : State) (b : ℕ) → Stands s → Stands (inside s b)
unfolding inside text_inside
inner_stands s b p =
    let begun = in_run s in
    let same = run_stands s.lexical.in_run s p in
    pick (markup_begun s) (if b == 38 then token_begun s mode.Reference else text_inside s b) (b == 60) (markup_stands s)
    (pick (token_begun s mode.Reference) (text_inside s b) (b == 38) (free (is_some s.here))
    (pick (judged_text begun b) begun (ends_character s.pending b)
    (pick (token_fails begun why.NotWellFormed) (character_taken begun b) (is_forbidden begun b || ends_section begun b) same same) same))

outer_stands : (s : State) (b : ℕ) → Stands s → Stands (between s b)
unfolding between text_outside
outer_stands s b p =
    let begun = in_run s in
    let same = run_stands s.lexical.in_run s p in
    let other = (if b == 38 then fails s s.positions.at why.NotWellFormed else text_outside s b) in
    pick (markup_begun s) other (b == 60) (markup_stands s)
    (pick (fails s s.positions.at why.NotWellFormed) (text_outside s b) (b == 38) p
    (pick (judged_outside begun b) (character_begun begun) (ends_character s.pending b)
    (pick begun (token_fails begun why.NotWellFormed) (is_white b) same same)
    (pick (record begun { positions = record begun.positions { item_at = begun.positions.at } }) begun (is_empty begun.pending) same same)))

text_stands : (s : State) (b : ℕ) → Stands s → Stands (in_text s b)
unfolding in_text
text_stands s b p = pick (inside s b) (between s b) (is_some s.here) (inner_stands s b p) (outer_stands s b p)

refers_stands : (s : State) (r : Reference) → Stands s → Stands (refers s r)
refers_stands s (reference.Character c) p = free (is_some s.here)
refers_stands s reference.Unknown p = p
refers_stands s reference.Malformed p = p

reference_stands : (s : State) (b : ℕ) → Stands s → Stands (in_reference s b)
unfolding in_reference
reference_stands s b p =
    pick (refers s (referred s.token)) (if reference_goes_on s.token b then gathered s b else token_fails s why.NotWellFormed) (b == 59) (refers_stands s (referred s.token) p)
    (pick (gathered s b) (token_fails s why.NotWellFormed) (reference_goes_on s.token b) p p)

bracket_stands : (s : State) → Stands s → Stands (bracket_taken s)
bracket_stands s p = pick (record s { chars = s.chars ++ 93 ∷ []; lexical = record s.lexical { returned = false } }) _ (s.lexical.brackets == 2) p p

section_stands : (s : State) (b : ℕ) → Stands s → Stands (in_section s b)
unfolding in_section judged_section
section_stands s b p =
    let taken = section_taken s b in
    let ended = (if ends_section s b then token_ended s else taken) in
    pick (if is_forbidden s b then token_fails s why.NotWellFormed else ended) s (ends_character s.pending b)
    (pick (token_fails s why.NotWellFormed) ended (is_forbidden s b) p
    (pick (token_ended s) taken (ends_section s b) (free (is_some s.here)) (pick (bracket_taken s) (other_taken s b) (b == 93) (bracket_stands s p) p)))
    p

-- ---- markup

bang_stands : (s : State) (b : ℕ) → Stands s → Stands (in_bang s b)
unfolding in_bang
bang_stands s b p =
    let inner = (if length s.token == 8 then section_opened s else gathered s b) in
    pick inner (token_fails s why.Restricted) (b == slice_index (codes "<![CDATA[") (length s.token))
    (pick (section_opened s) (gathered s b) (length s.token == 8)
    (pick (in_mode (record s { token = [] }) mode.Section) (token_fails s why.NotWellFormed) (is_some s.here) (free (is_some s.here)) p) p) p

at_outer : (s : State) (m : Mode) → is_some s.here ≡ false → may_stand (in_mode s m) ≡ true
at_outer s m outer = rw outer refl

question_stands : (s : State) (b : ℕ) → Stands s → is_some s.here ≡ false → Stands (in_question s b)
unfolding in_question
question_stands s b p outer =
    let fault = token_fails s why.Restricted in
    pick (if b == slice_index (codes "<?xml") (length s.token) then gathered s b else fault) (if is_white b then gathered_in s mode.Declaration b else fault) (nat_lt (length s.token) 5)
    (pick (gathered s b) fault (b == slice_index (codes "<?xml") (length s.token)) p p)
    (pick (gathered_in s mode.Declaration b) fault (is_white b) (at_outer s mode.Declaration outer) p)

declares_stands : (s : State) (d : Declaration) → Stands s → Stands (declares s d)
declares_stands s declaration.Good p = free (is_some s.here)
declares_stands s declaration.Encoding p = p
declares_stands s declaration.NotWellFormed p = p

declaration_stands : (s : State) (b : ℕ) → Stands s → Stands (in_declaration s b)
unfolding in_declaration
declaration_stands s b p =
    let told = declaration_of (s.token ++ b ∷ []) in
    pick (declares (gathered s b) told) (gathered s b) (b == 62 && ends_in_question s.token) (declares_stands (gathered s b) told p) p

-- ---- tags

added_stands : (o : Option OpenElement) (t : Turn) (e : Elem) → StandsTurn (added_to o t e)
added_stands None t e = free (is_some t.state.here)
added_stands (Some o) t e = refl

leaf_stands : (t : Turn) (tag : Tag) → StandsTurn (leaf t tag)
unfolding leaf
leaf_stands t tag = added_stands (joined_text t.state).here (moved t (joined_text t.state)) (element_from tag)

begun_stands : (t : Turn) (tag : Tag) → StandsTurn t → StandsTurn (begun t tag)
unfolding begun level
begun_stands t tag p =
    let deep = moved t (token_fails t.state why.TooDeep) in
    let inner = moved t (level t.state tag) in
    pick_turn deep (if tag.empty then leaf t tag else inner) (is_too_deep t.state) p
    (pick_turn (leaf t tag) inner tag.empty (leaf_stands t tag) refl)

starts_stand : (t : Turn) (r : Result Tag StartWhy) → StandsTurn t → StandsTurn (starts t r)
starts_stand t (Ok tag) p = begun_stands t tag p
starts_stand t (Err fault) p = p

open_stands : (o : Option OpenElement) (t : Turn) → StandsTurn t → StandsTurn (closed_open o t)
open_stands None t p = p
open_stands (Some o) t p = added_stands (shallower t.state).here (moved t (shallower t.state)) o.element

-- a mode that isn't one of what stands outside elements alone
inner_mode : (s : State) → is_outer s.lexical.mode ≡ false → may_stand s ≡ true
inner_mode s e = rw e (free (is_some s.here))

closed_stands : (t : Turn) → is_outer t.state.lexical.mode ≡ false → StandsTurn (closed t)
unfolding closed
closed_stands t e = open_stands (joined_text t.state).here (moved t (joined_text t.state)) (inner_mode (joined_text t.state) e)

ends_stand : (t : Turn) → is_outer t.state.lexical.mode ≡ false → StandsTurn (ends t)
unfolding ends
ends_stand t e = pick_turn (closed t) (moved t (token_fails t.state why.NotWellFormed)) (is_spelled t.state.here (end_of t.state.token)) (closed_stands t e) (inner_mode t.state e)

tag_inside_stands : (t : Turn) → is_outer t.state.lexical.mode ≡ false → StandsTurn (tag_inside t)
unfolding tag_inside
tag_inside_stands t e = pick_turn (ends t) (starts t (tag_here t.state)) (is_end t.state.token) (ends_stand t e) (starts_stand t (tag_here t.state) (inner_mode t.state e))

heads_stand : (t : Turn) (r : Result Tag StartWhy) → StandsTurn t → StandsTurn (heads t r)
heads_stand t (Ok tag) p = free (is_some t.state.here)
heads_stand t (Err fault) p = p

header_stands : (t : Turn) → StandsTurn t → StandsTurn (header_tag t)
unfolding header_tag
header_stands t p = heads_stand t (tag_anew t.state) p

misplaced_stands : (t : Turn) → StandsTurn t → StandsTurn (misplaced t)
unfolding misplaced
misplaced_stands t p = p

phase_stands : (f : Phase) (t : Turn) → StandsTurn t → StandsTurn (tag_in f t)
phase_stands phase.First t p = header_stands t p
phase_stands phase.FirstDeclared t p = header_stands t p
phase_stands phase.Between t p = pick_turn (header_tag t) (starts t (tag_here t.state)) (is_header t.state) (header_stands t p) (starts_stand t (tag_here t.state) p)
phase_stands phase.Declared t p = pick_turn (header_tag t) (misplaced t) (is_header t.state) (header_stands t p) (misplaced_stands t p)
phase_stands phase.Ended t p = misplaced_stands t p

closes_stand : (t : Turn) → is_outer t.state.lexical.mode ≡ false → StandsTurn (tag_closes t)
unfolding tag_closes tag_outside
closes_stand t e = pick_turn (tag_inside t) (tag_outside t) (is_some t.state.here) (tag_inside_stands t e) (phase_stands t.state.lexical.phase t (inner_mode t.state e))

tag_stands : (t : Turn) (b : ℕ) → is_outer t.state.lexical.mode ≡ false → StandsTurn (in_tag t b)
unfolding in_tag
tag_stands t b e =
    let whole = moved t (gathered t.state b) in
    pick_turn (tag_closes whole) (moved t (tag_gathered t.state b)) (b == 62 && not (is_some t.state.lexical.quote)) (closes_stand whole e) (free (is_some t.state.here))

footer_stands : (t : Turn) → StandsTurn t → StandsTurn (footer_closes t)
unfolding footer_closes
footer_stands t p =
    let given = gives (in_phase (item_ended t.state) phase.Ended) t.items item.Footer in
    pick_turn given (moved t (token_fails t.state why.NotWellFormed)) (ends_stream t.state) (free (is_some t.state.here)) p

gathered_stands : (s : State) (b : ℕ) → Stands s → Stands (footer_gathered s b)
gathered_stands s b p =
    let spoiled = record s { lexical = record s.lexical { spoiled = true } } in
    pick (record s { lexical = record s.lexical { quote = quote_behind s.lexical.quote b; spoiled = true } }) (if nat_lt (length s.token) (length s.name + 2) then gathered s b else (if is_white b then s else spoiled)) (is_some s.lexical.quote || is_quote b)
    p
    (pick (gathered s b) (if is_white b then s else spoiled) (nat_lt (length s.token) (length s.name + 2)) p (pick s spoiled (is_white b) p p))

in_footer_stands : (t : Turn) (b : ℕ) → StandsTurn t → StandsTurn (in_footer t b)
unfolding in_footer
in_footer_stands t b p =
    let whole = moved t (gathered t.state b) in
    pick_turn (footer_closes whole) (moved t (footer_gathered t.state b)) (b == 62 && not (is_some t.state.lexical.quote)) (footer_stands whole p) (gathered_stands t.state b p)

unlimited_free : (s : State) (m : Mode) (b : ℕ) → is_outer m ≡ false → Stands (gathered_in (unlimited s) m b)
unlimited_free s m b e = each (is_some s.here)
  where
    each : (c : Bool) → Stands (gathered_in (if c then s else record s { positions = record s.positions { used = 0 } }) m b)
    each true = rw e (free (is_some s.here))
    each false = rw e (free (is_some s.here))

footer_begun : (s : State) (b : ℕ) → is_some s.here ≡ false → Stands (gathered_in (unlimited s) mode.Footer b)
footer_begun s b outer = rw (outer, outer) refl

asked_stands : (s : State) (b : ℕ) → Stands s → Stands (if may_declare s then gathered_in s mode.Question b else token_fails s why.Restricted)
asked_stands s b p = each (may_declare s) refl
  where
    each : (c : Bool) → may_declare s ≡ c → Stands (if c then gathered_in s mode.Question b else token_fails s why.Restricted)
    each true may = at_outer s mode.Question (not-true (is_some s.here) (and_parts _ (admits_declaration s.lexical.phase) may).0)
    each false may = p

opening_stands : (t : Turn) (b : ℕ) → is_outer t.state.lexical.mode ≡ false → StandsTurn (in_opening t b)
unfolding in_opening
opening_stands t b e =
    let bang = moved t (gathered_in (unlimited t.state) mode.Bang b) in
    let asked = moved t (if may_declare t.state then gathered_in t.state mode.Question b else token_fails t.state why.Restricted) in
    let footer = moved t (gathered_in (unlimited t.state) mode.Footer b) in
    let last = (if b == 47 && not (is_some t.state.here) then footer else in_tag t b) in
    pick_turn bang (if b == 63 then asked else last) (b == 33) (unlimited_free t.state mode.Bang b refl)
    (pick_turn asked last (b == 63) (asked_stands t.state b (inner_mode t.state e))
    (by_test footer (in_tag t b) (b == 47 && not (is_some t.state.here)) (λ h. footer_begun t.state b (not-true (is_some t.state.here) (and_parts (b == 47) _ h).1)) (λ h. tag_stands t b e)))

mode_stands : (m : Mode) (t : Turn) (b : ℕ) → t.state.lexical.mode ≡ m → StandsTurn t → StandsTurn (taken_in m t b)
mode_stands mode.Text t b is p = text_stands t.state b p
mode_stands mode.Reference t b is p = reference_stands t.state b p
mode_stands mode.Opening t b is p = opening_stands t b (ap is_outer is)
mode_stands mode.Bang t b is p = bang_stands t.state b p
mode_stands mode.Question t b is p = question_stands t.state b p (outside_in t.state mode.Question is refl p)
mode_stands mode.Declaration t b is p = declaration_stands t.state b p
mode_stands mode.Tag t b is p = tag_stands t b (ap is_outer is)
mode_stands mode.Footer t b is p = in_footer_stands t b p
mode_stands mode.Section t b is p = section_stands t.state b p

-- ---- what had no limit gets none

abbrev Gets : State → State → Type 0
Gets s u = has_limit u ≡ true → is_some s.here ≡ true

choose : (s u v : State) (b : Bool) → Gets s u → Gets s v → Gets s (if b then u else v)
choose s u v true x y = x
choose s u v false x y = y

choose_turn : (s : State) (u v : Turn) (b : Bool) → Gets s u.state → Gets s v.state → Gets s (if b then u else v).state
choose_turn s u v true x y = x
choose_turn s u v false x y = y

or_false : (a : Bool) → (a || false) ≡ true → a ≡ true
or_false true h = refl
or_false false h = h

before : (s : State) → is_limited s.lexical.mode ≡ false → Gets s s
before s other h = or_false (is_some s.here) (rw other at h)

refers_gets : (s : State) (r : Reference) → is_limited s.lexical.mode ≡ false → Gets s (refers s r)
refers_gets s (reference.Character c) other = or_false (is_some s.here)
refers_gets s reference.Unknown other = before s other
refers_gets s reference.Malformed other = before s other

reference_gets : (s : State) (b : ℕ) → is_limited s.lexical.mode ≡ false → Gets s (in_reference s b)
unfolding in_reference
reference_gets s b other =
    choose s (refers s (referred s.token)) (if reference_goes_on s.token b then gathered s b else token_fails s why.NotWellFormed) (b == 59) (refers_gets s (referred s.token) other)
    (choose s (gathered s b) (token_fails s why.NotWellFormed) (reference_goes_on s.token b) (before s other) (before s other))

bang_gets : (s : State) (b : ℕ) → is_limited s.lexical.mode ≡ false → Gets s (in_bang s b)
unfolding in_bang
bang_gets s b other =
    let inner = (if length s.token == 8 then section_opened s else gathered s b) in
    choose s inner (token_fails s why.Restricted) (b == slice_index (codes "<![CDATA[") (length s.token))
    (choose s (section_opened s) (gathered s b) (length s.token == 8)
    (choose s (in_mode (record s { token = [] }) mode.Section) (token_fails s why.NotWellFormed) (is_some s.here) (or_false (is_some s.here)) (before s other)) (before s other)) (before s other)

section_gets : (s : State) (b : ℕ) → is_limited s.lexical.mode ≡ false → Gets s (in_section s b)
unfolding in_section judged_section
section_gets s b other =
    let taken = section_taken s b in
    let ended = (if ends_section s b then token_ended s else taken) in
    choose s (if is_forbidden s b then token_fails s why.NotWellFormed else ended) s (ends_character s.pending b)
    (choose s (token_fails s why.NotWellFormed) ended (is_forbidden s b) (before s other)
    (choose s (token_ended s) taken (ends_section s b) (or_false (is_some s.here))
    (choose s (bracket_taken s) (other_taken s b) (b == 93)
    (choose s (record s { chars = s.chars ++ 93 ∷ []; lexical = record s.lexical { returned = false } }) _ (s.lexical.brackets == 2) (before s other) (before s other)) (before s other))))
    (before s other)

footer_gets : (t : Turn) → is_limited t.state.lexical.mode ≡ false → Gets t.state (footer_closes t).state
unfolding footer_closes
footer_gets t other =
    let given = gives (in_phase (item_ended t.state) phase.Ended) t.items item.Footer in
    choose_turn t.state given (moved t (token_fails t.state why.NotWellFormed)) (ends_stream t.state) (or_false (is_some t.state.here)) (before t.state other)

gathered_gets : (s : State) (b : ℕ) → is_limited s.lexical.mode ≡ false → Gets s (footer_gathered s b)
gathered_gets s b other =
    let spoiled = record s { lexical = record s.lexical { spoiled = true } } in
    choose s (record s { lexical = record s.lexical { quote = quote_behind s.lexical.quote b; spoiled = true } }) (if nat_lt (length s.token) (length s.name + 2) then gathered s b else (if is_white b then s else spoiled)) (is_some s.lexical.quote || is_quote b)
    (before s other)
    (choose s (gathered s b) (if is_white b then s else spoiled) (nat_lt (length s.token) (length s.name + 2)) (before s other) (choose s s spoiled (is_white b) (before s other) (before s other)))

in_footer_gets : (t : Turn) (b : ℕ) → is_limited t.state.lexical.mode ≡ false → Gets t.state (in_footer t b).state
unfolding in_footer
in_footer_gets t b other =
    let whole = moved t (gathered t.state b) in
    choose_turn t.state (footer_closes whole) (moved t (footer_gathered t.state b)) (b == 62 && not (is_some t.state.lexical.quote)) (footer_gets whole other) (gathered_gets t.state b other)

by_element : (s : State) → is_some s.here ≡ true → has_limit s ≡ true
by_element s inner = rw inner refl

by_mode : (s : State) (m : Mode) → s.lexical.mode ≡ m → is_limited m ≡ true → has_limit s ≡ true
by_mode s m is h = rw (is, h) (or-true (is_some s.here))

mode_gets : (m : Mode) (t : Turn) (b : ℕ) → t.state.lexical.mode ≡ m → is_in_hand t.state ≡ true → has_limit (taken_in m t b).state ≡ true → has_limit t.state ≡ true
mode_gets mode.Text t b is hand h = by_element t.state (inside_in t.state is hand)
mode_gets mode.Reference t b is hand h = by_element t.state (reference_gets t.state b (ap is_limited is) h)
mode_gets mode.Opening t b is hand h = by_mode t.state mode.Opening is refl
mode_gets mode.Bang t b is hand h = by_element t.state (bang_gets t.state b (ap is_limited is) h)
mode_gets mode.Question t b is hand h = by_mode t.state mode.Question is refl
mode_gets mode.Declaration t b is hand h = by_mode t.state mode.Declaration is refl
mode_gets mode.Tag t b is hand h = by_mode t.state mode.Tag is refl
mode_gets mode.Footer t b is hand h = by_element t.state (in_footer_gets t b (ap is_limited is) h)
mode_gets mode.Section t b is hand h = by_element t.state (section_gets t.state b (ap is_limited is) h)

-- ---- outside elements only `<` begins what has a limit

run_gets : (b : Bool) (s : State) → is_limited s.lexical.mode ≡ false → Gets s (if b then s else run_begun s)
run_gets true s other = before s other
run_gets false s other = before s other

text_gets : (s : State) (b : ℕ) → is_limited s.lexical.mode ≡ false → Gets s (text_outside s b)
unfolding text_outside
text_gets s b other =
    let begun = in_run s in
    let same = run_gets s.lexical.in_run s other in
    choose s (judged_outside begun b) (character_begun begun) (ends_character s.pending b)
    (choose s begun (token_fails begun why.NotWellFormed) (is_white b) same same)
    (choose s (record begun { positions = record begun.positions { item_at = begun.positions.at } }) begun (is_empty begun.pending) same same)

between_gets : (s : State) (b : ℕ) → is_limited s.lexical.mode ≡ false → (b == 60) ≡ false → Gets s (between s b)
unfolding between
between_gets s b other no_markup =
    rw no_markup (choose s (fails s s.positions.at why.NotWellFormed) (text_outside s b) (b == 38) (before s other) (text_gets s b other))

neither : (a b : Bool) → (a || not b) ≡ false → (a ≡ false) × (b ≡ true)
neither false true h = (refl, refl)
neither false false h = absurd (false≢true (sym h))
neither true b h = absurd (false≢true (sym h))

-- one byte, and its place the first one's
abbrev IsFirst : Turn → ℕ → Type 0
IsFirst t b = ((step t b).state.positions.used ≡ 1) × ((step t b).state.positions.item_at ≡ t.state.positions.at)

between_stays : (s : State) (b : ℕ) → is_some s.here ≡ false → in_text s b ≡ between s b
unfolding in_text
between_stays s b outer = rw outer refl

only_markup : (t : Turn) (b : ℕ) → Takes t.state mode.Text b → is_some t.state.here ≡ false → has_limit (step t b).state ≡ true → (b == 60) ≡ true
only_markup t b h outer limited =
    ⊎_elim (λ (is : (b == 60) ≡ true). is)
    (λ (other : (b == 60) ≡ false).
    let there = subst (λ u. has_limit u.state ≡ true) (goes t mode.Text b h) limited in
    let in_between = subst (λ u. has_limit u ≡ true) (between_stays (counted t.state) b outer) there in
    let inner = between_gets (counted t.state) b (ap is_limited h.mode_is) other in_between in
    absurd (false≢true (sym outer ∙ inner)))
    (cases_Bool (b == 60))

begins : (t : Turn) (b : ℕ) → Takes t.state mode.Text b → is_some t.state.here ≡ false → has_limit (step t b).state ≡ true → IsFirst t b
begins t b h outer limited =
    let is : b ≡ 60 = eqb-true b 60 (only_markup t b h outer limited) in
    subst (IsFirst t) (sym is) (first t (subst (Takes t.state mode.Text) is h) outer)

-- ---- runs

-- a state behind so many bytes: those in hand are the last ones, if they have a limit
record Sound (s : State) (n : ℕ) : Type 0 where
  stands : Stands s
  at : s.positions.at ≡ n
  held : has_limit s ≡ true → (0 < s.positions.used) × (s.positions.item_at + s.positions.used ≡ n)

next_is : (n : ℕ) → n + 1 < 2 ^ 64 → next_position n ≡ n + 1
next_is n h = omega arith

one_more : (i u n j v : ℕ) → n + 1 < 2 ^ 64 → i + u ≡ n → v ≡ next_position u → j ≡ i → (0 < v) × (j + v ≡ n + 1)
one_more i u n j v far sum next same = let is = next_is u (omega arith) in (omega arith, omega arith)

first_one : (n at j v : ℕ) → at ≡ n → v ≡ 1 → j ≡ at → (0 < v) × (j + v ≡ n + 1)
first_one n at j v is one same = (omega arith, omega arith)

held_after : (t : Turn) (b n : ℕ) → Sound t.state n → n + 1 < 2 ^ 64 → (step t b).state.fault ≡ None → has_limit (step t b).state ≡ true
    → (0 < (step t b).state.positions.used) × ((step t b).state.positions.item_at + (step t b).state.positions.used ≡ n + 1)
held_after t b n h far none limited =
    let taken = takes t b none in
    let after = (step t b).state.positions in
    ⊎_elim
    (λ (hand : is_in_hand t.state ≡ true).
    let there = subst (λ u. has_limit u.state ≡ true) (goes t t.state.lexical.mode b taken) limited in
    let before = h.held (mode_gets t.state.lexical.mode (moved t (counted t.state)) b refl hand there) in
    let counts = more t b hand h.stands before.0 none limited in
    one_more t.state.positions.item_at t.state.positions.used n after.item_at after.used far before.1 counts.used counts.item_at)
    (λ (nothing : is_in_hand t.state ≡ false).
    let known = neither (is_some t.state.here) (is_text t.state.lexical.mode) nothing in
    let text : t.state.lexical.mode ≡ mode.Text = text_mode t.state.lexical.mode known.1 in
    let begun = begins t b (subst (λ m. Takes t.state m b) text taken) known.0 limited in
    first_one n t.state.positions.at after.item_at after.used h.at begun.0 begun.1)
    (cases_Bool (is_in_hand t.state))

byte_sound : (t : Turn) (b n : ℕ) → Sound t.state n → n + 1 < 2 ^ 64 → (step t b).state.fault ≡ None → Sound (step t b).state (n + 1)
byte_sound t b n h far none =
    let goes_on = goes t t.state.lexical.mode b (takes t b none) in
    record {
      stands = ap (λ u. may_stand u.state) goes_on ∙ mode_stands t.state.lexical.mode (moved t (counted t.state)) b refl h.stands;
      at = step_position t b none ∙ ap next_position h.at ∙ next_is n far;
      held = held_after t b n h far none;
    }

run_sound : (bs : List ℕ) (t : Turn) (n : ℕ) → Sound t.state n → n + length bs < 2 ^ 64 → (run t bs).state.fault ≡ None → Sound (run t bs).state (n + length bs)
run_sound [] t n h far none = let same : n ≡ n + 0 = omega arith in subst (Sound t.state) same h
run_sound (b ∷ bs) t n h far none =
    let yet = no_fault_before (step t b) bs none in
    let more = run_sound bs (step t b) (n + 1) (byte_sound t b n h (omega arith) yet) (omega arith) none in
    let same : n + 1 + length bs ≡ n + length (b ∷ bs) = omega arith in
    subst (Sound (run (step t b) bs).state) same more

start_sound : (limits : Limits) → Sound (from_start limits) 0
start_sound limits = record { stands = refl; at = refl; held = λ h. absurd (false≢true h) }

abbrev from_first : Limits → List ℕ → State
from_first limits bytes = (run (turn (from_start limits) []) bytes).state

following : (limits : Limits) (bytes : List ℕ) → length bytes < 2 ^ 64 → (from_first limits bytes).fault ≡ None → Sound (from_first limits bytes) (length bytes)
following limits bytes few none =
    let same : 0 + length bytes ≡ length bytes = omega arith in
    subst (Sound (from_first limits bytes)) same (run_sound bytes (turn (from_start limits) []) 0 (start_sound limits) (omega arith) none)

pub counted_in_runs : (limits : Limits) (bytes : List ℕ) → length bytes < 2 ^ 64 → (from_first limits bytes).fault ≡ None → has_limit (from_first limits bytes) ≡ true
    → (0 < (from_first limits bytes).positions.used) × ((from_first limits bytes).positions.item_at + (from_first limits bytes).positions.used ≡ length bytes)
counted_in_runs limits bytes few none = (following limits bytes few none).held

pub stands_in_runs : (limits : Limits) (bytes : List ℕ) → length bytes < 2 ^ 64 → (from_first limits bytes).fault ≡ None → may_stand (from_first limits bytes) ≡ true
stands_in_runs limits bytes few none = (following limits bytes few none).stands
