-- A byte that decides a fault gives no item.
use Rattle.std.proofs.Common.{◌≡◌, ℕ, ◌⊎◌, inl, inr, Bool, true, false, not, ◌&&◌, ◌==◌, if◌then◌else◌, List, Option, Some, None, Result, Ok, Err, refl}
use Rattle.std.specs.Option.{is_some}
use Rattle.xml_names.specs.Ends.{end_of}
use Rattle.xml_names.specs.Starts.{Tag}
use Rattle.xml_names.specs.declared.fault.StartWhy.{StartWhy}
use Rattle.xml_tokens.specs.Tags.{is_end}
use Rattle.xml_tokens.specs.Utf8.{continues}
use Rattle.xml_framer.specs.Machine.{behind_byte, goes_on, is_too_long, step, taken, taken_in}
use Rattle.xml_framer.specs.MarkupSteps.{in_phase}
use Rattle.xml_framer.specs.States.{OpenElement, Turn, counted, fails, gathered, gathered_in, gives, item_ended, may_declare, moved, token_fails, token_position}
use Rattle.xml_framer.specs.TagSteps.{added_to, begun, closed, closed_open, element_from, ends, ends_stream, footer_closes, footer_gathered, header_tag, heads, in_footer, in_opening, in_tag, is_header, is_spelled, is_too_deep, joined_text, leaf, level, misplaced, shallower, starts, tag_anew, tag_closes, tag_gathered, tag_here, tag_in, tag_inside, tag_outside, unlimited}
use Rattle.xml_trees.specs.Trees.{Elem}
use Rattle.xml_framer.specs.declared.fault.Why.TheVariants as why
use Rattle.xml_framer.specs.declared.items.Item.{Item}
use Rattle.xml_framer.specs.declared.items.Item.TheVariants as item
use Rattle.xml_framer.specs.declared.states.Mode.{Mode}
use Rattle.xml_framer.specs.declared.states.Mode.TheVariants as mode
use Rattle.xml_framer.specs.declared.states.Phase.{Phase}
use Rattle.xml_framer.specs.declared.states.Phase.TheVariants as phase

-- no item was given, or there is no fault
abbrev pub IsApart : List Item → Turn → Type 0
IsApart items u = (u.items ≡ items) ⊎ (u.state.fault ≡ None)

either : (items : List Item) (u v : Turn) (c : Bool) → IsApart items u → IsApart items v → IsApart items (if c then u else v)
either items u v true x y = x
either items u v false x y = y

-- ---- elements

added_apart : (here : Option OpenElement) (t : Turn) (e : Elem) → t.state.fault ≡ None → IsApart t.items (added_to here t e)
added_apart None t e none = inr none
added_apart (Some o) t e none = inl refl

begun_apart : (t : Turn) (tag : Tag) → t.state.fault ≡ None → IsApart t.items (begun t tag)
unfolding begun leaf
begun_apart t tag none =
    either t.items (moved t (token_fails t.state why.TooDeep)) (if tag.empty then leaf t tag else moved t (level t.state tag)) (is_too_deep t.state) (inl refl)
    (either t.items (leaf t tag) (moved t (level t.state tag)) tag.empty (added_apart (joined_text t.state).here (moved t (joined_text t.state)) (element_from tag) none) (inl refl))

starts_apart : (t : Turn) (r : Result Tag StartWhy) → t.state.fault ≡ None → IsApart t.items (starts t r)
starts_apart t (Ok tag) none = begun_apart t tag none
starts_apart t (Err fault) none = inl refl

closed_apart : (here : Option OpenElement) (t : Turn) → t.state.fault ≡ None → IsApart t.items (closed_open here t)
closed_apart None t none = inl refl
closed_apart (Some o) t none = added_apart (shallower t.state).here (moved t (shallower t.state)) o.element none

ends_apart : (t : Turn) → t.state.fault ≡ None → IsApart t.items (ends t)
unfolding ends closed
ends_apart t none =
    either t.items (closed t) (moved t (token_fails t.state why.NotWellFormed)) (is_spelled t.state.here (end_of t.state.token))
    (closed_apart (joined_text t.state).here (moved t (joined_text t.state)) none) (inl refl)

inside_apart : (t : Turn) → t.state.fault ≡ None → IsApart t.items (tag_inside t)
unfolding tag_inside
inside_apart t none = either t.items (ends t) (starts t (tag_here t.state)) (is_end t.state.token) (ends_apart t none) (starts_apart t (tag_here t.state) none)

-- ---- headers

heads_apart : (t : Turn) (r : Result Tag StartWhy) → t.state.fault ≡ None → IsApart t.items (heads t r)
heads_apart t (Ok tag) none = inr none
heads_apart t (Err fault) none = inl refl

header_apart : (t : Turn) → t.state.fault ≡ None → IsApart t.items (header_tag t)
unfolding header_tag
header_apart t none = heads_apart t (tag_anew t.state) none

misplaced_apart : (t : Turn) → IsApart t.items (misplaced t)
unfolding misplaced
misplaced_apart t = inl refl

tag_apart : (p : Phase) (t : Turn) → t.state.fault ≡ None → IsApart t.items (tag_in p t)
tag_apart phase.First t none = header_apart t none
tag_apart phase.FirstDeclared t none = header_apart t none
tag_apart phase.Between t none = either t.items (header_tag t) (starts t (tag_here t.state)) (is_header t.state) (header_apart t none) (starts_apart t (tag_here t.state) none)
tag_apart phase.Declared t none = either t.items (header_tag t) (misplaced t) (is_header t.state) (header_apart t none) (misplaced_apart t)
tag_apart phase.Ended t none = misplaced_apart t

closes_apart : (t : Turn) → t.state.fault ≡ None → IsApart t.items (tag_closes t)
unfolding tag_closes tag_outside
closes_apart t none = either t.items (tag_inside t) (tag_outside t) (is_some t.state.here) (inside_apart t none) (tag_apart t.state.lexical.phase t none)

-- ---- bytes

in_tag_apart : (t : Turn) (b : ℕ) → t.state.fault ≡ None → IsApart t.items (in_tag t b)
unfolding in_tag
in_tag_apart t b none =
    either t.items (tag_closes (moved t (gathered t.state b))) (moved t (tag_gathered t.state b)) (b == 62 && not (is_some t.state.lexical.quote))
    (closes_apart (moved t (gathered t.state b)) none) (inl refl)

footer_apart : (t : Turn) → t.state.fault ≡ None → IsApart t.items (footer_closes t)
unfolding footer_closes
footer_apart t none =
    either t.items (gives (in_phase (item_ended t.state) phase.Ended) t.items item.Footer) (moved t (token_fails t.state why.NotWellFormed)) (ends_stream t.state) (inr none) (inl refl)

in_footer_apart : (t : Turn) (b : ℕ) → t.state.fault ≡ None → IsApart t.items (in_footer t b)
unfolding in_footer
in_footer_apart t b none =
    either t.items (footer_closes (moved t (gathered t.state b))) (moved t (footer_gathered t.state b)) (b == 62 && not (is_some t.state.lexical.quote))
    (footer_apart (moved t (gathered t.state b)) none) (inl refl)

in_opening_apart : (t : Turn) (b : ℕ) → t.state.fault ≡ None → IsApart t.items (in_opening t b)
unfolding in_opening
in_opening_apart t b none =
    let question = moved t (if may_declare t.state then gathered_in t.state mode.Question b else token_fails t.state why.Restricted) in
    let footer = moved t (gathered_in (unlimited t.state) mode.Footer b) in
    let fourth = if b == 47 && not (is_some t.state.here) then footer else in_tag t b in
    either t.items (moved t (gathered_in (unlimited t.state) mode.Bang b)) (if b == 63 then question else fourth) (b == 33) (inl refl)
    (either t.items question fourth (b == 63) (inl refl)
    (either t.items footer (in_tag t b) (b == 47 && not (is_some t.state.here)) (inl refl) (in_tag_apart t b none)))

taken_apart : (m : Mode) (t : Turn) (b : ℕ) → t.state.fault ≡ None → IsApart t.items (taken_in m t b)
taken_apart mode.Text t b none = inl refl
taken_apart mode.Reference t b none = inl refl
taken_apart mode.Opening t b none = in_opening_apart t b none
taken_apart mode.Bang t b none = inl refl
taken_apart mode.Question t b none = inl refl
taken_apart mode.Declaration t b none = inl refl
taken_apart mode.Tag t b none = in_tag_apart t b none
taken_apart mode.Footer t b none = in_footer_apart t b none
taken_apart mode.Section t b none = inl refl

goes_on_apart : (t : Turn) (b : ℕ) → t.state.fault ≡ None → IsApart t.items (goes_on t b)
unfolding goes_on taken
goes_on_apart t b none =
    let u = moved t (counted t.state) in
    let long = moved t (fails t.state t.state.positions.item_at why.TooLong) in
    let broken = moved t (fails t.state (token_position t.state) why.Encoding) in
    let other = behind_byte (taken u b) b in
    either t.items long (if not (continues t.state.pending b) then broken else other) (is_too_long t.state b) (inl refl)
    (either t.items broken other (not (continues t.state.pending b)) (inl refl) (following (taken u b) (taken_apart u.state.lexical.mode u b none)))
  where
    following : (v : Turn) → IsApart t.items v → IsApart t.items (behind_byte v b)
    following v apart = apart

pub step_apart : (t : Turn) (b : ℕ) → t.state.fault ≡ None → IsApart t.items (step t b)
step_apart t b none = either t.items t (goes_on t b) (is_some t.state.fault) (inl refl) (goes_on_apart t b none)
