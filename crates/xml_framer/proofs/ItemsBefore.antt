-- What a run gives doesn't depend on the items that were given before it.
use Rattle.std.proofs.Common.{◌≡◌, ℕ, Bool, true, false, ◌==◌, ◌&&◌, not, List, [], ◌∷◌, ◌++◌, Option, Some, None, Result, Ok, Err, refl, sym, ap, ◌∙◌, append_assoc, if◌then◌else◌}
use Rattle.std.proofs.lemmas.List.{append-nil}
use Rattle.std.specs.Option.{is_some}
use Rattle.xml_names.specs.Ends.{end_of}
use Rattle.xml_names.specs.Headers.{header_of}
use Rattle.xml_names.specs.Starts.{Tag}
use Rattle.xml_names.specs.declared.fault.StartWhy.{StartWhy}
use Rattle.xml_tokens.specs.Tags.{is_end}
use Rattle.xml_tokens.specs.Utf8.{continues}
use Rattle.xml_framer.specs.Machine.{IsFrontOf, behind_byte, goes_on, is_too_long, run, step, taken, taken_in}
use Rattle.xml_framer.specs.MarkupSteps.{in_phase}
use Rattle.xml_framer.specs.States.{OpenElement, State, Turn, counted, fails, gathered, gathered_in, gives, item_ended, may_declare, moved, token_fails, token_position, turn}
use Rattle.xml_framer.specs.TagSteps.{added_to, begun, closed, closed_open, element_from, ends, ends_stream, footer_closes, footer_gathered, headed, header_items, header_tag, heads, in_footer, in_opening, in_tag, is_header, is_spelled, is_too_deep, joined_text, leaf, level, misplaced, shallower, starts, tag_anew, tag_closes, tag_gathered, tag_here, tag_in, tag_inside, tag_outside, unlimited}
use Rattle.xml_trees.specs.Tidied.{tidied}
use Rattle.xml_trees.specs.Trees.{Elem}
use Rattle.xml_framer.specs.declared.fault.Why.TheVariants as why
use Rattle.xml_framer.specs.declared.items.Item.{Item}
use Rattle.xml_framer.specs.declared.items.Item.TheVariants as item
use Rattle.xml_framer.specs.declared.states.Mode.{Mode}
use Rattle.xml_framer.specs.declared.states.Mode.TheVariants as mode
use Rattle.xml_framer.specs.declared.states.Phase.{Phase}
use Rattle.xml_framer.specs.declared.states.Phase.TheVariants as phase

-- other items before those of a turn
abbrev following : List Item → Turn → Turn
following front t = turn t.state (front ++ t.items)

-- a change of a turn keeps the items before it
abbrev Keeps : List Item → (Turn → Turn) → Turn → Type 0
Keeps front f t = f (following front t) ≡ following front (f t)

given : (front : List Item) (s : State) (items more : List Item) → turn s ((front ++ items) ++ more) ≡ turn s (front ++ (items ++ more))
given front s items more = ap (λ all. turn s all) (append_assoc front items more)

either : (front : List Item) (f g : Turn → Turn) (t : Turn) (b : Bool) → Keeps front f t → Keeps front g t → Keeps front (λ u. if b then f u else g u) t
either front f g t true x y = x
either front f g t false x y = y

added_keeps : (front : List Item) (o : Option OpenElement) (t : Turn) (e : Elem) → Keeps front (λ u. added_to o u e) t
added_keeps front None t e = given front (item_ended t.state) t.items (item.Element (tidied e) ∷ [])
added_keeps front (Some o) t e = refl

leaf_keeps : (front : List Item) (t : Turn) (tag : Tag) → Keeps front (λ u. leaf u tag) t
unfolding leaf
leaf_keeps front t tag = added_keeps front (joined_text t.state).here (moved t (joined_text t.state)) (element_from tag)

begun_keeps : (front : List Item) (t : Turn) (tag : Tag) → Keeps front (λ u. begun u tag) t
unfolding begun
begun_keeps front t tag =
    let deep : Turn → Turn = λ u. moved u (token_fails t.state why.TooDeep) in
    let inner : Turn → Turn = λ u. moved u (level t.state tag) in
    either front deep (λ u. if tag.empty then leaf u tag else inner u) t (is_too_deep t.state) refl (either front (λ u. leaf u tag) inner t tag.empty (leaf_keeps front t tag) refl)

starts_keep : (front : List Item) (t : Turn) (r : Result Tag StartWhy) → Keeps front (λ u. starts u r) t
starts_keep front t (Ok tag) = begun_keeps front t tag
starts_keep front t (Err fault) = refl

open_keeps : (front : List Item) (o : Option OpenElement) (t : Turn) → Keeps front (closed_open o) t
open_keeps front None t = refl
open_keeps front (Some o) t = added_keeps front (shallower t.state).here (moved t (shallower t.state)) o.element

closed_keeps : (front : List Item) (t : Turn) → Keeps front closed t
unfolding closed
closed_keeps front t = open_keeps front (joined_text t.state).here (moved t (joined_text t.state))

ends_keep : (front : List Item) (t : Turn) → Keeps front ends t
unfolding ends
ends_keep front t = either front closed (λ u. moved u (token_fails t.state why.NotWellFormed)) t (is_spelled t.state.here (end_of t.state.token)) (closed_keeps front t) refl

inside_keeps : (front : List Item) (t : Turn) → Keeps front tag_inside t
unfolding tag_inside
inside_keeps front t = either front ends (λ u. starts u (tag_here t.state)) t (is_end t.state.token) (ends_keep front t) (starts_keep front t (tag_here t.state))

heads_keep : (front : List Item) (t : Turn) (r : Result Tag StartWhy) → Keeps front (λ u. heads u r) t
heads_keep front t (Ok tag) = given front (headed t.state tag) t.items (header_items t.state.positions.token_at (header_of tag) tag.empty)
heads_keep front t (Err fault) = refl

header_keeps : (front : List Item) (t : Turn) → Keeps front header_tag t
unfolding header_tag
header_keeps front t = heads_keep front t (tag_anew t.state)

misplaced_keeps : (front : List Item) (t : Turn) → Keeps front misplaced t
unfolding misplaced
misplaced_keeps front t = refl

phase_keeps : (front : List Item) (p : Phase) (t : Turn) → Keeps front (tag_in p) t
phase_keeps front phase.First t = header_keeps front t
phase_keeps front phase.FirstDeclared t = header_keeps front t
phase_keeps front phase.Between t = either front header_tag (λ u. starts u (tag_here t.state)) t (is_header t.state) (header_keeps front t) (starts_keep front t (tag_here t.state))
phase_keeps front phase.Declared t = either front header_tag misplaced t (is_header t.state) (header_keeps front t) (misplaced_keeps front t)
phase_keeps front phase.Ended t = misplaced_keeps front t

outside_keeps : (front : List Item) (t : Turn) → Keeps front tag_outside t
unfolding tag_outside
outside_keeps front t = phase_keeps front t.state.lexical.phase t

closes_keep : (front : List Item) (t : Turn) → Keeps front tag_closes t
unfolding tag_closes
closes_keep front t = either front tag_inside tag_outside t (is_some t.state.here) (inside_keeps front t) (outside_keeps front t)

tag_keeps : (front : List Item) (t : Turn) (b : ℕ) → Keeps front (λ u. in_tag u b) t
unfolding in_tag
tag_keeps front t b =
    let whole = moved t (gathered t.state b) in
    either front (λ u. tag_closes (moved u (gathered t.state b))) (λ u. moved u (tag_gathered t.state b)) t (b == 62 && not (is_some t.state.lexical.quote)) (closes_keep front whole) refl

footer_keeps : (front : List Item) (t : Turn) → Keeps front footer_closes t
unfolding footer_closes
footer_keeps front t =
    let s = in_phase (item_ended t.state) phase.Ended in
    either front (λ u. gives s u.items item.Footer) (λ u. moved u (token_fails t.state why.NotWellFormed)) t (ends_stream t.state) (given front s t.items (item.Footer ∷ [])) refl

in_footer_keeps : (front : List Item) (t : Turn) (b : ℕ) → Keeps front (λ u. in_footer u b) t
unfolding in_footer
in_footer_keeps front t b =
    let whole = moved t (gathered t.state b) in
    either front (λ u. footer_closes (moved u (gathered t.state b))) (λ u. moved u (footer_gathered t.state b)) t (b == 62 && not (is_some t.state.lexical.quote)) (footer_keeps front whole) refl

opening_keeps : (front : List Item) (t : Turn) (b : ℕ) → Keeps front (λ u. in_opening u b) t
unfolding in_opening
opening_keeps front t b =
    let bang : Turn → Turn = λ u. moved u (gathered_in (unlimited t.state) mode.Bang b) in
    let question : Turn → Turn = λ u. moved u (if may_declare t.state then gathered_in t.state mode.Question b else token_fails t.state why.Restricted) in
    let footer : Turn → Turn = λ u. moved u (gathered_in (unlimited t.state) mode.Footer b) in
    let last : Turn → Turn = λ u. if b == 47 && not (is_some t.state.here) then footer u else in_tag u b in
    either front bang (λ u. if b == 63 then question u else last u) t (b == 33) refl
    (either front question last t (b == 63) refl (either front footer (λ u. in_tag u b) t (b == 47 && not (is_some t.state.here)) refl (tag_keeps front t b)))

mode_keeps : (front : List Item) (m : Mode) (t : Turn) (b : ℕ) → Keeps front (λ u. taken_in m u b) t
mode_keeps front mode.Text t b = refl
mode_keeps front mode.Reference t b = refl
mode_keeps front mode.Opening t b = opening_keeps front t b
mode_keeps front mode.Bang t b = refl
mode_keeps front mode.Question t b = refl
mode_keeps front mode.Declaration t b = refl
mode_keeps front mode.Tag t b = tag_keeps front t b
mode_keeps front mode.Footer t b = in_footer_keeps front t b
mode_keeps front mode.Section t b = refl

taken_keeps : (front : List Item) (t : Turn) (b : ℕ) → Keeps front (λ u. taken u b) t
unfolding taken
taken_keeps front t b = mode_keeps front t.state.lexical.mode t b

goes_keep : (front : List Item) (t : Turn) (b : ℕ) → Keeps front (λ u. goes_on u b) t
unfolding goes_on
goes_keep front t b =
    let long : Turn → Turn = λ u. moved u (fails t.state t.state.positions.item_at why.TooLong) in
    let broken : Turn → Turn = λ u. moved u (fails t.state (token_position t.state) why.Encoding) in
    let on : Turn → Turn = λ u. behind_byte (taken (moved u (counted t.state)) b) b in
    either front long (λ u. if not (continues t.state.pending b) then broken u else on u) t (is_too_long t.state b) refl
    (either front broken on t (not (continues t.state.pending b)) refl (ap (λ u. behind_byte u b) (taken_keeps front (moved t (counted t.state)) b)))

step_keeps : (front : List Item) (t : Turn) (b : ℕ) → Keeps front (λ u. step u b) t
step_keeps front t b = either front (λ u. u) (λ u. goes_on u b) t (is_some t.state.fault) refl (goes_keep front t b)

run_keeps : (front : List Item) (t : Turn) (bs : List ℕ) → Keeps front (λ u. run u bs) t
run_keeps front t [] = refl
run_keeps front t (b ∷ bs) = ap (λ u. run u bs) (step_keeps front t b) ∙ run_keeps front (step t b) bs

pub given_before : (s : State) (items : List Item) (bs : List ℕ) → run (turn s items) bs ≡ turn (run (turn s []) bs).state (items ++ (run (turn s []) bs).items)
given_before s items bs = ap (λ all. run (turn s all) bs) (sym (append-nil items)) ∙ run_keeps items (turn s []) bs

-- a run only adds items
pub run_grows : (t : Turn) (bs : List ℕ) → IsFrontOf t.items (run t bs).items
run_grows t bs = ((run (turn t.state []) bs).items, ap (λ u. u.items) (given_before t.state t.items bs))

pub front_trans : (xs ys zs : List Item) → IsFrontOf xs ys → IsFrontOf ys zs → IsFrontOf xs zs
front_trans xs ys zs a b = (a.0 ++ b.0, b.1 ∙ (ap (λ v. v ++ b.0) a.1 ∙ append_assoc xs a.0 b.0))
