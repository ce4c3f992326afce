-- What bytes say of the context is what the state after them has.
use Rattle.std.proofs.Common.{◌≡◌, ℕ, ◌+◌, ◌≤◌, inl, inr, ⊎_elim, true, if◌then◌else◌, List, [], ◌∷◌, ◌++◌, map, length, length-append, Option, Some, None, refl, sym, ap, subst, ◌∙◌, arith}
use Rattle.std.proofs.lemmas.Bool.{true≢false}
use Rattle.std.specs.Option.{is_some}
use Rattle.xml_names.specs.Grammar.{IsStart, IsWithin}
use Rattle.xml_names.specs.Scopes.{Scope}
use Rattle.xml_names.specs.Starts.{Tag}
use Rattle.xml_trees.proofs.AttributeOrder.{sorted_attributes_IsAttrsOf}
use Rattle.xml_trees.specs.Attributes.{sorted_attributes}
use Rattle.xml_trees.specs.Trees.{Elem, Nodes, depth, element, name_of, namespace_of}
use Rattle.xml_framer.specs.Expanded.{attribute_of}
use Rattle.xml_framer.specs.Machine.{run}
use Rattle.xml_framer.specs.States.{OpenElement, State, Turn, from_start, open_count, turn}
use Rattle.xml_framer.specs.TagSteps.{covered, scope_in, tag_limits, text_joined}
use Rattle.xml_framer.specs.declared.items.Item.{Item}
use Rattle.xml_framer.specs.declared.limits.Limits.{Limits}
use Rattle.xml_framer.specs.declared.states.Phase.TheVariants as phase
use Rattle.law_xml.proofs.ContextsTold.{context_of, count_names, names_of, opens_of, some_none}
use Rattle.law_xml.proofs.ElementRuns.{HasRead, content_read, deeper_in, level_read}
use Rattle.law_xml.proofs.ElementStates.{HasBegun, IsCovered, opened, room_front, room_rest, split_run}
use Rattle.law_xml.proofs.ElementTags.{MayBegin}
use Rattle.law_xml.proofs.ItemRuns.{quiet_there}
use Rattle.law_xml.proofs.Quiet.{HasRoom, IsQuiet}
use Rattle.law_xml.proofs.StreamRuns.{IsAfter, stream_reads}
use Rattle.law_xml.specs.Contexts.{AreOpen, Context, HasContext, OpensElement}
use Rattle.law_xml.specs.Spells.{IsBegun, IsHeaderName}
use Rattle.law_xml.specs.Standing.{StandsOutside}
use Rattle.law_xml.specs.Within.{AreTagsWithinContent}

is_open : (o : Option OpenElement) (below : List OpenElement) (x : List ℕ) (xs : List (List ℕ)) → opens_of o below ≡ x ∷ xs → is_some o ≡ true
is_open None below x xs e = absurd (some_none x xs (sym e))
is_open (Some o) below x xs e = refl

pub none_open : (o : Option OpenElement) (below : List OpenElement) → opens_of o below ≡ [] → o ≡ None
none_open None below e = refl
none_open (Some o) below e = absurd (some_none o.spelled (names_of below) e)

none_below : (o : Option OpenElement) (below : List OpenElement) → o ≡ None → IsCovered o below → below ≡ []
none_below o below none (inl e) = absurd (true≢false (sym e ∙ ap is_some none))
none_below o below none (inr e) = e.1

count_with : (o : Option OpenElement) (below : List OpenElement) → (if is_some o then length below + 1 else 0) ≡ length (opens_of o below)
count_with None below = refl
count_with (Some o) below = let n = count_names below in omega (arith, n)

-- as many elements are open as there are names
pub count_opens : (s : State) → open_count s ≡ length (opens_of s.here s.below)
count_opens s = count_with s.here s.below

covered_names : (o : Option OpenElement) (chars : List ℕ) (below : List OpenElement) → IsCovered o below → names_of (covered (text_joined o chars) below) ≡ opens_of o below
covered_names (Some o) chars below h = refl
covered_names None chars below (inl e) = absurd (true≢false (sym e))
covered_names None chars below (inr e) = ap names_of e.1

-- behind open elements
record Reached (from : State) (items : List Item) (names : List (List ℕ)) (scope : Scope) (bytes : List ℕ) : Type 0 where
  there : State
  run_is : run (turn from items) bytes ≡ turn there items
  quiet : IsQuiet there
  limits : there.limits ≡ from.limits
  names_are : opens_of there.here there.below ≡ names
  scope_is : scope_in there.scopes ≡ scope
  phase_is : there.lexical.phase ≡ from.lexical.phase
  name_is : there.name ≡ from.name
  may_cover : IsCovered there.here there.below
  used : there.positions.used ≤ from.positions.used + length bytes

-- a start tag may stand there
may_stand : (s : State) (outer : List (List ℕ)) (ns name : List ℕ) → opens_of s.here s.below ≡ outer → IsCovered s.here s.below → s.lexical.phase ≡ phase.Between → (outer ≡ [] → ¬ (IsHeaderName ns name)) → MayBegin s ns name
may_stand s [] ns name e covered between other =
    let outside = none_open s.here s.below e in inr (record { outside = outside; none_open = none_below s.here s.below outside covered; phase_is = between }, other refl)
may_stand s (x ∷ xs) ns name e covered between other = inl (is_open s.here s.below x xs e)

abbrev element_of : Tag → Nodes → Elem
element_of tag kids = element tag.ns tag.name (sorted_attributes (map attribute_of tag.attributes)) kids

is_begun : (tag : Tag) (kids : Nodes) → IsBegun tag kids (element_of tag kids)
is_begun tag kids = record { attributes = sorted_attributes (map attribute_of tag.attributes); sorted = sorted_attributes_IsAttrsOf (map attribute_of tag.attributes); is = refl }

module _ (limits : Limits) (from : State) (items : List Item) (same : from.limits ≡ limits) (unused : from.positions.used ≡ 0) (between : from.lexical.phase ≡ phase.Between) where
  -- one element more
  module _ (outer : List (List ℕ)) (around scope : Scope) (name front level bytes : List ℕ) (r : Reached from items outer around front) (e : OpensElement limits outer around scope name level) (are : bytes ≡ front ++ level) where
    abbrev s : State
    s = r.there

    has_room : length bytes ≤ limits.bytes → HasRoom s (e.start ++ e.inside)
    has_room short =
        let used = r.used in
        let fits : s.positions.used + length level ≤ limits.bytes = omega (arith, used, unused, short, ap length are, length-append front level) in
        subst (HasRoom s) e.bytes_are (inl (subst (λ (l : Limits). s.positions.used + length level ≤ l.bytes) (sym (r.limits ∙ same)) fits))

    is_shallow : open_count s + depth (element_of e.tag e.kids) ≤ s.limits.depth
    is_shallow =
        let count : open_count s ≡ length outer = count_opens s ∙ ap length r.names_are in
        let shallow = e.shallow in
        let fits : length outer + depth (element_of e.tag e.kids) ≤ limits.depth = omega (arith, shallow) in
        subst (λ (l : Limits). open_count s + depth (element_of e.tag e.kids) ≤ l.depth) (sym (r.limits ∙ same)) (subst (λ n. n + depth (element_of e.tag e.kids) ≤ limits.depth) (sym count) fits)

    scope_inside : (u : State) → HasBegun s u e.start e.tag → scope_in u.scopes ≡ e.tag.bindings ++ around
    scope_inside u has = ap scope_in has.scopes ∙ ap (λ c. e.tag.bindings ++ c) r.scope_is

    after_content : (u t : State) → HasBegun s u e.start e.tag → HasRead u t (opened e.tag) e.inside e.kids → run (turn s items) e.start ≡ turn u items → run (turn u items) e.inside ≡ turn t items
        → Reached from items (name ∷ outer) scope bytes
    after_content u t has read start_run inside_run =
        let name_there : read.inner.spelled ≡ name = ap (λ (o : OpenElement). o.spelled) read.holds ∙ e.name_is in
        let below_there : names_of t.below ≡ outer = ap names_of (read.below ∙ has.below) ∙ covered_names s.here s.chars s.below r.may_cover ∙ r.names_are in
        let used = r.used in
        let more = has.used in
        let most = read.used in
        record {
          there = t;
          run_is = split_run (turn from items) (turn s items) (turn t items) bytes front level are r.run_is (split_run (turn s items) (turn u items) (turn t items) level e.start e.inside e.bytes_are start_run inside_run);
          quiet = read.quiet;
          limits = read.limits ∙ has.limits ∙ r.limits;
          names_are = ap (λ o. opens_of o t.below) read.here ∙ (λ i. name_there i ∷ below_there i);
          scope_is = ap scope_in read.scopes ∙ scope_inside u has ∙ sym e.scope_is;
          phase_is = read.phase ∙ has.phase ∙ r.phase_is;
          name_is = read.name ∙ has.name ∙ r.name_is;
          may_cover = inl (ap is_some read.here);
          used = omega (arith, used, more, most, ap length are, length-append front level, ap length e.bytes_are, length-append e.start e.inside);
        }

    after_start : (u : State) → HasBegun s u e.start e.tag → run (turn s items) e.start ≡ turn u items → length bytes ≤ limits.bytes → Reached from items (name ∷ outer) scope bytes
    after_start u has start_run short =
        let left = room_rest s u e.start e.inside has.limits has.used (has_room short) in
        let tags : AreTagsWithinContent (tag_limits u.limits) (e.tag.bindings ++ around) e.inside e.kids e.content =
        subst (λ l. AreTagsWithinContent (tag_limits l) (e.tag.bindings ++ around) e.inside e.kids e.content) (sym (has.limits ∙ (r.limits ∙ same))) e.tags_within in
        let deep = deeper_in s u e.start e.tag e.kids (element_of e.tag e.kids) r.may_cover (is_begun e.tag e.kids) has is_shallow in
        let more = content_read (e.tag.bindings ++ around) e.inside e.kids e.content u items (opened e.tag) has.fresh has.here has.no_chars (scope_inside u has) left tags deep in
        after_content u more.0 has more.2 start_run more.1

    level_reached : length bytes ≤ limits.bytes → Reached from items (name ∷ outer) scope bytes
    level_reached short =
        let elem = element_of e.tag e.kids in
        let start = subst (λ c. IsStart c e.start e.raw e.tag) (sym r.scope_is) e.is_start in
        let within : IsWithin (tag_limits s.limits) e.raw e.tag = subst (λ l. IsWithin (tag_limits l) e.raw e.tag) (sym (r.limits ∙ same)) e.tag_within in
        let may = may_stand s outer (namespace_of elem) (name_of elem) r.names_are r.may_cover (r.phase_is ∙ between) e.no_header in
        let first = level_read s items e.start e.raw e.tag e.kids elem start e.not_empty (is_begun e.tag e.kids) r.quiet (room_front s e.start e.inside (has_room short)) within is_shallow may in
        after_start first.0 first.2 first.1 short

first_reached : (from : State) (items : List Item) (base scope : Scope) (name bytes : List ℕ) → StandsOutside from phase.Between base name → scope ≡ base → bytes ≡ [] → Reached from items [] scope bytes
first_reached from items base scope name bytes stands same none = record {
  there = from;
  run_is = ap (run (turn from items)) none;
  quiet = quiet_there from phase.Between base name stands;
  limits = refl;
  names_are = ap (λ o. opens_of o from.below) stands.outside;
  scope_is = stands.scope_is ∙ sym same;
  phase_is = refl;
  name_is = refl;
  may_cover = inr (stands.outside, stands.none_open);
  used = omega arith;
}

levels_reached : (limits : Limits) (from : State) (items : List Item) (base : Scope) (name : List ℕ) → from.limits ≡ limits → StandsOutside from phase.Between base name → (names : List (List ℕ)) (scope : Scope) (bytes : List ℕ)
    → AreOpen limits base names scope bytes → length bytes ≤ limits.bytes → Reached from items names scope bytes
levels_reached limits from items base name same stands [] scope bytes h short = first_reached from items base scope name bytes stands h.0 h.1
levels_reached limits from items base name same stands (n ∷ outer) scope bytes h short =
    let front = h.1 in
    let level = h.2 in
    let r = levels_reached limits from items base name same stands outer h.0 front h.3 (omega (arith, short, ap length h.5, length-append front level)) in
    level_reached limits from items same stands.none_used stands.phase_is outer h.0 scope n front level bytes r h.4 h.5 short

-- the context, field by field
one_context : (a b : Context) → a.phase ≡ b.phase → a.name ≡ b.name → a.opens ≡ b.opens → a.scope ≡ b.scope → a ≡ b
one_context a b p n o s = λ i. record { phase = p i; name = n i; opens = o i; scope = s i }

pub context_is : (limits : Limits) (c : Context) (bytes : List ℕ) → HasContext limits c bytes → context_of (run (turn (from_start limits) []) bytes).state ≡ c
context_is limits c bytes h =
    let start = turn (from_start limits) [] in
    let r = stream_reads limits h.now h.done h.items h.stream h.within in
    let from = r.0 in
    let there : IsAfter (from_start limits) from [] h.items h.done h.now.phase h.now.scope h.now.name = r.1 in
    ⊎_elim
    (λ (none : c.opens ≡ []).
    let open_none = subst (λ l. AreOpen limits h.now.scope l c.scope h.opened) none h.are_open in
    let whole : bytes ≡ h.done ++ [] = h.bytes_are ∙ ap (λ l. h.done ++ l) open_none.1 in
    let following : run start bytes ≡ turn from h.items = split_run start (turn from h.items) (turn from h.items) bytes h.done [] whole there.run_is refl in
    ap (λ (u : Turn). context_of u.state) following
    ∙ one_context (context_of from) c (there.stands.phase_is ∙ h.phase_is) (there.stands.name_is ∙ h.name_is) (ap (λ o. opens_of o from.below) there.stands.outside ∙ sym none) (there.stands.scope_is ∙ sym open_none.0))
    (λ (between : c.phase ≡ phase.Between).
    let stands : StandsOutside from phase.Between h.now.scope h.now.name = subst (λ p. StandsOutside from p h.now.scope h.now.name) (h.phase_is ∙ between) there.stands in
    let q = levels_reached limits from h.items h.now.scope h.now.name there.limits stands c.opens c.scope h.opened h.are_open h.short in
    let following : run start bytes ≡ turn q.there h.items = split_run start (turn from h.items) (turn q.there h.items) bytes h.done h.opened h.bytes_are there.run_is q.run_is in
    ap (λ (u : Turn). context_of u.state) following
    ∙ one_context (context_of q.there) c (q.phase_is ∙ stands.phase_is ∙ sym between) (q.name_is ∙ stands.name_is ∙ h.name_is) q.names_are q.scope_is)
    h.between

-- outside elements, what the framer stands in
pub stands_there : (limits : Limits) (c : Context) (bytes : List ℕ) (h : HasContext limits c bytes) → c.opens ≡ [] → (t : State) × (run (turn (from_start limits) []) bytes ≡ turn t h.items) × StandsOutside t c.phase h.now.scope c.name
stands_there limits c bytes h none =
    let start = turn (from_start limits) [] in
    let r = stream_reads limits h.now h.done h.items h.stream h.within in
    let there : IsAfter (from_start limits) r.0 [] h.items h.done h.now.phase h.now.scope h.now.name = r.1 in
    let open_none = subst (λ l. AreOpen limits h.now.scope l c.scope h.opened) none h.are_open in
    let whole : bytes ≡ h.done ++ [] = h.bytes_are ∙ ap (λ l. h.done ++ l) open_none.1 in (
      r.0,
      split_run start (turn r.0 h.items) (turn r.0 h.items) bytes h.done [] whole there.run_is refl,
      subst (λ n. StandsOutside r.0 c.phase h.now.scope n) h.name_is (subst (λ p. StandsOutside r.0 p h.now.scope h.now.name) h.phase_is there.stands),
    )
