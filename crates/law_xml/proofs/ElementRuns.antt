-- What spells an element is read as that element.
use Rattle.std.proofs.Common.{◌≡◌, ℕ, ◌+◌, ◌≤◌, max, inl, true, false, List, [], ◌++◌, Some, length, length-append, append_assoc, refl, sym, ap, subst, ◌∙◌, arith}
use Rattle.std.specs.Option.{is_some}
use Rattle.xml_tokens.specs.Tags as tokens
use Rattle.xml_tokens.specs.Tags.{IsTag, end_tag}
use Rattle.xml_names.proofs.EndLaws.{end_tags_are_read}
use Rattle.xml_names.specs.Ends.{end_of}
use Rattle.xml_names.specs.Grammar.{IsStart, IsWithin}
use Rattle.xml_names.specs.Scopes.{Scope}
use Rattle.xml_names.specs.Starts.{Tag}
use Rattle.law_xml.proofs.ElementStates.{HasBegun, HasFront, HasNodes, IsCovered, IsWhole, begun_count, both_open, child_added, first_covered, leaf_is_whole, level_has_begun, longer_front, may_cover, more_and_more, opened, parts_run, rest_covered, room_front, room_rest, same_count, split_run, text_and_nodes, then_run}
use Rattle.law_xml.proofs.ElementTags.{MayBegin, begins, closes, leaf_begins, level_begins, near, reads_tag}
use Rattle.xml_trees.proofs.Folds.{joined_assoc}
use Rattle.law_xml.proofs.Quiet.{HasInHand, HasRoom, HasSaid, IsFresh, IsQuiet}
use Rattle.law_xml.proofs.SpelledTrees.{begun_is}
use Rattle.law_xml.proofs.TagRuns.{DecidesLast, end_run, start_run}
use Rattle.law_xml.proofs.TextRuns.{text_run}
use Rattle.xml_trees.proofs.TidyReads.{depth_below-text_node}
use Rattle.xml_framer.specs.Machine.{behind_byte, passed, run}
use Rattle.law_xml.specs.Spells.{IsBegun, Spells, SpellsContent, empty, filled, text_alone, with_element}
use Rattle.xml_framer.specs.States.{OpenElement, State, open_count, turn, with_more, with_text}
use Rattle.xml_framer.specs.TagSteps.{added, begun, joined_text, level, outer_scopes, rest_of, first_of, scope_in, shallower, tag_closes, tag_limits}
use Rattle.xml_trees.specs.Tidied.{text_node}
use Rattle.xml_trees.specs.Trees.{Elem, Nodes, child, depth, depth_below, joined, name_of, namespace_of, no_nodes}
use Rattle.law_xml.specs.Within.{AreTagsWithin, AreTagsWithinContent}
use Rattle.xml_framer.specs.declared.items.Item.{Item}

pub depth_begun : (t : Tag) (kids : Nodes) (e : Elem) → IsBegun t kids e → depth e ≡ depth_below kids + 1
depth_begun t kids e h = ap depth h.is

may_begin : (s : State) (t : Tag) (kids : Nodes) (e : Elem) → IsBegun t kids e → MayBegin s (namespace_of e) (name_of e) → MayBegin s t.ns t.name
may_begin s t kids e h may = subst (λ x. MayBegin s (namespace_of x) (name_of x)) h.is may

pub front_of : (s : State) (items : List Item) (bytes : List ℕ) → DecidesLast s items bytes → HasFront s items bytes
front_of s items bytes h = record { front = h.0; bytes_are = h.1; before = h.2; run_is = h.3 }

-- the bytes lead to a whole element in hand
abbrev pub Leads : State → List Item → List ℕ → Elem → Type 0
Leads s items bytes e = (h : State) × (run (turn s items) bytes ≡ behind_byte (added (turn h items) e) 62) × IsWhole s h bytes × HasFront s items bytes

-- in an element it becomes a child
pub child_read : (s : State) (items : List Item) (o : OpenElement) (bytes : List ℕ) (e : Elem) → s.here ≡ Some o → Leads s items bytes e → (t : State) × (run (turn s items) bytes ≡ turn t items) × HasNodes s t (with_text o s.chars) bytes (child e no_nodes)
child_read s items o bytes e here (h, runs, whole, front) =
    let added_is = child_added s h items o bytes e here whole in
    (added_is.0, runs ∙ added_is.1, added_is.2)

-- ---- the tag of an empty element

leaf_read : (s : State) (items : List Item) (bytes : List ℕ) (raw : List tokens.Attribute) (t : Tag) (e : Elem) → IsStart (scope_in s.scopes) bytes raw t → t.empty ≡ true → IsBegun t no_nodes e
    → IsQuiet s → HasRoom s bytes → IsWithin (tag_limits s.limits) raw t → open_count s + depth e ≤ s.limits.depth → MayBegin s (namespace_of e) (name_of e) → Leads s items bytes e
leaf_read s items bytes raw t e start is_empty begun quiet room within deep may =
    let r = start_run s items (scope_in s.scopes) bytes raw t quiet room start in
    let h = r.0 in
    let hand : HasInHand s h bytes = r.2 in
    let reads = reads_tag s h bytes raw t hand start within in
    let shallow = near h (open_count s) (same_count s h hand.alike.here hand.alike.below) (rw hand.alike.limits (omega (arith, deep, depth_begun t no_nodes e begun))) in
    let closed : tag_closes (turn h items) ≡ added (turn (joined_text h) items) e =
    begins s h items bytes t hand r.3 reads (may_begin s t no_nodes e begun may) ∙ leaf_begins h items t shallow is_empty ∙ ap (added (turn (joined_text h) items)) (sym (begun_is t no_nodes e begun)) in
    (joined_text h, r.1 ∙ ap (λ u. behind_byte u 62) closed, leaf_is_whole s h bytes hand, front_of s items bytes r.5)

-- ---- a start tag with content behind it

pub level_read : (s : State) (items : List Item) (bytes : List ℕ) (raw : List tokens.Attribute) (t : Tag) (kids : Nodes) (e : Elem) → IsStart (scope_in s.scopes) bytes raw t → t.empty ≡ false → IsBegun t kids e
    → IsQuiet s → HasRoom s bytes → IsWithin (tag_limits s.limits) raw t → open_count s + depth e ≤ s.limits.depth → MayBegin s (namespace_of e) (name_of e)
    → (u : State) × (run (turn s items) bytes ≡ turn u items) × HasBegun s u bytes t
level_read s items bytes raw t kids e start not_empty begun quiet room within deep may =
    let r = start_run s items (scope_in s.scopes) bytes raw t quiet room start in
    let h = r.0 in
    let hand : HasInHand s h bytes = r.2 in
    let reads = reads_tag s h bytes raw t hand start within in
    let shallow = near h (open_count s) (same_count s h hand.alike.here hand.alike.below) (rw hand.alike.limits (omega (arith, deep, depth_begun t kids e begun))) in
    let closed : tag_closes (turn h items) ≡ turn (level h t) items =
    begins s h items bytes t hand r.3 reads (may_begin s t kids e begun may) ∙ level_begins h items t shallow not_empty in
    (passed (level h t) 62, r.1 ∙ ap (λ u. behind_byte u 62) closed, level_has_begun s h bytes t hand)

-- ---- content

-- Behind the content of an element: what is open and the text in hand are what was open with these nodes more.
pub record HasRead (s t : State) (o : OpenElement) (bytes : List ℕ) (kids : Nodes) : Type 0 where
  pub quiet : IsQuiet t
  pub inner : OpenElement
  pub here : t.here ≡ Some inner
  pub holds : with_text inner t.chars ≡ with_more o kids
  pub limits : t.limits ≡ s.limits
  pub below : t.below ≡ s.below
  pub scopes : t.scopes ≡ s.scopes
  pub name : t.name ≡ s.name
  pub phase : t.lexical.phase ≡ s.lexical.phase
  pub spent : t.lexical.spent ≡ s.lexical.spent
  pub used : t.positions.used ≤ s.positions.used + length bytes

text_has_read : (s t : State) (o : OpenElement) (bytes says : List ℕ) (kids : Nodes) → s.here ≡ Some o → s.chars ≡ [] → kids ≡ text_node says → HasSaid s t bytes says → HasRead s t o bytes kids
text_has_read s t o bytes says kids here none are said =
    record {
      quiet = said.quiet;
      inner = o;
      here = said.alike.here ∙ here;
      holds = ap (with_text o) (said.chars ∙ ap (λ c. c ++ says) none) ∙ ap (with_more o) (sym are);
      limits = said.alike.limits;
      below = said.alike.below;
      scopes = said.alike.scopes;
      name = said.alike.name;
      phase = said.alike.phase;
      spent = said.alike.spent;
      used = said.used;
    }

-- a text, an element, and more content
parts_have_read : (s u v : State) (o : OpenElement) (bytes front rest : List ℕ) (some more kids : Nodes) → bytes ≡ front ++ rest → kids ≡ joined some more → HasNodes s u o front some
    → HasRead u v (with_more o some) rest more → HasRead s v o bytes kids
parts_have_read s u v o bytes front rest some more kids bytes_are kids_are first second =
    let a = first.used in
    let b = second.used in
    record {
      quiet = second.quiet;
      inner = second.inner;
      here = second.here;
      holds = second.holds ∙ more_and_more o some more ∙ ap (with_more o) (sym kids_are);
      limits = second.limits ∙ first.limits;
      below = second.below ∙ first.below;
      scopes = second.scopes ∙ first.scopes;
      name = second.name ∙ first.name;
      phase = second.phase ∙ first.phase;
      spent = second.spent ∙ first.spent;
      used = omega (arith, a, b, ap length bytes_are, length-append front rest);
    }

first_and_more : (says : List ℕ) (e : Elem) (more : Nodes) → joined (text_node says) (child e more) ≡ joined (joined (text_node says) (child e no_nodes)) more
first_and_more says e more = sym (joined_assoc (text_node says) (child e no_nodes) more)

-- ---- an end tag

end_is_whole : (s t u h : State) (bytes front inside close : List ℕ) (tag : Tag) (kids : Nodes) → IsCovered s.here s.below → bytes ≡ front ++ (inside ++ close) → HasBegun s t front tag
    → HasRead t u (opened tag) inside kids → HasInHand u h close → IsWhole s (shallower (joined_text h)) bytes
end_is_whole s t u h bytes front inside close tag kids covered bytes_are first second hand =
    let a = first.used in
    let b = second.used in
    let c = hand.used in
    let below = hand.alike.below ∙ second.below ∙ first.below in
    record {
      no_fault = hand.no_fault;
      counted = hand.counted;
      no_pending = hand.no_pending;
      here = ap first_of below ∙ first_covered s.here s.chars s.below covered;
      no_chars = refl;
      limits = hand.alike.limits ∙ second.limits ∙ first.limits;
      below = ap rest_of below ∙ rest_covered s.here s.chars s.below covered;
      scopes = ap outer_scopes (hand.alike.scopes ∙ second.scopes ∙ first.scopes);
      name = hand.alike.name ∙ second.name ∙ first.name;
      phase = hand.alike.phase ∙ second.phase ∙ first.phase;
      spent = hand.alike.spent ∙ second.spent ∙ first.spent;
      used = omega (arith, a, b, c, ap length bytes_are, length-append front (inside ++ close), length-append inside close);
    }

end_read : (s t u : State) (items : List Item) (bytes front inside close : List ℕ) (tag : Tag) (kids : Nodes) (e : Elem) → IsCovered s.here s.below → bytes ≡ front ++ (inside ++ close) → HasRoom s bytes
    → IsTag close (end_tag tag.spelled) → IsBegun tag kids e → run (turn s items) front ≡ turn t items → HasBegun s t front tag → run (turn t items) inside ≡ turn u items → HasRead t u (opened tag) inside kids
    → Leads s items bytes e
end_read s t u items bytes front inside close tag kids e covered bytes_are room end begun to_first first to_second second =
    let all : HasRoom s (front ++ (inside ++ close)) = subst (HasRoom s) bytes_are room in
    let left = room_rest t u inside close second.limits second.used (room_rest s t front (inside ++ close) first.limits first.used all) in
    let r = end_run u items close tag.spelled second.quiet (ap is_some second.here) left end in
    let h = r.0 in
    let hand : HasInHand u h close = r.2 in
    let named : end_of h.token ≡ Some tag.spelled = rw hand.token ((end_tags_are_read close tag.spelled).1 end) in
    let said : (with_text second.inner h.chars).element ≡ e =
    ap (λ o. o.element) (ap (with_text second.inner) hand.chars ∙ second.holds) ∙ sym (begun_is tag kids e begun) in
    let closed : tag_closes (turn h items) ≡ added (turn (shallower (joined_text h)) items) e =
    closes h items second.inner tag.spelled (hand.alike.here ∙ second.here) r.3 named (sym (ap (λ o. o.spelled) second.holds)) ∙ ap (added (turn (shallower (joined_text h)) items)) said in
    let last : run (turn u items) close ≡ behind_byte (added (turn (shallower (joined_text h)) items) e) 62 = r.1 ∙ ap (λ w. behind_byte w 62) closed in
    let whole_run = parts_run (turn s items) (turn t items) (turn u items) (behind_byte (added (turn (shallower (joined_text h)) items) e) 62) bytes front inside close bytes_are to_first to_second last in
    let whole = end_is_whole s t u h bytes front inside close tag kids covered bytes_are first second hand in
    let end_front = longer_front t u items (inside ++ close) inside close refl to_second (front_of u items close r.4) in
    (shallower (joined_text h), whole_run, whole, longer_front s t items bytes front (inside ++ close) bytes_are to_first end_front)

-- ---- elements and content

pub deeper_in : (s t : State) (bytes : List ℕ) (tag : Tag) (kids : Nodes) (e : Elem) → IsCovered s.here s.below → IsBegun tag kids e → HasBegun s t bytes tag → open_count s + depth e ≤ s.limits.depth
    → open_count t + depth_below kids ≤ t.limits.depth
deeper_in s t bytes tag kids e covered begun first deep =
    rw (first.limits, begun_count s t bytes tag covered first) (omega (arith, deep, depth_begun tag kids e begun))

first_depth : (says : List ℕ) (e : Elem) (more kids : Nodes) → kids ≡ joined (text_node says) (child e more) → depth_below kids ≡ max (depth e) (depth_below more)
first_depth says e more kids are = ap depth_below are ∙ depth_below-text_node says (child e more)

deep_child : (s t : State) (says : List ℕ) (e : Elem) (more kids : Nodes) → t.limits ≡ s.limits → open_count t ≡ open_count s → kids ≡ joined (text_node says) (child e more)
    → open_count s + depth_below kids ≤ s.limits.depth → open_count t + depth e ≤ t.limits.depth
deep_child s t says e more kids limits count are deep = rw (limits, count) (omega (arith, deep, first_depth says e more kids are))

-- behind a text and an element
record HasFirst (s u : State) (items : List Item) (o : OpenElement) (bytes : List ℕ) (says : List ℕ) (e : Elem) : Type 0 where
  run_is : run (turn s items) bytes ≡ turn u items
  nodes : HasNodes s u o bytes (joined (text_node says) (child e no_nodes))
  count : open_count u ≡ open_count s

first_read : (s t : State) (items : List Item) (o : OpenElement) (front says middle : List ℕ) (e : Elem) → s.here ≡ Some o → s.chars ≡ [] → run (turn s items) front ≡ turn t items → HasSaid s t front says
    → Leads t items middle e → (u : State) × HasFirst s u items o (front ++ middle) says e
first_read s t items o front says middle e here none to_text said leads =
    let r = child_read t items o middle e (said.alike.here ∙ here) leads in
    let nodes = text_and_nodes s t r.0 o front says middle (child e no_nodes) none said r.2 in (
      r.0,
      record {
        run_is = then_run (turn s items) (turn t items) (turn r.0 items) front middle to_text r.1;
        nodes = nodes;
        count = both_open s r.0 o (with_more o (joined (text_node says) (child e no_nodes))) here nodes.here nodes.below;
      },
    )

deep_rest : (s t : State) (says : List ℕ) (e : Elem) (more kids : Nodes) → t.limits ≡ s.limits → open_count t ≡ open_count s → kids ≡ joined (text_node says) (child e more)
    → open_count s + depth_below kids ≤ s.limits.depth → open_count t + depth_below more ≤ t.limits.depth
deep_rest s t says e more kids limits count are deep = rw (limits, count) (omega (arith, deep, first_depth says e more kids are))

same_scope : (s u : State) (scope : Scope) → u.scopes ≡ s.scopes → scope_in s.scopes ≡ scope → scope_in u.scopes ≡ scope
same_scope s u scope same at = ap scope_in same ∙ at

same_within : (s u : State) (scope : Scope) (bytes : List ℕ) (e : Elem) (h : Spells scope bytes e) → u.limits ≡ s.limits → AreTagsWithin (tag_limits s.limits) scope bytes e h
    → AreTagsWithin (tag_limits u.limits) scope bytes e h
same_within s u scope bytes e h limits within = subst (λ l. AreTagsWithin (tag_limits l) scope bytes e h) (sym limits) within

same_within_content : (s u : State) (scope : Scope) (bytes : List ℕ) (kids : Nodes) (h : SpellsContent scope bytes kids) → u.limits ≡ s.limits → AreTagsWithinContent (tag_limits s.limits) scope bytes kids h
    → AreTagsWithinContent (tag_limits u.limits) scope bytes kids h
same_within_content s u scope bytes kids h limits within = subst (λ l. AreTagsWithinContent (tag_limits l) scope bytes kids h) (sym limits) within

mutual
  pub element_read : (scope : Scope) (bytes : List ℕ) (e : Elem) (h : Spells scope bytes e) (s : State) (items : List Item) → IsQuiet s → scope_in s.scopes ≡ scope → HasRoom s bytes
      → AreTagsWithin (tag_limits s.limits) scope bytes e h → open_count s + depth e ≤ s.limits.depth → MayBegin s (namespace_of e) (name_of e) → Leads s items bytes e
  element_read scope bytes e (empty _ _ _ raw t start is_empty starts) s items quiet at room within deep may =
      leaf_read s items bytes raw t e (subst (λ c. IsStart c bytes raw t) (sym at) start) is_empty starts quiet room within deep may
  element_read scope bytes e (filled _ _ _ raw t front inside close kids start not_empty content end bytes_are starts) s items quiet at room within deep may =
      let all : HasRoom s (front ++ (inside ++ close)) = subst (HasRoom s) bytes_are room in
      let first = level_read s items front raw t kids e (subst (λ c. IsStart c front raw t) (sym at) start) not_empty starts quiet (room_front s front (inside ++ close) all) within.0 deep may in
      let u = first.0 in
      let has : HasBegun s u front t = first.2 in
      let covered = may_cover s (namespace_of e) (name_of e) may in
      let left = room_front u inside close (room_rest s u front (inside ++ close) has.limits has.used all) in
      let second =
      content_read (t.bindings ++ scope) inside kids content u items (opened t) has.fresh has.here has.no_chars (ap scope_in has.scopes ∙ ap (λ c. t.bindings ++ c) at) left
      (same_within_content s u (t.bindings ++ scope) inside kids content has.limits within.1) (deeper_in s u front t kids e covered starts has deep) in
      end_read s u second.0 items bytes front inside close t kids e covered bytes_are room end starts first.1 has second.1 second.2

  pub content_read : (scope : Scope) (bytes : List ℕ) (kids : Nodes) (h : SpellsContent scope bytes kids) (s : State) (items : List Item) (o : OpenElement) → IsFresh s → s.here ≡ Some o → s.chars ≡ []
      → scope_in s.scopes ≡ scope → HasRoom s bytes → AreTagsWithinContent (tag_limits s.limits) scope bytes kids h → open_count s + depth_below kids ≤ s.limits.depth
      → (t : State) × (run (turn s items) bytes ≡ turn t items) × HasRead s t o bytes kids
  content_read scope bytes kids (text_alone _ _ _ says is_text kids_are) s items o fresh here none at room within deep =
      let r = text_run s items bytes says o fresh here room is_text in
      (r.0, r.1, text_has_read s r.0 o bytes says kids here none kids_are r.2)
  content_read scope bytes kids (with_element _ _ _ front says middle rest e more is_text spelled content bytes_are kids_are) s items o fresh here none at room within deep =
      let are : bytes ≡ (front ++ middle) ++ rest = bytes_are ∙ sym (append_assoc front middle rest) in
      let all : HasRoom s ((front ++ middle) ++ rest) = subst (HasRoom s) are room in
      let both : HasRoom s (front ++ middle) = room_front s (front ++ middle) rest all in
      let first = text_run s items front says o fresh here (room_front s front middle both) is_text in
      let t = first.0 in
      let said : HasSaid s t front says = first.2 in
      let count = same_count s t said.alike.here said.alike.below in
      let second =
      element_read scope middle e spelled t items said.quiet (same_scope s t scope said.alike.scopes at) (room_rest s t front middle said.alike.limits said.used both)
      (same_within s t scope middle e spelled said.alike.limits within.0) (deep_child s t says e more kids said.alike.limits count kids_are deep)
      (inl (ap is_some (said.alike.here ∙ here))) in
      let whole = first_read s t items o front says middle e here none first.1 said second in
      let u = whole.0 in
      let has : HasFirst s u items o (front ++ middle) says e = whole.1 in
      let nodes = has.nodes in
      let third =
      content_read scope rest more content u items (with_more o (joined (text_node says) (child e no_nodes))) nodes.fresh nodes.here nodes.no_chars (same_scope s u scope nodes.scopes at)
      (room_rest s u (front ++ middle) rest nodes.limits nodes.used all) (same_within_content s u scope rest more content nodes.limits within.1)
      (deep_rest s u says e more kids nodes.limits has.count kids_are deep) in (
        third.0,
        split_run (turn s items) (turn u items) (turn third.0 items) bytes (front ++ middle) rest are has.run_is third.1,
        parts_have_read s u third.0 o bytes (front ++ middle) rest (joined (text_node says) (child e no_nodes)) more kids are (kids_are ∙ first_and_more says e more) nodes third.2,
      )
