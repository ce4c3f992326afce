-- What is spelled within limits fits as it is written, but for its bytes, into limits that admit twice as many attributes
-- and one more.
use Rattle.std.proofs.Common.{◌≡◌, ◌≢◌, ℕ, suc, ◌+◌, ◌*◌, ◌≤◌, ◌⊎◌, inl, inr, true, false, not, ◌||◌, List, [], ◌∷◌, ◌++◌, map, codes, bytes_eq, Option, Some, None, Ordering, Less, Equal, Greater, length, unwrap_or, refl, sym, ap, subst, ◌∙◌, ⊎_elim, arith, length-append}
use Rattle.std.proofs.lemmas.Bool.{cases_Bool, false≢true}
use Rattle.std.proofs.lemmas.List.Elements.{All-append, All-from_recursion, recursion_from_All}
use Rattle.std.proofs.lemmas.Option.{same_Some}
use Rattle.std.specs.List.{All, AllByRecursion, AllZip}
use Rattle.std.specs.Ordering.{match_ordering}
use Rattle.xml_tokens.specs.Spelling.{spelled_value}
use Rattle.xml_tokens.specs.Tags as tokens
use Rattle.xml_tokens.specs.Tags.{is_empty}
use Rattle.xml_names.specs.Declarations.{declared_prefix, others_of, unless_binding}
use Rattle.xml_names.specs.Grammar.{IsElementIn, IsExpanded, IsShort, IsStart, IsWithin}
use Rattle.xml_names.specs.Scopes.{Scope, bound, first_bound, xml_namespace}
use Rattle.xml_names.specs.Starts.{Tag}
use Rattle.xml_names.specs.declared.expansion.ExpandedAttribute.{ExpandedAttribute}
use Rattle.xml_names.specs.declared.headers.Header.{Header}
use Rattle.xml_names.specs.declared.limits.TagLimits.{TagLimits}
use Rattle.xml_trees.specs.Attributes.{Attribute, name_order, put_attribute, sorted_attributes}
use Rattle.xml_trees.specs.Tidied.{text_node}
use Rattle.xml_trees.specs.Trees.{Elem, Nodes, child, joined, no_nodes}
use Rattle.xml_framer.specs.Expanded.{attribute_of}
use Rattle.xml_framer.specs.Limits.{client_limits, server_limits}
use Rattle.xml_framer.specs.States.{State}
use Rattle.xml_framer.specs.TagSteps.{tag_limits}
use Rattle.xml_framer.specs.declared.items.Item.{Item}
use Rattle.xml_framer.specs.declared.items.Item.TheVariants as item
use Rattle.xml_framer.specs.declared.states.Phase.TheVariants as phase
use Rattle.xml_framer.specs.declared.limits.Limits.{Limits}
use Rattle.xml_writer.specs.Canon.{canon, client_namespace, declared_default, declares_default, default_inside, is_foreign, next_number, spelled_attribute, spelled_attributes, tag_attributes}
use Rattle.law_xml.specs.Fitting.{Fits, IsShortAttribute, NodesFit, TagFits, TagsFit}
use Rattle.law_xml.specs.Spells.{IsBegun, Spells, SpellsContent, SpellsHeader, SpellsTop, empty, filled, text_alone, with_element, written_scope}
use Rattle.law_xml.specs.PlainItems.{IsPlainScope}
use Rattle.law_xml.specs.Standing.{Gives, StandsOutside}
use Rattle.law_xml.specs.Within.{AreTagsWithin, AreTagsWithinContent, IsElementWithin, IsHeaderWithin}
use Rattle.law_xml.proofs.PlainElements.{chosen, sorted_each, top_is_plain}
use Rattle.law_xml.proofs.SpelledTrees.{begun_is, spelled_tree}
use Rattle.law_xml.proofs.WrittenFits.{written_element_is_read}

-- ---- how many attributes are written

pub one_written : (n : ℕ) (a : Attribute) → length (spelled_attribute n a) ≤ 2
unfolding spelled_attribute
one_written n a =
    ⊎_elim (λ (e : is_empty a.ns ≡ true). rw e (omega arith))
    (λ (e : is_empty a.ns ≡ false).
    ⊎_elim (λ (x : bytes_eq a.ns xml_namespace ≡ true). rw (e, x) (omega arith)) (λ (x : bytes_eq a.ns xml_namespace ≡ false). rw (e, x) (omega arith)) (cases_Bool (bytes_eq a.ns xml_namespace)))
    (cases_Bool (is_empty a.ns))

pub all_written : (n : ℕ) (attrs : List Attribute) → length (spelled_attributes n attrs) ≤ 2 * length attrs
all_written n [] = omega arith
all_written n (a ∷ more) =
    let one = one_written n a in
    let rest = all_written (next_number n a) more in
    omega (arith, one, rest, length-append (spelled_attribute n a) (spelled_attributes (next_number n a) more))

pub default_written : (default ns : List ℕ) → length (declared_default default ns) ≤ 1
unfolding declared_default
default_written default ns =
    ⊎_elim (λ (e : declares_default default ns ≡ true). rw e (omega arith)) (λ (e : declares_default default ns ≡ false). rw e (omega arith)) (cases_Bool (declares_default default ns))

written_count : (default ns : List ℕ) (attrs : List Attribute) → length (tag_attributes default ns attrs) ≤ 2 * length attrs + 1
written_count default ns attrs =
    let one = default_written default ns in
    let rest = all_written 0 attrs in
    omega (arith, one, rest, length-append (declared_default default ns) (spelled_attributes 0 attrs))

-- ---- how many are read

longest : (o : Ordering) (xs ys zs : List Attribute) (n : ℕ) → length xs ≤ n → length ys ≤ n → length zs ≤ n → length (match_ordering o xs ys zs) ≤ n
longest Less xs ys zs n h k l = h
longest Equal xs ys zs n h k l = k
longest Greater xs ys zs n h k l = l

put_count : (a : Attribute) (bs : List Attribute) → length (put_attribute a bs) ≤ suc (length bs)
put_count a [] = omega arith
put_count a (b ∷ bs) =
    let ih = put_count a bs in
    longest (name_order a b) (a ∷ b ∷ bs) (a ∷ bs) (b ∷ put_attribute a bs) (suc (suc (length bs))) (omega arith) (omega arith) (omega (arith, ih))

sorted_count : (xs : List Attribute) → length (sorted_attributes xs) ≤ length xs
sorted_count [] = omega arith
sorted_count (a ∷ xs) = let ih = sorted_count xs in omega (arith, ih, put_count a (sorted_attributes xs))

map_count : (es : List ExpandedAttribute) → length (map attribute_of es) ≡ length es
map_count [] = refl
map_count (e ∷ es) = let ih = map_count es in omega (arith, ih)

zip_count : (scope : Scope) (xs : List tokens.Attribute) (es : List ExpandedAttribute) → AllZip (IsExpanded scope) xs es → length es ≡ length xs
zip_count scope [] [] z = refl
zip_count scope [] (e ∷ es) z = absurd z
zip_count scope (x ∷ xs) [] z = absurd z
zip_count scope (x ∷ xs) (e ∷ es) z = let ih = zip_count scope xs es z.1 in omega (arith, ih)

one_other : (o : Option (List ℕ)) (a : tokens.Attribute) (more : List tokens.Attribute) (n : ℕ) → length more ≤ n → length (unless_binding o a more) ≤ suc n
one_other None a more n h = omega (arith, h)
one_other (Some p) a more n h = omega (arith, h)

others_count : (xs : List tokens.Attribute) → length (others_of xs) ≤ length xs
others_count [] = omega arith
others_count (a ∷ more) = one_other (declared_prefix a.name) a (others_of more) (length more) (others_count more)

-- ---- the names of namespaces

-- the namespace of `xml`, or a short name
abbrev IsKnown : ℕ → List ℕ → Type 0
IsKnown most ns = (ns ≡ xml_namespace) ⊎ (length (spelled_value ns) ≤ most)

first_short : (most : ℕ) (scope : Scope) (prefix ns : List ℕ) → AllByRecursion (IsShort most) scope → first_bound scope prefix ≡ Some ns → length (spelled_value ns) ≤ most
first_short most [] prefix ns h e = absurd cc
first_short most (b ∷ outer) prefix ns h e =
    ⊎_elim (λ here. subst (λ n. length (spelled_value n) ≤ most) (same_Some b.ns ns here.1) h.0) (λ there. first_short most outer prefix ns h.1 there.1)
    (chosen (bytes_eq b.prefix prefix) (Some b.ns) (first_bound outer prefix) (Some ns) e)

bound_known : (most : ℕ) (scope : Scope) (prefix ns : List ℕ) → AllByRecursion (IsShort most) scope → bound scope prefix ≡ Some ns → IsKnown most ns
unfolding bound
bound_known most scope prefix ns h e =
    ⊎_elim (λ xml. inl (sym (same_Some xml_namespace ns xml.1))) (λ other. inr (first_short most scope prefix ns h other.1))
    (chosen (bytes_eq prefix (codes "xml")) (Some xml_namespace) (first_bound scope prefix) (Some ns) e)

none_known : (most : ℕ) (ns : List ℕ) → ns ≡ [] → IsKnown most ns
none_known most ns is = inr (subst (λ n. length (spelled_value n) ≤ most) (sym is) (omega arith))

default_known : (most : ℕ) (scope : Scope) (ns : List ℕ) (o : Option (List ℕ)) → AllByRecursion (IsShort most) scope → bound scope [] ≡ o → ns ≡ unwrap_or o [] → IsKnown most ns
default_known most scope ns None h is e = none_known most ns e
default_known most scope ns (Some x) h is e = bound_known most scope [] ns h (is ∙ ap Some (sym e))

element_known : (most : ℕ) (scope : Scope) (prefix ns : List ℕ) → AllByRecursion (IsShort most) scope → IsElementIn scope prefix ns → IsKnown most ns
element_known most scope prefix ns h (inl (none, is)) = default_known most scope ns (bound scope []) h refl is
element_known most scope prefix ns h (inr (some, other, is)) = bound_known most scope prefix ns h is

declares_no_xml : (default ns : List ℕ) → declares_default default ns ≡ true → ns ≢ xml_namespace
declares_no_xml default ns due is =
    let no : declares_default default xml_namespace ≡ false = refl in
    false≢true (sym no ∙ ap (declares_default default) (sym is) ∙ due)

foreign_no_xml : (a : Attribute) → is_foreign a ≡ true → a.ns ≢ xml_namespace
foreign_no_xml a due is =
    let same : (is_empty xml_namespace || bytes_eq xml_namespace xml_namespace) ≡ true = refl in
    false≢true (sym (ap not same) ∙ ap (λ n. not (is_empty n || bytes_eq n xml_namespace)) (sym is) ∙ due)

known_short : (most : ℕ) (ns : List ℕ) → ns ≢ xml_namespace → IsKnown most ns → length (spelled_value ns) ≤ most
known_short most ns other (inl is) = absurd (other is)
known_short most ns other (inr short) = short

attributes_known : (most : ℕ) (scope : Scope) (xs : List tokens.Attribute) (es : List ExpandedAttribute) → AllByRecursion (IsShort most) scope → AllZip (IsExpanded scope) xs es
    → AllByRecursion (λ (a : Attribute). IsKnown most a.ns) (map attribute_of es)
attributes_known most scope [] [] h z = tt
attributes_known most scope [] (e ∷ es) h z = absurd z
attributes_known most scope (x ∷ xs) [] h z = absurd z
attributes_known most scope (x ∷ xs) (e ∷ es) h z = (
  ⊎_elim (λ none. none_known most e.ns none.1) (λ some. bound_known most scope z.0.0 e.ns h some.1) z.0.2,
  attributes_known most scope xs es h z.1,
)

-- ---- tags

-- limits of what is read, and of what is written
record Wider (read most : TagLimits) : Type 0 where
  attributes : 2 * read.attributes + 1 ≤ most.attributes
  names : read.namespace_bytes ≤ most.namespace_bytes

all_short : (read most : TagLimits) (xs : List Attribute) → Wider read most → AllByRecursion (λ (a : Attribute). IsKnown read.namespace_bytes a.ns) xs → AllByRecursion (IsShortAttribute most) xs
all_short read most [] w h = tt
all_short read most (a ∷ xs) w h = (
  (λ due. let short = known_short read.namespace_bytes a.ns (foreign_no_xml a due) h.0 in let wide = w.names in omega (arith, short, wide)),
  all_short read most xs w h.1,
)

inner_short : (read : TagLimits) (scope : Scope) (raw : List tokens.Attribute) (t : Tag) → AllByRecursion (IsShort read.namespace_bytes) scope → IsWithin read raw t
    → AllByRecursion (IsShort read.namespace_bytes) (t.bindings ++ scope)
inner_short read scope raw t s within =
    recursion_from_All (IsShort read.namespace_bytes) (t.bindings ++ scope) (All-append (IsShort read.namespace_bytes) t.bindings scope within.1 (All-from_recursion (IsShort read.namespace_bytes) scope s))

tag_fits : (read most : TagLimits) (default : List ℕ) (scope : Scope) (bytes : List ℕ) (raw : List tokens.Attribute) (t : Tag) → Wider read most → AllByRecursion (IsShort read.namespace_bytes) scope
    → IsStart scope bytes raw t → IsWithin read raw t → TagFits most default t.ns (sorted_attributes (map attribute_of t.attributes))
tag_fits read most default scope bytes raw t w s start within =
    let inner = inner_short read scope raw t s within in
    let given = map attribute_of t.attributes in
    let names : read.namespace_bytes ≤ most.namespace_bytes = w.names in
    let few : length raw ≤ read.attributes = within.0 in
    let room : 2 * read.attributes + 1 ≤ most.attributes = w.attributes in
    let count : length (sorted_attributes given) ≤ length raw =
    omega (arith, sorted_count given, map_count t.attributes, zip_count (t.bindings ++ scope) (others_of raw) t.attributes start.others, others_count raw) in
    record {
      attributes = omega (arith, written_count default t.ns (sorted_attributes given), count, few, room);
      declared = λ due. let short = known_short read.namespace_bytes t.ns (declares_no_xml default t.ns due) (element_known read.namespace_bytes (t.bindings ++ scope) start.prefix t.ns inner start.element) in omega (arith, short, names);
      prefixed = all_short read most (sorted_attributes given) w
          (sorted_each (λ (a : Attribute). IsKnown read.namespace_bytes a.ns) given (attributes_known read.namespace_bytes (t.bindings ++ scope) (others_of raw) t.attributes inner start.others));
    }

-- ---- elements

begun_fits : (most : TagLimits) (default : List ℕ) (t : Tag) (kids : Nodes) (e : Elem) → IsBegun t kids e → TagFits most default t.ns (sorted_attributes (map attribute_of t.attributes))
    → NodesFit most (default_inside default t.ns) kids → TagsFit most default e
begun_fits most default t kids e begun here inside = subst (TagsFit most default) (sym (begun_is t kids e begun)) (here, inside)

only_text_fits : (most : TagLimits) (default says : List ℕ) → NodesFit most default (text_node says)
only_text_fits most default [] = tt
only_text_fits most default (c ∷ cs) = tt

text_fits : (most : TagLimits) (default says : List ℕ) (more : Nodes) → NodesFit most default more → NodesFit most default (joined (text_node says) more)
text_fits most default [] more h = h
text_fits most default (c ∷ cs) more h = h

mutual
  element_fits : (read most : TagLimits) (default : List ℕ) (scope : Scope) (bytes : List ℕ) (e : Elem) (h : Spells scope bytes e) → Wider read most → AllByRecursion (IsShort read.namespace_bytes) scope
      → AreTagsWithin read scope bytes e h → TagsFit most default e
  element_fits read most default scope bytes e (empty _ _ _ raw t start is_empty begun) w s within = begun_fits most default t no_nodes e begun (tag_fits read most default scope bytes raw t w s start within) tt
  element_fits read most default scope bytes e (filled _ _ _ raw t front inside close kids start not_empty content end bytes_are begun) w s within =
      begun_fits most default t kids e begun (tag_fits read most default scope front raw t w s start within.0)
      (content_fits read most (default_inside default t.ns) (t.bindings ++ scope) inside kids content w (inner_short read scope raw t s within.0) within.1)

  content_fits : (read most : TagLimits) (default : List ℕ) (scope : Scope) (bytes : List ℕ) (kids : Nodes) (h : SpellsContent scope bytes kids) → Wider read most
      → AllByRecursion (IsShort read.namespace_bytes) scope → AreTagsWithinContent read scope bytes kids h → NodesFit most default kids
  content_fits read most default scope bytes kids (text_alone _ _ _ says is_text kids_are) w s within = subst (NodesFit most default) (sym kids_are) (only_text_fits most default says)
  content_fits read most default scope bytes kids (with_element _ _ _ front says middle rest e more is_text spelled content bytes_are kids_are) w s within =
      subst (NodesFit most default) (sym kids_are) (text_fits most default says (child e more)
      (element_fits read most default scope middle e spelled w s within.0, content_fits read most default scope rest more content w s within.1))

pub read_fits : (read most : Limits) (scope : Scope) (bytes : List ℕ) (e : Elem) (spelled : Spells scope bytes e) → All (IsShort read.namespace_bytes) scope → IsElementWithin read scope bytes e spelled
    → 2 * read.attributes + 1 ≤ most.attributes → read.namespace_bytes ≤ most.namespace_bytes → read.depth ≤ most.depth → length (canon e) ≤ most.bytes → Fits most e
read_fits read most scope bytes e spelled s within few names deep short =
    let shallow = within.shallow in
    record {
      short = short;
      shallow = omega (arith, shallow, deep);
      tags = element_fits (tag_limits read) (tag_limits most) client_namespace scope bytes e spelled (record { attributes = few; names = names })
          (recursion_from_All (IsShort read.namespace_bytes) scope s) within.tags;
    }

pub relayed_fits : (scope : Scope) (bytes : List ℕ) (e : Elem) (spelled : Spells scope bytes e) → All (IsShort server_limits.namespace_bytes) scope → IsElementWithin server_limits scope bytes e spelled
    → length (canon e) ≤ client_limits.bytes → Fits client_limits e
relayed_fits scope bytes e spelled s within short = read_fits server_limits client_limits scope bytes e spelled s within (omega arith) (omega arith) (omega arith) short

pub header_scope_short : (limits : Limits) (bytes name : List ℕ) (scope : Scope) (h : Header) (spelled : SpellsHeader bytes name scope h) → IsHeaderWithin limits bytes name scope h spelled
    → All (IsShort limits.namespace_bytes) scope
header_scope_short limits bytes name scope h spelled within = subst (All (IsShort limits.namespace_bytes)) spelled.scope_is within.tag.1

-- ---- what was read is passed on

pub passed_on : (s : State) (items : List Item) (read : Limits) (scope : Scope) (bytes : List ℕ) (e : Elem) (spelled : SpellsTop scope bytes e) → IsPlainScope scope → All (IsShort read.namespace_bytes) scope
    → IsElementWithin read scope bytes e spelled.spelled → 2 * read.attributes + 1 ≤ s.limits.attributes → read.namespace_bytes ≤ s.limits.namespace_bytes → read.depth ≤ s.limits.depth
    → length (canon e) ≤ s.limits.bytes → StandsOutside s phase.Between written_scope (codes "stream:stream")
    → Gives s items (canon e) (item.Element e) phase.Between written_scope (codes "stream:stream")
passed_on s items read scope bytes e spelled plain short within few names deep room stands =
    written_element_is_read s items e (spelled_tree scope bytes e spelled.spelled) (top_is_plain scope bytes e plain spelled)
    (read_fits read s.limits scope bytes e spelled.spelled short within few names deep room) stands
