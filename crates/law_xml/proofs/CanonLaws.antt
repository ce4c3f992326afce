-- What is written for a plain tree spells it.
use Rattle.std.proofs.Common.{◌≡◌, ◌≢◌, ℕ, inl, inr, Bool, true, false, eqb, not, cond, ◌||◌, List, [], ◌∷◌, ◌++◌, map, codes, bytes_eq, Some, refl, sym, ap, subst, ◌∙◌, ⊎_elim, append_assoc, append-nil, arith}
use Rattle.std.proofs.lemmas.Bool.{cases_Bool, and_parts, and_from, or_parts, false≢true, cond-true, cond-false, not-true, not-false}
use Rattle.std.proofs.lemmas.List.Elements.{All-from_recursion}
use Rattle.std.proofs.lemmas.List.Kept.{AllPairs-cons}
use Rattle.std.proofs.lemmas.Slice.Eq.{bytes_eq-Decides}
use Rattle.std.specs.List.{AllByRecursion, AllPairs, AllZip, list_all}
use Rattle.std.specs.List.Sorted.{IsStrictlySortedBy}
use Rattle.std.specs.Option.{unwrap_or}
use Rattle.xml_tokens.proofs.RoundTrips.{no_quote, value_is_read_back, value_unquoted}
use Rattle.xml_tokens.proofs.ValueSpellings.{is_value}
use Rattle.xml_tokens.specs.Spelling.{spelled_text, spelled_value}
use Rattle.xml_tokens.specs.Tags as tokens
use Rattle.xml_tokens.specs.Tags.{AreAttributes, IsAttribute, IsTag, end_tag, is_qualified, names_of, tag_end}
use Rattle.xml_names.specs.Declarations.{MayDeclare, bindings_of, declared_prefix, others_of}
use Rattle.xml_names.specs.Expansion.{Name, name_of}
use Rattle.xml_names.specs.Grammar.{IsElementIn, IsExpanded, IsStart}
use Rattle.xml_names.specs.Names.{IsName}
use Rattle.xml_names.specs.Scopes.{Scope, bound, first_bound, xml_namespace}
use Rattle.xml_names.specs.Starts.{Tag}
use Rattle.xml_trees.specs.Attributes.{Attribute, found, name_order}
use Rattle.xml_framer.specs.Expanded.{attribute_of}
use Rattle.xml_writer.specs.Canon.{assignment, assignments, canon, client_namespace, declared_default, declares_default, default_inside, has_prefix, opened, spelled, spelled_attributes, spelled_name, streams_namespace, tag_attributes, written, written_end_tag, written_nodes}
use Rattle.law_xml.specs.Plain.{ArePlainNodes, HasPlainName, IsPlain, IsPlainElement}
use Rattle.law_xml.specs.Spells.{IsBegun, Spells, SpellsContent, SpellsTop, bind, empty, filled, text_alone, with_element, written_scope}
use Rattle.law_xml.specs.Texts.{IsText}
use Rattle.xml_trees.specs.Tidied.{text_node}
use Rattle.xml_trees.specs.Trees.{AreTidy, Elem, IsTree, Nodes, element, no_nodes, child, text, joined}
use Rattle.law_xml.proofs.SpelledAttributes.{Above, Apart, ArePlain, Bounded, all_bounded, all_may, all_said, binds_one, default_first, expanded, here_bound, is_no_other, name_differs, names_apart, outer_bound}
use Rattle.law_xml.proofs.SpelledNames.{name_no_colon, name_qualified, numbered_prefix, prefixed_qualified, stream_plain, xml_plain, xmlns_plain}
use Rattle.base_lemmas.proofs.Bytes.{other-from_bytes_eq}
use Rattle.law_xml.proofs.SpelledTexts.{no_text, text_spelled}

-- ---- attributes in the bytes of a tag

unquoted : (bs : List ℕ) → list_all no_quote bs ≡ true → list_all (λ b. not (eqb b 39)) bs ≡ true
unquoted [] h = refl
unquoted (b ∷ bs) h = let p = and_parts (no_quote b) (list_all no_quote bs) h in and_from _ _ (and_parts (not (eqb b 39)) (not (eqb b 60)) p.0).0 (unquoted bs p.1)

assigned : (name raw rest : List ℕ) → (32 ∷ (name ++ (61 ∷ 39 ∷ (raw ++ (39 ∷ []))))) ++ rest ≡ 32 ∷ (name ++ (61 ∷ (39 ∷ (raw ++ (39 ∷ rest)))))
assigned name raw rest =
    ap (λ l. 32 ∷ l) (append_assoc name (61 ∷ 39 ∷ (raw ++ (39 ∷ []))) rest ∙ ap (λ l. name ++ (61 ∷ 39 ∷ l)) (append_assoc raw (39 ∷ []) rest))

one_attribute : (a : tokens.Attribute) (rest : List ℕ) → Bounded a → IsAttribute (assignment a ++ rest) a rest
unfolding assignment
one_attribute a rest h = (
  spelled_value a.value,
  record {
    space = 32 ∷ [];
    before = [];
    after = [];
    quote = 39;
    bytes_are = assigned a.name (spelled_value a.value) rest;
    some_space = λ e. false≢true (ap tokens.is_empty e);
    space_white = refl;
    name_is = h.name;
    before_white = refl;
    after_white = refl;
    quote_is = refl;
    raw_inside = unquoted (spelled_value a.value) (value_unquoted a.value);
  },
  is_value (spelled_value a.value) a.value (value_is_read_back a.value h.value.utf8 h.value.characters),
)

pub attributes_spelled : (xs : List tokens.Attribute) (rest : List ℕ) → AllByRecursion Bounded xs → AreAttributes (assignments xs ++ rest) xs rest
attributes_spelled [] rest h = refl
attributes_spelled (a ∷ xs) rest h = (
  assignments xs ++ rest,
  subst (λ l. IsAttribute l a (assignments xs ++ rest)) (sym (append_assoc (assignment a) (assignments xs) rest)) (one_attribute a (assignments xs ++ rest) h.0),
  attributes_spelled xs rest h.1,
)

-- ---- a tag's attributes and declarations

-- what is in force: a default namespace, and the prefix `stream`
pub record InForce (scope : Scope) (d : List ℕ) : Type 0 where
  pub default : unwrap_or (bound scope []) [] ≡ d
  pub stream : bound scope (codes "stream") ≡ Some streams_namespace

record Tagged (scope : Scope) (d ns : List ℕ) (attrs : List Attribute) (xs : List tokens.Attribute) : Type 0 where
  bounded : AllByRecursion Bounded xs
  distinct : Apart (names_of xs)
  may : AllByRecursion MayDeclare (bindings_of xs)
  inside : InForce (bindings_of xs ++ scope) (default_inside d ns)
  others : AllZip (IsExpanded (bindings_of xs ++ scope)) (others_of xs) (map expanded attrs)

no_number : (n : ℕ) → [] ≢ numbered_prefix n
no_number n = other-from_bytes_eq [] (numbered_prefix n) refl

stream_no_number : (n : ℕ) → codes "stream" ≢ numbered_prefix n
stream_no_number n = other-from_bytes_eq (codes "stream") (numbered_prefix n) refl

default_may : (ns name : List ℕ) → HasPlainName ns name → bytes_eq ns xml_namespace ≡ false → MayDeclare (bind [] ns)
default_may ns name h other = record {
  xml_alone = (λ e. absurd (other-from_bytes_eq [] (codes "xml") refl e), λ e. absurd (other-from_bytes_eq ns xml_namespace other e));
  not_xmlns = other-from_bytes_eq [] (codes "xmlns") refl;
  not_its_name = h.not_xmlns;
  not_undeclared = λ e. refl;
}

-- no default namespace is declared
kept_default : (scope : Scope) (d ns name : List ℕ) (attrs : List Attribute) → InForce scope d → ArePlain attrs → IsStrictlySortedBy name_order attrs → default_inside d ns ≡ d
    → Tagged scope d ns attrs (spelled_attributes 0 attrs)
unfolding bound
kept_default scope d ns name attrs f plain sorted same =
    let xs = spelled_attributes 0 attrs in
    record {
      bounded = all_bounded 0 attrs plain;
      distinct = names_apart 0 attrs plain sorted;
      may = all_may 0 attrs plain;
      inside = record {
        default = ap (λ o. unwrap_or o []) (outer_bound 0 attrs plain [] scope no_number) ∙ f.default ∙ sym same;
        stream = outer_bound 0 attrs plain (codes "stream") scope stream_no_number ∙ f.stream;
      };
      others = all_said 0 attrs plain [] scope (λ m le outer. refl);
    }

pub declares_empty : declared_prefix (codes "xmlns") ≡ Some []
unfolding declared_prefix
declares_empty = refl

pub default_is_declared : (ns : List ℕ) (xs : List tokens.Attribute) → bindings_of (spelled (codes "xmlns") ns ∷ xs) ≡ bind [] ns ∷ bindings_of xs
default_is_declared ns xs = binds_one (spelled (codes "xmlns") ns) xs [] declares_empty

default_is_no_other : (ns : List ℕ) (xs : List tokens.Attribute) → others_of (spelled (codes "xmlns") ns ∷ xs) ≡ others_of xs
default_is_no_other ns xs = is_no_other (spelled (codes "xmlns") ns) xs [] declares_empty

xmlns_qualified : is_qualified (codes "xmlns") ≡ true
xmlns_qualified = name_qualified (codes "xmlns") xmlns_plain

-- a default namespace is declared
new_default : (scope : Scope) (d ns name : List ℕ) (attrs : List Attribute) → InForce scope d → HasPlainName ns name → ArePlain attrs → IsStrictlySortedBy name_order attrs → default_inside d ns ≡ ns → bytes_eq ns xml_namespace ≡ false
    → Tagged scope d ns attrs (spelled (codes "xmlns") ns ∷ spelled_attributes 0 attrs)
unfolding bound
new_default scope d ns name attrs f h plain sorted new other =
    let xs = spelled_attributes 0 attrs in
    let x = spelled (codes "xmlns") ns in
    let b : bind [] ns ∷ bindings_of xs ≡ bindings_of (x ∷ xs) = sym (default_is_declared ns xs) in
    let stream_is : first_bound (bind [] ns ∷ (bindings_of xs ++ scope)) (codes "stream") ≡ Some streams_namespace = outer_bound 0 attrs plain (codes "stream") scope stream_no_number ∙ f.stream in
    record {
      bounded = (record { name = xmlns_qualified; value = h.characters }, all_bounded 0 attrs plain);
      distinct = default_first 0 attrs plain sorted;
      may = subst (AllByRecursion MayDeclare) b (default_may ns name h other, all_may 0 attrs plain);
      inside = subst (λ bs. InForce (bs ++ scope) (default_inside d ns)) b (record { default = ap (λ o. unwrap_or o []) (here_bound [] ns (bindings_of xs ++ scope)) ∙ sym new; stream = stream_is });
      others = subst (λ bs. AllZip (IsExpanded (bs ++ scope)) (others_of (x ∷ xs)) (map expanded attrs)) b
          (subst (λ os. AllZip (IsExpanded ((bind [] ns ∷ bindings_of xs) ++ scope)) os (map expanded attrs)) (sym (default_is_no_other ns xs))
          (all_said 0 attrs plain (bind [] ns ∷ []) scope (λ m le outer. refl)));
    }

tagged : (scope : Scope) (d ns name : List ℕ) (attrs : List Attribute) → InForce scope d → HasPlainName ns name → ArePlain attrs → IsStrictlySortedBy name_order attrs → Tagged scope d ns attrs (tag_attributes d ns attrs)
unfolding declared_default default_inside
tagged scope d ns name attrs f h plain sorted =
    ⊎_elim
    (λ (due : declares_default d ns ≡ true).
    let apart = or_parts (has_prefix ns) (bytes_eq ns d) (not-true _ due) in
    let none = or_parts (bytes_eq ns streams_namespace) (bytes_eq ns xml_namespace) apart.0 in
    subst (Tagged scope d ns attrs) (sym (ap (λ l. l ++ spelled_attributes 0 attrs) (cond-true (declares_default d ns) (spelled (codes "xmlns") ns ∷ []) [] due)))
    (new_default scope d ns name attrs f h plain sorted (cond-false (has_prefix ns) d ns apart.0) none.1))
    (λ (free : declares_default d ns ≡ false).
    subst (Tagged scope d ns attrs) (sym (ap (λ l. l ++ spelled_attributes 0 attrs) (cond-false (declares_default d ns) (spelled (codes "xmlns") ns ∷ []) [] free)))
    (kept_default scope d ns name attrs f plain sorted
    (⊎_elim
    (λ (prefixed : has_prefix ns ≡ true). cond-true (has_prefix ns) d ns prefixed)
    (λ (other : has_prefix ns ≡ false).
    cond-false (has_prefix ns) d ns other ∙ (bytes_eq-Decides ns d).0 (not-false _ (subst (λ b. not (b || bytes_eq ns d) ≡ false) other free)))
    (cases_Bool (has_prefix ns)))))
    (cases_Bool (declares_default d ns))

-- ---- a tag

expanded_above : (a : Attribute) (more : List Attribute) → Above a more → AllByRecursion (λ m. name_of (expanded a) ≢ m) (map name_of (map expanded more))
expanded_above a [] h = tt
expanded_above a (b ∷ bs) h = (λ e. name_differs a b h.0 (ap (λ (n : Name). n.ns) e) (ap (λ (n : Name). n.name) e), expanded_above a bs h.1)

expanded_differ : (attrs : List Attribute) → IsStrictlySortedBy name_order attrs → AllPairs (λ a b. a ≢ b) (map name_of (map expanded attrs))
unfolding IsStrictlySortedBy
expanded_differ [] h = λ i j d less within. absurd (omega (arith, within))
expanded_differ (a ∷ more) h =
    AllPairs-cons (λ a b. a ≢ b) (name_of (expanded a)) (map name_of (map expanded more))
    (All-from_recursion (λ m. name_of (expanded a) ≢ m) (map name_of (map expanded more)) (expanded_above a more h.0)) (expanded_differ more h.1)

abbrev pub tag : List ℕ → List ℕ → List ℕ → List Attribute → Bool → Tag
tag d ns name attrs ends = record { spelled = spelled_name ns name; ns = ns; name = name; attributes = map expanded attrs; bindings = bindings_of (tag_attributes d ns attrs); empty = ends }

-- the prefix of a name, and what it says
record Prefixed (scope : Scope) (ns name : List ℕ) : Type 0 where
  qualified : is_qualified (spelled_name ns name) ≡ true
  prefix : List ℕ
  parts : IsName (spelled_name ns name) prefix name
  element : IsElementIn scope prefix ns

-- the prefix `xml` is always bound
xml_is_bound : (scope : Scope) → bound scope (codes "xml") ≡ Some xml_namespace
unfolding bound
xml_is_bound scope = refl

-- the name of an element that isn't in the streams namespace
abbrev unless_xml : List ℕ → List ℕ → List ℕ
unless_xml ns name = cond (bytes_eq ns xml_namespace) (codes "xml:" ++ name) name

prefixed_name : (scope : Scope) (d ns name : List ℕ) → InForce scope (default_inside d ns) → HasPlainName ns name → Prefixed scope ns name
unfolding spelled_name default_inside
prefixed_name scope d ns name f h =
    ⊎_elim
    (λ (streams : bytes_eq ns streams_namespace ≡ true).
    let is = cond-true (bytes_eq ns streams_namespace) (codes "stream:" ++ name) (unless_xml ns name) streams in
    let same = (bytes_eq-Decides ns streams_namespace).0 streams in
    record {
      qualified = ap is_qualified is ∙ prefixed_qualified (codes "stream") name stream_plain h.name_is;
      prefix = codes "stream";
      parts = subst (λ l. IsName l (codes "stream") name) (sym is) (inl (refl, refl));
      element = inr (other-from_bytes_eq (codes "stream") [] refl, other-from_bytes_eq (codes "stream") (codes "xmlns") refl, f.stream ∙ ap Some (sym same));
    })
    (λ (other : bytes_eq ns streams_namespace ≡ false).
    let or_xml = cond-false (bytes_eq ns streams_namespace) (codes "stream:" ++ name) (unless_xml ns name) other in
    ⊎_elim
    (λ (xml : bytes_eq ns xml_namespace ≡ true).
    let is = or_xml ∙ cond-true (bytes_eq ns xml_namespace) (codes "xml:" ++ name) name xml in
    let same = (bytes_eq-Decides ns xml_namespace).0 xml in
    record {
      qualified = ap is_qualified is ∙ prefixed_qualified (codes "xml") name xml_plain h.name_is;
      prefix = codes "xml";
      parts = subst (λ l. IsName l (codes "xml") name) (sym is) (inl (refl, refl));
      element = inr (other-from_bytes_eq (codes "xml") [] refl, other-from_bytes_eq (codes "xml") (codes "xmlns") refl, xml_is_bound scope ∙ ap Some (sym same));
    })
    (λ (neither : bytes_eq ns xml_namespace ≡ false).
    let is = or_xml ∙ cond-false (bytes_eq ns xml_namespace) (codes "xml:" ++ name) name neither in
    let none : has_prefix ns ≡ false = ap (λ b. b || bytes_eq ns xml_namespace) other ∙ neither in
    record {
      qualified = ap is_qualified is ∙ name_qualified name h.name_is;
      prefix = [];
      parts = subst (λ l. IsName l [] name) (sym is) (inr (refl, refl, name_no_colon name h.name_is.is_name));
      element = inl (refl, sym (f.default ∙ cond-false (has_prefix ns) d ns none));
    })
    (cases_Bool (bytes_eq ns xml_namespace)))
    (cases_Bool (bytes_eq ns streams_namespace))

pub record Started (scope : Scope) (d ns name : List ℕ) (attrs : List Attribute) : Type 0 where
  pub start : (ends : Bool) → IsStart scope (opened d ns name attrs ++ tag_end ends) (tag_attributes d ns attrs) (tag d ns name attrs ends)
  pub inside : InForce (bindings_of (tag_attributes d ns attrs) ++ scope) (default_inside d ns)
  pub close : IsTag (written_end_tag ns name) (end_tag (spelled_name ns name))

pub started : (scope : Scope) (d ns name : List ℕ) (attrs : List Attribute) → InForce scope d → HasPlainName ns name → ArePlain attrs → IsStrictlySortedBy name_order attrs → Started scope d ns name attrs
started scope d ns name attrs f h plain sorted =
    let xs = tag_attributes d ns attrs in
    let t = tagged scope d ns name attrs f h plain sorted in
    let p = prefixed_name (bindings_of xs ++ scope) d ns name t.inside h in
    record {
      start = λ ends. record {
        spelled = record {
          inside = assignments xs ++ tag_end ends;
          space = [];
          bytes_are = ap (λ l. 60 ∷ l) (append_assoc (spelled_name ns name) (assignments xs) (tag_end ends));
          name_is = p.qualified;
          inside_is = attributes_spelled xs (tag_end ends) t.bounded;
          space_white = refl;
          distinct = t.distinct;
        };
        declarations = refl;
        may_be_made = All-from_recursion MayDeclare (bindings_of xs) t.may;
        prefix = p.prefix;
        name_is = p.parts;
        element = p.element;
        others = t.others;
        distinct = expanded_differ attrs sorted;
      };
      inside = t.inside;
      close = record { space = []; bytes_are = refl; name_is = p.qualified; space_white = refl };
    }

-- ---- elements

same_attributes : (attrs : List Attribute) → map attribute_of (map expanded attrs) ≡ attrs
same_attributes [] = refl
same_attributes (a ∷ more) = ap (λ l. a ∷ l) (same_attributes more)

pub begun : (d ns name : List ℕ) (attrs : List Attribute) (kids : Nodes) (ends : Bool) → IsStrictlySortedBy name_order attrs → IsBegun (tag d ns name attrs ends) kids (element ns name attrs kids)
begun d ns name attrs kids ends sorted =
    record { attributes = attrs; sorted = record { ascending = sorted; firsts = λ ms nom. ap (found ms nom) (sym (same_attributes attrs)) }; is = refl }

abbrev Inside : Scope → List ℕ → List ℕ → List Attribute → Nodes → Type 0
Inside scope d ns attrs kids = SpellsContent (bindings_of (tag_attributes d ns attrs) ++ scope) (written_nodes (default_inside d ns) kids) kids

with_tags : (scope : Scope) (d ns name : List ℕ) (attrs : List Attribute) (kids : Nodes) → Started scope d ns name attrs → IsStrictlySortedBy name_order attrs → Inside scope d ns attrs kids
    → Spells scope (opened d ns name attrs ++ (62 ∷ (written_nodes (default_inside d ns) kids ++ written_end_tag ns name))) (element ns name attrs kids)
with_tags scope d ns name attrs kids s sorted inside =
    let within = written_nodes (default_inside d ns) kids in
    filled scope (opened d ns name attrs ++ (62 ∷ (within ++ written_end_tag ns name))) (element ns name attrs kids) (tag_attributes d ns attrs) (tag d ns name attrs false)
    (opened d ns name attrs ++ tag_end false) within (written_end_tag ns name) kids (s.start false) refl inside s.close
    (sym (append_assoc (opened d ns name attrs) (tag_end false) (within ++ written_end_tag ns name))) (begun d ns name attrs kids false sorted)

whole : (scope : Scope) (d ns name : List ℕ) (attrs : List Attribute) (kids : Nodes) → Started scope d ns name attrs → IsStrictlySortedBy name_order attrs → Inside scope d ns attrs kids
    → Spells scope (written d (element ns name attrs kids)) (element ns name attrs kids)
whole scope d ns name attrs no_nodes s sorted inside =
    empty scope (opened d ns name attrs ++ tag_end true) (element ns name attrs no_nodes) (tag_attributes d ns attrs) (tag d ns name attrs true) (s.start true) refl (begun d ns name attrs no_nodes true sorted)
whole scope d ns name attrs (child e rest) s sorted inside = with_tags scope d ns name attrs (child e rest) s sorted inside
whole scope d ns name attrs (text t rest) s sorted inside = with_tags scope d ns name attrs (text t rest) s sorted inside

pub one_text : (t : List ℕ) → t ≢ [] → text t no_nodes ≡ text_node t
one_text [] some = absurd (some refl)
one_text (b ∷ bs) some = refl

pub text_first : (t : List ℕ) (e : Elem) (more : Nodes) → t ≢ [] → text t (child e more) ≡ joined (text_node t) (child e more)
text_first [] e more some = absurd (some refl)
text_first (b ∷ bs) e more some = refl

mutual
  pub element_spelled : (scope : Scope) (d : List ℕ) (e : Elem) → InForce scope d → IsTree e → IsPlainElement e → Spells scope (written d e) e
  element_spelled scope d (element ns name attrs kids) f tree plain =
      let s = started scope d ns name attrs f plain.0 plain.1 tree.0 in
      whole scope d ns name attrs kids s tree.0 (nodes_spelled (bindings_of (tag_attributes d ns attrs) ++ scope) (default_inside d ns) kids s.inside tree.1 plain.2)

  pub nodes_spelled : (scope : Scope) (d : List ℕ) (kids : Nodes) → InForce scope d → AreTidy kids → ArePlainNodes kids → SpellsContent scope (written_nodes d kids) kids
  nodes_spelled scope d no_nodes f tidy plain = text_alone scope [] no_nodes [] no_text refl
  nodes_spelled scope d (child e rest) f tidy plain =
      with_element scope (written d e ++ written_nodes d rest) (child e rest) [] [] (written d e) (written_nodes d rest) e rest no_text
      (element_spelled scope d e f tidy.0 plain.0) (nodes_spelled scope d rest f tidy.1 plain.1) refl refl
  nodes_spelled scope d (text t no_nodes) f tidy plain =
      text_alone scope (spelled_text t ++ []) (text t no_nodes) t (subst (λ l. IsText l t) (sym (append-nil (spelled_text t))) (text_spelled t plain.0)) (one_text t tidy.0)
  nodes_spelled scope d (text t (child e more)) f tidy plain =
      with_element scope (spelled_text t ++ (written d e ++ written_nodes d more)) (text t (child e more)) (spelled_text t) t (written d e) (written_nodes d more) e more (text_spelled t plain.0)
      (element_spelled scope d e f tidy.2.0 plain.1.0) (nodes_spelled scope d more f tidy.2.1 plain.1.1) refl (text_first t e more tidy.0)
  nodes_spelled scope d (text t (text u more)) f tidy plain = absurd tidy.1

pub in_header : InForce written_scope client_namespace
unfolding bound
in_header = record { default = refl; stream = refl }

pub canon_spelled : (e : Elem) → IsTree e → IsPlain e → SpellsTop written_scope (canon e) e
canon_spelled e tree plain = record { spelled = element_spelled written_scope client_namespace e in_header tree plain.inside; no_header = plain.no_header }
