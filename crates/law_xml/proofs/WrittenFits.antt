-- What is written for a plain tree that fits spells it within the limits, and is read as it.
use Rattle.std.proofs.Common.{◌≡◌, ◌≢◌, ℕ, Bool, true, false, List, [], ◌∷◌, ◌++◌, codes, bytes_eq, Some, unwrap_or, refl, sym, subst, ⊎_elim, append_assoc, append-nil}
use Rattle.std.proofs.lemmas.Bool.{cases_Bool, cond-true, cond-false, false_from_ne_true}
use Rattle.std.proofs.lemmas.List.Elements.{All-from_recursion}
use Rattle.std.proofs.lemmas.Slice.Eq.{bytes_eq-Decides}
use Rattle.std.specs.List.{AllByRecursion}
use Rattle.std.specs.List.Sorted.{IsStrictlySortedBy}
use Rattle.xml_tokens.specs.Spelling.{spelled_text}
use Rattle.xml_tokens.specs.Tags.{is_empty, tag_end}
use Rattle.xml_names.specs.Declarations.{bindings_of}
use Rattle.xml_names.specs.Grammar.{IsShort, IsWithin}
use Rattle.xml_names.specs.Scopes.{Scope, bound, xml_namespace}
use Rattle.xml_names.specs.declared.limits.TagLimits.{TagLimits}
use Rattle.xml_trees.specs.Attributes.{Attribute, name_order}
use Rattle.xml_trees.specs.Trees.{AreTidy, Elem, IsTree, Nodes, child, element, no_nodes, text}
use Rattle.xml_framer.specs.States.{State}
use Rattle.xml_framer.specs.TagSteps.{tag_limits}
use Rattle.xml_framer.specs.declared.items.Item.{Item}
use Rattle.xml_framer.specs.declared.items.Item.TheVariants as item
use Rattle.xml_framer.specs.declared.limits.Limits.{Limits}
use Rattle.xml_framer.specs.declared.states.Phase.TheVariants as phase
use Rattle.xml_writer.specs.Canon.{canon, client_namespace, declared_default, declares_default, default_inside, is_foreign, opened, spelled, spelled_attributes, streams_namespace, tag_attributes, written, written_end_tag, written_nodes}
use Rattle.law_xml.specs.Fitting.{Fits, IsShortAttribute, NodesFit, TagFits, TagsFit}
use Rattle.law_xml.specs.Plain.{ArePlainNodes, IsPlain, IsPlainElement}
use Rattle.law_xml.specs.Spells.{Spells, SpellsContent, SpellsTop, empty, filled, text_alone, with_element, written_scope}
use Rattle.law_xml.specs.Standing.{Gives, StandsOutside}
use Rattle.law_xml.specs.Texts.{IsText}
use Rattle.law_xml.specs.Within.{AreTagsWithin, AreTagsWithinContent, IsElementWithin}
use Rattle.law_xml.proofs.CanonLaws.{InForce, Started, begun, default_is_declared, in_header, one_text, started, tag, text_first}
use Rattle.law_xml.proofs.ItemRuns.{element_gives}
use Rattle.law_xml.proofs.SpelledAttributes.{ArePlain, binds_nothing, by_attributes, foreign_bindings, other_name, other_xml}
use Rattle.law_xml.proofs.SpelledTexts.{no_text, text_spelled}

-- ---- the namespaces that a tag declares

foreign_is : (a : Attribute) → a.ns ≢ [] → a.ns ≢ xml_namespace → is_foreign a ≡ true
foreign_is a some other =
    let no_empty : is_empty a.ns ≡ false = some_namespace a.ns some in
    let no_xml : bytes_eq a.ns xml_namespace ≡ false = false_from_ne_true _ (λ t. other ((bytes_eq-Decides a.ns xml_namespace).0 t)) in
    rw (no_empty, no_xml) refl
  where
    some_namespace : (ns : List ℕ) → ns ≢ [] → is_empty ns ≡ false
    some_namespace [] h = absurd (h refl)
    some_namespace (b ∷ bs) h = refl

attributes_short : (limits : TagLimits) (n : ℕ) (attrs : List Attribute) → ArePlain attrs → AllByRecursion (IsShortAttribute limits) attrs
    → AllByRecursion (IsShort limits.namespace_bytes) (bindings_of (spelled_attributes n attrs))
attributes_short limits n attrs =
    by_attributes (λ n attrs xs. ArePlain attrs → AllByRecursion (IsShortAttribute limits) attrs → AllByRecursion (IsShort limits.namespace_bytes) (bindings_of xs))
    (λ n h k. tt)
    (λ n a more xs e ih h k. subst (AllByRecursion (IsShort limits.namespace_bytes)) (sym (binds_nothing (spelled a.name a.value) xs (other_name a h.0 e))) (ih h.1 k.1))
    (λ n a more xs e ih h k. subst (AllByRecursion (IsShort limits.namespace_bytes)) (sym (binds_nothing (spelled (codes "xml:" ++ a.name) a.value) xs (other_xml a.name))) (ih h.1 k.1))
    (λ n a more xs e x ih h k. subst (AllByRecursion (IsShort limits.namespace_bytes)) (sym (foreign_bindings n a xs)) (k.0 (foreign_is a e x), ih h.1 k.1))
    n attrs

bindings_short : (limits : TagLimits) (d ns : List ℕ) (attrs : List Attribute) → ArePlain attrs → TagFits limits d ns attrs → AllByRecursion (IsShort limits.namespace_bytes) (bindings_of (tag_attributes d ns attrs))
unfolding declared_default
bindings_short limits d ns attrs plain fits =
    let xs = spelled_attributes 0 attrs in
    let own = attributes_short limits 0 attrs plain fits.prefixed in
    ⊎_elim
    (λ (due : declares_default d ns ≡ true).
    subst (λ l. AllByRecursion (IsShort limits.namespace_bytes) (bindings_of (l ++ xs))) (sym (cond-true (declares_default d ns) (spelled (codes "xmlns") ns ∷ []) [] due))
    (subst (AllByRecursion (IsShort limits.namespace_bytes)) (sym (default_is_declared ns xs)) (fits.declared due, own)))
    (λ (free : declares_default d ns ≡ false).
    subst (λ l. AllByRecursion (IsShort limits.namespace_bytes) (bindings_of (l ++ xs))) (sym (cond-false (declares_default d ns) (spelled (codes "xmlns") ns ∷ []) [] free)) own)
    (cases_Bool (declares_default d ns))

tag_within : (limits : TagLimits) (d ns name : List ℕ) (attrs : List Attribute) (ends : Bool) → ArePlain attrs → TagFits limits d ns attrs → IsWithin limits (tag_attributes d ns attrs) (tag d ns name attrs ends)
tag_within limits d ns name attrs ends plain fits =
    (fits.attributes, All-from_recursion (IsShort limits.namespace_bytes) (bindings_of (tag_attributes d ns attrs)) (bindings_short limits d ns attrs plain fits))

-- ---- elements

pub record SpelledWithin (limits : TagLimits) (scope : Scope) (bytes : List ℕ) (e : Elem) : Type 0 where
  pub spelled : Spells scope bytes e
  pub within : AreTagsWithin limits scope bytes e spelled

pub record ContentWithin (limits : TagLimits) (scope : Scope) (bytes : List ℕ) (kids : Nodes) : Type 0 where
  pub spelled : SpellsContent scope bytes kids
  pub within : AreTagsWithinContent limits scope bytes kids spelled

abbrev Inside : TagLimits → Scope → List ℕ → List ℕ → List Attribute → Nodes → Type 0
Inside limits scope d ns attrs kids = ContentWithin limits (bindings_of (tag_attributes d ns attrs) ++ scope) (written_nodes (default_inside d ns) kids) kids

with_tags : (limits : TagLimits) (scope : Scope) (d ns name : List ℕ) (attrs : List Attribute) (kids : Nodes) → Started scope d ns name attrs → IsStrictlySortedBy name_order attrs
    → IsWithin limits (tag_attributes d ns attrs) (tag d ns name attrs false) → Inside limits scope d ns attrs kids
    → SpelledWithin limits scope (opened d ns name attrs ++ (62 ∷ (written_nodes (default_inside d ns) kids ++ written_end_tag ns name))) (element ns name attrs kids)
with_tags limits scope d ns name attrs kids s sorted fits inside =
    let content = written_nodes (default_inside d ns) kids in
    record {
      spelled = filled scope (opened d ns name attrs ++ (62 ∷ (content ++ written_end_tag ns name))) (element ns name attrs kids) (tag_attributes d ns attrs) (tag d ns name attrs false)
          (opened d ns name attrs ++ tag_end false) content (written_end_tag ns name) kids (s.start false) refl inside.spelled s.close
          (sym (append_assoc (opened d ns name attrs) (tag_end false) (content ++ written_end_tag ns name))) (begun d ns name attrs kids false sorted);
      within = (fits, inside.within);
    }

whole : (limits : TagLimits) (scope : Scope) (d ns name : List ℕ) (attrs : List Attribute) (kids : Nodes) → Started scope d ns name attrs → IsStrictlySortedBy name_order attrs
    → ((ends : Bool) → IsWithin limits (tag_attributes d ns attrs) (tag d ns name attrs ends)) → Inside limits scope d ns attrs kids → SpelledWithin limits scope (written d (element ns name attrs kids)) (element ns name attrs kids)
whole limits scope d ns name attrs no_nodes s sorted fits inside =
    record {
      spelled = empty scope (opened d ns name attrs ++ tag_end true) (element ns name attrs no_nodes) (tag_attributes d ns attrs) (tag d ns name attrs true) (s.start true) refl (begun d ns name attrs no_nodes true sorted);
      within = fits true;
    }
whole limits scope d ns name attrs (child e rest) s sorted fits inside = with_tags limits scope d ns name attrs (child e rest) s sorted (fits false) inside
whole limits scope d ns name attrs (text t rest) s sorted fits inside = with_tags limits scope d ns name attrs (text t rest) s sorted (fits false) inside

mutual
  pub element_within : (limits : TagLimits) (scope : Scope) (d : List ℕ) (e : Elem) → InForce scope d → IsTree e → IsPlainElement e → TagsFit limits d e → SpelledWithin limits scope (written d e) e
  element_within limits scope d (element ns name attrs kids) f tree plain fits =
      let s = started scope d ns name attrs f plain.0 plain.1 tree.0 in
      whole limits scope d ns name attrs kids s tree.0 (λ ends. tag_within limits d ns name attrs ends plain.1 fits.0)
      (nodes_within limits (bindings_of (tag_attributes d ns attrs) ++ scope) (default_inside d ns) kids s.inside tree.1 plain.2 fits.1)

  pub nodes_within : (limits : TagLimits) (scope : Scope) (d : List ℕ) (kids : Nodes) → InForce scope d → AreTidy kids → ArePlainNodes kids → NodesFit limits d kids → ContentWithin limits scope (written_nodes d kids) kids
  nodes_within limits scope d no_nodes f tidy plain fits = record { spelled = text_alone scope [] no_nodes [] no_text refl; within = tt }
  nodes_within limits scope d (child e rest) f tidy plain fits =
      let first = element_within limits scope d e f tidy.0 plain.0 fits.0 in
      let others = nodes_within limits scope d rest f tidy.1 plain.1 fits.1 in
      record {
        spelled = with_element scope (written d e ++ written_nodes d rest) (child e rest) [] [] (written d e) (written_nodes d rest) e rest no_text first.spelled others.spelled refl refl;
        within = (first.within, others.within);
      }
  nodes_within limits scope d (text t no_nodes) f tidy plain fits =
      record {
        spelled = text_alone scope (spelled_text t ++ []) (text t no_nodes) t (subst (λ l. IsText l t) (sym (append-nil (spelled_text t))) (text_spelled t plain.0)) (one_text t tidy.0);
        within = tt;
      }
  nodes_within limits scope d (text t (child e more)) f tidy plain fits =
      let first = element_within limits scope d e f tidy.2.0 plain.1.0 fits.0 in
      let others = nodes_within limits scope d more f tidy.2.1 plain.1.1 fits.1 in
      record {
        spelled = with_element scope (spelled_text t ++ (written d e ++ written_nodes d more)) (text t (child e more)) (spelled_text t) t (written d e) (written_nodes d more) e more (text_spelled t plain.0)
            first.spelled others.spelled refl (text_first t e more tidy.0);
        within = (first.within, others.within);
      }
  nodes_within limits scope d (text t (text u more)) f tidy plain fits = absurd tidy.1

-- ---- at the top

pub record TopWithin (limits : Limits) (scope : Scope) (e : Elem) : Type 0 where
  pub spelled : SpellsTop scope (canon e) e
  pub within : IsElementWithin limits scope (canon e) e spelled.spelled

pub top_within : (limits : Limits) (scope : Scope) (e : Elem) → InForce scope client_namespace → IsTree e → IsPlain e → Fits limits e → TopWithin limits scope e
top_within limits scope e f tree plain fits =
    let r = element_within (tag_limits limits) scope client_namespace e f tree plain.inside fits.tags in
    record { spelled = record { spelled = r.spelled; no_header = plain.no_header }; within = record { short = fits.short; shallow = fits.shallow; tags = r.within } }

pub element_is_read : (s : State) (items : List Item) (scope : Scope) (name : List ℕ) (e : Elem) → unwrap_or (bound scope []) [] ≡ client_namespace → bound scope (codes "stream") ≡ Some streams_namespace
    → IsTree e → IsPlain e → Fits s.limits e → StandsOutside s phase.Between scope name → Gives s items (canon e) (item.Element e) phase.Between scope name
element_is_read s items scope name e is stream tree plain fits stands =
    let r = top_within s.limits scope e (record { default = is; stream = stream }) tree plain fits in
    element_gives s items scope name (canon e) e (item.Element e) r.spelled stands r.within refl

pub written_element_is_read : (s : State) (items : List Item) (e : Elem) → IsTree e → IsPlain e → Fits s.limits e → StandsOutside s phase.Between written_scope (codes "stream:stream")
    → Gives s items (canon e) (item.Element e) phase.Between written_scope (codes "stream:stream")
written_element_is_read s items e tree plain fits stands =
    element_is_read s items written_scope (codes "stream:stream") e in_header.default in_header.stream tree plain fits stands
