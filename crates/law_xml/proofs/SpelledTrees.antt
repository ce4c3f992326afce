-- A spelled element keeps the rule of a tree, and is what its start tag begins with the nodes inside.
use Rattle.std.proofs.Common.{◌≡◌, ℕ, List, ◌++◌, map, sym, ap, subst, ◌∙◌}
use Rattle.xml_names.specs.Scopes.{Scope}
use Rattle.xml_names.specs.Starts.{Tag}
use Rattle.xml_trees.proofs.AttributeOrder.{one_IsAttrsOf, sorted_attributes_IsAttrsOf}
use Rattle.xml_trees.proofs.TidyLaws.{tidied_stays, tidy_end, tidy_text}
use Rattle.xml_trees.specs.Attributes.{Attribute, IsAttrsOf, sorted_attributes}
use Rattle.xml_framer.specs.Expanded.{attribute_of}
use Rattle.law_xml.specs.Spells.{IsBegun, Spells, SpellsContent, empty, filled, text_alone, with_element}
use Rattle.xml_framer.specs.TagSteps.{element_from}
use Rattle.xml_trees.specs.Tidied.{tidied}
use Rattle.xml_trees.specs.Trees.{AreTidy, Elem, IsTree, Nodes, child, element, no_nodes, with_nodes}

attributes_are : (given kept : List Attribute) → IsAttrsOf given kept → kept ≡ sorted_attributes given
attributes_are given kept h = one_IsAttrsOf given kept (sorted_attributes given) h (sorted_attributes_IsAttrsOf given)

pub begun_is : (t : Tag) (kids : Nodes) (e : Elem) → IsBegun t kids e → e ≡ with_nodes (element_from t) kids
begun_is t kids e h = h.is ∙ ap (λ xs. element t.ns t.name xs kids) (attributes_are (map attribute_of t.attributes) h.attributes h.sorted)

begun_tree : (t : Tag) (kids : Nodes) (e : Elem) → IsBegun t kids e → AreTidy kids → IsTree e
begun_tree t kids e h tidy = subst IsTree (sym h.is) (h.sorted.ascending, tidy)

mutual
  pub spelled_tree : (scope : Scope) (bytes : List ℕ) (e : Elem) → Spells scope bytes e → IsTree e
  spelled_tree scope bytes e (empty _ _ _ raw t start is_empty begun) = begun_tree t no_nodes e begun tt
  spelled_tree scope bytes e (filled _ _ _ raw t front inside close kids start not_empty content end bytes_are begun) =
      begun_tree t kids e begun (spelled_tidy (t.bindings ++ scope) inside kids content)

  pub spelled_tidy : (scope : Scope) (bytes : List ℕ) (kids : Nodes) → SpellsContent scope bytes kids → AreTidy kids
  spelled_tidy scope bytes kids (text_alone _ _ _ says is_text kids_are) = subst AreTidy (sym kids_are) (tidy_end says)
  spelled_tidy scope bytes kids (with_element _ _ _ front says middle rest e more is_text spelled content bytes_are kids_are) =
      subst AreTidy (sym kids_are) (tidy_text says (child e more) tt (spelled_tree scope middle e spelled, spelled_tidy scope rest more content))

pub spelled_stays : (scope : Scope) (bytes : List ℕ) (e : Elem) → Spells scope bytes e → tidied e ≡ e
spelled_stays scope bytes e h = tidied_stays e (spelled_tree scope bytes e h)
