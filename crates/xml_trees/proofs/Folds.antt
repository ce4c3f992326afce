-- Views of elements and nodes, level by level.
use Rattle.std.proofs.Common.{◌≡◌, List, [], ◌∷◌, ◌++◌, refl, sym, ap, ◌∙◌, rules}
use Rattle.xml_trees.specs.Trees.{Elem, element, Nodes, no_nodes, child, text, joined}
use Rattle.xml_trees.specs.Views.{elem_view, node_view, nodes_view, node_step, elem_step}
use Rattle.xml_trees.specs.declared.elements.Element.{Element, Element-F, out-Element, roll-Element, fold_out-Element, fold-roll-Element}
use Rattle.xml_trees.specs.declared.elements.Node.{Node, Child, Text, the_lemmas}

pub joined_none : (n : Nodes) → joined n no_nodes ≡ n
joined_none no_nodes = refl
joined_none (child e rest) = ap (child e) (joined_none rest)
joined_none (text t rest) = ap (text t) (joined_none rest)

pub joined_assoc : (a b c : Nodes) → joined (joined a b) c ≡ joined a (joined b c)
joined_assoc no_nodes b c = refl
joined_assoc (child e rest) b c = ap (child e) (joined_assoc rest b c)
joined_assoc (text t rest) b c = ap (text t) (joined_assoc rest b c)

pub nodes_view_append : (ks ls : List Node) → nodes_view (ks ++ ls) ≡ joined (nodes_view ks) (nodes_view ls)
nodes_view_append [] ls = refl
nodes_view_append (k ∷ ks) ls = ap (joined (node_view k)) (nodes_view_append ks ls) ∙ sym (joined_assoc (node_view k) (nodes_view ks) (nodes_view ls))

pub nodes_view_one : (k : Node) → nodes_view (k ∷ []) ≡ node_view k
nodes_view_one k = joined_none (node_view k)

pub nodes_view_push : (ks : List Node) (k : Node) → nodes_view (ks ++ k ∷ []) ≡ joined (nodes_view ks) (node_view k)
nodes_view_push ks k = nodes_view_append ks (k ∷ []) ∙ ap (joined (nodes_view ks)) (nodes_view_one k)

pub node_view_child : (e : Element) → node_view (Child e) ≡ child (elem_view e) no_nodes
node_view_child e = search (rules, the_lemmas)

pub node_view_text : (t : List _) → node_view (Text t) ≡ text t no_nodes
node_view_text t = search (rules, the_lemmas)

pub elem_view_is : (e : Element) → elem_view e ≡ element (out-Element e).ns (out-Element e).name (out-Element e).attrs.items (nodes_view (out-Element e).children.items)
elem_view_is e = fold_out-Element Nodes Elem node_step elem_step e

pub elem_view_made : (e : Element-F Node Element) → elem_view (roll-Element e) ≡ element e.ns e.name e.attrs.items (nodes_view e.children.items)
elem_view_made e = fold-roll-Element Nodes Elem node_step elem_step e
