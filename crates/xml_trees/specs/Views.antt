-- The tree that a declared element stands for. The declared type has the room of its lists in it, so that elements are
-- compared through their trees.
use Rattle.std.specs.Prelude.{List, [], ◌∷◌, map}
use Rattle.xml_trees.specs.Trees.{Elem, element, Nodes, no_nodes, child, text, joined}
use Rattle.xml_trees.specs.declared.elements.Element.{Element, Element-F, fold-Element}
use Rattle.xml_trees.specs.declared.elements.Node.{Node, fold-Node}
use Rattle.xml_trees.specs.declared.elements.Node.TheOpen.{Node-F}

-- lists of nodes, one behind the other
abbrev pub all_of : List Nodes → Nodes
all_of [] = no_nodes
all_of (n ∷ ns) = joined n (all_of ns)

-- one level, with what is inside already seen
abbrev pub elem_step : Element-F Nodes Elem → Elem
elem_step e = element e.ns e.name e.attrs.items (all_of e.children.items)

-- a node as a list of one
abbrev pub node_step : Node-F Nodes Elem → Nodes
node_step (Node-F.Child e) = child e no_nodes
node_step (Node-F.Text t) = text t no_nodes

abbrev pub elem_view : Element → Elem
elem_view = fold-Element Nodes Elem node_step elem_step

abbrev pub node_view : Node → Nodes
node_view = fold-Node Nodes Elem node_step elem_step

abbrev pub nodes_view : List Node → Nodes
nodes_view nodes = all_of (map node_view nodes)
