-- How much room a tree takes at most as it is written, told from how long its parts are.
use Rattle.std.specs.Prelude.{ℕ, ◌+◌, List, [], ◌∷◌, length}
use Rattle.xml_trees.specs.Attributes.{Attribute}
use Rattle.xml_trees.specs.Trees.{Elem, element, Nodes, no_nodes, child, text}

-- The weight of an attribute: its bytes, and ten for what stands around them. Six times that is room enough, since no
-- byte is written in more than six (`&apos;`), and a prefix with a number, which is declared, takes at most 57 more.
abbrev pub attribute_weight : Attribute → ℕ
attribute_weight a = length a.ns + length a.name + length a.value + 10

abbrev pub attributes_weight : List Attribute → ℕ
attributes_weight [] = 0
attributes_weight (a ∷ more) = attribute_weight a + attributes_weight more

-- the weight of an element with what is inside, and of nodes
abbrev mutual
  pub weight : Elem → ℕ
  weight (element ns name attrs kids) = length ns + length name + 10 + attributes_weight attrs + nodes_weight kids

  pub nodes_weight : Nodes → ℕ
  nodes_weight no_nodes = 0
  nodes_weight (child e rest) = weight e + nodes_weight rest
  nodes_weight (text t rest) = length t + nodes_weight rest
