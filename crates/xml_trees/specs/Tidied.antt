-- What a tree is made of an element that need not keep the rule of a tree.
use Rattle.std.specs.Prelude.{ℕ, List, [], ◌∷◌, ◌++◌}
use Rattle.xml_trees.specs.Attributes.{sorted_attributes}
use Rattle.xml_trees.specs.Trees.{Elem, element, Nodes, no_nodes, child, text, joined}

-- a text as a list of nodes: none where it is empty
abbrev pub text_node : List ℕ → Nodes
text_node [] = no_nodes
text_node (c ∷ cs) = text (c ∷ cs) no_nodes

-- Attributes in order, of several with one name the first; texts that adjoin as one, and no empty texts; and so in
-- each child. `run` is the text in front of the nodes.
abbrev mutual
  pub tidied : Elem → Elem
  tidied (element ns name attrs kids) = element ns name (sorted_attributes attrs) (tidied_after [] kids)

  pub tidied_after : List ℕ → Nodes → Nodes
  tidied_after run no_nodes = text_node run
  tidied_after run (child e rest) = joined (text_node run) (child (tidied e) (tidied_after [] rest))
  tidied_after run (text t rest) = tidied_after (run ++ t) rest

abbrev pub tidied_nodes : Nodes → Nodes
tidied_nodes = tidied_after []

-- The same in two steps: each child is tidied, and then the texts are joined.
abbrev pub inner_tidied : Nodes → Nodes
inner_tidied no_nodes = no_nodes
inner_tidied (child e rest) = child (tidied e) (inner_tidied rest)
inner_tidied (text t rest) = text t (inner_tidied rest)

abbrev pub texts_joined : List ℕ → Nodes → Nodes
texts_joined run no_nodes = text_node run
texts_joined run (child e rest) = joined (text_node run) (child e (texts_joined [] rest))
texts_joined run (text t rest) = texts_joined (run ++ t) rest
