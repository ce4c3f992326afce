-- Elements as trees (XML 1.0, sections 2.1, 3 and 3.1; Namespaces in XML 1.0, section 6), and the rule of a tree.
use Rattle.std.specs.Prelude.{◌≢◌, ℕ, ◌+◌, max, Bool, true, false, List, [], ◌∷◌, ◌++◌}
use Rattle.std.specs.List.Sorted.{IsStrictlySortedBy}
use Rattle.xml_trees.specs.Attributes.{Attribute, name_order}

-- an element: its namespace, its name without a prefix, its attributes, and what it contains in order
mutual
  pub data Elem : Type 0 where
    element : List ℕ → List ℕ → List Attribute → Nodes → Elem

  pub data Nodes : Type 0 where
    no_nodes : Nodes
    child : Elem → Nodes → Nodes
    text : List ℕ → Nodes → Nodes

-- the parts of an element
abbrev pub namespace_of : Elem → List ℕ
namespace_of (element ns name attrs kids) = ns

abbrev pub name_of : Elem → List ℕ
name_of (element ns name attrs kids) = name

abbrev pub attributes_of : Elem → List Attribute
attributes_of (element ns name attrs kids) = attrs

abbrev pub nodes_of : Elem → Nodes
nodes_of (element ns name attrs kids) = kids

-- two lists of nodes, one behind the other
abbrev pub joined : Nodes → Nodes → Nodes
joined no_nodes more = more
joined (child e rest) more = child e (joined rest more)
joined (text t rest) more = text t (joined rest more)

-- the element with an attribute more, behind the others
abbrev pub with_attribute : Elem → Attribute → Elem
with_attribute (element ns name attrs kids) a = element ns name (attrs ++ a ∷ []) kids

-- the element with nodes more, behind the others
abbrev pub with_nodes : Elem → Nodes → Elem
with_nodes (element ns name attrs kids) more = element ns name attrs (joined kids more)

-- the first node is no text
abbrev pub NoTextFirst : Nodes → Type 0
NoTextFirst no_nodes = Unit {0}
NoTextFirst (child e rest) = Unit {0}
NoTextFirst (text t rest) = ⊥

-- The rule of a tree: the attributes ascend by namespace and then name, compared by bytes, so that no two have one
-- namespace and name; no text is empty, and none stands beside another; and so in each child.
abbrev mutual
  pub IsTree : Elem → Type 0
  IsTree (element ns name attrs kids) = IsStrictlySortedBy name_order attrs × AreTidy kids

  pub AreTidy : Nodes → Type 0
  AreTidy no_nodes = Unit {0}
  AreTidy (child e rest) = IsTree e × AreTidy rest
  AreTidy (text t rest) = (t ≢ []) × NoTextFirst rest × AreTidy rest

-- how deep elements lie in one another: an element without children has depth 1
abbrev mutual
  pub depth : Elem → ℕ
  depth (element ns name attrs kids) = depth_below kids + 1

  pub depth_below : Nodes → ℕ
  depth_below no_nodes = 0
  depth_below (child e rest) = max (depth e) (depth_below rest)
  depth_below (text t rest) = depth_below rest

-- the rule for nodes that stand behind a text, or not
abbrev pub AreTidyAfter : Bool → Nodes → Type 0
AreTidyAfter true ks = NoTextFirst ks × AreTidy ks
AreTidyAfter false ks = AreTidy ks

-- the first node is a text
abbrev pub is_text_first : Nodes → Bool
is_text_first no_nodes = false
is_text_first (child e rest) = false
is_text_first (text t rest) = true
