-- What the writers of payloads have in common.
use Rattle.std.specs.Prelude.{ℕ, Bool, true, false, List, [], ◌∷◌, ◌++◌, Option, Some, None, codes}
use Rattle.xml_trees.specs.Attributes.{Attribute}
use Rattle.xml_trees.specs.Tidied.{text_node}
use Rattle.xml_trees.specs.Trees.{Elem, element, Nodes, no_nodes, child}

-- the element with attributes more, behind the others
abbrev pub with_attributes : Elem → List Attribute → Elem
with_attributes (element ns name attrs kids) more = element ns name (attrs ++ more) kids

-- the spelling of a boolean whose absence is false
abbrev pub flag_text : Bool → Option (List ℕ)
flag_text true = Some (codes "true")
flag_text false = None

-- an element that contains a text
abbrev pub text_child : List ℕ → List ℕ → List ℕ → Nodes
text_child ns name given = child (element ns name [] (text_node given)) no_nodes

-- the same where the text isn't empty
abbrev pub text_child_where : List ℕ → List ℕ → List ℕ → Nodes
text_child_where ns name [] = no_nodes
text_child_where ns name (c ∷ cs) = text_child ns name (c ∷ cs)
