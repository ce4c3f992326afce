-- What readers ask of an element.
use Rattle.std.specs.Prelude.{ℕ, ◌+◌, Bool, ◌&&◌, List, [], ◌∷◌, ◌++◌, Option, Some, None, if◌then◌else◌}
use Rattle.std.specs.Option.{option_map}
use Rattle.std.specs.Str.{bytes_eq}
use Rattle.xml_trees.specs.Attributes.{Attribute, found}
use Rattle.xml_trees.specs.Trees.{Elem, Nodes, no_nodes, child, text, namespace_of, name_of, attributes_of, nodes_of}

-- the element has this namespace and name
abbrev pub is_named : List ℕ → List ℕ → Elem → Bool
is_named ns name e = bytes_eq (namespace_of e) ns && bytes_eq (name_of e) name

-- the value of the first attribute with this namespace and name
abbrev pub attr_of : List ℕ → List ℕ → Elem → Option (List ℕ)
attr_of ns name e = option_map (λ (a : Attribute). a.value) (found ns name (attributes_of e))

-- the first element of this namespace and name among nodes
abbrev pub first_named : List ℕ → List ℕ → Nodes → Option Elem
first_named ns name no_nodes = None
first_named ns name (child e rest) = if is_named ns name e then Some e else first_named ns name rest
first_named ns name (text t rest) = first_named ns name rest

-- the first child of this namespace and name
abbrev pub child_of : List ℕ → List ℕ → Elem → Option Elem
child_of ns name e = first_named ns name (nodes_of e)

-- the texts directly among nodes, one behind the other
abbrev pub text_of : Nodes → List ℕ
text_of no_nodes = []
text_of (child e rest) = text_of rest
text_of (text t rest) = t ++ text_of rest

-- how many texts there are
abbrev pub text_count : Nodes → ℕ
text_count no_nodes = 0
text_count (child e rest) = text_count rest
text_count (text t rest) = text_count rest + 1

-- the elements directly among nodes, in order
abbrev pub elements_of : Nodes → List Elem
elements_of no_nodes = []
elements_of (child e rest) = e ∷ elements_of rest
elements_of (text t rest) = elements_of rest
