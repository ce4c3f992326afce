-- How many bytes elements take as they are written, where a default namespace is in force.
use Rattle.std.specs.Prelude.{ℕ, ◌+◌, Bool, true, not, ◌&&◌, List, [], ◌∷◌, length}
use Rattle.law_limits.specs.Texts.{value_size}
use Rattle.xml_trees.specs.Attributes.{Attribute}
use Rattle.xml_trees.specs.Trees.{Elem, Nodes}
use Rattle.xml_writer.specs.Canon.{is_foreign, written, written_nodes}

unfoldable pub element_size : List ℕ → Elem → ℕ
element_size default e = length (written default e)

unfoldable pub nodes_size : List ℕ → Nodes → ℕ
nodes_size default ks = length (written_nodes default ks)

-- an upper bound for attributes without a namespace, or in that of XML
abbrev pub attributes_size : List Attribute → ℕ
attributes_size [] = 0
attributes_size (a ∷ more) = 8 + length a.name + value_size a.value + attributes_size more

abbrev pub are_local : List Attribute → Bool
are_local [] = true
are_local (a ∷ more) = not (is_foreign a) && are_local more
