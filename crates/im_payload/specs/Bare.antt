-- Elements without attributes that contain nothing.
use Rattle.std.specs.Prelude.{ℕ, List, []}
use Rattle.xml_trees.specs.Trees.{Elem, element, no_nodes}

abbrev pub bare : List ℕ → List ℕ → Elem
bare ns name = element ns name [] no_nodes
