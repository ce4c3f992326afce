-- Elements whose texts are short, which a client can answer.
use Rattle.std.specs.Prelude.{◌≤◌, length}
use Rattle.std.specs.List.{AllByRecursion}
use Rattle.law_limits.specs.Bounds.{most_id}
use Rattle.xml_trees.specs.Attributes.{Attribute}
use Rattle.xml_trees.specs.Readers.{text_of}
use Rattle.xml_trees.specs.Trees.{Elem, Nodes, child, element, no_nodes, text}

abbrev pub IsShortValue : Attribute → Type 0
IsShortValue a = length a.value ≤ most_id

-- Each value of an attribute is no longer than an id may be, nor are the texts directly in an element, together; and so in
-- each child.
abbrev mutual
  pub IsShort : Elem → Type 0
  IsShort (element ns name attrs kids) = AllByRecursion IsShortValue attrs × (length (text_of kids) ≤ most_id) × AreShort kids

  pub AreShort : Nodes → Type 0
  AreShort no_nodes = Unit {0}
  AreShort (child e rest) = IsShort e × AreShort rest
  AreShort (text t rest) = AreShort rest
