-- Elements whose end tags haven't come (XML 1.0, section 3.1).
use Rattle.std.specs.Prelude.{ℕ, ◌+◌, ◌==◌, Bool, false, if◌then◌else◌, List, [], ◌∷◌, Option, Some, None, length}
use Rattle.std.specs.Option.{is_some}
use Rattle.std.specs.Str.{bytes_eq}
use Rattle.xml_open.specs.Nested.{covered}
use Rattle.xml_trees.specs.Trees.{Elem, Nodes, child, no_nodes, with_nodes}

-- an element whose end tag hasn't come: its name as it is spelled, and what there is of it
pub record OpenElement : Type 0 where
  pub spelled : List ℕ
  pub element : Elem

-- the innermost open element, and those around it, the innermost first
pub record Opens : Type 0 where
  pub here : Option OpenElement
  pub below : List OpenElement

abbrev pub none_open : Opens
none_open = record { here = None; below = [] }

abbrev pub with_more : OpenElement → Nodes → OpenElement
with_more o more = record o { element = with_nodes o.element more }

-- an element begins inside the one that was the innermost
abbrev pub begun : Opens → OpenElement → Opens
begun os o = record { here = Some o; below = covered os.here os.below }

-- nodes join the innermost open element
abbrev pub more_in : Option OpenElement → Nodes → Option OpenElement
more_in None more = None
more_in (Some o) more = Some (with_more o more)

abbrev pub joined : Opens → Nodes → Opens
joined os more = record os { here = more_in os.here more }

-- the innermost open element is whole: it becomes a child of the one around it, where there is one
abbrev pub closed_in : Option OpenElement → List OpenElement → Opens
closed_in None below = record { here = None; below = below }
closed_in (Some o) [] = none_open
closed_in (Some o) (p ∷ ps) = record { here = Some (with_more p (child o.element no_nodes)); below = ps }

abbrev pub closed : Opens → Opens
closed os = closed_in os.here os.below

-- the element that is whole then, where none is around it
abbrev pub outermost_in : Option OpenElement → List OpenElement → Option Elem
outermost_in None below = None
outermost_in (Some o) [] = Some o.element
outermost_in (Some o) (p ∷ ps) = None

abbrev pub outermost : Opens → Option Elem
outermost os = outermost_in os.here os.below

-- what a refusal of its end leaves open
abbrev pub left_open : Opens → Opens
left_open os = if length os.below == 0 then none_open else os

-- how many elements are open
abbrev pub open_count : Opens → ℕ
open_count os = if is_some os.here then length os.below + 1 else 0

-- the innermost open element has this name, as it is spelled
abbrev pub is_innermost_in : Option OpenElement → List ℕ → Bool
is_innermost_in None name = false
is_innermost_in (Some o) name = bytes_eq name o.spelled

abbrev pub is_innermost : Opens → List ℕ → Bool
is_innermost os = is_innermost_in os.here
