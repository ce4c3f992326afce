-- Result sets (XEP-0059, section 2): the first child `set` of a payload.
use Rattle.std.specs.Prelude.{ℕ, List, [], Option, codes}
use Rattle.std.specs.Option.{option_and_then, option_map}
use Rattle.im_payload.specs.Names.{result_sets}
use Rattle.xml_trees.specs.Readers.{child_of, text_of}
use Rattle.xml_trees.specs.Tidied.{text_node}
use Rattle.xml_trees.specs.Trees.{Elem, element, nodes_of}

-- the first child of this name in the set
abbrev pub set_child : List ℕ → Elem → Option Elem
set_child name e = option_and_then (child_of result_sets name) (child_of result_sets (codes "set") e)

-- the text directly in an element
abbrev pub elem_text : Elem → List ℕ
elem_text e = text_of (nodes_of e)

-- the text directly in that child
abbrev pub set_text : List ℕ → Elem → Option (List ℕ)
set_text name e = option_map elem_text (set_child name e)

-- an element of a set with a text
abbrev pub set_item : List ℕ → List ℕ → Elem
set_item name given = element result_sets name [] (text_node given)

-- the same where there is a text
abbrev pub set_item_where : List ℕ → Option (List ℕ) → Option Elem
set_item_where name given = option_map (set_item name) given
