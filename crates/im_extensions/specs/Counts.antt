-- What tells that a count of handled stanzas is above that of those sent (XEP-0198, section 4).
use Rattle.std.specs.Prelude.{ℕ, [], ◌∷◌, codes}
use Rattle.std.specs.Fmt.{decimal}
use Rattle.im_payload.specs.Names.{management}
use Rattle.xml_trees.specs.Attributes.{attribute}
use Rattle.xml_trees.specs.Trees.{Elem, element, no_nodes}

abbrev pub too_high_elem : ℕ → ℕ → Elem
too_high_elem h send_count =
    element management (codes "handled-count-too-high") (attribute [] (codes "h") (decimal h) ∷ attribute [] (codes "send-count") (decimal send_count) ∷ []) no_nodes
