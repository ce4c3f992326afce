use Rattle.std.proofs.Common.{◌≡◌, ◌++◌, map}
use Rattle.xml_names.specs.Expansion.{in_front, expanded_attributes}
use Rattle.xml_names.specs.Scopes.{scope_of}
use Rattle.xml_tokens.specs.RawTags.{attribute_of}
use Rattle.xml_names.proofs.expansion.bound_attributes.Given as goal

-- those so far and what is left are all
abbrev pub invariant-loop-attribute : goal.invariant-loop-attribute
invariant-loop-attribute l =
    in_front l.attributes.items (expanded_attributes (l.own ++ scope_of l.stack) (map attribute_of l.attribute-iterator.rest.items))
    ≡ expanded_attributes (l.own ++ scope_of l.stack) (map attribute_of l.fn.others.items)
