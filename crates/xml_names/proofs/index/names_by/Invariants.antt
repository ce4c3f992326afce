use Rattle.std.proofs.Common.{◌≡◌, ◌++◌, drop, map}
use Rattle.xml_names.specs.Expansion.{borrowed_name, in_front, expanded_names}
use Rattle.xml_names.specs.Scopes.{scope_of}
use Rattle.xml_tokens.specs.RawTags.{attribute_of}
use Rattle.xml_tokens.specs.Tags.{names_of}
use Rattle.xml_names.proofs.index.names_by.Given as goal

-- those so far and what is left are all
abbrev pub invariant-loop-attribute : goal.invariant-loop-attribute
invariant-loop-attribute l =
    in_front (map borrowed_name l.names.items) (expanded_names (l.index.own.now ++ scope_of l.stack) (names_of (map attribute_of (drop l.attribute-index l.others))))
    ≡ expanded_names (l.index.own.now ++ scope_of l.stack) (names_of (map attribute_of l.others))
