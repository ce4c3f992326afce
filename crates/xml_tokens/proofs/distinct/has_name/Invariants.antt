use Rattle.std.proofs.Common.{◌≡◌, drop, map, bytes_eq}
use Rattle.std.specs.List.{list_any}
use Rattle.xml_tokens.specs.RawTags.{attribute_of}
use Rattle.xml_tokens.specs.Tags.{names_of}
use Rattle.xml_tokens.proofs.distinct.has_name.Given as goal

-- what is left decides
abbrev pub invariant-loop-attribute : goal.invariant-loop-attribute
invariant-loop-attribute l =
    list_any (bytes_eq l.name) (names_of (map attribute_of (drop l.attribute-index l.attributes))) ≡ list_any (bytes_eq l.name) (names_of (map attribute_of l.attributes))
