use Rattle.std.proofs.Common.{◌≡◌, map, take}
use Rattle.xml_tokens.specs.RawTags.{attribute_of}
use Rattle.xml_tokens.specs.Tags.{names_of}
use Rattle.xml_tokens.proofs.distinct.names.Given as goal

abbrev pub invariant-loop-attribute : goal.invariant-loop-attribute
invariant-loop-attribute l = map (λ n. n.now) l.names.items ≡ names_of (map attribute_of (take l.attribute-index l.attributes))
