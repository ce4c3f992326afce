use Rattle.std.proofs.Common.{◌≡◌, drop, map}
use Rattle.xml_tokens.specs.RawTags.{attribute_of}
use Rattle.xml_tokens.specs.Tags
use Rattle.xml_tokens.specs.Tags.{names_of}
use Rattle.xml_tokens.proofs.distinct.few_are_distinct.Given as goal

-- what is left decides
abbrev pub invariant-loop-i : goal.invariant-loop-i
invariant-loop-i l = Tags.are_distinct (names_of (map attribute_of (drop l.i l.attributes))) ≡ Tags.are_distinct (names_of (map attribute_of l.attributes))
