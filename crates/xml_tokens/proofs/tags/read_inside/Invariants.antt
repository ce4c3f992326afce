use Rattle.std.proofs.Common.{◌≡◌, length, map}
use Rattle.xml_tokens.specs.RawTags.{attribute_of}
use Rattle.xml_tokens.specs.Tags.{inside_of, with_more}
use Rattle.xml_tokens.proofs.tags.read_inside.Given as goal

-- the attributes so far and those of what is left are those of all
abbrev pub invariant-loop-empty : goal.invariant-loop-empty
invariant-loop-empty l = with_more (map attribute_of l.attributes.items) (inside_of l.rest) ≡ inside_of l.bytes

abbrev pub decreases-loop-empty : goal.decreases-loop-empty
decreases-loop-empty l = length l.rest
