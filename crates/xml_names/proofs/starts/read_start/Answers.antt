use Rattle.std.proofs.Common.{map}
use Rattle.xml_names.proofs.SpelledNames.{distinct_read}
use Rattle.xml_tokens.specs.RawTags.{attribute_of}
use Rattle.xml_names.proofs.starts.read_start.Goals as goal

pub expand_spelled-requires : goal.expand_spelled-requires
expand_spelled-requires c = let tag = c.in-Ok.tag in distinct_read c.args.bytes.now tag.name.now (map attribute_of tag.attributes.items) tag.empty c.in-Ok.ensures.ok
