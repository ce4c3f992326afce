-- What a tag that was read says.
use Rattle.std.specs.Prelude.{map}
use Rattle.xml_tokens.specs.Tags.{Attribute, Tag, start_tag, end_tag}
use Rattle.xml_tokens.specs.declared.raw_tags.RawAttribute.{RawAttribute}
use Rattle.xml_tokens.specs.declared.raw_tags.RawTag.{RawTag}
use Rattle.xml_tokens.specs.declared.raw_tags.RawTag.TheVariants.{Start, End}

abbrev pub attribute_of : RawAttribute → Attribute
attribute_of a = record { name = a.name.now; value = a.value }

abbrev pub raw_tag : RawTag → Tag
raw_tag (Start t) = start_tag t.name.now (map attribute_of t.attributes.items) t.empty
raw_tag (End name) = end_tag name.now
