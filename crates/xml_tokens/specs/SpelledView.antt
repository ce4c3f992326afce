-- An attribute as it is spelled, without where it lies in memory.
use Rattle.xml_tokens.specs.Tags.{Spelled}
use Rattle.xml_tokens.specs.declared.attributes.SpelledAttribute.{SpelledAttribute}

abbrev pub spelled_view : SpelledAttribute → Spelled
spelled_view s = record { name = s.name.now; raw = s.raw.now; rest = s.rest.now }
