use Rattle.std.proofs.Common.{ap, ◌∙◌, map}
use Rattle.xml_names.proofs.SpelledNames.{distinct_others}
use Rattle.xml_tokens.specs.RawTags.{attribute_of}
use Rattle.xml_tokens.specs.Tags.{are_distinct, names_of}
use Rattle.xml_names.proofs.starts.expand_spelled.Goals as goal

pub expand-requires : goal.expand-requires
expand-requires c =
    ap (λ xs. are_distinct (names_of xs)) c.in-Ok.ensures.others ∙ distinct_others (map attribute_of c.args.tag.attributes.items) c.requires
