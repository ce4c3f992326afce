use Rattle.std.proofs.Common.{sym, ap, ◌∙◌}
use Rattle.std.specs.Option.{option_map}
use Rattle.xml_tokens.proofs.TagWords.{spelled_shorter}
use Rattle.xml_tokens.specs.SpelledView.{spelled_view}
use Rattle.xml_tokens.proofs.tags.attribute_at.Goals as goal

pub returns-in-Some-2-clause-shorter : goal.returns-in-Some-2-clause-shorter
returns-in-Some-2-clause-shorter c =
    spelled_shorter c.args.bytes.now (spelled_view c.in-Some.spelled) (sym c.spelled_at.ensures ∙ ap (option_map spelled_view) c.in-Some.is)
