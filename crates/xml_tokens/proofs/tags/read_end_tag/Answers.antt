use Rattle.std.proofs.Common.{sym, ap, ◌∙◌}
use Rattle.std.proofs.lemmas.List.{take_rest}
use Rattle.xml_tokens.proofs.EndNames.{end_is_named, others_have_none}
use Rattle.xml_tokens.specs.Tags.{end_at}
use Rattle.xml_tokens.proofs.tags.read_end_tag.Goals as goal

pub returns-then-not-is_end : goal.returns-then-not-is_end
returns-then-not-is_end c = others_have_none c.args.bytes.now (sym c.is_end.ensures ∙ c.if-not-is_end.true)

pub returns : goal.returns
returns c =
    end_is_named (λ name. name.now) c.end_at.result c.args.bytes.now (sym c.is_end.ensures ∙ c.if-not-is_end.false)
    (c.end_at.ensures ∙ ap end_at (take_rest c.args.bytes.now 2))
