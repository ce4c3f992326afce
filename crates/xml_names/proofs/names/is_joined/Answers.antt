use Rattle.std.proofs.Common.{sym, ◌∙◌}
use Rattle.xml_names.proofs.JoinedNames.{joined_by_parts, not_joined}
use Rattle.xml_names.proofs.names.is_joined.Goals as goal

pub returns-then-eq : goal.returns-then-eq
returns-then-eq c =
    joined_by_parts c.args.prefix.now c.args.local.now c.args.name.now c.split_at.result.0.now c.split_at.result.1.now c.split_at.ensures.front c.split_at.ensures.back
    c.is_after_colon.result c.is_after_colon.ensures (sym c.if-eq.true ∙ c.eq.ensures)

pub returns-else-eq : goal.returns-else-eq
returns-else-eq c =
    c.if-eq.false ∙ not_joined c.args.prefix.now c.args.local.now c.args.name.now c.split_at.result.0.now c.split_at.result.1.now c.split_at.ensures.front c.split_at.ensures.back
    (sym c.if-eq.false ∙ c.eq.ensures)
