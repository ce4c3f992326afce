use Rattle.std.proofs.Common.{◌-◌, length, arith, refl, sym, ◌∙◌}
use Rattle.mam_archive.proofs.Keys.{same_from_equal}
use Rattle.mam_log.proofs.Orders.{found_text, gap_after}
use Rattle.mam_log.specs.LogPages.{ids_of}
use Rattle.mam_log.proofs.id_order.gap.Goals as goal

pub returns-in-Less-clause-gap : goal.returns-in-Less-clause-gap
returns-in-Less-clause-gap c =
    gap_after c.args.positions.now (ids_of c.args.entries.now) c.args.id.now c.id_at.result.now (length c.args.positions.now) refl (omega arith) c.requires.order c.id_at.ensures (sym c.cmp.ensures ∙ c.in-Less.is)

pub returns-in-Equal-clause-there : goal.returns-in-Equal-clause-there
returns-in-Equal-clause-there c =
    found_text c.args.positions.now (ids_of c.args.entries.now) c.args.id.now c.id_at.result.now (length c.args.positions.now - 1) c.requires.order c.id_at.ensures
    (same_from_equal c.id_at.result.now c.args.id.now (sym c.cmp.ensures ∙ c.in-Equal.is))
