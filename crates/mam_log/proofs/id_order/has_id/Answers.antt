use Rattle.mam_log.proofs.Orders.{has_text}
use Rattle.mam_log.specs.LogPages.{ids_of}
use Rattle.mam_log.proofs.id_order.has_id.Goals as goal

pub returns : goal.returns
returns c =
    has_text c.args.positions.now (ids_of c.args.entries.now) c.args.id.now c.gap.result c.is_none.result c.requires.order c.gap.ensures.gap c.gap.ensures.there c.is_none.ensures
