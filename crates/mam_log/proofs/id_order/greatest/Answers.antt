use Rattle.std.proofs.Common.{length, arith, refl}
use Rattle.mam_log.proofs.Rising.{up_to_last}
use Rattle.mam_log.specs.LogPages.{ids_of}
use Rattle.mam_log.proofs.id_order.greatest.Goals as goal

pub returns : goal.returns
returns c =
    up_to_last c.args.positions.now (ids_of c.args.entries.now) c.id_at.result.now (length c.args.positions.now) refl (omega arith) c.requires.order c.id_at.ensures
