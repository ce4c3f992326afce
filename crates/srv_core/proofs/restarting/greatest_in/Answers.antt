use Rattle.srv_core.proofs.Restarts.{entry_more}
use Rattle.srv_core.proofs.restarting.greatest_in.Goals as goal

pub loop-position-preserved : goal.loop-position-preserved
loop-position-preserved c =
    entry_more c.args.archive.now.entries c.loop-position.position c.entry_at.result.now.number c.loop-position.moment _ _ c.entry_at.result.now c.message.result.now c.entry_at.ensures c.message.ensures c.max-moment.ensures c.loop-position.invariant
