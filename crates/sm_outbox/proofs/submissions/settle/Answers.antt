use Rattle.std.proofs.Common.{add-one, arith}
use Rattle.sm_outbox.specs.Submissions.{in_state}
use Rattle.sm_outbox.proofs.SettledPositions.{settled_next}
use Rattle.sm_outbox.proofs.submissions.settle.Goals as goal

pub loop-i-preserved : goal.loop-i-preserved
loop-i-preserved c = rw (c.loop-i.invariant, add-one) (settled_next (in_state c.args.state) c.args.items.now c.loop-i.i c.index-items-i.result (omega arith))
