use Rattle.net_owner.proofs.MergedFeeds.{merged}
use Rattle.net_owner.proofs.stepping.Owner+R+I+Pair+I+O+T.run.Goals as goal

pub returns-then-all_ended-clause-merged : goal.returns-then-all_ended-clause-merged
returns-then-all_ended-clause-merged g c = merged _ _ _ c.loop.invariant.going.kept

pub returns-then-all_ended-clause-closed : goal.returns-then-all_ended-clause-closed
returns-then-all_ended-clause-closed g c = c.loop.invariant.going.here.last c.if-self.true

pub step-requires-clause-right : goal.step-requires-clause-right
step-requires-clause-right g c κs within = let right = c.loop.invariant.right in (right.moments, right.bytes, right.such)
