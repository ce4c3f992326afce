use Rattle.std.proofs.Common.{inr, refl}
use Rattle.net_writers.proofs.LongerLanes.{may_put, end_put, shuts}
use Rattle.net_writers.proofs.lane.Lane.finish.Goals as goal

pub returns-then-self-clause-lane : goal.returns-then-self-clause-lane
returns-then-self-clause-lane g c = λ bytes count lane. record { seat = lane.seat; room = lane.room; queue = lane.queue; put = shuts bytes count _ _ _ _ lane.put }

pub put-requires-clause-channel : goal.put-requires-clause-channel
put-requires-clause-channel g c = c.requires.lane.2.seat

pub put-requires-clause-may : goal.put-requires-clause-may
put-requires-clause-may g c = may_put _ _ _ _ _ _ c.requires.lane.2.put

pub returns-clause-lane : goal.returns-clause-lane
returns-clause-lane g c = λ bytes count lane. record {
  seat = c.put.ensures.channel;
  room = lane.room;
  queue = lane.queue;
  put = end_put bytes count _ _ _ _ _ c.if-self.false (inr refl) (shuts bytes count _ _ _ _ lane.put) c.put.ensures.put;
}
