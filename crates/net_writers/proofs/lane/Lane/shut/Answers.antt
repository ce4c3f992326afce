use Rattle.net_writers.proofs.LongerLanes.{shuts}
use Rattle.net_writers.proofs.lane.Lane.shut.Goals as goal

pub nudge-requires : goal.nudge-requires
nudge-requires g c = let l = c.requires.lane in record { lane = (l.0, l.1, record { seat = l.2.seat; room = l.2.room; queue = l.2.queue; put = shuts _ _ _ _ _ _ l.2.put }) }

pub returns-clause-lane : goal.returns-clause-lane
returns-clause-lane g c = λ bytes count lane. c.nudge.ensures.lane bytes count (record { seat = lane.seat; room = lane.room; queue = lane.queue; put = shuts bytes count _ _ _ _ lane.put })
