use Rattle.std.proofs.Common.{◌+◌, ◌++◌}
use Rattle.net_writers.proofs.lane.Lane.hand_over.Goals as goal

pub shut-requires : goal.shut-requires
shut-requires g c = record { lane = c.put_open.ensures.still }

pub returns-clause-lane : goal.returns-clause-lane
returns-clause-lane g c = λ bytes count more n are none lane. c.shut.ensures.lane (bytes ++ more) (count + n) (c.put_open.ensures.lane bytes count more n are none lane)
