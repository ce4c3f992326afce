use Rattle.crossbeam_channel.specs.Claims.{view}
use Rattle.net_writers.proofs.LongerLanes.{begins}
use Rattle.net_writers.proofs.lane.Lane.new.Goals as goal

pub returns-clause-lane : goal.returns-clause-lane
returns-clause-lane g c = record { seat = c.requires.channel; room = c.requires.room; queue = c.requires.queue; put = begins (view c.args.pass) c.requires.unused }
