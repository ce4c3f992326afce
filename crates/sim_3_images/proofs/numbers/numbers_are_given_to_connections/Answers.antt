use Rattle.sim_3_images.proofs.MomentsFall.{fresh_ordered, fresh_rises}
use Rattle.sim_3_images.proofs.Within.{gone_rests, item_rests, moment_rests}
use Rattle.sim_3_images.proofs.numbers.numbers_are_given_to_connections.Goals as goal

pub returns : goal.returns
returns g c = record { item = item_rests; gone = gone_rests; moment = moment_rests; fresh = fresh_rises; ordered = fresh_ordered }
