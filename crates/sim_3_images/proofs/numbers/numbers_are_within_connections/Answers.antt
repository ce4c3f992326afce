use Rattle.sim_3_images.proofs.Within.{fresh_within, gone_within, item_within, moment_within, next_within, start_within}
use Rattle.sim_3_images.proofs.numbers.numbers_are_within_connections.Goals as goal

pub returns : goal.returns
returns g c = record { start = start_within; item = item_within; gone = gone_within; moment = moment_within; fresh = fresh_within; next = next_within }
