use Rattle.sim_2_links.proofs.DeliveryRuns.{both_reached}
use Rattle.sim_2_links.proofs.delivery.both_directions_are_reached.Goals as goal

pub returns-clause-down : goal.returns-clause-down
returns-clause-down g c = λ p reached. (both_reached p reached).down

pub returns-clause-up : goal.returns-clause-up
returns-clause-up g c = λ p reached. (both_reached p reached).up
