use Rattle.sim_2_links.proofs.DeliveryRuns.{pair_reached_more, reached_more}
use Rattle.sim_2_links.proofs.delivery.reached_grows.Goals as goal

pub returns-clause-direction : goal.returns-clause-direction
returns-clause-direction g c = λ move d next reached made. reached_more move d next reached made

pub returns-clause-pair : goal.returns-clause-pair
returns-clause-pair g c = λ move p next reached made. pair_reached_more move p next reached made
