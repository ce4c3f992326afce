use Rattle.sim_2_events.proofs.Counted.{epochs, puts}
use Rattle.sim_2_events.proofs.link_counts.counts_are_those_of_sessions.Goals as goal

pub returns-clause-puts : goal.returns-clause-puts
returns-clause-puts g c = λ r v d up down is few q s at. puts r v d up down is few q s at

pub returns-clause-epochs : goal.returns-clause-epochs
returns-clause-epochs g c = λ r v d is reached. epochs r v d is reached
