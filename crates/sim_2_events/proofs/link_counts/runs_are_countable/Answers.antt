use Rattle.sim_2_events.proofs.Counted.{run_few, run_puts}
use Rattle.sim_2_events.proofs.link_counts.runs_are_countable.Goals as goal

pub returns-clause-puts : goal.returns-clause-puts
returns-clause-puts g c = λ r keep accounts homes events w led i d at says pages spoken asked v is q s there. run_puts r keep accounts homes events w led i d at says pages spoken asked v is q s there

pub returns-clause-few : goal.returns-clause-few
returns-clause-few g c = λ r keep accounts homes events w led i d at says pages spoken asked small v is q s there. run_few r keep accounts homes events w led i d at says pages spoken asked small v is q s there
