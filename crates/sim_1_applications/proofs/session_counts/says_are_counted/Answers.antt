use Rattle.sim_1_applications.proofs.Said.{messages_few, n_few, takes_few}
use Rattle.sim_1_applications.proofs.session_counts.says_are_counted.Goals as goal

pub returns-clause-takes : goal.returns-clause-takes
returns-clause-takes c = λ keep accounts homes events w led. takes_few keep accounts homes events w led

pub returns-clause-messages : goal.returns-clause-messages
returns-clause-messages c = λ keep accounts homes events w led i d at. messages_few keep accounts homes events w led i d at

pub returns-clause-n : goal.returns-clause-n
returns-clause-n c = λ keep accounts homes events w led i d at. n_few keep accounts homes events w led i d at
