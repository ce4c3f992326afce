use Rattle.sim_1_applications.proofs.Taken.{of_all, of_device}
use Rattle.sim_1_applications.proofs.session_counts.takes_are_counted.Goals as goal

pub returns-clause-device : goal.returns-clause-device
returns-clause-device c = λ keep accounts homes events w led i d at. of_device keep accounts homes events w led i d at

pub returns-clause-all : goal.returns-clause-all
returns-clause-all c = λ keep accounts homes events w high led epochs. of_all keep accounts homes events w high led epochs
