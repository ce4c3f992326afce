use Rattle.sim_1_applications.proofs.Whole.{down, up, whole}
use Rattle.sim_1_applications.proofs.session_counts.stanzas_are_few.Goals as goal

pub returns-clause-down : goal.returns-clause-down
returns-clause-down c = λ w reached i d at. down w reached i d at

pub returns-clause-up : goal.returns-clause-up
returns-clause-up c = λ w reached i d at. up w reached i d at

pub returns-clause-whole : goal.returns-clause-whole
returns-clause-whole c = λ keep accounts homes events w led i d at. whole keep accounts homes events w led i d at
