use Rattle.sim_1_applications.proofs.Rises.{asked_moves, rises}
use Rattle.sim_1_applications.proofs.Whole.{few, numbered}
use Rattle.sim_1_applications.proofs.session_counts.requests_are_few.Goals as goal

pub returns-clause-numbers : goal.returns-clause-numbers
returns-clause-numbers c = λ w reached i d at. numbered w reached i d at

pub returns-clause-few : goal.returns-clause-few
returns-clause-few c = λ w reached i d at. few w reached i d at

pub returns-clause-rises : goal.returns-clause-rises
returns-clause-rises c = λ event w next led i d e there here. rises d.reading.asked e.reading.asked (asked_moves event w next led i d e there here).0

pub returns-clause-stays : goal.returns-clause-stays
returns-clause-stays c = λ event w next led i d e there here none. (asked_moves event w next led i d e there here).1 none
