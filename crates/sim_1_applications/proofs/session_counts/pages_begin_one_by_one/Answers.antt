use Rattle.sim_1_applications.proofs.Unanswered.{begins_page, leaves_page, once}
use Rattle.sim_1_applications.proofs.session_counts.pages_begin_one_by_one.Goals as goal

pub returns-clause-leaves : goal.returns-clause-leaves
returns-clause-leaves c = λ w next i d e page read there is unanswered led here. leaves_page w next i d e page (read.devices i d there).page there is unanswered led here

pub returns-clause-begins : goal.returns-clause-begins
returns-clause-begins c = λ w next i d e there led here other. begins_page w next i d e there led here other

pub returns-clause-once : goal.returns-clause-once
returns-clause-once c = λ events w last i d e taken read between led there here. once events w last i d e taken read between led there here
