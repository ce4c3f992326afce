use Rattle.sim_2_events.proofs.Acts.{begins, move_leads, reached_leads}
use Rattle.sim_2_events.proofs.link_events.moves_are_acts_of_sessions.Goals as goal

pub returns-clause-begins : goal.returns-clause-begins
returns-clause-begins g c = λ r. begins r

pub returns-clause-moves : goal.returns-clause-moves
returns-clause-moves g c = λ r move v next d reached by a. move_leads r move v next d reached by a

pub returns-clause-runs : goal.returns-clause-runs
returns-clause-runs g c = λ r v reached. reached_leads r v reached
