use Rattle.sim_1_applications.proofs.Turns.{never_asks, turn, turns}
use Rattle.sim_1_applications.proofs.session_counts.each_turn_asks_once.Goals as goal

pub returns-clause-turn : goal.returns-clause-turn
returns-clause-turn c = λ events w last i d e taken read is led there here. turn events w last i d e taken read is led there here

pub returns-clause-none : goal.returns-clause-none
returns-clause-none c = λ events w last i d e none led there here. never_asks events w last i d e none led there here

pub returns-clause-turns : goal.returns-clause-turns
returns-clause-turns c = λ all w last i d e taken read are led there here. turns all w last i d e taken read are led there here
