use Rattle.sim_1_applications.proofs.Follow.{front_taken}
use Rattle.sim_1_applications.proofs.Orders.{once_in_order}
use Rattle.sim_1_applications.proofs.Runs.{taken_reached}
use Rattle.sim_1_applications.proofs.sessions.messages_are_taken_once_in_order.Goals as goal

pub returns-clause-rise : goal.returns-clause-rise
returns-clause-rise c = λ w reached i d at. once_in_order w (taken_reached w reached) i d at

pub returns-clause-front : goal.returns-clause-front
returns-clause-front c = λ w reached i d at. front_taken w.accounts d.sessions.now ((taken_reached w reached).devices i d at).sessions.now.is_session
