use Rattle.sim_5_moves.proofs.MessagesFlags.{flags_stay, hears_alike}
use Rattle.sim_5_moves.proofs.messages.hearing_is_that_of_the_applications.Goals as goal

pub returns-clause-flags : goal.returns-clause-flags
returns-clause-flags c = λ keep owned names takes h i o s m e account resource d x represents. flags_stay x account resource d represents

pub returns-clause-hears : goal.returns-clause-hears
returns-clause-hears c = hears_alike
