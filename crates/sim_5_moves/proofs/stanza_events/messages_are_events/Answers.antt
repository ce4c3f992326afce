use Rattle.std.proofs.Common.{refl}
use Rattle.sim_5_moves.proofs.MessageEvents.{message_handled}
use Rattle.sim_5_moves.proofs.stanza_events.messages_are_events.Goals as goal
use Rattle.sim_5_moves.specs.Handled.{EndsAs}

pub returns : goal.returns
returns c = λ ends x i d m last there exists own others. message_handled (EndsAs ends) x i d m last there exists own (λ j e at apart. (ends j, others j e at apart, refl))
