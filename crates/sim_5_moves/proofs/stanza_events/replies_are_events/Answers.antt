use Rattle.std.proofs.Common.{refl}
use Rattle.sim_5_moves.proofs.ReplyEvents.{reply_handled}
use Rattle.sim_5_moves.proofs.stanza_events.replies_are_events.Goals as goal
use Rattle.sim_5_moves.specs.Handled.{EndsAs}

pub returns : goal.returns
returns c = λ ends x i d z last there none is others.
    reply_handled (EndsAs ends) x i d z last there none is (λ j e at apart. let o = others j e at apart in (record { session_steps = o.0; last = ends j; leads = o.1 }, refl))
