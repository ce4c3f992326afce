use Rattle.sim_4_links_follow.proofs.Lifts.{serve_lifts, tick_lifts, told_lifts}
use Rattle.sim_4_links_follow.proofs.connections.steps_follow.Goals as goal

pub returns : goal.returns
returns c = record {
  takes = λ who logins w v position wire i items done silent s. serve_lifts who logins w v s position wire i items done silent;
  ticks = λ who logins w v milliseconds done silent s. tick_lifts who logins w v s milliseconds done silent;
  ends = λ who logins w v position wire done silent s. told_lifts who logins w v s position wire done silent;
}
