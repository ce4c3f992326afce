use Rattle.sim_5_moves.proofs.Engine.{quiet_runs}
use Rattle.sim_5_moves.proofs.silent_worlds.silent_worlds_run.Goals as goal

pub returns : goal.returns
returns c = λ schedule b says w x after passed runs taken quiet. quiet_runs schedule b says w x runs taken after passed quiet
