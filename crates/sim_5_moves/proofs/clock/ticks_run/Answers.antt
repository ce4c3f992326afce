use Rattle.sim_5_moves.proofs.Ticks.{tick_runs}
use Rattle.sim_5_moves.proofs.clock.ticks_run.Goals as goal

pub returns : goal.returns
returns c = tick_runs
