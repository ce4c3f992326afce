use Rattle.sim_7_schedules.proofs.Moves.{each_runs}
use Rattle.sim_7_schedules.proofs.each_move.each_move_runs.Goals as goal

pub returns : goal.returns
returns c = each_runs
