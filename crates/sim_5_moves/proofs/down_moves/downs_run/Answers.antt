use Rattle.sim_5_moves.proofs.DownMovesDowns.{each_down}
use Rattle.sim_5_moves.proofs.down_moves.downs_run.Goals as goal

pub returns : goal.returns
returns c = each_down
