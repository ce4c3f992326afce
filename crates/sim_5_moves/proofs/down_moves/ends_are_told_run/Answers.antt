use Rattle.sim_5_moves.proofs.DownMovesEnds.{each_end}
use Rattle.sim_5_moves.proofs.down_moves.ends_are_told_run.Goals as goal

pub returns : goal.returns
returns c = each_end
