use Rattle.sim_5_moves.proofs.DownMovesEnds.{each_cut}
use Rattle.sim_5_moves.proofs.down_moves.cuts_run.Goals as goal

pub returns : goal.returns
returns c = each_cut
