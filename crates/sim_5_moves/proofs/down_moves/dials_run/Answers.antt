use Rattle.sim_5_moves.proofs.Dials.{each_dial}
use Rattle.sim_5_moves.proofs.down_moves.dials_run.Goals as goal

pub returns : goal.returns
returns c = each_dial
