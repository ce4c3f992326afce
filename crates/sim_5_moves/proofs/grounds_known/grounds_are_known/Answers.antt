use Rattle.sim_5_moves.proofs.Grounds.{ground}
use Rattle.sim_5_moves.proofs.grounds_known.grounds_are_known.Goals as goal

pub returns : goal.returns
returns c = ground
