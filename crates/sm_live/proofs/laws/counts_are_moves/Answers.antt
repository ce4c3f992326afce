use Rattle.sm_live.proofs.Directions.{acknowledges}
use Rattle.sm_live.proofs.laws.counts_are_moves.Goals as goal

pub returns : goal.returns
returns c h n s d next few reached sends move is = acknowledges h n s d next few reached sends move is
