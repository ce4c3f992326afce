use Rattle.sm_outbox.proofs.Directions.{acknowledges}
use Rattle.sm_outbox.proofs.laws.counts_are_moves.Goals as goal

pub returns : goal.returns
returns g c h n w d next few reached sends move is = acknowledges h n w d next few reached sends move is
