use Rattle.sim_5_moves.proofs.Submits.{submissions_run}
use Rattle.sim_5_moves.proofs.user_calls.says_run.Goals as goal

pub returns : goal.returns
returns c = submissions_run
