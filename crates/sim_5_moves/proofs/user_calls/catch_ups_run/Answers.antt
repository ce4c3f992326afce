use Rattle.sim_5_moves.proofs.Asks.{requests_run}
use Rattle.sim_5_moves.proofs.user_calls.catch_ups_run.Goals as goal

pub returns : goal.returns
returns c = requests_run
