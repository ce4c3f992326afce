use Rattle.sim_5_moves.proofs.Given.{close_runs, forget_runs}
use Rattle.sim_5_moves.proofs.users.users_run.Goals as goal

pub returns : goal.returns
returns c = record { forgets = forget_runs; closes = close_runs }
