use Rattle.sim_5_moves.proofs.ServersUps.{any_runs}
use Rattle.sim_5_moves.proofs.servers.ups_run.Goals as goal

pub returns : goal.returns
returns c = λ schedule b right small says position w x runs ground. any_runs schedule b right small says position w x runs ground
