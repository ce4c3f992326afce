use Rattle.sim_5_moves.proofs.ClientsDowns.{down_runs}
use Rattle.sim_5_moves.proofs.clients.stanzas_come_down.Goals as goal

pub returns : goal.returns
returns c = λ schedule b small says w x runs ground position wire o owned z n p bounds. down_runs schedule b small says w x runs ground position wire o owned z n p bounds
