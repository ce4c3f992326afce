use Rattle.sim_5_moves.proofs.ClockEnds.{end_runs}
use Rattle.sim_5_moves.proofs.clock.ends_run.Goals as goal

pub returns : goal.returns
returns c = λ schedule b says position w x right runs. end_runs schedule b says w x right runs position
