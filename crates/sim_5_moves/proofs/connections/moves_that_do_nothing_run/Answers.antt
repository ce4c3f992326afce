use Rattle.sim_5_moves.proofs.Still.{down_runs, nobody_runs, still_runs, told_runs, up_runs}
use Rattle.sim_5_moves.proofs.connections.moves_that_do_nothing_run.Goals as goal

pub returns : goal.returns
returns c = record {
  still = λ schedule b says m w x runs. still_runs schedule b says w x runs m;
  nobody = λ schedule b says m w x runs. nobody_runs schedule b says w x runs m;
  up = λ schedule b says position w x wire runs. up_runs schedule b says w x runs position wire;
  told = λ schedule b says position w x wire runs. told_runs schedule b says w x runs position wire;
  down = λ schedule b says position w x wire runs. down_runs schedule b says w x runs position wire;
}
