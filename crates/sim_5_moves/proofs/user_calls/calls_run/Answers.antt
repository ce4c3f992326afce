use Rattle.sim_5_moves.proofs.Calls.{catch_up_runs, say_runs}
use Rattle.sim_5_moves.proofs.user_calls.calls_run.Goals as goal

pub returns : goal.returns
returns c = record {
  says = λ schedule b says w x position to text private right small runs. say_runs schedule right b small says w x runs position to text private;
  asks = λ schedule b says w x position most right small runs. catch_up_runs schedule right b small says w x runs position most;
}
