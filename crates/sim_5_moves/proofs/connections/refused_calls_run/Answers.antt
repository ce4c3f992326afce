use Rattle.sim_5_moves.proofs.Still.{asks_refused, says_refused}
use Rattle.sim_5_moves.proofs.connections.refused_calls_run.Goals as goal

pub returns : goal.returns
returns c = record {
  says = λ schedule b says position to text private w x d fault runs. says_refused schedule b says w x runs position to text private d fault;
  asks = λ schedule b says position most w x d fault runs. asks_refused schedule b says w x runs position most d fault;
}
