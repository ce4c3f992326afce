use Rattle.sim_5_moves.proofs.Placed.{from_beginning}
use Rattle.sim_5_moves.proofs.servers.requests_are_placed.Goals as goal

pub returns : goal.returns
returns c = λ keep some accounts homes events w reaches i d there. from_beginning keep some accounts homes events w reaches i d there
