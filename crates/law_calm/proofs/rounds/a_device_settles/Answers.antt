use Rattle.law_calm.proofs.Settling.{settles}
use Rattle.law_calm.proofs.rounds.a_device_settles.Goals as goal

pub returns : goal.returns
returns g c = λ asks v mid last k n conn d reached prompt here is low calm still at flows. settles asks v mid last k n conn d reached prompt here is low calm still at flows
