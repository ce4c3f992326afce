use Rattle.std.proofs.Common.{refl}
use Rattle.sim_5_moves.proofs.Acting.{acted_on}
use Rattle.sim_5_moves.proofs.one_device.one_device_acts.Goals as goal
use Rattle.sim_5_moves.specs.Moves.{DoesAlone}

pub returns : goal.returns
returns c = λ schedule b says w x runs i o next d a. acted_on schedule b says w x runs i o next d a (DoesAlone i a.done) (λ same. refl, λ other. absurd (other refl)) (λ j other. (λ same. absurd (other same), λ apart. refl))
