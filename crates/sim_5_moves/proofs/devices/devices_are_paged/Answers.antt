use Rattle.sim_5_moves.proofs.Gone.{device_paged}
use Rattle.sim_5_moves.proofs.devices.devices_are_paged.Goals as goal

pub returns : goal.returns
returns c = λ schedule b says w x runs i d there. device_paged schedule b says w x runs i d there
