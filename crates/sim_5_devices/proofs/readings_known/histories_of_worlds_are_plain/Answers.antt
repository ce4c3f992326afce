use Rattle.sim_5_devices.proofs.ReadingsKnownHistories.{world_plain}
use Rattle.sim_5_devices.proofs.readings_known.histories_of_worlds_are_plain.Goals as goal

pub returns : goal.returns
returns c = λ owned w taken named early few account. world_plain owned w taken named early few account
