use Rattle.sim_5_devices.proofs.Sorted.{session_steps_first}
use Rattle.sim_5_devices.proofs.session_labels.session_steps_come_first.Goals as goal

pub returns : goal.returns
returns g c = λ r ds d last plain interleaved. session_steps_first r ds d last plain interleaved
