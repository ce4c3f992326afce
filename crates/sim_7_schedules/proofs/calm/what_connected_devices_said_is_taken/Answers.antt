use Rattle.sim_7_schedules.proofs.OpenRuns.{what_was_said}
use Rattle.sim_7_schedules.proofs.calm.what_connected_devices_said_is_taken.Goals as goal

pub returns : goal.returns
returns c = λ s right before n ends enough i position old there is o owned. what_was_said s right before n ends i position is enough old there o owned
