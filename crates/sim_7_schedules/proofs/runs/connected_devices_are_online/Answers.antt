use Rattle.sim_7_schedules.proofs.Connected.{is_online}
use Rattle.sim_7_schedules.proofs.runs.connected_devices_are_online.Goals as goal

pub returns : goal.returns
returns c = λ s right before n ends enough i d position is. is_online s right before n ends i d position is enough
