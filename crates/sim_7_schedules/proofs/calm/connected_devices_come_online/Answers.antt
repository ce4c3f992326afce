use Rattle.sim_7_schedules.proofs.OpenRuns.{comes_online}
use Rattle.sim_7_schedules.proofs.calm.connected_devices_come_online.Goals as goal

pub returns : goal.returns
returns c = λ s right before n ends enough i position is. comes_online s right before n ends i position is enough
