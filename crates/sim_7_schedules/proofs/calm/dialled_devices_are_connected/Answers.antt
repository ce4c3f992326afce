use Rattle.sim_7_schedules.proofs.DialledOpen.{dialled_open}
use Rattle.sim_7_schedules.proofs.calm.dialled_devices_are_connected.Goals as goal

pub returns : goal.returns
returns c = λ s right before n ends i dial o owned. dialled_open s right before n ends i dial o owned
