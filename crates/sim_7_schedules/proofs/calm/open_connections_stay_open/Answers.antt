use Rattle.sim_7_schedules.proofs.OpenRuns.{stays_open}
use Rattle.sim_7_schedules.proofs.calm.open_connections_stay_open.Goals as goal

pub returns : goal.returns
returns c = λ s right before n ends i position is. stays_open s right before n ends i position is
