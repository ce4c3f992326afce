use Rattle.sim_7_schedules.proofs.OpenRuns.{lone_open}
use Rattle.sim_7_schedules.proofs.calm.lone_connections_end_by_a_full_queue.Goals as goal

pub returns : goal.returns
returns c = λ s right before n ends i position is nothing. lone_open s right before n ends i position is nothing
