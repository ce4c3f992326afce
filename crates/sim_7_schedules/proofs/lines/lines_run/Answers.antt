use Rattle.sim_7_schedules.proofs.WholeSchedules.{schedule_runs}
use Rattle.sim_7_schedules.proofs.lines.lines_run.Goals as goal

pub returns : goal.returns
returns c = schedule_runs
