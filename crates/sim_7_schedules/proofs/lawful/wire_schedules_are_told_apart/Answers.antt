use Rattle.cmd_schedule.proofs.LineLists.{listed}
use Rattle.sim_7_schedules.proofs.ReadReports.{told_apart}
use Rattle.sim_7_schedules.proofs.WholeRuns.{whole_run}
use Rattle.sim_7_schedules.proofs.lawful.wire_schedules_are_told_apart.Goals as goal

pub returns : goal.returns
returns c = λ s t one other. let first = listed s one in let second = listed t other in told_apart s t first second (whole_run s first) (whole_run t second)
