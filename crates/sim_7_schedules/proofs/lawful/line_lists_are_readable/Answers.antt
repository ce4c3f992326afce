use Rattle.sim_7_schedules.proofs.ReadReports.{readable}
use Rattle.sim_7_schedules.proofs.WholeRuns.{whole_run}
use Rattle.sim_7_schedules.proofs.lawful.line_lists_are_readable.Goals as goal

pub returns : goal.returns
returns c = λ s right. readable s right (whole_run s right)
