use Rattle.sim_7_schedules.proofs.ReadReports.{told_apart}
use Rattle.sim_7_schedules.proofs.WholeRuns.{whole_run}
use Rattle.sim_7_schedules.proofs.lawful.line_lists_are_told_apart.Goals as goal

pub returns : goal.returns
returns c = λ s t one other. told_apart s t one other (whole_run s one) (whole_run t other)
