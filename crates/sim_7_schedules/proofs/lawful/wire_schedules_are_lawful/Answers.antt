use Rattle.cmd_schedule.proofs.LineLists.{listed}
use Rattle.sim_7_schedules.proofs.Composed.{lawful}
use Rattle.sim_7_schedules.proofs.WholeRuns.{whole_run}
use Rattle.sim_7_schedules.proofs.lawful.wire_schedules_are_lawful.Goals as goal

pub returns : goal.returns
returns c = λ s right. let list = listed s right in lawful s list (whole_run s list)
