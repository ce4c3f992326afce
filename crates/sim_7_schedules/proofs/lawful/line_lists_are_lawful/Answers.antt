use Rattle.sim_7_schedules.proofs.Composed.{lawful}
use Rattle.sim_7_schedules.proofs.WholeRuns.{whole_run}
use Rattle.sim_7_schedules.proofs.lawful.line_lists_are_lawful.Goals as goal

pub returns : goal.returns
returns c = λ s right. lawful s right (whole_run s right)
