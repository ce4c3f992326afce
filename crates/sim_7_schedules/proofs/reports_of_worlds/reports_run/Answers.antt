use Rattle.sim_7_schedules.proofs.WorldTold.{reported}
use Rattle.sim_7_schedules.proofs.reports_of_worlds.reports_run.Goals as goal

pub returns : goal.returns
returns c = reported
