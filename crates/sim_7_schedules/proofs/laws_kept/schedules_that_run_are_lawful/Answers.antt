use Rattle.sim_7_schedules.proofs.Composed.{lawful}
use Rattle.sim_7_schedules.proofs.laws_kept.schedules_that_run_are_lawful.Goals as goal

pub returns : goal.returns
returns c = λ s right runs. lawful s right runs
