use Rattle.cmd_generate.proofs.StandDrawn.{generated_stands}
use Rattle.cmd_generate.proofs.laws.generated_schedules_may_run.Goals as goal

pub returns : goal.returns
returns c = generated_stands
