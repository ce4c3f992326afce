use Rattle.cmd_resolving.proofs.Declared.{expanded_is_run}
use Rattle.cmd_resolving.proofs.laws.files_come_to_worlds_of_schedules.Goals as goal

pub returns : goal.returns
returns c = expanded_is_run
