use Rattle.sim_7_schedules.proofs.HandledBinds.{taken_after_handled}
use Rattle.sim_7_schedules.proofs.binds.nothing_older_is_taken_after_a_handled_bind.Goals as goal

pub returns : goal.returns
returns c = taken_after_handled
