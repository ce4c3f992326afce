use Rattle.sim_7_schedules.proofs.TakenAfter.{taken_above, taken_from}
use Rattle.sim_7_schedules.proofs.binds.nothing_older_is_taken_after_a_bind.Goals as goal

pub returns-clause-bound : goal.returns-clause-bound
returns-clause-bound c = taken_above

pub returns-clause-left : goal.returns-clause-left
returns-clause-left c = taken_from
