use Rattle.sim_7_schedules.proofs.Said.{said_is_taken}
use Rattle.sim_7_schedules.proofs.runs.what_was_said_is_taken.Goals as goal

pub returns : goal.returns
returns c = λ s right before n ends enough i d position is o owned old there same. said_is_taken s right before n ends i d position is o owned enough old there same
