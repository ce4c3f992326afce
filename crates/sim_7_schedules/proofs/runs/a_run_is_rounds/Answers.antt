use Rattle.sim_7_schedules.proofs.Connected.{goes_by_rounds}
use Rattle.sim_7_schedules.proofs.runs.a_run_is_rounds.Goals as goal

pub returns : goal.returns
returns c = λ s right before n ends i d position is o owned. goes_by_rounds s right before n ends i d position is o owned
