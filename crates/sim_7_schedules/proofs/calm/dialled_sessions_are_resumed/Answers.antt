use Rattle.sim_7_schedules.proofs.OpenRuns.{is_resumed}
use Rattle.sim_7_schedules.proofs.calm.dialled_sessions_are_resumed.Goals as goal

pub returns : goal.returns
returns c = λ s right before n ends enough i position is dial o owned both. is_resumed s right before n ends i position is enough dial o owned both
