use Rattle.sim_7_schedules.proofs.Resumed.{resumed}
use Rattle.sim_7_schedules.proofs.runs.sessions_that_stay_are_resumed.Goals as goal

pub returns : goal.returns
returns c = λ s right before n ends enough i d position is dial o owned both t at number. resumed s right before n ends i d position is dial o owned both t at number enough
