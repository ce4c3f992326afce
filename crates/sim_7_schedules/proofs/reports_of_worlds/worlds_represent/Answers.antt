use Rattle.sim_7_schedules.proofs.Shown.{world_shown}
use Rattle.sim_7_schedules.proofs.reports_of_worlds.worlds_represent.Goals as goal

pub returns : goal.returns
returns c = λ schedule b says w v x right kept encodes runs. world_shown schedule b says w v x right kept encodes runs
