use Rattle.sim_7_schedules.proofs.FirstWorldsBeginning.{begun}
use Rattle.sim_7_schedules.proofs.first_worlds.worlds_begin.Goals as goal

pub returns : goal.returns
returns c = begun
