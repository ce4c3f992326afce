use Rattle.sim_7_schedules.proofs.FirstLinesBeginning.{first}
use Rattle.sim_7_schedules.proofs.first_lines.schedules_begin.Goals as goal

pub returns : goal.returns
returns c = λ s is. first s is
