use Rattle.sim_7_schedules.proofs.MovesRefused.{noted_moved}
use Rattle.sim_7_schedules.proofs.refused_lines.moves_leave_refused.Goals as goal

pub returns : goal.returns
returns g = noted_moved
