use Rattle.sim_7_schedules.proofs.LinesRefused.{schedule_refused}
use Rattle.sim_7_schedules.proofs.refused_lines.lines_are_refused.Goals as goal

pub returns : goal.returns
returns g = schedule_refused
