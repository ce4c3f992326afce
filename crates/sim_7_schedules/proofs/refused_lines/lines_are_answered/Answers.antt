use Rattle.sim_7_schedules.proofs.LinesAnswered.{schedule_answered}
use Rattle.sim_7_schedules.proofs.refused_lines.lines_are_answered.Goals as goal

pub returns : goal.returns
returns g = schedule_answered
