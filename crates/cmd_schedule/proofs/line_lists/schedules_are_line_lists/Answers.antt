use Rattle.cmd_schedule.proofs.LineLists.{listed}
use Rattle.cmd_schedule.proofs.line_lists.schedules_are_line_lists.Goals as goal

pub returns : goal.returns
returns c = listed
