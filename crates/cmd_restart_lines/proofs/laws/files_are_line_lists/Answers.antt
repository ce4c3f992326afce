use Rattle.cmd_restart_lines.proofs.Listed.{file_listed}
use Rattle.cmd_restart_lines.proofs.laws.files_are_line_lists.Goals as goal

pub returns : goal.returns
returns c = file_listed
