use Rattle.cmd_restart_lines.proofs.RunWorlds.{run_world}
use Rattle.cmd_restart_lines.proofs.laws.files_come_to_worlds_of_schedules.Goals as goal

pub returns : goal.returns
returns c = run_world
