use Rattle.cmd_restart_lines.proofs.Restarted.{started_behind, started_in_file}
use Rattle.cmd_restart_lines.proofs.laws.a_restart_starts_the_server_again.Goals as goal

pub returns : goal.returns
returns c = record { world = started_behind; file = started_in_file }
