use Rattle.cmd_sync.proofs.Whole.{script_whole}
use Rattle.cmd_sync.proofs.sync_laws.a_closed_script_is_done_whole.Goals as goal

pub returns : goal.returns
returns c = script_whole
