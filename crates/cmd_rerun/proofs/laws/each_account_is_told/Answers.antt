use Rattle.cmd_rerun.proofs.ArchiveCounts.{accounts_told}
use Rattle.cmd_rerun.proofs.laws.each_account_is_told.Goals as goal

pub returns : goal.returns
returns c = accounts_told
