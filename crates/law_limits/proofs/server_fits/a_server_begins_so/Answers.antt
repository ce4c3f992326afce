use Rattle.law_limits.proofs.StartKept.{account_kept, start_kept}
use Rattle.law_limits.proofs.server_fits.a_server_begins_so.Goals as goal

pub returns : goal.returns
returns c = record { start = start_kept; account = account_kept }
