use Rattle.law_server.proofs.Counts.{too_high}
use Rattle.law_server.proofs.server_tables.too_high_counts_change_no_queue.Goals as goal

pub returns : goal.returns
returns g c = too_high
