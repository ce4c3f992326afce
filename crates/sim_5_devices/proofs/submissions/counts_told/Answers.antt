use Rattle.sim_5_devices.proofs.Counts.{resumed_told, row_told, rows_same}
use Rattle.sim_5_devices.proofs.submissions.counts_told.Goals as goal

pub returns : goal.returns
returns c = record { represents = row_told; resumed = resumed_told; same = rows_same }
