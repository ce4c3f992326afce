use Rattle.sim_5_devices.proofs.LogReadingsEnds.{ends_well, over_represents}
use Rattle.sim_5_devices.proofs.log_readings.pages_are_taken_over.Goals as goal

pub returns : goal.returns
returns c = record { ends = ends_well; over = over_represents }
