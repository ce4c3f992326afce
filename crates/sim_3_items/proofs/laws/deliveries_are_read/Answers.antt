use Rattle.sim_3_items.proofs.ItemsDown.{copied_read, passed_read}
use Rattle.sim_3_items.proofs.laws.deliveries_are_read.Goals as goal

pub returns-clause-passed : goal.returns-clause-passed
returns-clause-passed c = passed_read

pub returns-clause-copied : goal.returns-clause-copied
returns-clause-copied c = copied_read
