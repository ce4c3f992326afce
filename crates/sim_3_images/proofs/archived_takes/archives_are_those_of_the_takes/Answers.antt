use Rattle.sim_3_images.proofs.Histories.{at_each, in_the_end}
use Rattle.sim_3_images.proofs.archived_takes.archives_are_those_of_the_takes.Goals as goal

pub returns : goal.returns
returns g = record { end = in_the_end; history = at_each }
