use Rattle.sim_2_links.proofs.Epochs.{each_within, epoch_within}
use Rattle.sim_2_links.proofs.epoch_bounds.epochs_are_within_numbers.Goals as goal

pub returns-clause-within : goal.returns-clause-within
returns-clause-within g c = λ v reached. epoch_within v reached

pub returns-clause-each : goal.returns-clause-each
returns-clause-each g c = λ v reached q e s at is. each_within v reached q e s at is
