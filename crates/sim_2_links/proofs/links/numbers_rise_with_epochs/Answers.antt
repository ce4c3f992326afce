use Rattle.sim_2_links.proofs.Numbers.{reached_rises}
use Rattle.sim_2_links.proofs.links.numbers_rise_with_epochs.Goals as goal

pub returns : goal.returns
returns g c = λ v reached. reached_rises v reached
