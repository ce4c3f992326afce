use Rattle.sim_2_links.proofs.Sums.{puts_sum}
use Rattle.sim_2_links.proofs.links.counts_are_at_most_the_puts.Goals as goal

pub returns : goal.returns
returns g c = λ moves v along p s is. puts_sum moves v along p s is
