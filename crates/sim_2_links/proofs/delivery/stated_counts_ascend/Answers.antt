use Rattle.sim_2_links.proofs.Stated.{stated_ascend}
use Rattle.sim_2_links.proofs.delivery.stated_counts_ascend.Goals as goal

pub returns : goal.returns
returns g c = λ d reached. stated_ascend d reached
