use Rattle.srv_core.proofs.ItemRuns.{shut_stays}
use Rattle.srv_core.proofs.laws.what_is_shut_stays_shut.Goals as goal

pub returns : goal.returns
returns g c = shut_stays
