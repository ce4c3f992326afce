use Rattle.srv_core.proofs.ItemRuns.{items_append}
use Rattle.srv_core.proofs.laws.items_join.Goals as goal

pub returns : goal.returns
returns g c = items_append
