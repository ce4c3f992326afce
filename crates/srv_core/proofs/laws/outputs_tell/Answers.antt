use Rattle.srv_core.proofs.Tells.{items_tell}
use Rattle.srv_core.proofs.laws.outputs_tell.Goals as goal

pub returns : goal.returns
returns g c = items_tell
