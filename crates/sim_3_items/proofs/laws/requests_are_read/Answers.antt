use Rattle.sim_3_items.proofs.ItemsUp.{request_read}
use Rattle.sim_3_items.proofs.laws.requests_are_read.Goals as goal

pub returns : goal.returns
returns c = request_read
