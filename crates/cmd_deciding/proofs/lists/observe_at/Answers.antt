use Rattle.std.proofs.Common.{arith}
use Rattle.cmd_deciding.proofs.Rooms.{observed_there}
use Rattle.cmd_deciding.proofs.lists.observe_at.Goals as goal

pub returns-then-index-len : goal.returns-then-index-len
returns-then-index-len c = observed_there c.args.intents.now.items c.args.index c.index_mut.result.now c.observe.new.self c.args.client.now.client (omega arith) c.index_mut.ensures.value c.observe.ensures
