use Rattle.std.proofs.Common.{arith}
use Rattle.std.proofs.lemmas.Result.{on_ok_weaker}
use Rattle.cmd_deciding.proofs.Rooms.{added_there}
use Rattle.cmd_deciding.proofs.lists.add_at.Goals as goal

pub returns-then-index-len : goal.returns-then-index-len
returns-then-index-len c =
    on_ok_weaker c.add_in.result (added_there c.args.intents.now.items c.args.index c.args.to.now c.args.text.now c.index_mut.result.now c.add_in.new.intents (omega arith) c.index_mut.ensures.value) c.add_in.ensures
