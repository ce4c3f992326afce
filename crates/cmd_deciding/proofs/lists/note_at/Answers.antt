use Rattle.std.proofs.Common.{arith}
use Rattle.std.proofs.lemmas.Result.{on_ok_weaker}
use Rattle.cmd_deciding.proofs.Rooms.{tried_there}
use Rattle.cmd_deciding.proofs.lists.note_at.Goals as goal

pub returns-then-index-len : goal.returns-then-index-len
returns-then-index-len c =
    on_ok_weaker c.note_in.result (tried_there c.args.intents.now.items c.args.index c.args.intent c.args.one c.index_mut.result.now c.note_in.new.intents (omega arith) c.index_mut.ensures.value) c.note_in.ensures
