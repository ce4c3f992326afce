use Rattle.std.proofs.Common.{arith}
use Rattle.std.proofs.lemmas.Result.{on_ok_weaker}
use Rattle.cl_intents.proofs.Rooms.{got_there, same_there}
use Rattle.cl_intents.proofs.intents.make_room_at.Goals as goal

pub returns-clause-same : goal.returns-clause-same
returns-clause-same c =
    same_there c.args.intents.now.items c.args.index c.index_mut.result.now c.make_room.new.self (omega arith) c.index_mut.ensures.value c.make_room.ensures.same

pub returns-clause-room : goal.returns-clause-room
returns-clause-room c =
    on_ok_weaker c.make_room.result (λ some. rw (got_there c.args.intents.now.items c.args.index c.make_room.new.self (omega arith)) some) c.make_room.ensures.ok
