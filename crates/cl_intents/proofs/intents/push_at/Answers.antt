use Rattle.std.proofs.Common.{arith}
use Rattle.cl_intents.proofs.Rooms.{changed_there, room_of_there, room_within}
use Rattle.cl_intents.specs.Intents.{tried_again}
use Rattle.cl_intents.proofs.intents.push_at.Goals as goal

pub index_mut-requires : goal.index_mut-requires
index_mut-requires c = (let within = room_within c.args.intents.now.items c.args.index c.requires in omega (arith, within))

pub push-requires : goal.push-requires
push-requires c =
    let within = room_within c.args.intents.now.items c.args.index c.requires in
    room_of_there c.args.intents.now.items c.args.index c.index_mut.result.now within c.index_mut.ensures.value c.requires

pub returns : goal.returns
returns c =
    let within = room_within c.args.intents.now.items c.args.index c.requires in
    changed_there (tried_again c.args.one) c.args.intents.now.items c.args.index c.index_mut.result.now c.push.new.self within c.index_mut.ensures.value c.push.ensures
