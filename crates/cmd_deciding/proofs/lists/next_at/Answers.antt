use Rattle.std.proofs.Common.{◌≡◌, map, arith}
use Rattle.std.proofs.lemmas.Result.{IfOk-weaker}
use Rattle.std.specs.Prelude.{slice_get}
use Rattle.cl_intents.specs.Intents.{next_of, without_rooms}
use Rattle.cmd_deciding.specs.Turns.{next_in}
use Rattle.cmd_deciding.proofs.Rooms.{next_of_there, roomed_there}
use Rattle.cmd_deciding.proofs.lists.next_at.Goals as goal

pub returns-then-index-len-clause-exact : goal.returns-then-index-len-clause-exact
returns-then-index-len-clause-exact c =
    IfOk-weaker c.next.result (λ x. x ≡ next_of c.args.client.now.client c.index_mut.result.now) (λ x. x ≡ next_in c.args.client.now.client (slice_get (map without_rooms c.args.intents.now.items) c.args.index))
    (λ x is. next_of_there c.args.intents.now.items c.args.index c.args.client.now.client c.index_mut.result.now x (omega arith) c.index_mut.ensures.value is) c.next.ensures.exact

pub returns-then-index-len-clause-same : goal.returns-then-index-len-clause-same
returns-then-index-len-clause-same c =
    roomed_there c.args.intents.now.items c.args.index c.index_mut.result.now c.next.new.self (omega arith) c.index_mut.ensures.value c.next.ensures.same
