use Rattle.std.proofs.Common.{ap}
use Rattle.net_memory.proofs.Gives.{given_more, left_less}
use Rattle.net_memory.specs.InMemory.{UnreadView}
use Rattle.net_memory.proofs.unread.Unread.give.Goals as goal

pub returns-clause-given : goal.returns-clause-given
returns-clause-given c =
    given_more c.self.inside.bytes.items c.as_slice.result.now c.copy_front-n.new.to c.self.inside.at c.copy_front-n.result c.args.self.now c.as_slice.ensures c.copy_front-n.ensures.bytes
    (ap (λ (u : UnreadView). u.given) c.self.view_is)

pub returns-clause-left : goal.returns-clause-left
returns-clause-left c =
    left_less c.self.inside.bytes.items c.as_slice.result.now c.copy_front-n.new.to c.self.inside.at c.copy_front-n.result c.args.self.now c.as_slice.ensures c.copy_front-n.ensures.bytes
    (ap (λ (u : UnreadView). u.left) c.self.view_is)
