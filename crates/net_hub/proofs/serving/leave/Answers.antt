use Rattle.net_hub.proofs.JoinedReaders.{more_again}
use Rattle.net_hub.proofs.serving.leave.Goals as goal

pub returns-clause-readers : goal.returns-clause-readers
returns-clause-readers g c = more_again _ _ _ _ c.give_back.ensures.readers c.join-door.ensures.given_is
