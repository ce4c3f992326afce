use Rattle.srv_route.proofs.PlanLaws.{chat_falls_back, headline_is_dropped, normal_stays}
use Rattle.srv_route.specs.Destinations.{destination_of}
use Rattle.srv_route.proofs.laws.only_chats_fall_back.Goals as goal

pub returns-clause-chat : goal.returns-clause-chat
returns-clause-chat c domain resource accounts sessions m sender account there none is =
    chat_falls_back (destination_of domain accounts sender.account m.to) m sender account resource sessions there none is

pub returns-clause-normal : goal.returns-clause-normal
returns-clause-normal c domain resource accounts sessions m sender account there none is =
    normal_stays (destination_of domain accounts sender.account m.to) m sender account resource sessions there none is

pub returns-clause-headline : goal.returns-clause-headline
returns-clause-headline c domain resource accounts sessions m sender account there none is =
    headline_is_dropped (destination_of domain accounts sender.account m.to) m sender account resource sessions there none is
