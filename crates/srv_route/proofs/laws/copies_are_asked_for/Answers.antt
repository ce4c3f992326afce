use Rattle.srv_route.proofs.CopyLaws.{received_as_asked, sent_as_asked}
use Rattle.srv_route.specs.Destinations.{destination_of}
use Rattle.srv_route.proofs.laws.copies_are_asked_for.Goals as goal

pub returns-clause-sent : goal.returns-clause-sent
returns-clause-sent c domain accounts sessions m sender = sent_as_asked (destination_of domain accounts sender.account m.to) m sender sessions

pub returns-clause-received : goal.returns-clause-received
returns-clause-received c domain accounts sessions m sender = received_as_asked (destination_of domain accounts sender.account m.to) m sender sessions
