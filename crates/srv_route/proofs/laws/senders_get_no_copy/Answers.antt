use Rattle.srv_route.proofs.CopyLaws.{senders_left_out}
use Rattle.srv_route.specs.Destinations.{destination_of}
use Rattle.srv_route.proofs.laws.senders_get_no_copy.Goals as goal

pub returns : goal.returns
returns c domain accounts sessions m sender = senders_left_out (destination_of domain accounts sender.account m.to) m sender sessions
