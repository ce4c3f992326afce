use Rattle.srv_route.proofs.GivenOnce.{given_live}
use Rattle.srv_route.specs.Destinations.{destination_of}
use Rattle.srv_route.proofs.laws.recipients_live.Goals as goal

pub returns : goal.returns
returns c domain accounts sessions m sender next rise = given_live next (destination_of domain accounts sender.account m.to) m sender sessions rise
