use Rattle.srv_route.proofs.GivenOnce.{given_once}
use Rattle.srv_route.specs.Destinations.{destination_of}
use Rattle.srv_route.proofs.laws.nobody_gets_it_twice.Goals as goal

pub returns : goal.returns
returns c domain accounts sessions m sender next n rise = given_once next n (destination_of domain accounts sender.account m.to) m sender sessions rise
