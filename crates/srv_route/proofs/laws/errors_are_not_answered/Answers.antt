use Rattle.srv_route.proofs.PlanLaws.{error_not_answered}
use Rattle.srv_route.specs.Destinations.{destination_of}
use Rattle.srv_route.proofs.laws.errors_are_not_answered.Goals as goal

pub returns : goal.returns
returns c domain accounts sessions m sender is = error_not_answered (destination_of domain accounts sender.account m.to) m sender sessions is
