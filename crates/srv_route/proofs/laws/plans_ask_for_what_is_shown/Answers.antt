use Rattle.srv_route.proofs.ShownAlone.{planned_same}
use Rattle.srv_route.specs.Destinations.{destination_of}
use Rattle.srv_route.proofs.laws.plans_ask_for_what_is_shown.Goals as goal

pub returns : goal.returns
returns c g domain accounts sessions m sender keeps = planned_same g keeps (destination_of domain accounts sender.account m.to) m sender sessions
