use Rattle.srv_route.proofs.Ascending.{plans_ascend}
use Rattle.srv_route.specs.Destinations.{destination_of}
use Rattle.srv_route.proofs.laws.numbers_ascend.Goals as goal

pub returns : goal.returns
returns c domain accounts sessions m sender next rise = plans_ascend next (destination_of domain accounts sender.account m.to) m sender sessions rise
