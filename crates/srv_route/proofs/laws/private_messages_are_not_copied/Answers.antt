use Rattle.srv_route.proofs.CopyLaws.{not_copied, private_not_copied}
use Rattle.srv_route.specs.Destinations.{destination_of}
use Rattle.srv_route.proofs.laws.private_messages_are_not_copied.Goals as goal

pub returns-clause-none : goal.returns-clause-none
returns-clause-none c domain accounts sessions m sender is = not_copied (destination_of domain accounts sender.account m.to) m sender sessions is

pub returns-clause-marked : goal.returns-clause-marked
returns-clause-marked c m is = private_not_copied m is
