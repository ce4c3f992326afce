use Rattle.srv_route.proofs.PlanLaws.{bare_archives, resource_archives, same_archives}
use Rattle.srv_route.specs.Destinations.{destination_of}
use Rattle.srv_route.proofs.laws.archives_ask_for_no_session.Goals as goal

pub returns-clause-bare : goal.returns-clause-bare
returns-clause-bare c domain accounts sessions m sender account there =
    bare_archives (destination_of domain accounts sender.account m.to) m sender account sessions there

pub returns-clause-full : goal.returns-clause-full
returns-clause-full c domain resource accounts sessions m sender account there =
    resource_archives (destination_of domain accounts sender.account m.to) m sender account resource sessions there

pub returns-clause-same : goal.returns-clause-same
returns-clause-same c domain accounts sessions others m sender = same_archives (destination_of domain accounts sender.account m.to) m sender sessions others
