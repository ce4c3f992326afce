use Rattle.srv_route.proofs.PlanLaws.{archived_once, own_archive}
use Rattle.srv_route.specs.Destinations.{destination_of}
use Rattle.srv_route.proofs.laws.archives_have_it_once.Goals as goal

pub returns-clause-once : goal.returns-clause-once
returns-clause-once c domain accounts sessions m sender = archived_once (destination_of domain accounts sender.account m.to) m sender sessions

pub returns-clause-oneself : goal.returns-clause-oneself
returns-clause-oneself c domain accounts sessions m sender there kept = own_archive (destination_of domain accounts sender.account m.to) m sender sessions there kept
