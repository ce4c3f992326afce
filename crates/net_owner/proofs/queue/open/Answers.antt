use Rattle.net_owner.proofs.RuleSteps.{begins}
use Rattle.net_owner.proofs.queue.open.Goals as goal

pub bounded_with-requires-clause-rule : goal.bounded_with-requires-clause-rule
bounded_with-requires-clause-rule g c = begins g.T.Sent.from
