use Rattle.net_queues.proofs.RuleSteps.{begins}
use Rattle.net_queues.proofs.queue.open.Goals as goal

pub bounded_with-requires-clause-rule : goal.bounded_with-requires-clause-rule
bounded_with-requires-clause-rule g c = begins
