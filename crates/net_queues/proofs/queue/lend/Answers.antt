use Rattle.net_queues.proofs.RuleSteps.{forks}
use Rattle.net_queues.proofs.queue.lend.Goals as goal

pub another-requires-clause-rule : goal.another-requires-clause-rule
another-requires-clause-rule g c = forks _ _ c.requires.may.0 c.requires.may.1
