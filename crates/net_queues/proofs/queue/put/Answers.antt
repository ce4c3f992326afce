use Rattle.std.proofs.Common.{ap, ◌∙◌}
use Rattle.net_queues.specs.declared.rule.Side.{Side}
use Rattle.net_queues.proofs.RuleSteps.{sends, bounds}
use Rattle.net_queues.proofs.queue.put.Goals as goal

pub send_as-requires-clause-rule : goal.send_as-requires-clause-rule
send_as-requires-clause-rule g c = let may = ap (λ (v : Side _). v.puts) c.loop.invariant.1 ∙ c.requires.may in (sends _ _ _ _ may, bounds _ _ may)
