use Rattle.std.proofs.Common.{ap, ◌∙◌}
use Rattle.net_queues.specs.declared.rule.Side.{Side}
use Rattle.net_queues.proofs.RuleSteps.{sends, bounds}
use Rattle.net_queues.proofs.queue.offer.Goals as goal

pub try_send_as-requires-clause-rule : goal.try_send_as-requires-clause-rule
try_send_as-requires-clause-rule g c = let may = ap (λ (v : Side _). v.puts) c.loop.invariant.1 ∙ c.requires.may in (sends _ _ _ _ may, bounds _ _ may)
