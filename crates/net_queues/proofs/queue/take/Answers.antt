use Rattle.std.proofs.Common.{ap, ◌∙◌}
use Rattle.net_queues.specs.declared.rule.Side.{Side}
use Rattle.net_queues.proofs.RuleSteps.{gets}
use Rattle.net_queues.proofs.queue.take.Goals as goal

pub recv_as-requires-clause-rule : goal.recv_as-requires-clause-rule
recv_as-requires-clause-rule g c = let may = ap (λ (v : Side _). v.takes) c.loop.invariant.1 ∙ c.requires.may in (gets _ _ may, λ items views h at. tt)
