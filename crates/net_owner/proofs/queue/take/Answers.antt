use Rattle.std.proofs.Common.{ap, ◌∙◌}
use Rattle.net_owner.specs.declared.rule.Known.{Known}
use Rattle.net_owner.proofs.RuleSteps.{takes, tells}
use Rattle.net_owner.proofs.queue.take.Goals as goal

pub recv_as-requires-clause-rule : goal.recv_as-requires-clause-rule
recv_as-requires-clause-rule g c = let may = ap (λ (v : Known _). v.takes) c.loop.invariant.1 ∙ c.requires.owner in (takes g.T.Sent.from _ _ may, tells g.T.Sent.from _ _ may)
