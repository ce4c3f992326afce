use Rattle.std.proofs.Common.{ap, ◌∙◌}
use Rattle.net_owner.specs.declared.rule.Known.{Known}
use Rattle.net_owner.proofs.RuleSteps.{merges, tells}
use Rattle.net_owner.proofs.queue.retire.Goals as goal

pub absorb-requires-clause-rule : goal.absorb-requires-clause-rule
absorb-requires-clause-rule g c = merges g.T.Sent.from _ _ _ _ c.requires.owner.0 c.requires.owner.1 c.requires.sender

pub learn_as-requires-clause-rule : goal.learn_as-requires-clause-rule
learn_as-requires-clause-rule g c = tells g.T.Sent.from _ _ (ap (λ (v : Known _). v.takes) c.absorb.ensures.rule ∙ c.requires.owner.0)
