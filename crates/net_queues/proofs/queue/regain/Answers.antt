use Rattle.std.proofs.Common.{ap, ◌∙◌, sym}
use Rattle.net_queues.specs.declared.rule.Side.{Side}
use Rattle.net_queues.proofs.RuleSteps.{merges, totals}
use Rattle.net_queues.proofs.queue.regain.Goals as goal

pub absorb-requires-clause-rule : goal.absorb-requires-clause-rule
absorb-requires-clause-rule g c = merges _ _ _ _ c.requires.may.0 c.requires.may.1

pub learn_as-requires-clause-rule : goal.learn_as-requires-clause-rule
learn_as-requires-clause-rule g c = totals _ _ (ap (λ (v : Side _). v.puts) c.absorb.ensures.rule) (ap (λ (v : Side _). v.takes) c.absorb.ensures.rule)
