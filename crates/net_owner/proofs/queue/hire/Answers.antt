use Rattle.std.proofs.Common.{sym, ap, ◌∙◌}
use Rattle.crossbeam_channel.specs.Claims.{view}
use Rattle.net_owner.specs.Merge.{items_of}
use Rattle.net_owner.specs.declared.rule.Known.{Known}
use Rattle.net_owner.proofs.RuleSteps.{forks, none_yet, first_none}
use Rattle.net_owner.proofs.ItemsOf.{items_of-append}
use Rattle.net_owner.proofs.queue.hire.Goals as goal

pub learn_as-requires-clause-rule : goal.learn_as-requires-clause-rule
learn_as-requires-clause-rule g c = none_yet g.T.Sent.from _ _ c.requires.owner.0

pub another-requires-clause-rule : goal.another-requires-clause-rule
another-requires-clause-rule g c = forks g.T.Sent.from _ _ (ap (λ (v : Known _). v.takes) c.learn_as.ensures.channel.2 ∙ c.requires.owner.0) (ap (λ (v : Known _). v.sends) c.learn_as.ensures.channel.2 ∙ c.requires.owner.1)

pub returns-clause-fresh : goal.returns-clause-fresh
returns-clause-fresh g c = let from = g.T.Sent.from in let v = view c.args.pass.now in let r = c.learn_as.ensures.rule in
    first_none from (items_of from v.made v.got) (items_of from v.made r.0) (sym (items_of-append from v.made v.got r.0) ∙ r.1)
