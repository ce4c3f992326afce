use Rattle.std.proofs.Common.{ap, ◌∙◌, sym}
use Rattle.net_owner.specs.declared.rule.Known.{Known}
use Rattle.net_owner.proofs.RuleSteps.{puts}
use Rattle.net_owner.proofs.queue.post.Goals as goal

pub send_as-requires-clause-rule : goal.send_as-requires-clause-rule
send_as-requires-clause-rule g c = (
  puts g.T.Sent.from _ _ _ _ (ap (λ (v : Known _). v.sends) c.loop.invariant.1 ∙ c.requires.sender.0)
      (ap g.T.Sent.from c.loop.invariant.2 ∙ (c.requires.sender.1 ∙ sym (ap (λ (v : Known _). v.from) c.loop.invariant.1))),
  λ items views h at. tt,
)
