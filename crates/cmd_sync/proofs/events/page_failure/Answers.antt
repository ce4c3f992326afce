use Rattle.std.proofs.Common.{ap, sym, ◌∙◌}
use Rattle.cmd_sync.specs.Conditions.{sent_condition}
use Rattle.cmd_sync.specs.Failures.{page_failure}
use Rattle.cmd_sync.specs.declared.failure.PeerFailure.TheVariants.{Refused}
use Rattle.cmd_sync.proofs.events.page_failure.Goals as goal

pub returns-in-Refused : goal.returns-in-Refused
returns-in-Refused c = ap (λ named. Refused named) (c.named.ensures ∙ ap sent_condition c.name.ensures) ∙ sym (ap page_failure c.in-Refused.is)
