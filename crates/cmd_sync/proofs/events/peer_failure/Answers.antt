use Rattle.std.proofs.Common.{ap, sym, ◌∙◌}
use Rattle.cmd_sync.specs.Conditions.{sent_condition}
use Rattle.cmd_sync.specs.Failures.{peer_failure}
use Rattle.cmd_sync.specs.declared.failure.PeerFailure.TheVariants.{Sasl, Stream}
use Rattle.cmd_sync.proofs.events.peer_failure.Goals as goal

pub returns-in-Stream : goal.returns-in-Stream
returns-in-Stream c = ap (λ named. Stream named) (c.named.ensures ∙ ap sent_condition c.as_str.ensures) ∙ sym (ap peer_failure c.in-Stream.is)

pub returns-in-Sasl : goal.returns-in-Sasl
returns-in-Sasl c = ap (λ named. Sasl named) (c.named-in-Sasl.ensures ∙ ap sent_condition c.as_str-in-Sasl.ensures) ∙ sym (ap peer_failure c.in-Sasl.is)
