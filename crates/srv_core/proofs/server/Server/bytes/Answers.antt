use Rattle.std.proofs.Common.{List, ℕ, ap, ◌∙◌}
use Rattle.srv_core.specs.Events.{Whole, framer_at}
use Rattle.srv_core.proofs.server.Server.bytes.Goals as goal

pub returns-clause-unknown : goal.returns-clause-unknown
returns-clause-unknown c = λ none. c.on_event-result.ensures.unknown (ap (λ (w : Whole (List ℕ)). framer_at c.args.conn w.framers) c.self.view_is ∙ none)
