use Rattle.law_server.proofs.PutsDue.{puts_due}
use Rattle.law_server.proofs.live_messages.connections_get_what_is_theirs.Goals as goal

pub returns : goal.returns
returns g c = puts_due
