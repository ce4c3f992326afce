use Rattle.law_server.proofs.SentPuts.{only_there, others_wait_on, puts_there, waits_there}
use Rattle.law_server.proofs.live_messages.what_is_sent_is_put.Goals as goal

pub returns : goal.returns
returns g c = record { put = puts_there; waits = waits_there; only = only_there; others = others_wait_on }
