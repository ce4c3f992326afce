use Rattle.law_server.proofs.RowsDue.{faults_due, items_due}
use Rattle.law_server.proofs.live_messages.messages_go_to_their_accounts.Goals as goal

pub returns : goal.returns
returns g c = record { item = items_due; fault = faults_due }
