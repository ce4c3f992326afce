use Rattle.law_server.proofs.KeptMessages.{in_addressees, in_senders}
use Rattle.law_server.proofs.live_messages.messages_are_archived.Goals as goal

pub returns : goal.returns
returns g c = record {
  senders = λ say k i h sender m account numbers taken is. in_senders say k i h sender m account numbers taken is;
  addressees = λ say k i h sender m account numbers taken is. in_addressees say k i h sender m account numbers taken is;
}
