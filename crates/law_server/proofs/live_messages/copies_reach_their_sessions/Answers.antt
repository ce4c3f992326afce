use Rattle.law_server.proofs.KeptMessages.{as_received_by, as_sent_to}
use Rattle.law_server.proofs.live_messages.copies_reach_their_sessions.Goals as goal

pub returns : goal.returns
returns g c = record {
  sent = λ say k i h sender t m account numbers taken is open_to other copied owner. as_sent_to say k i h sender m account numbers taken is open_to t copied owner other;
  received = λ say k i h sender t m account numbers taken is open_to other copied owner. as_received_by say k i h sender m account numbers taken is open_to t copied owner other;
}
