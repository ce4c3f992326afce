use Rattle.law_server.proofs.HighCounts.{ack_alone, ack_gone, ack_is, resume_alone, resume_gone, resume_is}
use Rattle.law_server.proofs.gone_sessions.a_count_that_is_too_high_ends_its_session.Goals as goal

pub returns : goal.returns
returns g c = record {
  ack = λ say k account h e t s have l counted read high. (ack_is say k account h e t s have l counted read high, ack_gone say k account h e t s have l counted read high);
  resume = λ say k account h previd e t s have l found read high. (resume_is say k account h previd e t s l found read high, resume_gone say k account h previd e t s have l found read high);
  ack_alone = ack_alone;
  resume_alone = resume_alone;
}
