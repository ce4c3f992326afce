use Rattle.law_limits.proofs.Logins.{header_fits, header_plain, stream_id_said}
use Rattle.law_limits.proofs.PutReplies.{error_read, login_features_read, session_features_read, too_high_read}
use Rattle.law_limits.proofs.put_fits.streams_are_read.Goals as goal
use Rattle.im_replies.specs.Streams.{stream_id}

pub returns : goal.returns
returns c = record {
  plain = λ domain k entropy h short. header_plain domain (stream_id k entropy) 6138 12096 h (stream_id_said k entropy short);
  header = λ domain k entropy h short. header_fits domain (stream_id k entropy) h (stream_id_said k entropy short);
  error = error_read;
  too_high = too_high_read;
  login_features = login_features_read;
  session_features = session_features_read;
}
