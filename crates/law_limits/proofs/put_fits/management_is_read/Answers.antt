use Rattle.law_limits.proofs.PutReplies.{ack_read, enabled_read, refused_read, request_read, resumed_read}
use Rattle.law_limits.proofs.Requests.{resumable_read}
use Rattle.law_limits.proofs.put_fits.management_is_read.Goals as goal

pub returns : goal.returns
returns c = record { request = request_read; ack = ack_read; enabled = enabled_read; resumable = resumable_read; resumed = resumed_read; refused = refused_read }
