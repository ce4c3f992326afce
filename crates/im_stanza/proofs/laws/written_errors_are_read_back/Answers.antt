use Rattle.im_stanza.proofs.ErrorLaws.{error_read_back, error_stays, stream_read_back, stream_stays}
use Rattle.im_stanza.proofs.laws.written_errors_are_read_back.Goals as goal

pub returns-clause-error : goal.returns-clause-error
returns-clause-error c = error_read_back

pub returns-clause-error_stays : goal.returns-clause-error_stays
returns-clause-error_stays c = error_stays

pub returns-clause-stream : goal.returns-clause-stream
returns-clause-stream c = stream_read_back

pub returns-clause-stream_stays : goal.returns-clause-stream_stays
returns-clause-stream_stays c = stream_stays
