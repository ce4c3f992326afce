use Rattle.law_payloads.proofs.ManagementWritten.{ack_written, enable_written, enabled_written, failed_written, resume_written, resumed_written}
use Rattle.law_payloads.proofs.stream_management.written_stream_management_is_read_back.Goals as goal

pub returns-clause-enable : goal.returns-clause-enable
returns-clause-enable c = enable_written

pub returns-clause-enabled : goal.returns-clause-enabled
returns-clause-enabled c = enabled_written

pub returns-clause-ack : goal.returns-clause-ack
returns-clause-ack c = ack_written

pub returns-clause-resume : goal.returns-clause-resume
returns-clause-resume c = resume_written

pub returns-clause-resumed : goal.returns-clause-resumed
returns-clause-resumed c = resumed_written

pub returns-clause-failed : goal.returns-clause-failed
returns-clause-failed c = failed_written
