use Rattle.std.proofs.Common.{codes, refl}
use Rattle.im_payload.specs.Names.{management}
use Rattle.law_payloads.proofs.ManagementReads.{ack_answers, bare_answers, enable_answers, enabled_answers, failed_answers, resume_answers, resumed_answers}
use Rattle.law_payloads.proofs.stream_management.stream_management_is_read_as_stated.Goals as goal

pub returns-clause-enable : goal.returns-clause-enable
returns-clause-enable c = enable_answers

pub returns-clause-enabled : goal.returns-clause-enabled
returns-clause-enabled c = enabled_answers

pub returns-clause-request : goal.returns-clause-request
returns-clause-request c = bare_answers management (codes "r") (record {}) (λ w x. refl)

pub returns-clause-ack : goal.returns-clause-ack
returns-clause-ack c = ack_answers

pub returns-clause-resume : goal.returns-clause-resume
returns-clause-resume c = resume_answers

pub returns-clause-resumed : goal.returns-clause-resumed
returns-clause-resumed c = resumed_answers

pub returns-clause-failed : goal.returns-clause-failed
returns-clause-failed c = failed_answers
