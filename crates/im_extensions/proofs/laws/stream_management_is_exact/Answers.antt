use Rattle.im_extensions.proofs.StreamManagementLaws.{enable_exact}
use Rattle.im_extensions.proofs.StreamManagementLaws.{enabled_exact}
use Rattle.im_extensions.proofs.StreamManagementLaws.{ack_exact}
use Rattle.im_extensions.proofs.StreamManagementLaws.{resume_exact}
use Rattle.im_extensions.proofs.StreamManagementLaws.{resumed_exact}
use Rattle.im_extensions.proofs.SmFailedLaws.{sm_failed_exact}
use Rattle.im_extensions.proofs.laws.stream_management_is_exact.Goals as goal

pub returns-clause-enable : goal.returns-clause-enable
returns-clause-enable c = enable_exact

pub returns-clause-enabled : goal.returns-clause-enabled
returns-clause-enabled c = enabled_exact

pub returns-clause-ack : goal.returns-clause-ack
returns-clause-ack c = ack_exact

pub returns-clause-resume : goal.returns-clause-resume
returns-clause-resume c = resume_exact

pub returns-clause-resumed : goal.returns-clause-resumed
returns-clause-resumed c = resumed_exact

pub returns-clause-failed : goal.returns-clause-failed
returns-clause-failed c = sm_failed_exact
