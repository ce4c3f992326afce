use Rattle.law_payloads.proofs.SaslReads.{abort_written, auth_written, carrier_written, failure_written}
use Rattle.law_payloads.proofs.sasl.written_sasl_is_read_back.Goals as goal

pub returns-clause-carrier : goal.returns-clause-carrier
returns-clause-carrier c = carrier_written

pub returns-clause-auth : goal.returns-clause-auth
returns-clause-auth c = auth_written

pub returns-clause-failure : goal.returns-clause-failure
returns-clause-failure c = failure_written

pub returns-clause-abort : goal.returns-clause-abort
returns-clause-abort c = abort_written
