use Rattle.law_payloads.proofs.SaslReads.{abort_answers, auth_answers, carrier_answers, failure_answers, payload_law}
use Rattle.law_payloads.proofs.sasl.sasl_is_read_as_stated.Goals as goal

pub returns-clause-payload : goal.returns-clause-payload
returns-clause-payload c = payload_law

pub returns-clause-carrier : goal.returns-clause-carrier
returns-clause-carrier c = carrier_answers

pub returns-clause-auth : goal.returns-clause-auth
returns-clause-auth c = auth_answers

pub returns-clause-failure : goal.returns-clause-failure
returns-clause-failure c = failure_answers

pub returns-clause-abort : goal.returns-clause-abort
returns-clause-abort c = abort_answers
