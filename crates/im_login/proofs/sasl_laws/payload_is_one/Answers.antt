use Rattle.im_login.proofs.PayloadLaws.{empty_payload, payload_one}
use Rattle.im_login.proofs.sasl_laws.payload_is_one.Goals as goal

pub returns-clause-one : goal.returns-clause-one
returns-clause-one c = payload_one

pub returns-clause-empty : goal.returns-clause-empty
returns-clause-empty c = empty_payload
