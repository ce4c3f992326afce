use Rattle.im_login.proofs.SaslLaws.{auth_refused, carrier_refused}
use Rattle.im_login.proofs.sasl_laws.sasl_is_refused.Goals as goal

pub returns-clause-auth : goal.returns-clause-auth
returns-clause-auth c = auth_refused

pub returns-clause-carrier : goal.returns-clause-carrier
returns-clause-carrier c = carrier_refused
