use Rattle.auth_primitives.proofs.AcceptedLaws.{accepted_is_base64, accepted_is_decoded, after_append}
use Rattle.auth_primitives.proofs.laws.base64_is_read_exactly.Goals as goal

pub returns-clause-canonical : goal.returns-clause-canonical
returns-clause-canonical c = accepted_is_base64

pub returns-clause-decoded : goal.returns-clause-decoded
returns-clause-decoded c = accepted_is_decoded

pub returns-clause-pieces : goal.returns-clause-pieces
returns-clause-pieces c = after_append
