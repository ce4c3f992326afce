use Rattle.law_server.proofs.NoncesApart.{told_apart}
use Rattle.law_server.proofs.nonces.nonces_are_told_apart.Goals as goal

pub returns : goal.returns
returns c = told_apart
