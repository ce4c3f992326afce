use Rattle.auth_scram.proofs.ReadBack.{goes_through}
use Rattle.auth_scram.proofs.ReadWritten.{read_back}
use Rattle.auth_scram.proofs.agreement.ends_agree.Goals as goal

pub returns : goal.returns
returns c given allowed = goes_through read_back given allowed
