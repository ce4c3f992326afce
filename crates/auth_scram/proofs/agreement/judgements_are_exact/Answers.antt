use Rattle.auth_scram.proofs.Judging.{all_exact}
use Rattle.auth_scram.proofs.agreement.judgements_are_exact.Goals as goal

pub returns : goal.returns
returns c = all_exact
