use Rattle.cl_login.proofs.LoginLaws.{verifiers_log_in}
use Rattle.cl_login.proofs.laws.only_the_right_verifier_logs_in.Goals as goal

pub returns : goal.returns
returns c = verifiers_log_in c.judgements_are_exact.ensures
