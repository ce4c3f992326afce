use Rattle.srv_login.proofs.LoginLaws.{proofs_log_in}
use Rattle.srv_login.proofs.laws.only_the_right_proof_logs_in.Goals as goal

pub returns : goal.returns
returns c = proofs_log_in
