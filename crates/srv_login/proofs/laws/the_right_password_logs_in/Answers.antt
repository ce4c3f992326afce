use Rattle.srv_login.proofs.LoginLaws.{passwords_log_in}
use Rattle.srv_login.proofs.laws.the_right_password_logs_in.Goals as goal

pub returns : goal.returns
returns c = passwords_log_in
