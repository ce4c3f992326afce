use Rattle.cl_login.proofs.LoginLaws.{passwords_log_in}
use Rattle.cl_login.proofs.laws.the_right_server_is_accepted.Goals as goal

pub returns : goal.returns
returns c = passwords_log_in c.ends_agree.ensures
