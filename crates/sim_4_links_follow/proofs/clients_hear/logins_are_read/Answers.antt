use Rattle.sim_4_links_follow.proofs.AllReads.{login_read}
use Rattle.sim_4_links_follow.proofs.clients_hear.logins_are_read.Goals as goal

pub returns : goal.returns
returns c = login_read
