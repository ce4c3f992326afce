use Rattle.sim_4_links_follow.proofs.LoginRows.{login_follows}
use Rattle.sim_4_links_follow.proofs.servers.logins_follow.Goals as goal

pub returns : goal.returns
returns c = login_follows
