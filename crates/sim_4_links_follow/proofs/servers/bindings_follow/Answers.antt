use Rattle.sim_4_links_follow.proofs.BindRows.{bind_follows}
use Rattle.sim_4_links_follow.proofs.servers.bindings_follow.Goals as goal

pub returns : goal.returns
returns c = bind_follows
