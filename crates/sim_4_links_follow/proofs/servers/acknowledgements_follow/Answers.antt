use Rattle.sim_4_links_follow.proofs.SessionRows.{management_follows}
use Rattle.sim_4_links_follow.proofs.servers.acknowledgements_follow.Goals as goal

pub returns : goal.returns
returns c = management_follows
