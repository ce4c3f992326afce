use Rattle.sim_4_links_follow.proofs.MomentRows.{moment_follows}
use Rattle.sim_4_links_follow.proofs.servers.moments_follow.Goals as goal

pub returns : goal.returns
returns c = moment_follows
