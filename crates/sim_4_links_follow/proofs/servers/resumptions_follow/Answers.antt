use Rattle.sim_4_links_follow.proofs.Resumptions.{resume_follows}
use Rattle.sim_4_links_follow.proofs.servers.resumptions_follow.Goals as goal

pub returns : goal.returns
returns c = resume_follows
