use Rattle.sim_4_links_follow.proofs.AllReads.{end_read}
use Rattle.sim_4_links_follow.proofs.clients_hear.ends_are_read.Goals as goal

pub returns : goal.returns
returns c = end_read
