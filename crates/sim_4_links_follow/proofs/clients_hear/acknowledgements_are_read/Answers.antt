use Rattle.sim_4_links_follow.proofs.AllReads.{counts_read}
use Rattle.sim_4_links_follow.proofs.clients_hear.acknowledgements_are_read.Goals as goal

pub returns : goal.returns
returns c = counts_read
