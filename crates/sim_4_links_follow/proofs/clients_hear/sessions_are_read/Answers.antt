use Rattle.sim_4_links_follow.proofs.AllReads.{session_read}
use Rattle.sim_4_links_follow.proofs.clients_hear.sessions_are_read.Goals as goal

pub returns : goal.returns
returns c = session_read
