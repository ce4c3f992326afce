use Rattle.sim_4_links_follow.proofs.Spoken.{catch_up_follows}
use Rattle.sim_4_links_follow.proofs.clients_speak.catch_ups_follow.Goals as goal

pub returns : goal.returns
returns c = catch_up_follows
