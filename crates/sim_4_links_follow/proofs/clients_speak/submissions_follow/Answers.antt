use Rattle.sim_4_links_follow.proofs.Spoken.{submission_follows}
use Rattle.sim_4_links_follow.proofs.clients_speak.submissions_follow.Goals as goal

pub returns : goal.returns
returns c = submission_follows
