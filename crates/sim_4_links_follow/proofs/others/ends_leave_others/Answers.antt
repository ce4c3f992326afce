use Rattle.sim_4_links_follow.proofs.Ends.{end_stays}
use Rattle.sim_4_links_follow.proofs.others.ends_leave_others.Goals as goal

pub returns : goal.returns
returns c = end_stays
