use Rattle.sim_4_links_follow.proofs.OtherEnds.{own_word_stays}
use Rattle.sim_4_links_follow.proofs.servers.other_devices_stay.Goals as goal

pub returns : goal.returns
returns c = own_word_stays
