use Rattle.sim_4_links_follow.proofs.Words.{word_stays}
use Rattle.sim_4_links_follow.proofs.others.words_leave_others.Goals as goal

pub returns : goal.returns
returns c = word_stays
