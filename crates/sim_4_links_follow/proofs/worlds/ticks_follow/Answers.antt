use Rattle.sim_4_links_follow.proofs.UpEnds.{tick_in}
use Rattle.sim_4_links_follow.proofs.worlds.ticks_follow.Goals as goal

pub returns : goal.returns
returns c = tick_in
