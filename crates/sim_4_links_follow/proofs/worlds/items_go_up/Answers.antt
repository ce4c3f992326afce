use Rattle.sim_4_links_follow.proofs.Ups.{item_goes_up}
use Rattle.sim_4_links_follow.proofs.worlds.items_go_up.Goals as goal

pub returns : goal.returns
returns c = item_goes_up
