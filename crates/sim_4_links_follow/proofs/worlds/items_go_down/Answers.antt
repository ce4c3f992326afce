use Rattle.sim_4_links_follow.proofs.Downs.{item_goes_down}
use Rattle.sim_4_links_follow.proofs.worlds.items_go_down.Goals as goal

pub returns : goal.returns
returns c = item_goes_down
