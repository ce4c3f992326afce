use Rattle.sim_4_links_follow.proofs.Headers.{item_may_come}
use Rattle.sim_4_links_follow.proofs.worlds.headers_come_first.Goals as goal

pub returns : goal.returns
returns c = item_may_come
