use Rattle.sim_4_links_follow.proofs.Headers.{item_may_go_up}
use Rattle.sim_4_links_follow.proofs.StandMoves.{move_stands, stands_dialled, start_is}
use Rattle.sim_4_links_follow.proofs.worlds.servers_stand.Goals as goal

pub returns : goal.returns
returns c = record { begins = start_is; stays = move_stands; may = item_may_go_up; dialled = stands_dialled }
