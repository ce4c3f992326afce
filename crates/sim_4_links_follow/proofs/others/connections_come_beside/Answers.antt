use Rattle.sim_4_links_follow.proofs.Comings.{fresh_pipes, fresh_represents}
use Rattle.sim_4_links_follow.proofs.others.connections_come_beside.Goals as goal

pub returns : goal.returns
returns c = record { server = fresh_represents; pipes = fresh_pipes }
