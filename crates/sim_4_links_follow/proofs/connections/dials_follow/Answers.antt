use Rattle.sim_3_items.specs.Pipes.{by_number}
use Rattle.sim_4_links_follow.proofs.Comes.{dial_lifts}
use Rattle.sim_4_links_follow.proofs.connections.dials_follow.Goals as goal
use Rattle.sim_4_links_follow.proofs.MomentRows.{moment_follows}

pub returns : goal.returns
returns c = λ who logins w v x mine yours s. dial_lifts who logins w v s (moment_follows who logins w.server (by_number w.wires) v w.moment s.server s.pipes) x mine yours
