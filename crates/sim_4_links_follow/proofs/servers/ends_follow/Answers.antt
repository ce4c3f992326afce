use Rattle.sim_2_links.proofs.Reached.{link_kept}
use Rattle.sim_4_links_follow.proofs.GoneRows.{gone_follows}
use Rattle.sim_4_links_follow.proofs.servers.ends_follow.Goals as goal

pub returns : goal.returns
returns c = λ who logins h wires v k p. gone_follows who logins h wires v (link_kept v p.reached) p.server p.pipes k p.conn p.is p.wire p.there p.nothing p.ended
