use Rattle.sim_4_links_follow.proofs.Lifts.{close_lifts}
use Rattle.sim_4_links_follow.proofs.Parts.{closed_so}
use Rattle.sim_4_links_follow.proofs.connections.closes_follow.Goals as goal

pub returns : goal.returns
returns c = record { links = closed_so; worlds = close_lifts }
