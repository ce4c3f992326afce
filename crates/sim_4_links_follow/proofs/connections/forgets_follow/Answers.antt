use Rattle.sim_4_links_follow.proofs.Lifts.{forget_lifts}
use Rattle.sim_4_links_follow.proofs.Parts.{forgotten}
use Rattle.sim_4_links_follow.proofs.connections.forgets_follow.Goals as goal

pub returns : goal.returns
returns c = record { links = forgotten; worlds = forget_lifts }
