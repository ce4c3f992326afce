use Rattle.sim_4_links_follow.proofs.CutPipes.{cut_of_device}
use Rattle.sim_4_links_follow.proofs.Lifts.{cut_lifts}
use Rattle.sim_4_links_follow.proofs.connections.cuts_follow.Goals as goal

pub returns : goal.returns
returns c = record { links = cut_of_device; worlds = λ who logins w v position i j wire s there of. cut_lifts who logins w v s position wire there of i j }
