use Rattle.sim_4_links_follow.proofs.Lifts.{end_lifts}
use Rattle.sim_4_links_follow.proofs.Parts.{told_over}
use Rattle.sim_4_links_follow.proofs.connections.ends_are_told.Goals as goal

pub returns : goal.returns
returns c = record {
  links = λ who logins d wires v position shown over. told_over who logins d wires v shown position over;
  worlds = λ who logins w v position wire s reached there of. end_lifts who logins w v s position wire there of reached;
}
