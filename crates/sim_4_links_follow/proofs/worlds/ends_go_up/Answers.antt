use Rattle.sim_4_links_follow.proofs.UpEnds.{end_beside, end_in}
use Rattle.sim_4_links_follow.proofs.worlds.ends_go_up.Goals as goal

pub returns : goal.returns
returns c = record {
  own = λ who logins w v position wire s reached there of. end_in who logins w v s reached position wire there of;
  beside = λ who whom logins others w v u position wire s reached there of b. end_beside who logins w v s reached position wire there of whom others u b;
}
