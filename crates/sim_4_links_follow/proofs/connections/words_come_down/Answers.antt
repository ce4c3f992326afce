use Rattle.sim_4_links_follow.proofs.DownWords.{next_down}
use Rattle.sim_4_links_follow.proofs.connections.words_come_down.Goals as goal

pub returns : goal.returns
returns c = λ who logins w v position d wire i s reached n. next_down who logins w v s reached position d wire i n
