use Rattle.sim_4_links_follow.proofs.DownWords.{read_lifts}
use Rattle.sim_4_links_follow.proofs.Lifts.{ask_lifts, hear_lifts, refused_lifts, say_lifts, unasked_lifts}
use Rattle.sim_4_links_follow.proofs.connections.turns_follow.Goals as goal

pub returns : goal.returns
returns c = record {
  hears = λ who logins w v position d wire i s. hear_lifts who logins w v s position d wire i;
  reads = λ who logins w v position d wire i s reached n. read_lifts who logins w v s reached position d wire i n;
  says = λ who logins w v to text private d n s. say_lifts who logins w v s to text private d n;
  refused = λ who logins w v to text private d e s. refused_lifts who logins w v s to text private d e;
  asks = λ who logins w v most d s. ask_lifts who logins w v s most d tt;
  unasked = λ who logins w v most d e s. unasked_lifts who logins w v s most d e;
}
