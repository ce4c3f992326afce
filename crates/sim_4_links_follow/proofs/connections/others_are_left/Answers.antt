use Rattle.sim_3_items.specs.Pipes.{by_number}
use Rattle.sim_4_links_follow.proofs.Comes.{dial_leaves}
use Rattle.sim_4_links_follow.proofs.ConnectionsElsewhere.{ask_leaves, close_leaves, cut_leaves, down_leaves, end_leaves, forget_leaves, of_its_own, say_leaves}
use Rattle.sim_4_links_follow.proofs.connections.others_are_left.Goals as goal
use Rattle.sim_4_links_follow.proofs.MomentRows.{moment_follows}

pub returns : goal.returns
returns c = record {
  dials = λ who whom logins others w v u mine yours s o apart.
      dial_leaves whom others w u o (moment_follows whom others w.server (by_number w.wires) u w.moment o.server o.pipes) who.position apart s.device s.there (of_its_own who logins w v s whom.position apart) mine yours;
  forgets = λ who whom logins others w v u s o apart. forget_leaves whom others w u o who.position apart s.device s.there (of_its_own who logins w v s whom.position apart);
  closes = λ who whom logins others w v u s o apart. close_leaves whom others w u o who.position apart s.device s.there (of_its_own who logins w v s whom.position apart);
  says = λ who whom logins others w v u to text private s o apart. say_leaves whom others w u o who.position apart s.device s.there (of_its_own who logins w v s whom.position apart) to text private;
  asks = λ who whom logins others w v u most s o apart. ask_leaves whom others w u o who.position apart s.device s.there (of_its_own who logins w v s whom.position apart) most;
  hears = λ whom others w u position wire o there apart. down_leaves whom others w u o position wire there apart;
  ends = λ whom others w u position wire o there apart. end_leaves whom others w u o position wire there apart;
  cuts = λ whom others w u position i j wire o there apart. cut_leaves whom others w u o position wire there apart i j;
}
