use Rattle.sim_2_links.proofs.Reached.{link_kept}
use Rattle.sim_2_links.proofs.Numbers.{reached_rises}
use Rattle.sim_2_links.proofs.Seen.{move_seen, run_seen}
use Rattle.sim_2_links.proofs.links.moves_are_events_of_sessions.Goals as goal

pub returns-clause-moves : goal.returns-clause-moves
returns-clause-moves g c = λ move v next reached by. let s = move_seen move v next by (link_kept v reached) (reached_rises v reached) in (s.0, s.2)

pub returns-clause-tells : goal.returns-clause-tells
returns-clause-tells g c = λ move v next reached by. move_seen move v next by (link_kept v reached) (reached_rises v reached)

pub returns-clause-runs : goal.returns-clause-runs
returns-clause-runs g c = λ v reached. run_seen v reached
