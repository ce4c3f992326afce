use Rattle.sim_2_links.proofs.Settled.{prompt_kept, settled}
use Rattle.sim_2_links.proofs.links.empty_pipes_leave_nothing_outstanding.Goals as goal

pub returns : goal.returns
returns g c = λ asks v k conn reached here is flows no_up no_down. settled asks v k conn (prompt_kept asks v reached) here is flows no_up no_down
