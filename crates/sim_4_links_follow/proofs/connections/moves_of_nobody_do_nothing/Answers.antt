use Rattle.sim_4_links_follow.proofs.Nobody.{not_over, nothing_down, nothing_up, of_nobody}
use Rattle.sim_4_links_follow.proofs.connections.moves_of_nobody_do_nothing.Goals as goal

pub returns : goal.returns
returns c = record { nobody = of_nobody; up = nothing_up; told = not_over; down = nothing_down }
