use Rattle.sim_3_images.proofs.Moves.{no_items_down, no_items_up}
use Rattle.sim_3_images.proofs.encodings.no_bytes_are_no_items.Goals as goal
use Rattle.sim_3_images.specs.EncodingsCores.{Among}
use Rattle.sim_3_images.specs.Stands.{StandingServers}

pub returns : goal.returns
returns g c = record {
  up = λ up down server_state client. no_items_up (Among up) (Among down) (StandingServers (Among server_state)) (Among client);
  down = λ up down server_state client. no_items_down (Among up) (Among down) (StandingServers (Among server_state)) (Among client);
}
