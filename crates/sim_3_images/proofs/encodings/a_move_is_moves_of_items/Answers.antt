use Rattle.sim_3_images.proofs.Moves.{move_is, moves_are}
use Rattle.sim_3_images.proofs.ServersInOrder.{cores_fit}
use Rattle.sim_3_images.proofs.encodings.a_move_is_moves_of_items.Goals as goal
use Rattle.sim_3_images.specs.EncodingsCores.{Among}
use Rattle.sim_3_images.specs.Stands.{StandingServers}

pub returns : goal.returns
returns g c = record {
  one = λ up down server_state client keep m w v may i. move_is (Among up) (Among down) (StandingServers (Among server_state)) (Among client) (cores_fit (Among up) (Among down) (Among server_state) (Among client) keep) m w v may i;
  many = λ up down server_state client keep ms w v may i. moves_are (Among up) (Among down) (StandingServers (Among server_state)) (Among client) (cores_fit (Among up) (Among down) (Among server_state) (Among client) keep) ms w v may i;
}
