use Rattle.sim_3_images.proofs.Moves.{beside_is, history_is}
use Rattle.sim_3_images.proofs.ServersInOrder.{cores_fit, start_stands}
use Rattle.sim_3_images.proofs.encodings.histories_are_those_of_items.Goals as goal
use Rattle.sim_3_images.specs.EncodingsCores.{Among}
use Rattle.sim_3_images.specs.Stands.{StandingServers}

pub returns : goal.returns
returns g c = record {
  reached = λ up down server_state client keep schedule is fits.
      history_is (Among up) (Among down) (StandingServers (Among server_state)) (Among client) (cores_fit (Among up) (Among down) (Among server_state) (Among client) keep) schedule is
      (record { server_state = (start_stands 0 _ _ _, fits.server_state); clients = fits.clients });
  beside = λ up down server_state client keep schedule is fits.
      beside_is (Among up) (Among down) (StandingServers (Among server_state)) (Among client) (cores_fit (Among up) (Among down) (Among server_state) (Among client) keep) schedule is
      (record { server_state = (start_stands 0 _ _ _, fits.server_state); clients = fits.clients });
}
