use Rattle.sim_3_images.proofs.AnsweredTable.{what_a_server_says_is_answered}
use Rattle.sim_3_images.proofs.Keeping.{cores_keep}
use Rattle.sim_3_images.proofs.RelayableSteps.{client_is_relayable}
use Rattle.sim_3_images.proofs.Starts.{start_keeps}
use Rattle.sim_3_images.proofs.cores.each_world_is_one_of_items.Goals as goal
use Rattle.sim_3_images.specs.Relayable.{ClientFits, DownFits, ServerFits, UpFits}
use Rattle.sim_3_images.proofs.Moves.{history_is, moves_are, no_items_down, no_items_up}
use Rattle.sim_3_images.proofs.ServersInOrder.{cores_fit, start_stands}
use Rattle.sim_3_images.specs.Stands.{StandingServers}

pub returns : goal.returns
returns c = record {
  history = λ schedule is.
      let fits = start_keeps schedule is in
      history_is UpFits DownFits (StandingServers ServerFits) ClientFits (cores_fit UpFits DownFits ServerFits ClientFits (cores_keep what_a_server_says_is_answered client_is_relayable)) schedule is
      (record { server_state = (start_stands 0 _ _ _, fits.server_state); clients = fits.clients });
  moves = λ ms w v may i. moves_are UpFits DownFits (StandingServers ServerFits) ClientFits (cores_fit UpFits DownFits ServerFits ClientFits (cores_keep what_a_server_says_is_answered client_is_relayable)) ms w v may i;
  up = no_items_up UpFits DownFits (StandingServers ServerFits) ClientFits;
  down = no_items_down UpFits DownFits (StandingServers ServerFits) ClientFits;
}
