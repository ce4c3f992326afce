-- The world of bytes with which a schedule begins, beside that of the applications.
use Rattle.sim_3_images.proofs.Starts.{start_keeps}
use Rattle.sim_3_images.specs.Relayable.{ClientFits, DownFits, ServerFits, UpFits}
use Rattle.cmd_network.specs.Starting.{accounts_at_start}
use Rattle.sim_3_images.proofs.Moves.{start_encodes}
use Rattle.sim_3_images.proofs.ServersInOrder.{start_stands}
use Rattle.sim_3_images.specs.ItemStarts.{StartFits, items_at_start}
use Rattle.sim_3_images.specs.Stands.{StandingServers}
use Rattle.cmd_report.specs.Addresses.{domain}
use Rattle.cmd_schedule.specs.Schedules.{WireView}
use Rattle.cmd_schedule.specs.LineLists.{IsLineList}
use Rattle.sim_7_schedules.specs.Simulation.{Simulates, bounds}
use Rattle.sim_1_applications.specs.Runs.{begins}
use Rattle.cmd_world.specs.Histories.{world_at_start}
use Rattle.sim_7_schedules.proofs.FirstWorldsBeginning.{begun}
use Rattle.sim_5_moves.specs.Running.{keep_in, names_of}

start_fits : (s : WireView) → IsLineList s → StartFits (StandingServers ServerFits) ClientFits s
start_fits s is =
    let keeps = start_keeps s is in
    record { server_state = (start_stands 0 domain (accounts_at_start (names_of s)) (keep_in s), keeps.server_state); clients = keeps.clients }

pub first : (s : WireView) → IsLineList s → Simulates s (world_at_start s) (begins s)
first s is = record {
  says = 0;
  items = items_at_start s;
  encodes = start_encodes UpFits DownFits (StandingServers ServerFits) ClientFits s (start_fits s is);
  runs = begun s is bounds;
}
