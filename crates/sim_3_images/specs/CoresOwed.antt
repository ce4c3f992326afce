-- What is owed of each core beside that what it puts fits.
use Rattle.std.specs.Prelude.{ℕ, Bool, List}
use Rattle.std.specs.List.{AllByRecursion}
use Rattle.cl_core.specs.Steps.{item_step}
use Rattle.cl_core.specs.UserCalls.{catches_up, dials, says}
use Rattle.cl_handlers.specs.Clients.{ClientStep, ClientView}
use Rattle.cl_handlers.specs.Speech.{in_items}
use Rattle.sim_3_images.specs.Relayable.{ClientFits, DownFits, IsAnswered, IsClientRelayable, IsRelayable, ServerFits, ServerStateAnswers, UpFits}
use Rattle.srv_state.specs.State.{ServerState}
use Rattle.sim_3_images.specs.Stands.{OutPuts}
use Rattle.sim_3_items.specs.ItemMoves.{fed_of, step_of}
use Rattle.sim_3_items.specs.ItemWorlds.{itself, read_of, silent_client_step}
use Rattle.srv_core.specs.Table.{after_item}
use Rattle.cmd_world.specs.Worlds.{client_entropy}
use Rattle.xml_writer.specs.Items.{ItemOut}

-- what a server puts for an item of a client can be answered, and so can what waits then
pub record ServerAnswers : Type 0 where
  pub handles : (k : ℕ) (i : ItemOut) (h : ServerState ItemOut) → ServerFits h → UpFits i → ServerStateAnswers (after_item itself k (read_of i) (step_of h)).server_state
  pub answers : (k : ℕ) (i : ItemOut) (h : ServerState ItemOut) → ServerFits h → UpFits i → AllByRecursion (OutPuts IsAnswered) (after_item itself k (read_of i) (step_of h)).outs

pub record ClientStepIsRelayable (t : ClientStep ItemOut ItemOut) : Type 0 where
  pub client : IsClientRelayable t.client
  pub put : AllByRecursion IsRelayable t.out.put

-- what a client puts is mild
pub record ClientIsRelayable : Type 0 where
  pub dials_so : (k : ℕ) (c : ClientView ItemOut) → ClientFits c → ClientStepIsRelayable (dials in_items (client_entropy k) (fed_of c)).turn
  pub hears : (i : ItemOut) (c : ClientView ItemOut) → ClientFits c → DownFits i → ClientStepIsRelayable (item_step in_items (silent_client_step c) (read_of i))
  pub says_so : (to text : List ℕ) (private : Bool) (c : ClientView ItemOut) → ClientFits c → ClientStepIsRelayable (says in_items (silent_client_step c) to text private)
  pub catches_up_so : (most : ℕ) (c : ClientView ItemOut) → ClientFits c → ClientStepIsRelayable (catches_up in_items (silent_client_step c) most)
