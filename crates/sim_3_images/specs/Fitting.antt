-- Worlds of items in which all that is under way is within limits, and the moves that keep them so.
use Rattle.std.specs.Prelude.{ℕ, ◌≡◌, ◌≤◌, List, IsTrue}
use Rattle.std.specs.List.{AllByRecursion}
use Rattle.cl_handlers.specs.Clients.{ClientView}
use Rattle.sim_3_images.specs.Relayable.{ClientFits, DownFits, ServerFits, UpFits}
use Rattle.srv_state.specs.Moments.{with_fresh}
use Rattle.srv_state.specs.State.{ServerState}
use Rattle.sim_3_items.specs.ItemMoves.{CatchUp, Dial, ItemMove, Say}
use Rattle.sim_3_items.specs.ItemPipes.{ItemWire}
use Rattle.sim_3_items.specs.ItemWorlds.{ItemDevice, ItemWorld}
use Rattle.cmd_report.specs.Addresses.{bare_address}
use Rattle.cmd_schedule.specs.Grammar.{is_name, is_text}
use Rattle.cmd_world.specs.Worlds.{client_entropy, server_entropy}
use Rattle.xml_writer.specs.Items.{ItemOut}

-- ---- worlds

-- each item on its way up or down
pub record WireFits (UpFits DownFits : ItemOut → Type 0) (wire : ItemWire) : Type 0 where
  pub up : AllByRecursion UpFits wire.up.items
  pub down : AllByRecursion DownFits wire.down.items

-- Of four families: what a client may put, and the server; server states; and clients.
pub record WorldFits (UpFits DownFits : ItemOut → Type 0) (ServerKeeps : ServerState ItemOut → Type 0) (ClientFits : ClientView ItemOut → Type 0) (w : ItemWorld) : Type 0 where
  pub server_state : ServerKeeps w.server
  pub clients : AllByRecursion (λ (d : ItemDevice). ClientFits d.client) w.devices
  pub wires : AllByRecursion (WireFits UpFits DownFits) w.wires

-- of the families of this project
abbrev pub FitsHere : ItemWorld → Type 0
FitsHere w = WorldFits UpFits DownFits ServerFits ClientFits w

-- ---- moves

-- What is asked of a move: what is drawn for a dial is what some connection draws, a message is for the account of a name
-- and has a text, and a page has 1 to 100 results.
abbrev pub MayItem : ItemMove → Type 0
MayItem (Dial device mine yours) = (k : ℕ) × (mine ≡ client_entropy k) × (yours ≡ server_entropy k)
MayItem (Say device to text private) = (name : List ℕ) × (to ≡ bare_address name) × IsTrue (is_name name) × IsTrue (is_text text)
MayItem (CatchUp device most) = (1 ≤ most) × (most ≤ 100)
MayItem m = Unit {0}

-- Of server states: whatever number a connection has, and whichever's bytes are drawn for it, its coming keeps them.
-- (`CoresKeep` says so where a connection draws its own.)
abbrev pub TakesAny : (ServerState ItemOut → Type 0) → Type 0
TakesAny ServerKeeps = (n k : ℕ) (h : ServerState ItemOut) → ServerKeeps h → ServerKeeps (with_fresh n (server_entropy k) h)
