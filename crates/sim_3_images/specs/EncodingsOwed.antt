-- What is owed of the two cores: that what they put fits. The order is shown.
use Rattle.std.specs.Prelude.{ℕ, ◌≡◌, ◌≤◌, Bool, List, Ok, IsTrue}
use Rattle.std.specs.List.{AllByRecursion}
use Rattle.cl_core.specs.UserCalls.{catch_up_answer, catches_up, dials, forgets, leaves, say_answer, says}
use Rattle.cl_handlers.specs.Clients.{ClientView}
use Rattle.cl_handlers.specs.Speech.{in_items}
use Rattle.cl_core.specs.Steps.{item_step}
use Rattle.srv_state.specs.Moments.{at_moment, gone_at, with_fresh}
use Rattle.sim_3_images.specs.EncodingsCores.{ClientKeeps}
use Rattle.sim_3_images.specs.ItemStarts.{item_device, items_at_start}
use Rattle.sim_3_images.specs.Stands.{OutPuts}
use Rattle.cmd_schedule.specs.Contents.{owned_in}
use Rattle.cmd_schedule.specs.Schedules.{WireView}
use Rattle.cmd_world.specs.Histories.{common_steps}
use Rattle.srv_state.specs.State.{ServerState}
use Rattle.xml_framer.specs.Limits.{client_limits, server_limits}
use Rattle.sim_3_items.specs.ItemMoves.{fed_of, step_of}
use Rattle.sim_3_items.specs.ItemWorlds.{itself, read_of, silent_client_step}
use Rattle.cmd_report.specs.Addresses.{bare_address}
use Rattle.cmd_schedule.specs.Grammar.{is_name, is_text}
use Rattle.srv_core.specs.Table.{after_item}
use Rattle.cmd_world.specs.Worlds.{client_entropy, server_entropy}
use Rattle.xml_writer.specs.Items.{Closing, ItemOut}
use Rattle.law_xml.specs.Puts.{OutFits}

-- Of four families: what a client may put, and the server; server states; and clients. Whatever comes of these is among
-- these.
pub record CoresKeep (UpFits DownFits : ItemOut → Type 0) (ServerKeeps : ServerState ItemOut → Type 0) (ClientFits : ClientView ItemOut → Type 0) : Type 0 where
  -- ---- limits
  pub up_limits : (i : ItemOut) → UpFits i → OutFits server_limits i
  pub down_limits : (i : ItemOut) → DownFits i → OutFits client_limits i
  pub footer : UpFits Closing
  -- ---- the server
  pub moment : (now : ℕ) (h : ServerState ItemOut) → ServerKeeps h → ServerKeeps (at_moment now h)
  pub comes : (k : ℕ) (h : ServerState ItemOut) → ServerKeeps h → ServerKeeps (with_fresh k (server_entropy k) h)
  pub goes : (k : ℕ) (h : ServerState ItemOut) → ServerKeeps h → ServerKeeps (gone_at k h)
  pub handles : (k : ℕ) (i : ItemOut) (h : ServerState ItemOut) → ServerKeeps h → UpFits i → ServerKeeps (after_item itself k (read_of i) (step_of h)).server_state
  pub puts : (k : ℕ) (i : ItemOut) (h : ServerState ItemOut) → ServerKeeps h → UpFits i → AllByRecursion (OutPuts DownFits) (after_item itself k (read_of i) (step_of h)).outs
  -- ---- a client
  pub client : ClientKeeps UpFits DownFits ClientFits

-- what a schedule begins with is among these
pub record StartKeeps (ServerKeeps : ServerState ItemOut → Type 0) (ClientFits : ClientView ItemOut → Type 0) (schedule : WireView) : Type 0 where
  pub server_state : ServerKeeps (items_at_start schedule).server
  pub clients : AllByRecursion (λ o. ClientFits (item_device o).client) (owned_in (common_steps schedule))
