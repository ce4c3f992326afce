-- The world of items in which a wire schedule begins.
use Rattle.std.specs.Prelude.{ℕ, [], None, map}
use Rattle.std.specs.List.{AllByRecursion}
use Rattle.cl_core.specs.Making.{account_of}
use Rattle.law_client.specs.Calls.{first_client}
use Rattle.cl_handlers.specs.Clients.{ClientView}
use Rattle.srv_state.specs.State.{ServerState}
use Rattle.cmd_network.specs.Starting.{accounts_at_start, password_of}
use Rattle.sim_3_items.specs.ItemWorlds.{ItemDevice, ItemWorld}
use Rattle.cmd_report.specs.Addresses.{bare_address, domain}
use Rattle.cmd_schedule.specs.Contents.{Owned, accounts_of, owned_in}
use Rattle.cmd_schedule.specs.Schedules.{WireView, keep_of}
use Rattle.srv_core.specs.Configs.{server_state_at_start}
use Rattle.cmd_world.specs.Histories.{common_steps}
use Rattle.xml_writer.specs.Items.{ItemOut}

abbrev pub item_device : Owned → ItemDevice
item_device o = record { client = first_client (account_of (bare_address o.account) o.account (password_of o.account) o.device); here = None }

-- as a world of bytes begins: the accounts and devices are there, and no connection is
abbrev pub items_at_start : WireView → ItemWorld
items_at_start schedule = record {
  moment = 0;
  server = server_state_at_start domain (accounts_at_start (accounts_of (common_steps schedule))) (keep_of schedule.version);
  devices = map item_device (owned_in (common_steps schedule));
  wires = [];
  takes = [];
}

-- it is among the server states and clients of which `CoresFit` speaks
pub record StartFits (ServerFits : ℕ → ServerState ItemOut → Type 0) (ClientFits : ClientView ItemOut → Type 0) (schedule : WireView) : Type 0 where
  pub server_state : ServerFits 0 (items_at_start schedule).server
  pub clients : AllByRecursion (λ o. ClientFits (item_device o).client) (owned_in (common_steps schedule))
