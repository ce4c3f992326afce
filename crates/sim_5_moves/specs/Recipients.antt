-- A device of the links beside the device of the applications, at a server that runs.
use Rattle.std.specs.Prelude.{◌≡◌, ℕ, List, Some, slice_get}
use Rattle.srv_state.specs.State.{ServerState}
use Rattle.sim_3_items.specs.Identities.{Identity, Login}
use Rattle.sim_3_items.specs.Servers.{ServerRepresents}
use Rattle.sim_3_items.specs.Items.{stanzas_read}
use Rattle.sim_2_links.specs.Events.{seen}
use Rattle.sim_2_links.specs.Views.{View}
use Rattle.sim_2_events.specs.Lists.{IsDevice}
use Rattle.cmd_schedule.specs.Contents.{Owned}
use Rattle.sim_3_items.specs.Served.{FlagsRepresent}
use Rattle.sim_1_applications.specs.Devices.{Device}
use Rattle.xml_writer.specs.Items.{ItemOut}

-- the device at a place: the links that the server shows have its sessions, and the server has its flags
pub record IsRecipient (owned : List Owned) (names : List (List ℕ)) (h : ServerState ItemOut) (j : ℕ) (p : Owned) (who : Identity) (logins : ℕ → Login) (v : View ItemOut) (d : Device) : Type 0 where
  pub device : slice_get owned j ≡ Some p
  pub account : slice_get names who.account ≡ Some p.account
  pub resource : who.resource ≡ p.device
  pub server : ServerRepresents who logins h v
  pub sessions : IsDevice stanzas_read (seen v) d.sessions
  pub of_account : d.account ≡ p.account
  pub flags : FlagsRepresent who.account who.resource h d.sessions
