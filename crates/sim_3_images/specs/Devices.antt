-- The devices of a wire schedule as both of their ends know them.
use Rattle.std.specs.Prelude.{◌≡◌, ◌≢◌, ℕ, List, Some, slice_get}
use Rattle.std.specs.Option.{unwrap_or}
use Rattle.sim_3_items.specs.Identities.{Identity}
use Rattle.cmd_network.specs.Starting.{password_of}
use Rattle.base_io.specs.Names.{position_of}
use Rattle.cmd_report.specs.Addresses.{domain}
use Rattle.cmd_schedule.specs.Contents.{Owned, accounts_of, owned_in}
use Rattle.cmd_schedule.specs.Schedules.{WireView}
use Rattle.cmd_world.specs.Histories.{common_steps}

-- the place of the account with a name that is among these
abbrev pub account_position : List ℕ → List (List ℕ) → ℕ
account_position name names = unwrap_or (position_of name names) 0

-- the device at a place: its resource is its name
abbrev pub identity_at : WireView → ℕ → Owned → Identity
identity_at schedule position o = record {
  position = position;
  account = account_position o.account (accounts_of (common_steps schedule));
  name = o.account;
  domain = domain;
  password = password_of o.account;
  resource = o.device;
}

-- the schedule declares it as the one at this place
abbrev pub IsDeviceAt : WireView → ℕ → Owned → Type 0
IsDeviceAt schedule position o = slice_get (owned_in (common_steps schedule)) position ≡ Some o

-- two devices: each has its own place, and its own resource
pub record AreTwo (who whom : Identity) : Type 0 where
  pub position : whom.position ≢ who.position
  pub resource : whom.resource ≢ who.resource
