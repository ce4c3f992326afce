-- What a world of bytes keeps beside the states of its server and clients.
use Rattle.std.specs.Prelude.{◌≡◌, ℕ, ◌<◌, Bool, true, false, List, Some, length, map, slice_get}
use Rattle.std.specs.List.{AllByRecursion}
use Rattle.std.specs.Option.{option_map_or}
use Rattle.cmd_network.specs.Devices.{DeviceState}
use Rattle.cmd_schedule.specs.Contents.{Owned, accounts_of, owned_in}
use Rattle.cmd_schedule.specs.Schedules.{WireView}
use Rattle.cmd_network.specs.declared.wire.Wire.{Wire}
use Rattle.cmd_world.specs.Histories.{common_steps}
use Rattle.cmd_world.specs.WorldReports.{is_open}
use Rattle.cmd_world.specs.Worlds.{ByteWorld}

-- ---- the newest connection of a device

-- the connection at a place is there, and nothing ended it
abbrev pub is_open_at : ℕ → List Wire → Bool
is_open_at position wires = option_map_or (λ (b : Wire). is_open b.end) (slice_get wires position) false

-- The newest connection that the device dialled is there, and while it is open the device has it.
pub record IsNewest (wires : List Wire) (d : DeviceState) : Type 0 where
  pub there : (position : ℕ) → d.newest ≡ Some position → position < length wires
  pub here : (position : ℕ) → d.newest ≡ Some position → is_open_at position wires ≡ true → d.here ≡ Some position

-- ---- a connection

-- while it is open no pipe of it has ended
abbrev pub IsFlowing : Wire → Type 0
IsFlowing b = is_open b.end ≡ true → (b.up.ended ≡ false) × (b.down.ended ≡ false)

-- ---- a world

abbrev pub owned_by : DeviceState → Owned
owned_by d = record { device = d.name; account = d.account }

pub record IsWorldKept (schedule : WireView) (w : ByteWorld) : Type 0 where
  pub version : w.version ≡ schedule.version
  pub accounts : w.accounts ≡ accounts_of (common_steps schedule)
  pub owners : map owned_by w.devices ≡ owned_in (common_steps schedule)
  pub flowing : AllByRecursion IsFlowing w.wires
  pub newest : (i : ℕ) (d : DeviceState) → slice_get w.devices i ≡ Some d → IsNewest w.wires d
