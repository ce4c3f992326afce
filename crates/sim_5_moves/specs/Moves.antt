-- A move of a world that is one device's alone: the server, what it took and the moment are the same, and each connection is
-- still that of its device.
use Rattle.std.specs.Prelude.{◌≡◌, ◌≢◌, ◌≤◌, ◌+◌, ℕ, List, [], Some, length, slice_get}
use Rattle.sim_3_images.specs.Devices.{identity_at}
use Rattle.sim_3_items.specs.Labels.{Label}
use Rattle.sim_3_items.specs.Represents.{Represents}
use Rattle.sim_3_images.specs.Fitting.{FitsHere}
use Rattle.sim_3_items.specs.ItemPipes.{ItemWire}
use Rattle.sim_3_items.specs.ItemWorlds.{ItemWorld}
use Rattle.cmd_schedule.specs.Contents.{Owned}
use Rattle.cmd_schedule.specs.Schedules.{WireView}
use Rattle.sim_5_devices.specs.Labels.{with_device}
use Rattle.sim_1_applications.specs.Devices.{AppWorld, Device}
use Rattle.sim_1_applications.specs.Events.{AppEvent, Reaches}
use Rattle.sim_1_applications.specs.Histories.{spoken_in}
use Rattle.sim_5_moves.specs.Running.{Bounds, DeviceSimulates, IsOwned, Leads, WorldSimulates}
use Rattle.xml_writer.specs.Items.{ItemOut}

pub record IsOneDevice (i : ℕ) (w next : ItemWorld) : Type 0 where
  pub server : next.server ≡ w.server
  pub takes : next.takes ≡ w.takes
  pub moment : next.moment ≡ w.moment
  pub devices : length next.devices ≡ length w.devices
  pub beside : (j : ℕ) → j ≢ i → slice_get next.devices j ≡ slice_get w.devices j
  pub many : length next.wires ≡ length w.wires
  pub wires : (position : ℕ) (wire : ItemWire) → slice_get next.wires position ≡ Some wire → (old : ItemWire) × (slice_get w.wires position ≡ Some old) × (wire.device ≡ old.device)

-- the one has these labels, and each other one none
abbrev pub DoesAlone : ℕ → List (Label ItemOut) → ℕ → List (Label ItemOut) → Type 0
DoesAlone i done j ds = (j ≡ i → ds ≡ done) × (j ≢ i → ds ≡ [])

-- One of its devices acts, and comes to this by events and by moves of its links with these labels; each other one is shown as
-- it was.
pub record ActsAlone (schedule : WireView) (b : Bounds) (says : ℕ) (w : ItemWorld) (x : AppWorld) (runs : WorldSimulates schedule b says w x) (i : ℕ) (o : Owned) (next : ItemWorld) (d : Device) : Type 0 where
  pub owned : IsOwned schedule i o
  pub old : Device
  pub there : slice_get x.devices i ≡ Some old
  pub alone : IsOneDevice i w next
  pub fits : FitsHere next
  pub events : List AppEvent
  pub reaches : Reaches events x (with_device i d x)
  pub said : says + length (spoken_in events) ≤ b.says
  pub asked : d.reading.asked ≤ b.pages + 1
  pub device : DeviceSimulates schedule next (with_device i d x) i o
  pub done : List (Label ItemOut)
  pub leads : Leads (λ ds. ds ≡ done) (runs.simulation.devices i o owned).view device.view
  pub others : (j : ℕ) (p : Owned) (is : IsOwned schedule j p) → j ≢ i → Represents (identity_at schedule j p) (runs.simulation.devices j p is).logins next (runs.simulation.devices j p is).view
