-- A move of a world by which no device does anything with stanzas, and what it leaves as it was.
use Rattle.std.specs.Prelude.{◌≡◌, ◌⊎◌, ℕ, ◌+◌, ◌≤◌, false, List, [], None, Some, length, pos, slice_get}
use Rattle.cl_handlers.specs.Clients.{ClientView}
use Rattle.sim_4_links_follow.specs.Following.{WorldFollows}
use Rattle.srv_state.specs.State.{ServerState}
use Rattle.sim_3_images.specs.Devices.{identity_at}
use Rattle.sim_3_items.specs.Identities.{Login}
use Rattle.sim_3_images.specs.Stands.{ServerStateStands}
use Rattle.sim_3_images.specs.Fitting.{FitsHere}
use Rattle.sim_3_items.specs.ItemPipes.{ItemWire}
use Rattle.sim_3_items.specs.ItemWorlds.{ItemDevice, ItemWorld}
use Rattle.sm_live.specs.Sessions.{Session, session_named}
use Rattle.cmd_schedule.specs.Contents.{Owned}
use Rattle.cmd_schedule.specs.Schedules.{WireView}
use Rattle.sim_3_images.specs.Unbound.{IsWithin}
use Rattle.sim_3_items.specs.Served.{FlagsRepresent, ServerSimulates}
use Rattle.sim_1_applications.specs.Devices.{AppWorld, Device, Sessions}
use Rattle.sim_1_applications.specs.Events.{AppEvent, Reaches}
use Rattle.sim_1_applications.specs.Histories.{spoken_in}
use Rattle.sim_5_moves.specs.Running.{Bounds, DeviceSimulates, IsOwned, RunsOn, WorldSimulates, keep_in, names_of}
use Rattle.sim_1_applications.specs.Runs.{owned_of}
use Rattle.xml_writer.specs.Items.{ItemOut}

-- what a client has beside its connection
pub record SameUser (c e : ClientView ItemOut) : Type 0 where
  pub epoch : e.epoch ≡ c.epoch
  pub n : e.n ≡ c.n
  pub said : e.said ≡ c.said
  pub session : e.session ≡ c.session
  pub log : e.log ≡ c.log
  pub pages : e.pages ≡ c.pages

-- ---- flags

pub record AreFlagsKept (account : ℕ) (resource : List ℕ) (h next : ServerState ItemOut) : Type 0 where
  pub shown : (d : Sessions) → FlagsRepresent account resource h d → FlagsRepresent account resource next d
  pub none : session_named account resource h.sessions ≡ None → session_named account resource next.sessions ≡ None

-- a session of that name has just been bound
abbrev pub IsFresh : ℕ → List ℕ → ServerState ItemOut → Type 0
IsFresh account resource h =
    (s : Session ItemOut) → session_named account resource h.sessions ≡ Some s → (s.shown.available ≡ false) × (s.shown.carbons ≡ false) × (s.shown.priority ≡ pos 0) × (s.shown.counted ≡ false)

abbrev pub DoFlagsGo : ℕ → List ℕ → ServerState ItemOut → ServerState ItemOut → Type 0
DoFlagsGo account resource h next = AreFlagsKept account resource h next ⊎ IsFresh account resource next

-- ---- a device, and the world

-- its links have moved without a label
pub record SilentDevice (schedule : WireView) (w : ItemWorld) (x : AppWorld) (i : ℕ) (o : Owned) (old : DeviceSimulates schedule w x i o) (after : ItemWorld) : Type 0 where
  pub logins : ℕ → Login
  pub follows : WorldFollows (identity_at schedule i o) logins after old.view []
  pub user : (e : ItemDevice) → slice_get after.devices i ≡ Some e → SameUser old.represents.device.client e.client
  pub flags : DoFlagsGo (identity_at schedule i o).account o.device w.server after.server

-- so it is of all devices, and the server has taken no message; time has passed
pub record SilentWorld (schedule : WireView) (b : Bounds) (w : ItemWorld) (x : AppWorld) (after : ItemWorld) (passed : ℕ) : Type 0 where
  pub devices : (i : ℕ) (o : Owned) → IsOwned schedule i o → (old : DeviceSimulates schedule w x i o) → SilentDevice schedule w x i o old after
  pub many : length after.devices ≡ length w.devices
  pub dialled : length after.wires ≤ b.dials
  pub wires : (position : ℕ) (wire : ItemWire) → slice_get after.wires position ≡ Some wire → (o : Owned) × IsOwned schedule wire.device o
  pub server : ServerSimulates (keep_in schedule) (owned_of schedule) (names_of schedule) x.takes after.server
  pub takes : after.takes ≡ w.takes
  pub moment : after.moment ≡ w.moment + passed
  pub now : after.server.moment ≡ after.moment
  pub fits : FitsHere after
  pub stands : ServerStateStands (length after.wires) after.server
  pub within : IsWithin (length after.wires) after.server

-- behind the move the worlds are related, by these events and by moves of the links without a label
pub record SilentSimulates (schedule : WireView) (b : Bounds) (says : ℕ) (w : ItemWorld) (x : AppWorld) (before : WorldSimulates schedule b says w x) (after : ItemWorld) : Type 0 where
  pub events : List AppEvent
  pub next : AppWorld
  pub reaches : Reaches events x next
  pub silent : spoken_in events ≡ []
  pub asked : (i : ℕ) (d e : Device) → slice_get x.devices i ≡ Some d → slice_get next.devices i ≡ Some e → e.reading.asked ≡ d.reading.asked
  pub on : RunsOn schedule b says w x before (λ i ds. ds ≡ []) says after next
