-- What the clients of a world of bytes tell of faults, and for which reasons its server ends streams.
use Rattle.std.specs.Prelude.{◌≡◌, ◌⊎◌, ℕ, Bool, false, List, Some, codes, slice_get, take}
use Rattle.std.specs.List.{AllByRecursion}
use Rattle.cl_core.specs.Feeds.{bytes_step}
use Rattle.cl_handlers.specs.Speech.{in_bytes}
use Rattle.cl_handlers.specs.declared.events.Event.{Event}
use Rattle.cl_handlers.specs.declared.events.Event.TheVariants.{CatchUpRefused, Ended}
use Rattle.cl_handlers.specs.declared.events.PeerFault.{PeerFault}
use Rattle.cl_handlers.specs.declared.events.PeerFault.TheVariants as peer
use Rattle.sim_3_items.specs.Identities.{Login}
use Rattle.sim_3_items.specs.Represents.{Represents}
use Rattle.cmd_network.specs.Devices.{DeviceState, silent}
use Rattle.sim_3_images.specs.Devices.{identity_at}
use Rattle.sim_3_items.specs.ItemWorlds.{ItemWorld}
use Rattle.sim_2_links.specs.Machine.{LinkReached}
use Rattle.sim_2_links.specs.Stages.{Conn}
use Rattle.sim_2_links.specs.Views.{View, has}
use Rattle.sim_2_links.specs.Wires.{down_whole}
use Rattle.sim_2_links.specs.Words.{Cause, Conflict, Constraint, DownWord, Err, TooHigh}
use Rattle.cmd_schedule.specs.Contents.{Owned}
use Rattle.cmd_schedule.specs.Schedules.{WireView}
use Rattle.sim_7_schedules.specs.Simulation.{IsEncoded}
use Rattle.cmd_network.specs.declared.wire.Wire.{Wire}
use Rattle.cmd_world.specs.Worlds.{ByteWorld}
use Rattle.xml_writer.specs.Items.{ItemOut}

-- ---- what a client tells its user

-- what it tells when the next n bytes of its connection are handed to it
abbrev pub told_on : ℕ → Wire → DeviceState → List Event
told_on n wire d = (bytes_step in_bytes (silent d.client) (take n wire.down.bytes)).turn.out.events

-- However many bytes are handed to a device on the connection that it has, each event that its client then tells is of this
-- kind.
abbrev pub EachTells : (Event → Type 0) → ByteWorld → Type 0
EachTells P w = (position n : ℕ) (wire : Wire) (d : DeviceState) → slice_get w.wires position ≡ Some wire → slice_get w.devices wire.device ≡ Some d → d.here ≡ Some position
    → AllByRecursion P (told_on n wire d)

-- no `CatchUpFault`
abbrev pub IsNoPageFault : Event → Type 0
IsNoPageFault (CatchUpRefused fault) = ⊥
IsNoPageFault _ = Unit {0}

-- The server's stream errors are these two (RFC 6120, section 4.9.3), and the client ends no stream by an error of its own, for
-- a count that is too high, nor leaves a connection since 10,000 stanzas wait.
abbrev pub IsFewEnd : PeerFault → Type 0
IsFewEnd (peer.Stream condition) = (condition ≡ codes "conflict") ⊎ (condition ≡ codes "resource-constraint")
IsFewEnd (peer.TooHigh fault) = ⊥
IsFewEnd peer.Unacknowledged = ⊥
IsFewEnd _ = Unit {0}

abbrev pub EndsForFew : Event → Type 0
EndsForFew (Ended fault) = IsFewEnd fault
EndsForFew _ = Unit {0}

-- ---- what the server puts

-- the cause of a stream error that it puts on a connection on which the client works, or works no more
abbrev pub MayCause : Bool → Cause → Type 0
MayCause works Conflict = Unit {0}
MayCause works Constraint = Unit {0}
MayCause works TooHigh = works ≡ false

abbrev pub IsForReason : Bool → DownWord ItemOut → Type 0
IsForReason works (Err cause) = MayCause works cause
IsForReason works _ = Unit {0}

-- The connections of a device in a world of bytes: the words that the server put on each, that are under way or were lost. The
-- world encodes one of items, whose pipes hold the words that are under way.
pub record HasWords (schedule : WireView) (w : ByteWorld) (i : ℕ) (o : Owned) : Type 0 where
  pub items : ItemWorld
  pub encodes : IsEncoded w items
  pub logins : ℕ → Login
  pub view : View ItemOut
  pub reached : LinkReached view
  pub represents : Represents (identity_at schedule i o) logins items view
  pub words : (k : ℕ) (c : Conn ItemOut) → view.conns k ≡ Some c → AllByRecursion (IsForReason (has view.here k)) (down_whole c.wires)
