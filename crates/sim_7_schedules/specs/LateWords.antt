-- What a late `bind` or `resume` changes in a world of bytes.
use Rattle.std.specs.Prelude.{◌≡◌, ◌⊎◌, ℕ, not, List, ◌∷◌, None, Some, filter, slice_get}
use Rattle.srv_state.specs.Moments.{at_moment}
use Rattle.sim_3_images.specs.Devices.{account_position}
use Rattle.sim_3_items.specs.ItemPipes.{ItemWire}
use Rattle.sim_3_items.specs.ItemWorlds.{ItemWorld}
use Rattle.sm_live.specs.Sessions.{Session, is_named, session_at}
use Rattle.im_requests.specs.Sessions.{bind_item, resume_item}
use Rattle.cmd_schedule.specs.Contents.{Owned, accounts_of}
use Rattle.cmd_schedule.specs.Schedules.{WireView}
use Rattle.sim_1_applications.specs.Runs.{owned_of}
use Rattle.sim_7_schedules.specs.Simulation.{IsEncoded}
use Rattle.cmd_network.specs.declared.wire.Wire.{Wire}
use Rattle.cmd_world.specs.Histories.{common_steps}
use Rattle.cmd_world.specs.Worlds.{ByteWorld, number_at}
use Rattle.xml_writer.specs.Items.{ItemOut}

-- the connection at a place is one that the device dialled, whether it has it still or has left it
pub record IsDialledBy (schedule : WireView) (w : ByteWorld) (position : ℕ) (o : Owned) : Type 0 where
  pub wire : Wire
  pub there : slice_get w.wires position ≡ Some wire
  pub of : slice_get (owned_of schedule) wire.device ≡ Some o

-- the server has no session on it
abbrev pub IsUnboundAt : ℕ → ByteWorld → Type 0
IsUnboundAt position w = session_at (number_at position) w.server.server_state.sessions ≡ None

-- it asks for a session: a `bind` or a `resume`
abbrev pub IsAsk : ItemOut → Type 0
IsAsk i = ((resource : List ℕ) × (i ≡ bind_item resource)) ⊎ ((previd : List ℕ) × (h : ℕ) × (i ≡ resume_item previd h))

-- The items that the bytes of a world are: where the next one on its way to the server asks for a session, the server has
-- none on that connection.
pub record AsksAreUnbound (w : ByteWorld) : Type 0 where
  pub items : ItemWorld
  pub encodes : IsEncoded w items
  pub unbound : (position : ℕ) (wire : ItemWire) (i : ItemOut) (rest : List ItemOut) → slice_get items.wires position ≡ Some wire → wire.up.items ≡ i ∷ rest → IsAsk i → IsUnboundAt position w

-- the sessions that aren't of this account with this resource
abbrev pub others_of : {A : Type 0} → ℕ → List ℕ → List (Session A) → List (Session A)
others_of account resource sessions = filter (λ s. not (is_named account resource s)) sessions

-- those that aren't a device's
abbrev pub beside : {A : Type 0} → WireView → Owned → List (Session A) → List (Session A)
beside schedule o sessions = others_of (account_position o.account (accounts_of (common_steps schedule))) o.device sessions

-- The archives, and the messages that were taken, are what they were; and so are the sessions of all other devices, but
-- those which were parked for too long have ended.
pub record IsOfDeviceAlone (schedule : WireView) (o : Owned) (w next : ByteWorld) : Type 0 where
  pub archives : next.server.server_state.archives ≡ w.server.server_state.archives
  pub takes : next.takes ≡ w.takes
  pub others : (beside schedule o next.server.server_state.sessions ≡ beside schedule o w.server.server_state.sessions) ⊎ (beside schedule o next.server.server_state.sessions ≡ beside schedule o (at_moment w.moment w.server.server_state).sessions)
