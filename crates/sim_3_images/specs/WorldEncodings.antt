-- A world of bytes as an encoding of a world of items.
use Rattle.std.specs.Prelude.{ℕ, ◌≡◌, ◌⊎◌, true, List, [], ◌∷◌, Option, Some, None, if◌then◌else◌, length, map, slice_get}
use Rattle.law_client.specs.Rendered.{client_rendered, note_rendered}
use Rattle.cl_handlers.specs.Clients.{ClientView}
use Rattle.cl_handlers.specs.ClientSteps.{is_apart}
use Rattle.srv_state.specs.State.{ServerState}
use Rattle.cmd_network.specs.Devices.{DeviceState, has_wire}
use Rattle.xml_framer.specs.States.{State}
use Rattle.xml_framer.specs.declared.states.Phase.TheVariants as phase
use Rattle.sim_3_images.specs.EncodingsCores.{writer_at}
use Rattle.sim_3_images.specs.Fitting.{WorldFits}
use Rattle.sim_3_images.specs.ItemRuns.{IsRunOf}
use Rattle.sim_3_images.specs.Notes.{all_item_notes, notes_in}
use Rattle.sim_3_images.specs.Puts.{all_item_gives, given_in}
use Rattle.sim_3_images.specs.Reads.{all_item_reads, read_in}
use Rattle.sim_3_images.specs.WireEncodings.{WireEncodes}
use Rattle.sim_3_items.specs.ItemMoves.{ItemMove, all_moved}
use Rattle.sim_3_items.specs.ItemPipes.{ItemPipe, ItemWire}
use Rattle.sim_3_items.specs.ItemWorlds.{ItemDevice, ItemWorld, Take}
use Rattle.xml_names.specs.declared.headers.Header.{Header}
use Rattle.cmd_report.specs.declared.report.TakeLine.{TakeLine}
use Rattle.cmd_schedule.specs.declared.schedule.Version.{Version}
use Rattle.srv_core.specs.Events.{framer_at}
use Rattle.law_server.specs.Rendered.{server_state_rendered}
use Rattle.cmd_network.specs.Takes.{take_reported}
use Rattle.cmd_network.specs.declared.wire.Wire.{Wire}
use Rattle.cmd_world.specs.Moves.{Move, moved}
use Rattle.cmd_world.specs.Worlds.{ByteWorld, number_at}
use Rattle.xml_writer.specs.Items.{ItemOut, Opening, written_item}

-- both are there and stand so to one another, or neither is there
abbrev pub Both : {A B : Type 0} → (A → B → Type 0) → Option A → Option B → Type 0
Both R None None = Unit {0}
Both R (Some a) (Some b) = R a b
Both R None (Some b) = ⊥
Both R (Some a) None = ⊥

-- ---- devices

-- The client of bytes is that of items, with each thing that waits written, and it has the same connection. A client that
-- stands apart has no framer.
pub record DeviceEncodes (d : DeviceState) (e : ItemDevice) : Type 0 where
  pub client : d.client.client ≡ client_rendered written_item e.client
  pub here : d.here ≡ e.here
  pub framed : is_apart e.client.phase ≡ true → d.client.framer ≡ None

-- the framer that a device has for the connection at a place
abbrev pub framer_here : ℕ → Option DeviceState → Option State
framer_here position None = None
framer_here position (Some d) = if has_wire position d.here then d.client.framer else None

-- ---- the first header

-- it comes next, or nothing comes any more
abbrev pub IsBegun : ItemPipe → Type 0
IsBegun p = ((h : Header) × (rest : List ItemOut) × (p.items ≡ Opening h ∷ rest)) ⊎ ((p.items ≡ []) × (p.ended ≡ true))

-- where the server awaits that of a connection
abbrev pub Begins : List ItemWire → ServerState ItemOut → Type 0
Begins wires h = (position : ℕ) (p : ItemWire) → slice_get wires position ≡ Some p → writer_at (number_at position) h ≡ Some phase.First → IsBegun p.up

-- ---- worlds

-- a message that was taken, as its line tells it
abbrev pub line_reported : Version → Take → TakeLine
line_reported version t = take_reported version t.moment t.from t.to t.origin

abbrev pub WireAt : ByteWorld → ItemWorld → ℕ → Wire → ItemWire → Type 0
WireAt w v position b p =
    WireEncodes (framer_at (number_at position) w.server.framers) (framer_here position (slice_get w.devices b.device)) (writer_at (number_at position) v.server) b p

-- The same moment; the server of bytes is that of items, with each thing that waits written; and so are the devices and the
-- connections, each at its place; and the same messages were taken.
pub record Encoding (w : ByteWorld) (v : ItemWorld) : Type 0 where
  pub moment : w.moment ≡ v.moment
  pub server_state : w.server.server_state ≡ server_state_rendered written_item v.server
  pub devices : (position : ℕ) → Both DeviceEncodes (slice_get w.devices position) (slice_get v.devices position)
  pub as_many : length w.wires ≡ length v.wires
  pub wires : (position : ℕ) → Both (WireAt w v position) (slice_get w.wires position) (slice_get v.wires position)
  pub takes : w.takes ≡ map (line_reported w.version) v.takes

-- A world of bytes encodes one of items; in that all is within limits, and first headers come where they are awaited.
pub record WorldEncodes (UpFits DownFits : ItemOut → Type 0) (ServerFits : ℕ → ServerState ItemOut → Type 0) (ClientFits : ClientView ItemOut → Type 0) (w : ByteWorld) (v : ItemWorld) : Type 0 where
  pub encoding : Encoding w v
  pub fits : WorldFits UpFits DownFits (ServerFits (length v.wires)) ClientFits v
  pub begins : Begins v.wires v.server

-- ---- moves

-- A move of bytes is these moves of items: behind it the one world encodes the other still, and by it clients note down
-- the same, and the server reads the same stanzas, and puts the same, as they are written.
pub record IsMoved (UpFits DownFits : ItemOut → Type 0) (ServerFits : ℕ → ServerState ItemOut → Type 0) (ClientFits : ClientView ItemOut → Type 0) (m : Move) (w : ByteWorld) (v : ItemWorld) : Type 0 where
  pub moves : List ItemMove
  pub is_run : IsRunOf m moves
  pub encodes : WorldEncodes UpFits DownFits ServerFits ClientFits (moved m w) (all_moved moves v)
  pub notes : (i : ℕ) → notes_in m w i ≡ map (note_rendered written_item) (all_item_notes moves v i)
  pub reads : (i : ℕ) → read_in m w i ≡ all_item_reads moves v i
  pub gives : (i : ℕ) → given_in m w i ≡ map written_item (all_item_gives moves v i)

-- a world of bytes encodes one of items that moves lead to from a first one
pub record IsReached (UpFits DownFits : ItemOut → Type 0) (ServerFits : ℕ → ServerState ItemOut → Type 0) (ClientFits : ClientView ItemOut → Type 0) (start : ItemWorld) (w : ByteWorld) : Type 0 where
  pub moves : List ItemMove
  pub encodes : WorldEncodes UpFits DownFits ServerFits ClientFits w (all_moved moves start)

-- Worlds one behind another from one on, beside a world of items: each is behind a move of the one before it, and so many
-- moves of items lead to that of which it is the image.
abbrev pub MovesEncode : (UpFits DownFits : ItemOut → Type 0) → (ℕ → ServerState ItemOut → Type 0) → (ClientView ItemOut → Type 0) → List ByteWorld → ByteWorld → ItemWorld → Type 0
MovesEncode UpFits DownFits ServerFits ClientFits [] w v = Unit {0}
MovesEncode UpFits DownFits ServerFits ClientFits (x ∷ xs) w v =
    (m : Move) × (x ≡ moved m w) × ((r : IsMoved UpFits DownFits ServerFits ClientFits m w v) × MovesEncode UpFits DownFits ServerFits ClientFits xs x (all_moved r.moves v))
