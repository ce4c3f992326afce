-- A world of items beside the world of the two applications over sessions: of each device the links, whose stanzas are those
-- of its sessions, and what its client has; and what the server has.
use Rattle.std.specs.Prelude.{◌≡◌, ◌≢◌, ◌⊎◌, ℕ, ◌+◌, ◌*◌, ◌≤◌, ◌<◌, ◌^◌, ◌==◌, ◌++◌, All, Bool, List, [], ◌∷◌, Option, None, Some, Result, Ok, Err, if◌then◌else◌, length, map, slice_get}
use Rattle.mam_archive.specs.Entries.{EntryView}
use Rattle.sim_3_images.specs.Devices.{identity_at}
use Rattle.sim_3_items.specs.Labels.{Drops, Label, Takes, awaits, gives_all, labels_of}
use Rattle.sim_3_items.specs.Identities.{Login}
use Rattle.sim_3_items.specs.Represents.{Represents}
use Rattle.sim_3_images.specs.Stands.{ServerStateStands}
use Rattle.sim_3_images.specs.Fitting.{FitsHere}
use Rattle.sim_3_images.specs.Notes.{item_notes}
use Rattle.sim_3_images.specs.Puts.{item_gives}
use Rattle.sim_3_images.specs.Reads.{item_reads}
use Rattle.sim_3_items.specs.Reading.{noted}
use Rattle.sim_3_items.specs.Items.{stanzas_read}
use Rattle.sim_3_items.specs.ItemPipes.{ItemWire}
use Rattle.sim_3_items.specs.Told.{local_part_of}
use Rattle.sim_3_items.specs.ItemMoves.{CatchUp, Close, Dial, Down, Forget, ItemMove, Say, Up, moved}
use Rattle.sim_3_items.specs.ItemWorlds.{ItemDevice, ItemWorld}
use Rattle.cl_core.specs.UserCalls.{say_answer}
use Rattle.sim_1_applications.specs.Counts.{IsUnanswered}
use Rattle.sim_2_links.specs.Covers.{PromptReached}
use Rattle.sim_2_links.specs.Events.{SeenSession, seen}
use Rattle.sim_2_links.specs.Machine.{LinkMove, LinkReaches}
use Rattle.sim_2_links.specs.Paging.{PagingReached}
use Rattle.sim_2_links.specs.Views.{View}
use Rattle.sim_2_events.specs.Lists.{IsDevice}
use Rattle.sim_5_devices.specs.InTime.{paging_here}
use Rattle.sim_5_devices.specs.Shown.{LogRepresents}
use Rattle.law_payloads.specs.AsRead.{last_moment}
use Rattle.cmd_schedule.specs.Contents.{Owned, accounts_of}
use Rattle.cmd_schedule.specs.Schedules.{WireView, keep_of}
use Rattle.sim_3_images.specs.Unbound.{IsWithin}
use Rattle.sim_3_items.specs.Built.{IsDown, IsUp}
use Rattle.sim_3_items.specs.Served.{FlagsRepresent, ServerSimulates, take_reported}
use Rattle.sim_3_items.specs.Submitted.{SubmissionsRepresent}
use Rattle.sim_1_applications.specs.Devices.{AppWorld, Device, Take}
use Rattle.sim_1_applications.specs.Events.{AppEvent, Reaches}
use Rattle.sim_1_applications.specs.Histories.{Spoken, spoken_in}
use Rattle.sim_1_applications.specs.Reported.{history_at}
use Rattle.sim_1_applications.specs.Runs.{begins, owned_of, steps_in}
use Rattle.xml_writer.specs.Items.{ItemOut}

-- ---- the schedule

abbrev pub names_of : WireView → List (List ℕ)
names_of schedule = accounts_of (steps_in schedule)

abbrev pub keep_in : WireView → ℕ
keep_in schedule = keep_of schedule.version

-- what the account of a device has ever got
abbrev pub history_for : WireView → List Take → Owned → List EntryView
history_for schedule takes o = history_at (owned_of schedule) takes o.account

-- the device at a place
abbrev pub IsOwned : WireView → ℕ → Owned → Type 0
IsOwned schedule i o = slice_get (owned_of schedule) i ≡ Some o

-- ---- how much may happen

-- how many messages all users say, how many pages each device asks for, and how many connections are dialled
pub record Bounds : Type 0 where
  pub says : ℕ
  pub pages : ℕ
  pub dials : ℕ

-- So no session comes to 2 ^ 32 stanzas, and no number to 2 ^ 64.
pub record AreSmall (b : Bounds) : Type 0 where
  pub stanzas : 101 * (b.says + b.pages + 4) + b.says < 2 ^ 32
  pub dials : b.dials + 2 < 2 ^ 64

-- ---- a device

-- the stanzas of a session are built as they are read
pub record AreBuilt (o : Owned) (history : List EntryView) (t : SeenSession ItemOut) : Type 0 where
  pub up : All (IsUp o) t.up_put
  pub down : All (IsDown o history) t.down_put

pub record DeviceSimulates (schedule : WireView) (w : ItemWorld) (x : AppWorld) (i : ℕ) (o : Owned) : Type 0 where
  -- the links, of which moves that are prompt and in time have made what is shown
  pub logins : ℕ → Login
  pub view : View ItemOut
  pub in_time : PagingReached paging_here view
  pub prompt : PromptReached awaits view
  pub represents : Represents (identity_at schedule i o) logins w view
  -- its sessions
  pub device : Device
  pub there : slice_get x.devices i ≡ Some device
  pub account : device.account ≡ o.account
  pub sessions : IsDevice stanzas_read (seen view) device.sessions
  pub built : (q : ℕ) (t : SeenSession ItemOut) → (seen view).sessions q ≡ Some t → AreBuilt o (history_for schedule x.takes o) t
  -- what its client has
  pub submissions : SubmissionsRepresent represents.device.client device.sessions
  pub log : LogRepresents (keep_in schedule) (history_for schedule x.takes o) represents.device.client.log device.reading
  pub pages : represents.device.client.pages ≡ device.reading.asked
  -- what the server has of its session
  pub flags : FlagsRepresent (identity_at schedule i o).account o.device w.server device.sessions

-- ---- worlds

-- Events led here from the beginning, and in them users said so many messages.
pub record IsLed (schedule : WireView) (says : ℕ) (x : AppWorld) : Type 0 where
  pub events : List AppEvent
  pub reaches : Reaches events (begins schedule) x
  pub spoken : length (spoken_in events) ≡ says

-- The applications simulate a world of items: theirs has the same devices, the same messages were taken, and it is as late.
pub record Simulation (schedule : WireView) (w : ItemWorld) (x : AppWorld) : Type 0 where
  -- devices, and no others
  pub devices : (i : ℕ) (o : Owned) → IsOwned schedule i o → DeviceSimulates schedule w x i o
  pub many : length w.devices ≡ length (owned_of schedule)
  pub many_there : length x.devices ≡ length (owned_of schedule)
  pub wires : (position : ℕ) (wire : ItemWire) → slice_get w.wires position ≡ Some wire → (o : Owned) × IsOwned schedule wire.device o
  -- the server
  pub server : ServerSimulates (keep_in schedule) (owned_of schedule) (names_of schedule) x.takes w.server
  pub takes : w.takes ≡ map (take_reported (owned_of schedule)) x.takes
  -- one clock, at which the server has looked since it last moved on
  pub clock : x.clock ≡ w.moment
  pub now : w.server.moment ≡ w.moment

-- How much happened so far is bounded, and what the items' world keeps of itself is within limits.
pub record WorldInBounds (schedule : WireView) (b : Bounds) (says : ℕ) (w : ItemWorld) (x : AppWorld) : Type 0 where
  -- events led here, in which so many messages were said
  pub led : IsLed schedule says x
  pub said : says ≤ b.says
  -- pages and connections
  pub asked : (i : ℕ) (d : Device) → slice_get x.devices i ≡ Some d → d.reading.asked ≤ b.pages + 1
  pub dialled : length w.wires ≤ b.dials
  -- what is under way, and what each end keeps
  pub fits : FitsHere w
  -- the server's connections and sessions are of those that were dialled
  pub stands : ServerStateStands (length w.wires) w.server
  pub within : IsWithin (length w.wires) w.server

-- the applications simulate a world of items, and both are within bounds
pub record WorldSimulates (schedule : WireView) (b : Bounds) (says : ℕ) (w : ItemWorld) (x : AppWorld) : Type 0 where
  pub simulation : Simulation schedule w x
  pub in_bounds : WorldInBounds schedule b says w x

-- Moves of the links lead from the one to the other, and their labels are as is said.
abbrev pub Leads : (List (Label ItemOut) → Type 0) → View ItemOut → View ItemOut → Type 0
Leads Does v next = (moves : List (LinkMove ItemOut)) × LinkReaches moves v next × Does (labels_of moves)

-- A world that is beside one of the applications, to which another one came: for each device moves of its links led there,
-- with such labels.
pub record RunsOn (schedule : WireView) (b : Bounds) (says : ℕ) (w : ItemWorld) (x : AppWorld) (before : WorldSimulates schedule b says w x) (Does : ℕ → List (Label ItemOut) → Type 0) (more : ℕ) (after : ItemWorld) (next : AppWorld) : Type 0 where
  pub runs : WorldSimulates schedule b more after next
  pub links : (i : ℕ) (o : Owned) (is : IsOwned schedule i o) → Leads (Does i) (before.simulation.devices i o is).view (runs.simulation.devices i o is).view

-- ---- a move

-- what users say by it: a message that the client takes
abbrev pub spoken_where : {T E : Type 0} → Result T E → Spoken → List Spoken
spoken_where (Ok done) s = s ∷ []
spoken_where (Err fault) s = []

abbrev pub said_at : ℕ → List ℕ → List ℕ → Bool → Option ItemDevice → List Spoken
said_at position to text private None = []
said_at position to text private (Some d) = spoken_where (say_answer d.client text) (record { device = position; to = local_part_of to; text = text; private = private })

abbrev pub spoken_by_move : ItemMove → ItemWorld → List Spoken
spoken_by_move (Say position to text private) w = said_at position to text private (slice_get w.devices position)
spoken_by_move m w = []

-- The device at a place asks for a page at most where its user does, and where it is handed an item: then for one at most,
-- and for none while no answer is under way to it.
abbrev pub IsAskedOnce : Device → Device → Type 0
IsAskedOnce d e = (IsUnanswered d → (e.reading.asked ≡ d.reading.asked) × IsUnanswered e) × ((e.reading.asked ≡ d.reading.asked) ⊎ ((e.reading.asked ≡ d.reading.asked + 1) × IsUnanswered e))

abbrev pub IsAskedBy : ItemMove → ItemWorld → ℕ → Device → Device → Type 0
IsAskedBy (CatchUp position most) w i d e = e.reading.asked ≤ d.reading.asked + (if i == position then 1 else 0)
IsAskedBy (Down position) w i d e = IsAskedOnce d e × ((wire : ItemWire) → slice_get w.wires position ≡ Some wire → wire.device ≢ i → (e.reading.asked ≡ d.reading.asked) × (IsUnanswered d → IsUnanswered e))
IsAskedBy m w i d e = e.reading.asked ≡ d.reading.asked

-- What is asked of a move beside that it may be: no more is said, asked for and dialled than is bounded, and what comes to
-- a client comes before the last moment that has a stamp.
abbrev pub IsInBounds : Bounds → ℕ → ItemMove → ItemWorld → AppWorld → Type 0
IsInBounds b says (Say position to text private) w x = says + 1 ≤ b.says
IsInBounds b says (CatchUp position most) w x = (d : Device) → slice_get x.devices position ≡ Some d → d.reading.asked ≤ b.pages
IsInBounds b says (Down position) w x =
    ((wire : ItemWire) (d : Device) → slice_get w.wires position ≡ Some wire → slice_get x.devices wire.device ≡ Some d → (d.reading.asked ≤ b.pages) ⊎ IsUnanswered d) × (w.moment ≤ last_moment)
IsInBounds b says (Dial position mine yours) w x = length w.wires + 1 ≤ b.dials
IsInBounds b says m w x = Unit {0}

-- The labels of a device by a move. Its client does what it notes down, or gives its session up; or the server handles the
-- stanza of it that it reads, and then puts those for it that its outputs tell, or that join its queue.
abbrev pub DoesBy : ItemMove → ItemWorld → ℕ → List (Label ItemOut) → Type 0
DoesBy (Up position) w i done = done ≡ map Takes (item_reads (Up position) w i) ++ gives_all (item_gives (Up position) w i)
DoesBy (Forget position) w i done = (done ≡ []) ⊎ (done ≡ Drops ∷ [])
DoesBy (Close position) w i done = (done ≡ []) ⊎ (done ≡ Drops ∷ [])
DoesBy m w i done = done ≡ noted (item_notes m w i)

-- Behind the move the worlds are related still, by these events; and for each device moves of its links led there, with its
-- labels.
pub record MoveSimulates (schedule : WireView) (b : Bounds) (says : ℕ) (m : ItemMove) (w : ItemWorld) (x : AppWorld) (before : WorldSimulates schedule b says w x) : Type 0 where
  pub events : List AppEvent
  pub next : AppWorld
  pub reaches : Reaches events x next
  pub spoken : spoken_in events ≡ spoken_by_move m w
  pub asked : (i : ℕ) (d e : Device) → slice_get x.devices i ≡ Some d → slice_get next.devices i ≡ Some e → IsAskedBy m w i d e
  pub runs : WorldSimulates schedule b (says + length (spoken_by_move m w)) (moved m w) next
  pub links : (i : ℕ) (o : Owned) (is : IsOwned schedule i o) → Leads (DoesBy m w i) (before.simulation.devices i o is).view (runs.simulation.devices i o is).view
