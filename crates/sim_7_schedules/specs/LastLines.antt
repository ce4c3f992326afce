-- Worlds of a list of lines behind its last ones, their open connections, and the links of a device in them.
use Rattle.std.specs.Prelude.{◌≡◌, ℕ, ◌+◌, true, List, [], ◌∷◌, ◌++◌, Option, Some, filter, map, slice_get}
use Rattle.base_io.specs.Names.{is_among, position_of}
use Rattle.cmd_network.specs.Devices.{DeviceState}
use Rattle.cmd_network.specs.declared.wire.Wire.{Wire}
use Rattle.cmd_schedule.specs.Contents.{Owned, accounts_of}
use Rattle.cmd_schedule.specs.Schedules.{WireView}
use Rattle.cmd_schedule.specs.declared.schedule.WireLine.{WireLine}
use Rattle.cmd_schedule.specs.declared.schedule.WireStep.TheVariants.{Dial, Run}
use Rattle.cmd_world.specs.Histories.{common_steps, world_at_start}
use Rattle.cmd_world.specs.Lines.{all_stepped}
use Rattle.cmd_world.specs.WorldReports.{is_open}
use Rattle.cmd_world.specs.Worlds.{ByteWorld}
use Rattle.law_calm.specs.Rounds.{AreRounds, IsAny}
use Rattle.sim_1_applications.specs.Devices.{AppWorld}
use Rattle.sim_2_links.specs.Views.{View}
use Rattle.sim_3_images.specs.Devices.{account_position}
use Rattle.sim_5_moves.specs.Running.{IsOwned}
use Rattle.sim_7_schedules.specs.Messages.{Told, of_epoch, said_lines, taken_of, told_said, told_taken}
use Rattle.sim_7_schedules.specs.Simulation.{Simulates}
use Rattle.sm_live.specs.Sessions.{Session, session_named}
use Rattle.sm_outbox.specs.Sessions.{SessionView}
use Rattle.xml_writer.specs.Items.{ItemOut}

-- the world behind these first lines
abbrev pub world_behind : WireView → List WireLine → ByteWorld
world_behind s lines = all_stepped lines (world_at_start s)

-- behind these lines stands a last one, `run n`
pub record EndsInRun (s : WireView) (before : List WireLine) (n : ℕ) : Type 0 where
  pub line : WireLine
  pub lines : s.lines ≡ before ++ line ∷ []
  pub step : line.step ≡ Run n

-- a device's newest connection is there, and nothing ended it
pub record IsConnected (w : ByteWorld) (i : ℕ) (d : DeviceState) (position : ℕ) : Type 0 where
  pub there : slice_get w.devices i ≡ Some d
  pub newest : d.newest ≡ Some position
  pub wire : Wire
  pub at : slice_get w.wires position ≡ Some wire
  pub stands : is_open wire.end ≡ true

-- these are the links of a device in a world, as the applications beside it have them
pub record AreLinks (s : WireView) (w : ByteWorld) (i : ℕ) (o : Owned) (v : View ItemOut) : Type 0 where
  pub applications : AppWorld
  pub beside : Simulates s w applications
  pub owned : IsOwned s i o
  pub shown : (beside.runs.simulation.devices i o owned).view ≡ v

-- the links of a device go from the one world to the other by so many rounds on the connection at a place
pub record GoesByRounds (s : WireView) (w next : ByteWorld) (i : ℕ) (o : Owned) (position n : ℕ) : Type 0 where
  pub first : View ItemOut
  pub last : View ItemOut
  pub links : AreLinks s w i o first
  pub links_then : AreLinks s next i o last
  pub rounds : AreRounds IsAny (position + 1) n first last

-- ---- sessions

-- the session that the server has of a device: that of its account with its resource
abbrev pub server_session : WireView → Owned → ByteWorld → Option (Session (List ℕ))
server_session s o w = session_named (account_position o.account (accounts_of (common_steps s))) o.device w.server.server_state.sessions

-- the last of these lines is the device's dial
pub record EndsInDial (s : WireView) (lines : List WireLine) (i : ℕ) : Type 0 where
  pub before : List WireLine
  pub line : WireLine
  pub are : lines ≡ before ++ line ∷ []
  pub name : List ℕ
  pub step : line.step ≡ Dial name
  pub of : position_of name (world_behind s before).names ≡ Some i

-- both ends have a session of the device, and the server counts it
pub record BothHave (s : WireView) (w : ByteWorld) (i : ℕ) (o : Owned) : Type 0 where
  pub device : DeviceState
  pub there : slice_get w.devices i ≡ Some device
  pub own : SessionView (List ℕ)
  pub is_own : device.client.client.session ≡ Some own
  pub session : Session (List ℕ)
  pub is_session : server_session s o w ≡ Some session
  pub counted : session.shown.counted ≡ true

-- ---- messages

-- those that a device said in an epoch, to accounts that exist, in order
abbrev pub said_in_epoch : ℕ → DeviceState → ByteWorld → List Told
said_in_epoch e d w = filter (λ (m : Told). is_among m.to w.accounts) (of_epoch e (map told_said (said_lines d)))

-- and those of the epoch that the server took of it
abbrev pub taken_in_epoch : ℕ → Owned → ByteWorld → List Told
taken_in_epoch e o w = of_epoch e (map told_taken (taken_of o.device w.takes))
