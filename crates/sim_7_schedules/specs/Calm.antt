-- In a run from a world of bytes on: the items that come to the server, one after another, and which of them takes a device's
-- connection away.
use Rattle.std.specs.Prelude.{◌≡◌, ◌≢◌, ℕ, true, List, [], ◌∷◌, ◌++◌, Some, length, slice_get}
use Rattle.cmd_network.specs.Devices.{DeviceState}
use Rattle.cmd_network.specs.declared.wire.Wire.{Wire}
use Rattle.cmd_world.specs.Moves.{Move, all_moved}
use Rattle.cmd_world.specs.Worlds.{ByteWorld, number_at}
use Rattle.sim_3_images.specs.Relayable.{ClientFits, DownFits, ServerFits, UpFits}
use Rattle.sim_3_images.specs.Stands.{StandingServers}
use Rattle.sim_3_images.specs.WorldEncodings.{IsMoved}
use Rattle.sim_3_items.specs.ItemMoves as moving
use Rattle.sim_3_items.specs.ItemMoves.{ItemMove, Up, step_of}
use Rattle.sim_3_items.specs.ItemPipes.{ItemWire}
use Rattle.sim_3_items.specs.ItemWorlds.{ItemWorld, itself, read_of}
use Rattle.sim_7_schedules.specs.LastLines.{IsConnected}
use Rattle.sim_7_schedules.specs.LateWords.{IsAsk}
use Rattle.sim_7_schedules.specs.Simulation.{IsEncoded}
use Rattle.sm_acks.specs.declared.end.TheConstants.{MOST_UNACKNOWLEDGED}
use Rattle.sm_live.specs.Sessions.{Session, session_of}
use Rattle.srv_core.specs.Table.{at_open}
use Rattle.srv_state.specs.Steps.{Act, Send, acted}
use Rattle.srv_state.specs.Streams.{standing_at}
use Rattle.xml_writer.specs.Items.{ItemOut}

-- some connection of the device is its newest, this one, and nothing ended it
abbrev pub IsConnectedBy : ByteWorld → ℕ → ℕ → Type 0
IsConnectedBy w i position = (d : DeviceState) × IsConnected w i d position

-- In the midst of one of these moves from a world on, an item comes to the server, the next one of a connection. The world
-- of bytes before that move encodes one of items, the move is moves of items, and some first ones of these were made.
pub record ComesUp (w : ByteWorld) (moves : List Move) (from : ℕ) : Type 0 where
  pub before : List Move
  pub move : Move
  pub behind : List Move
  pub are : moves ≡ before ++ move ∷ behind
  pub beside : ItemWorld
  pub encodes : IsEncoded (all_moved before w) beside
  pub run : IsMoved UpFits DownFits (StandingServers ServerFits) ClientFits move (all_moved before w) beside
  pub done : List ItemMove
  pub later : List ItemMove
  pub now : run.moves ≡ done ++ Up from ∷ later
  pub world : ItemWorld
  pub is_world : world ≡ moving.all_moved done beside
  pub wire : ItemWire
  pub there : slice_get world.wires from ≡ Some wire
  pub item : ItemOut
  pub rest : List ItemOut
  pub first : wire.up.items ≡ item ∷ rest

-- It is a `bind` or a `resume` (RFC 6120, section 7; XEP-0198, section 5), on an older connection of the device.
pub record AsksLate (w : ByteWorld) (moves : List Move) (i position : ℕ) : Type 0 where
  pub from : ℕ
  pub comes : ComesUp w moves from
  pub older : from ≢ position
  pub of : comes.wire.device ≡ i
  pub asks : IsAsk comes.item

-- Of what the server does on it one step sends a stanza to the session on this connection, which is counted, and in which as
-- many wait as may.
pub record FillsQueue (w : ByteWorld) (moves : List Move) (position : ℕ) : Type 0 where
  pub from : ℕ
  pub comes : ComesUp w moves from
  pub acts : List (Act ItemOut)
  pub number : ℕ
  pub stanza : ItemOut
  pub others : List (Act ItemOut)
  pub does : at_open itself (number_at from) (read_of comes.item) (standing_at (number_at from) comes.world.server) comes.world.server ≡ acts ++ Send number stanza ∷ others
  pub session : Session ItemOut
  pub is_session : session_of number (acted itself acts (step_of comes.world.server)).server_state.sessions ≡ Some session
  pub on : session.shown.conn ≡ Some (number_at position)
  pub counted : session.shown.counted ≡ true
  pub full : length session.waiting ≡ MOST_UNACKNOWLEDGED

-- no other connection of the device has bytes under way to the server
abbrev pub HasNothingOlder : ByteWorld → ℕ → ℕ → Type 0
HasNothingOlder w i position = (other : ℕ) (wire : Wire) → slice_get w.wires other ≡ Some wire → wire.device ≡ i → other ≢ position → wire.up.bytes ≡ []
