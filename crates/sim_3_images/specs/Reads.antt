-- The stanzas of a device that the server reads in a session in a move, of bytes and of items (RFC 6120, section 8): those that
-- come on a connection of the device that is open, and that a session is on.
use Rattle.std.specs.Prelude.{ℕ, ◌+◌, ◌==◌, ◌&&◌, List, [], ◌∷◌, ◌++◌, Option, Some, None, is_some, slice_get, take, if◌then◌else◌}
use Rattle.cmd_network.specs.Wires.{amount}
use Rattle.cmd_network.specs.declared.wire.Wire.{Wire}
use Rattle.cmd_schedule.specs.declared.schedule.Count.{Count}
use Rattle.cmd_world.specs.Moves as bytes
use Rattle.cmd_world.specs.Moves.{Move}
use Rattle.cmd_world.specs.Worlds.{ByteWorld, number_at}
use Rattle.sim_3_items.specs.ItemMoves as items
use Rattle.sim_3_items.specs.ItemMoves.{ItemMove, moved}
use Rattle.sim_3_items.specs.ItemPipes.{ItemWire}
use Rattle.sim_3_items.specs.ItemWorlds.{ItemWorld, read_of}
use Rattle.sm_live.specs.Sessions.{session_at}
use Rattle.srv_core.specs.Events.{begun, framer_at, turn_of}
use Rattle.srv_core.specs.Table.{after_item}
use Rattle.srv_state.specs.State.{ServerState, Step, conn_at}
use Rattle.srv_state.specs.Words.{is_stanza}
use Rattle.srv_state.specs.declared.connection.Connection.{Connection}
use Rattle.xml_framer.specs.States.{State}
use Rattle.xml_framer.specs.declared.items.Item.{Item}
use Rattle.xml_framer.specs.declared.items.Item.TheVariants as item
use Rattle.xml_writer.specs.Items.{ItemOut, Whole, written_item}

-- ---- items that a server takes

-- an item is a stanza by its name, where the connection is open and a session is on it
abbrev pub read_where : {A : Type 0} → Option Connection → ℕ → Item → ServerState A → List ItemOut
read_where None k i h = []
read_where (Some c) k (item.Element e) h = if is_stanza e && is_some (session_at k h.sessions) then Whole e ∷ [] else []
read_where (Some c) k (item.Header at header) h = []
read_where (Some c) k item.Footer h = []

abbrev pub read_here : {A : Type 0} → ℕ → Item → ServerState A → List ItemOut
read_here k i h = read_where (conn_at k h) k i h

-- one after another
abbrev pub read_along : {A : Type 0} → (ItemOut → A) → ℕ → List Item → Step A → List ItemOut
read_along say k [] s = []
read_along say k (i ∷ coming) s = read_here k i s.server_state ++ read_along say k coming (after_item say k i s)

-- ---- bytes

-- the items that the framer of the connection gives
abbrev pub read_of_piece : ℕ → List ℕ → Option State → Step (List ℕ) → List ItemOut
read_of_piece k piece None s = []
read_of_piece k piece (Some f) s = read_along written_item k (turn_of piece f).items s

abbrev pub read_first : ℕ → ℕ → List ℕ → ByteWorld → List ItemOut
read_first k n under_way w = if n == 0 then [] else read_of_piece k (take n under_way) (framer_at k w.server.framers) (begun w.moment w.server.server_state [])

abbrev pub read_on : ℕ → Count → ℕ → ByteWorld → Option Wire → List ItemOut
read_on position count i w None = []
read_on position count i w (Some wire) = if wire.device == i then read_first (number_at position) (amount count wire.up) wire.up.bytes w else []

abbrev pub read_in : Move → ByteWorld → ℕ → List ItemOut
read_in (bytes.Up position count) w i = read_on position count i w (slice_get w.wires position)
read_in _ w i = []

-- ---- items

abbrev pub item_read_first : ℕ → List ItemOut → ItemWorld → List ItemOut
item_read_first k [] w = []
item_read_first k (z ∷ under_way) w = read_here k (read_of z) w.server

abbrev pub item_read_on : ℕ → ℕ → ItemWorld → Option ItemWire → List ItemOut
item_read_on position i w None = []
item_read_on position i w (Some wire) = if wire.device == i then item_read_first (number_at position) wire.up.items w else []

abbrev pub item_reads : ItemMove → ItemWorld → ℕ → List ItemOut
item_reads (items.Up position) w i = item_read_on position i w (slice_get w.wires position)
item_reads _ w i = []

-- along moves
abbrev pub all_item_reads : List ItemMove → ItemWorld → ℕ → List ItemOut
all_item_reads [] w i = []
all_item_reads (m ∷ moves) w i = item_reads m w i ++ all_item_reads moves (moved m w) i
