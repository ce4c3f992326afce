-- What the client of a device notes down of its session in a move, of bytes and of items (XEP-0198, sections 3 to 5): where
-- bytes are handed to it, and where its user submits a message or asks for a page. In no other move it puts or handles a
-- stanza.
use Rattle.std.specs.Prelude.{ℕ, ◌==◌, Bool, List, [], ◌∷◌, ◌++◌, Option, Some, None, Result, Ok, Err, slice_get, take, if◌then◌else◌}
use Rattle.cl_core.specs.Steps.{item_step}
use Rattle.cl_core.specs.UserCalls.{catch_up_answer, catches_up, say_answer, says}
use Rattle.cl_handlers.specs.Speech.{Note, Speech, in_items}
use Rattle.law_client.specs.Calls as calls
use Rattle.law_client.specs.Calls.{Call, calls_run}
use Rattle.cmd_network.specs.Devices.{DeviceState, has_wire, silent}
use Rattle.cmd_network.specs.Wires.{amount}
use Rattle.cmd_network.specs.declared.wire.Wire.{Wire}
use Rattle.cmd_report.specs.Addresses.{bare_address}
use Rattle.cmd_schedule.specs.declared.schedule.Count.{Count}
use Rattle.cmd_world.specs.Moves as bytes
use Rattle.cmd_world.specs.Moves.{Move}
use Rattle.cmd_world.specs.Worlds.{ByteWorld}
use Rattle.sim_3_items.specs.ItemMoves as items
use Rattle.sim_3_items.specs.ItemMoves.{ItemMove, moved}
use Rattle.sim_3_items.specs.ItemPipes.{ItemWire}
use Rattle.sim_3_items.specs.ItemWorlds.{ItemDevice, ItemWorld, read_of, silent_client_step}
use Rattle.xml_writer.specs.Items.{ItemOut, written_item}

-- ---- bytes

-- the client does what it does in bytes, and notes all down
abbrev pub noting : Speech (List ℕ) ℕ
noting = record { say = written_item; spread = λ written. written; note = λ notes one. notes ++ one ∷ [] }

abbrev pub call_of_piece : ℕ → List ℕ → List Call
call_of_piece n under_way = if n == 0 then [] else calls.Bytes (take n under_way) ∷ []

-- the bytes that are handed to a device on the connection that it has
abbrev pub calls_at : ℕ → Count → Wire → Option DeviceState → List Call
calls_at position count wire None = []
calls_at position count wire (Some d) = if has_wire position d.here then call_of_piece (amount count wire.down) wire.down.bytes else []

abbrev pub calls_on : ℕ → Count → ℕ → Option DeviceState → Option Wire → List Call
calls_on position count i d None = []
calls_on position count i d (Some wire) = if wire.device == i then calls_at position count wire d else []

-- what is called of the client of a device
abbrev pub calls_in : Move → ByteWorld → ℕ → List Call
calls_in (bytes.Say device line to text private) w i = if device == i then calls.Say (bare_address to) text private ∷ [] else []
calls_in (bytes.CatchUp device line most) w i = if device == i then calls.CatchUp most ∷ [] else []
calls_in (bytes.Down position count) w i = calls_on position count i (slice_get w.devices i) (slice_get w.wires position)
calls_in _ w i = []

-- and what it notes down then
abbrev pub notes_of : List Call → Option DeviceState → List (Note (List ℕ))
notes_of called None = []
notes_of called (Some d) = (calls_run noting called (silent d.client)).turn.out.notes

abbrev pub notes_in : Move → ByteWorld → ℕ → List (Note (List ℕ))
notes_in m w i = notes_of (calls_in m w i) (slice_get w.devices i)

-- ---- items

abbrev pub said_notes : {T E : Type 0} → Result T E → List ℕ → List ℕ → Bool → ItemDevice → List (Note ItemOut)
said_notes (Ok done) to text private d = (says in_items (silent_client_step d.client) to text private).out.notes
said_notes (Err fault) to text private d = []

abbrev pub said_at : List ℕ → List ℕ → Bool → Option ItemDevice → List (Note ItemOut)
said_at to text private None = []
said_at to text private (Some d) = said_notes (say_answer d.client text) to text private d

abbrev pub asked_notes : {T E : Type 0} → Result T E → ℕ → ItemDevice → List (Note ItemOut)
asked_notes (Ok done) most d = (catches_up in_items (silent_client_step d.client) most).out.notes
asked_notes (Err fault) most d = []

abbrev pub asked_at : ℕ → Option ItemDevice → List (Note ItemOut)
asked_at most None = []
asked_at most (Some d) = asked_notes (catch_up_answer d.client) most d

-- the first item that is under way
abbrev pub heard_notes : List ItemOut → ItemDevice → List (Note ItemOut)
heard_notes [] d = []
heard_notes (i ∷ under_way) d = (item_step in_items (silent_client_step d.client) (read_of i)).out.notes

abbrev pub heard_at : ℕ → List ItemOut → Option ItemDevice → List (Note ItemOut)
heard_at position under_way None = []
heard_at position under_way (Some d) = if items.has_wire position d.here then heard_notes under_way d else []

abbrev pub heard_on : ℕ → ℕ → Option ItemDevice → Option ItemWire → List (Note ItemOut)
heard_on position i d None = []
heard_on position i d (Some wire) = if wire.device == i then heard_at position wire.down.items d else []

abbrev pub item_notes : ItemMove → ItemWorld → ℕ → List (Note ItemOut)
item_notes (items.Say device to text private) w i = if device == i then said_at to text private (slice_get w.devices i) else []
item_notes (items.CatchUp device most) w i = if device == i then asked_at most (slice_get w.devices i) else []
item_notes (items.Down position) w i = heard_on position i (slice_get w.devices i) (slice_get w.wires position)
item_notes _ w i = []

-- along moves
abbrev pub all_item_notes : List ItemMove → ItemWorld → ℕ → List (Note ItemOut)
all_item_notes [] w i = []
all_item_notes (m ∷ moves) w i = item_notes m w i ++ all_item_notes moves (moved m w) i
