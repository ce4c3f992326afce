-- The stanzas that the server puts into the session of a device in a move, of bytes and of items (RFC 6120, section 8; XEP-0198,
-- section 4), by what it puts out and by what waits. It puts them where it reads a stanza of a session, whosever that is.
use Rattle.std.specs.Prelude.{ℕ, ◌==◌, ◌&&◌, ◌||◌, Bool, List, [], ◌∷◌, ◌++◌, Option, Some, None, codes, drop, length, nat_eq, slice_get, take, if◌then◌else◌}
use Rattle.std.specs.Str.{bytes_eq}
use Rattle.cl_handlers.specs.declared.account.Account.{Account}
use Rattle.cmd_network.specs.Devices.{DeviceState}
use Rattle.cmd_network.specs.Wires.{amount}
use Rattle.cmd_network.specs.declared.wire.Wire.{Wire}
use Rattle.cmd_schedule.specs.declared.schedule.Count.{Count}
use Rattle.cmd_world.specs.Moves as bytes
use Rattle.cmd_world.specs.Moves.{Move}
use Rattle.cmd_world.specs.Worlds.{ByteWorld, number_at}
use Rattle.sim_3_images.specs.Reads.{read_here}
use Rattle.sim_3_items.specs.ItemMoves as items
use Rattle.sim_3_items.specs.ItemMoves.{ItemMove, moved}
use Rattle.sim_3_items.specs.ItemPipes.{ItemWire}
use Rattle.sim_3_items.specs.ItemWorlds.{ItemDevice, ItemWorld, itself, read_of}
use Rattle.sm_live.specs.Sessions.{Session, session_named}
use Rattle.srv_core.specs.Events.{begun, framer_at, turn_of}
use Rattle.srv_core.specs.Table.{after_item}
use Rattle.srv_login.specs.Accounts.{FoundView, account_named}
use Rattle.srv_state.specs.State.{Out, Put, ServerState, Shut, Step, Took}
use Rattle.xml_framer.specs.States.{State}
use Rattle.xml_framer.specs.declared.items.Item.{Item}
use Rattle.xml_writer.specs.Items.{ItemOut, written_item}

-- ---- what is put out

-- a text that begins as a stanza does (RFC 6120, section 8.1)
abbrev pub begins_with : List ℕ → List ℕ → Bool
begins_with front text = bytes_eq (take (length front) text) front

abbrev pub begins_stanza : List ℕ → Bool
begins_stanza text = begins_with (codes "<message") text || (begins_with (codes "<presence") text || begins_with (codes "<iq") text)

abbrev pub is_put_as_stanza : ItemOut → Bool
is_put_as_stanza z = begins_stanza (written_item z)

-- of what is put out on a connection, the stanzas
abbrev pub puts_on : {A : Type 0} → (A → Bool) → ℕ → List (Out A) → List A
puts_on is k [] = []
puts_on is k (Put j a ∷ outs) = (if nat_eq j k && is a then a ∷ [] else []) ++ puts_on is k outs
puts_on is k (Shut j ∷ outs) = puts_on is k outs
puts_on is k (Took from to origin ∷ outs) = puts_on is k outs

-- ---- the session of a device

-- that of the account and the resource that its client has
abbrev pub session_by : {A : Type 0} → Option FoundView → List ℕ → ServerState A → Option (Session A)
session_by None resource h = None
session_by (Some found) resource h = session_named found.position resource h.sessions

abbrev pub session_for : {A : Type 0} → Account → ServerState A → Option (Session A)
session_for who h = session_by (account_named who.login.name h.accounts) who.resource h

-- what waits in it behind what waited before
abbrev pub joined : {A : Type 0} → Session A → Option (Session A) → List A
joined before None = []
joined before (Some now) = drop (length before.waiting) now.waiting

-- ---- items that a server takes

-- Into a session that is on a connection goes what is put out there, and into one that is parked what joins its queue.
abbrev pub given_by : {A : Type 0} → (A → Bool) → Account → Session A → Option ℕ → Step A → List A
given_by is who before (Some k) after = puts_on is k after.outs
given_by is who before None after = joined before (session_for who after.server_state)

abbrev pub given_to : {A : Type 0} → (A → Bool) → Account → Option (Session A) → Step A → List A
given_to is who None after = []
given_to is who (Some before) after = given_by is who before before.shown.conn after

-- where the server reads these
abbrev pub given_where : {A : Type 0} → (A → Bool) → Account → List ItemOut → ServerState A → Step A → List A
given_where is who [] h after = []
given_where is who (z ∷ read) h after = given_to is who (session_for who h) after

abbrev pub given_here : {A : Type 0} → (ItemOut → A) → (A → Bool) → Account → ℕ → Item → ServerState A → List A
given_here say is who k i h = given_where is who (read_here k i h) h (after_item say k i (record { server_state = h; outs = [] }))

-- one after another
abbrev pub given_along : {A : Type 0} → (ItemOut → A) → (A → Bool) → Account → ℕ → List Item → Step A → List A
given_along say is who k [] s = []
given_along say is who k (i ∷ coming) s = given_here say is who k i s.server_state ++ given_along say is who k coming (after_item say k i s)

-- ---- bytes

-- the items that the framer of the connection gives
abbrev pub given_of_piece : Account → ℕ → List ℕ → Option State → Step (List ℕ) → List (List ℕ)
given_of_piece who k piece None s = []
given_of_piece who k piece (Some f) s = given_along written_item begins_stanza who k (turn_of piece f).items s

abbrev pub given_first : Account → ℕ → ℕ → List ℕ → ByteWorld → List (List ℕ)
given_first who k n under_way w = if n == 0 then [] else given_of_piece who k (take n under_way) (framer_at k w.server.framers) (begun w.moment w.server.server_state [])

abbrev pub given_on : ℕ → Count → ByteWorld → Option DeviceState → Option Wire → List (List ℕ)
given_on position count w None wire = []
given_on position count w (Some d) None = []
given_on position count w (Some d) (Some wire) = given_first d.client.client.account (number_at position) (amount count wire.up) wire.up.bytes w

-- as they are written
abbrev pub given_in : Move → ByteWorld → ℕ → List (List ℕ)
given_in (bytes.Up position count) w i = given_on position count w (slice_get w.devices i) (slice_get w.wires position)
given_in _ w i = []

-- ---- items

abbrev pub item_given_first : Account → ℕ → List ItemOut → ItemWorld → List ItemOut
item_given_first who k [] w = []
item_given_first who k (z ∷ under_way) w = given_here itself is_put_as_stanza who k (read_of z) w.server

abbrev pub item_given_on : ℕ → ItemWorld → Option ItemDevice → Option ItemWire → List ItemOut
item_given_on position w None wire = []
item_given_on position w (Some d) None = []
item_given_on position w (Some d) (Some wire) = item_given_first d.client.account (number_at position) wire.up.items w

abbrev pub item_gives : ItemMove → ItemWorld → ℕ → List ItemOut
item_gives (items.Up position) w i = item_given_on position w (slice_get w.devices i) (slice_get w.wires position)
item_gives _ w i = []

-- along moves
abbrev pub all_item_gives : List ItemMove → ItemWorld → ℕ → List ItemOut
all_item_gives [] w i = []
all_item_gives (m ∷ moves) w i = item_gives m w i ++ all_item_gives moves (moved m w) i
