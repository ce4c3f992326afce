-- A word stands first on its way down on the connection that the client works on, or the user calls: what the client does
-- is to be moves of the links.
use Rattle.std.specs.Prelude.{◌≡◌, ℕ, ◌+◌, ◌++◌, ◌∷◌, List, [], Option, Some, None, nat_eq, true}
use Rattle.std.specs.Option.{option_map}
use Rattle.cl_core.specs.Steps.{item_step}
use Rattle.cl_handlers.specs.Clients.{ClientStep}
use Rattle.cl_handlers.specs.Speech.{Acknowledged, Counted, Ended, Epoch, Handled, Note, Put, Stated, in_items}
use Rattle.cl_handlers.specs.ClientSteps.{is_apart}
use Rattle.sim_3_items.specs.Clients.{ClientFollows, ClientRepresents}
use Rattle.sim_3_items.specs.Labels.{Drops, Enters, Label, Learns, Names, Reads, Says}
use Rattle.sim_3_items.specs.Identities.{Identity, IsNormal, Login}
use Rattle.sim_3_items.specs.Pipes.{PipesRepresent}
use Rattle.sim_3_items.specs.Sent.{where_it}
use Rattle.sim_3_items.specs.WordItems.{down_item, is_after_login}
use Rattle.sim_3_items.specs.ItemMoves.{here_after, left_where}
use Rattle.sim_3_items.specs.ItemPipes.{ItemWire, down_end_reported, handed_down, left, put_up}
use Rattle.sim_3_items.specs.ItemWorlds.{ItemDevice, read_of, silent_client_step}
use Rattle.sim_2_links.specs.Machine.{LinkReached}
use Rattle.sim_2_links.specs.Stages.{Conn}
use Rattle.sim_2_links.specs.Views.{Table, View, with_at}
use Rattle.sim_2_links.specs.Wires.{down_words}
use Rattle.sim_2_links.specs.Words.{DownWord}
use Rattle.xml_writer.specs.Items.{ItemOut, Whole}

-- ---- what a turn notes down of stanzas and of the session

abbrev pub noted_by : Note ItemOut → List (Label ItemOut)
noted_by (Epoch e) = Names ∷ []
noted_by Counted = Enters ∷ []
noted_by (Handled e) = Reads (Whole e) ∷ []
noted_by (Put z) = Says z ∷ []
noted_by (Stated n) = []
noted_by (Acknowledged n) = Learns ∷ []
noted_by Ended = Drops ∷ []

abbrev pub noted : List (Note ItemOut) → List (Label ItemOut)
noted [] = []
noted (one ∷ notes) = noted_by one ++ noted notes

-- ---- a device that is shown

-- so far as its client goes
pub record IsRepresentedHere (who : Identity) (logins : ℕ → Login) (d : ItemDevice) (wires : Table ItemWire) (v : View ItemOut) : Type 0 where
  pub normal : IsNormal who
  pub reached : LinkReached v
  pub client : ClientRepresents who logins d v
  pub pipes : PipesRepresent who logins wires v

-- and the word is the first on its way down on the connection with this number, on which the client works
pub record IsNextDown (who : Identity) (logins : ℕ → Login) (d : ItemDevice) (wires : Table ItemWire) (v : View ItemOut) (k : ℕ) (word : DownWord ItemOut) : Type 0 where
  pub shown : IsRepresentedHere who logins d wires v
  pub here : v.here ≡ Some k
  pub conn : Conn ItemOut
  pub is : v.conns k ≡ Some conn
  pub rest : List (DownWord ItemOut)
  pub first : down_words conn.wires ≡ word ∷ rest
  pub wire : ItemWire
  pub there : wires k ≡ Some wire

-- ---- items

-- what the client does on an item
abbrev pub client_step_on : ItemOut → ItemDevice → ClientStep ItemOut ItemOut
client_step_on i d = item_step in_items (silent_client_step d.client) (read_of i)

-- the device and its connection behind the turn: where the client left, the device has no connection any more
abbrev pub device_after : ClientStep ItemOut ItemOut → ItemDevice → ItemDevice
device_after t d = record { client = t.client; here = here_after (is_apart t.client.phase) d.here }

abbrev pub wire_after : ClientStep ItemOut ItemOut → ItemWire → ItemWire
wire_after t w = left_where (is_apart t.client.phase) (put_up t.out.put (handed_down w))

-- behind a turn on an item of this connection the links have moved, and of stanzas as it noted down
abbrev pub HearingFollows : Identity → (ℕ → Login) → ItemDevice → Table ItemWire → View ItemOut → ℕ → ItemWire → ClientStep ItemOut ItemOut → Type 0
HearingFollows who logins d wires v k wire t = ClientFollows who logins (device_after t d) (with_at k (wire_after t wire) wires) v (noted t.out.notes)

-- the word's item is read
abbrev pub IsRead : Identity → (ℕ → Login) → ItemDevice → Table ItemWire → View ItemOut → ℕ → Conn ItemOut → ItemWire → DownWord ItemOut → Type 0
IsRead who logins d wires v k conn wire word = HearingFollows who logins d wires v k wire (client_step_on (down_item who (logins k) k (is_after_login conn.client) word) d)

-- ---- calls

-- The connection that a device has is changed. Places of connections are from 0, and their numbers from 1.
abbrev pub where_here : Option ℕ → (ItemWire → ItemWire) → Table ItemWire → Table ItemWire
where_here None f wires = wires
where_here (Some position) f wires = λ n. option_map (where_it (nat_eq (position + 1) n) f) (wires n)

-- behind a turn of a call that submits, or asks for a page
abbrev pub SpeakingFollows : Identity → (ℕ → Login) → ItemDevice → Table ItemWire → View ItemOut → ClientStep ItemOut ItemOut → Type 0
SpeakingFollows who logins d wires v t = ClientFollows who logins (record d { client = t.client }) (where_here d.here (put_up t.out.put) wires) v (noted t.out.notes)

-- behind one that gives the session up, and the connection
abbrev pub ForgettingFollows : Identity → (ℕ → Login) → ItemDevice → Table ItemWire → View ItemOut → ClientStep ItemOut ItemOut → Type 0
ForgettingFollows who logins d wires v t = ClientFollows who logins (record { client = t.client; here = None }) (where_here d.here left wires) v (noted t.out.notes)

-- and behind one that puts a footer before
abbrev pub ClosingFollows : Identity → (ℕ → Login) → ItemDevice → Table ItemWire → View ItemOut → ClientStep ItemOut ItemOut → Type 0
ClosingFollows who logins d wires v t =
    ClientFollows who logins (record { client = t.client; here = None }) (where_here d.here left (where_here d.here (put_up t.out.put) wires)) v (noted t.out.notes)

-- the end of the connection is told to a device that has it: nothing is under way to it, and nothing comes
pub record IsOverHere (d : ItemDevice) (wires : Table ItemWire) (position : ℕ) : Type 0 where
  pub here : d.here ≡ Some position
  pub wire : ItemWire
  pub there : wires (position + 1) ≡ Some wire
  pub nothing : wire.down.items ≡ []
  pub ended : wire.down.ended ≡ true

abbrev pub LeavingFollows : Identity → (ℕ → Login) → ItemDevice → Table ItemWire → View ItemOut → ℕ → ItemWire → ClientStep ItemOut ItemOut → Type 0
LeavingFollows who logins d wires v position wire t = ClientFollows who logins (record d { client = t.client }) (with_at (position + 1) (down_end_reported wire) wires) v (noted t.out.notes)
