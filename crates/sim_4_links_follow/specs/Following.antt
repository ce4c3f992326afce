-- A move of a world, and the links of a device: they have moved with it, or it is none of theirs.
use Rattle.std.specs.Prelude.{◌≡◌, ℕ, ◌≤◌, List, [], ◌∷◌, Some, None, nat_eq, slice_get, if◌then◌else◌}
use Rattle.std.specs.List.{AllByRecursion}
use Rattle.srv_state.specs.State.{ServerState}
use Rattle.srv_state.specs.declared.connection.Connection.{Connection}
use Rattle.sim_3_items.specs.Clients.{ClientRepresents}
use Rattle.sim_3_items.specs.Labels.{ArePrompt, Label, labels_of}
use Rattle.sim_3_items.specs.Identities.{Identity, IsLogin, Login}
use Rattle.sim_3_items.specs.Pipes.{PipesRepresent}
use Rattle.sim_3_items.specs.Reading.{IsNextDown}
use Rattle.sim_3_items.specs.Servers.{ServerRepresents}
use Rattle.sim_3_items.specs.Represents.{Represents}
use Rattle.sim_3_items.specs.WordItems.{down_item, is_after_login}
use Rattle.sim_3_items.specs.ItemMoves.{CatchUp, Close, Cut, Dial, Down, DownEnd, Forget, ItemMove, Say, Tick, Up, UpEnd}
use Rattle.sim_3_items.specs.ItemPipes.{ItemWire}
use Rattle.sim_3_items.specs.ItemWorlds.{ItemDevice, ItemWorld}
use Rattle.sim_2_links.specs.LinkMoves.{IsCut}
use Rattle.sim_2_links.specs.Machine.{LinkMove, LinkReaches}
use Rattle.sim_2_links.specs.Views.{Table, View}
use Rattle.sim_2_links.specs.Words.{DownWord}
use Rattle.sm_live.specs.Sessions.{Session, session_at}
use Rattle.xml_writer.specs.Items.{ItemOut}

-- ---- what follows

-- the links have moved, and of stanzas as is said, with a request behind each that is awaited; and these are then the
-- pipes and both ends
pub record BothFollow (who : Identity) (logins : ℕ → Login) (h : ServerState ItemOut) (d : ItemDevice) (wires : Table ItemWire) (v : View ItemOut) (done : List (Label ItemOut)) : Type 0 where
  pub moves : List (LinkMove ItemOut)
  pub next : View ItemOut
  pub leads : LinkReaches moves v next
  pub does : labels_of moves ≡ done
  pub prompt : ArePrompt moves
  pub server : ServerRepresents who logins h next
  pub client : ClientRepresents who logins d next
  pub pipes : PipesRepresent who logins wires next

-- and this is then the world
pub record WorldFollows (who : Identity) (logins : ℕ → Login) (w : ItemWorld) (v : View ItemOut) (done : List (Label ItemOut)) : Type 0 where
  pub moves : List (LinkMove ItemOut)
  pub next : View ItemOut
  pub leads : LinkReaches moves v next
  pub does : labels_of moves ≡ done
  pub prompt : ArePrompt moves
  pub represents : Represents who logins w next

-- ---- cuts

-- the links are cut at the same words, and both ends have what they had
pub record CutFollows (who : Identity) (logins : ℕ → Login) (h : ServerState ItemOut) (d : ItemDevice) (wires : Table ItemWire) (v : View ItemOut) (k i j : ℕ) : Type 0 where
  pub next : View ItemOut
  pub cuts : IsCut k i j v next
  pub server : ServerRepresents who logins h next
  pub client : ClientRepresents who logins d next
  pub pipes : PipesRepresent who logins wires next

-- ---- dials

-- one more connection has a login
abbrev pub with_login : ℕ → Login → (ℕ → Login) → ℕ → Login
with_login k x logins = λ j. if nat_eq k j then x else logins j

-- it is made of these bytes, which were drawn for the client's end and for the server's
pub record IsDrawn (who : Identity) (x : Login) (own other : List ℕ) : Type 0 where
  pub login : IsLogin who x
  pub mine : x.mine ≡ own
  pub yours : x.yours ≡ other

-- no connection is open, and no session is on one, with a number above those dialled
pub record AreDialled (n : ℕ) (h : ServerState ItemOut) : Type 0 where
  pub conns : AllByRecursion (λ (e : ℕ × Connection). e.0 ≤ n) h.conns
  pub seats : (k : ℕ) (s : Session ItemOut) → session_at k h.sessions ≡ Some s → k ≤ n

-- ---- items

-- the item is that of a word, which is the first on its way down on the connection that the client works on
pub record HasNextDown (who : Identity) (logins : ℕ → Login) (d : ItemDevice) (wires : Table ItemWire) (v : View ItemOut) (k : ℕ) (w : ItemWire) (i : ItemOut) : Type 0 where
  pub word : DownWord ItemOut
  pub next : IsNextDown who logins d wires v k word
  pub is : down_item who (logins k) k (is_after_login next.conn.client) word ≡ i
  pub same : next.wire ≡ w

-- an item is the first on its way down on the connection of a device
pub record IsNextItem (position device : ℕ) (w : ItemWorld) (d : ItemDevice) (wire : ItemWire) (i : ItemOut) : Type 0 where
  pub there : slice_get w.wires position ≡ Some wire
  pub of : wire.device ≡ device
  pub has : slice_get w.devices device ≡ Some d
  pub here : d.here ≡ Some position
  pub items : List ItemOut
  pub first : wire.down.items ≡ i ∷ items

-- ---- nothing to do

-- the device, or the connection, is not there
abbrev pub IsOfNobody : ItemMove → ItemWorld → Type 0
IsOfNobody (Dial device mine yours) w = slice_get w.devices device ≡ None
IsOfNobody (Forget device) w = slice_get w.devices device ≡ None
IsOfNobody (Close device) w = slice_get w.devices device ≡ None
IsOfNobody (Say device to text private) w = slice_get w.devices device ≡ None
IsOfNobody (CatchUp device most) w = slice_get w.devices device ≡ None
IsOfNobody (Tick milliseconds) w = ⊥
IsOfNobody (Up position) w = slice_get w.wires position ≡ None
IsOfNobody (Down position) w = slice_get w.wires position ≡ None
IsOfNobody (UpEnd position) w = slice_get w.wires position ≡ None
IsOfNobody (DownEnd position) w = slice_get w.wires position ≡ None
IsOfNobody (Cut position up down) w = slice_get w.wires position ≡ None

-- the device whose connection this was has it no more, or nothing is under way to it
abbrev pub IsOnNone : ℕ → ItemWire → ItemWorld → Type 0
IsOnNone position wire w = (d : ItemDevice) → slice_get w.devices wire.device ≡ Some d → d.here ≡ Some position → wire.down.items ≡ []
