-- A word stands first on its way up: what the server does on its item is to be moves of the links.
use Rattle.std.specs.Prelude.{◌≡◌, ◌≢◌, ◌⊎◌, ℕ, ◌+◌, ◌<◌, ◌^◌, true, length, List, [], ◌∷◌, Some}
use Rattle.srv_state.specs.Moments.{gone_at}
use Rattle.srv_state.specs.State.{ServerState, Step}
use Rattle.sim_3_items.specs.Labels.{Label}
use Rattle.sim_3_items.specs.Identities.{Identity, IsNormal, Login}
use Rattle.sim_3_items.specs.Pipes.{PipesRepresent}
use Rattle.sim_3_items.specs.Sent.{sent}
use Rattle.sim_3_items.specs.Servers.{ServerFollows, ServerRepresents}
use Rattle.sim_3_items.specs.WordItems.{up_item}
use Rattle.sim_3_items.specs.ItemMoves.{step_of}
use Rattle.sim_3_items.specs.ItemPipes.{ItemWire, handed_up, up_end_reported}
use Rattle.sim_3_items.specs.ItemWorlds.{itself, read_of}
use Rattle.sim_2_links.specs.Machine.{LinkReached}
use Rattle.sim_2_links.specs.Stages.{Conn}
use Rattle.sim_2_links.specs.Views.{Table, View, with_at}
use Rattle.sim_2_links.specs.Views as links
use Rattle.sim_2_links.specs.Wires.{up_words}
use Rattle.sim_2_links.specs.Words.{Ack, Auth, Enable, Foot, Hdr, Req, Resp, Up, UpWord}
use Rattle.srv_core.specs.Table.{after_item}
use Rattle.xml_writer.specs.Items.{ItemOut}

-- the device is shown, and the word is the first on the connection with this number
pub record IsFirst (who : Identity) (logins : ℕ → Login) (h : ServerState ItemOut) (wires : Table ItemWire) (v : View ItemOut) (k : ℕ) (word : UpWord ItemOut) : Type 0 where
  pub normal : IsNormal who
  pub reached : LinkReached v
  pub server : ServerRepresents who logins h v
  pub pipes : PipesRepresent who logins wires v
  pub conn : Conn ItemOut
  pub is : v.conns k ≡ Some conn
  pub rest : List (UpWord ItemOut)
  pub first : up_words conn.wires ≡ word ∷ rest
  pub wire : ItemWire
  pub there : wires k ≡ Some wire

-- what the server does on an item
abbrev pub on_item : ℕ → ItemOut → ServerState ItemOut → Step ItemOut
on_item k i h = after_item itself k (read_of i) (step_of h)

-- behind a step, of which an item of this connection was handed over, the links have moved as this says, and put and
-- handled these stanzas
abbrev pub StepFollows : Identity → (ℕ → Login) → Table ItemWire → View ItemOut → ℕ → ItemWire → Step ItemOut → List (Label ItemOut) → Type 0
StepFollows who logins wires v k wire step done = ServerFollows who logins step.server_state (sent step.outs (with_at k (handed_up wire) wires)) v done

-- the word's item is taken, and no stanza is put or handled
abbrev pub IsTaken : Identity → (ℕ → Login) → ServerState ItemOut → Table ItemWire → View ItemOut → ℕ → ItemWire → UpWord ItemOut → Type 0
IsTaken who logins h wires v k wire word = StepFollows who logins wires v k wire (on_item k (up_item who (logins k) word) h) []

-- the words of a login
abbrev pub IsOfLogin : UpWord ItemOut → Type 0
IsOfLogin Hdr = Unit {0}
IsOfLogin Auth = Unit {0}
IsOfLogin Resp = Unit {0}
IsOfLogin _ = ⊥

-- the words on the acknowledgement of stanzas, where a session is
abbrev pub IsOfManagement : UpWord ItemOut → Type 0
IsOfManagement Enable = Unit {0}
IsOfManagement (Up Req) = Unit {0}
IsOfManagement (Up (Ack n)) = Unit {0}
IsOfManagement _ = ⊥

-- another session has a number of 64 bits
abbrev pub HasNumber : ServerState ItemOut → Type 0
HasNumber h = h.next + 1 < 2 ^ 64

-- ---- the end of a connection

-- nothing is under way on it to the server, and nothing comes
pub record IsOver (who : Identity) (logins : ℕ → Login) (h : ServerState ItemOut) (wires : Table ItemWire) (v : View ItemOut) (k : ℕ) : Type 0 where
  pub reached : LinkReached v
  pub server : ServerRepresents who logins h v
  pub pipes : PipesRepresent who logins wires v
  pub conn : Conn ItemOut
  pub is : v.conns k ≡ Some conn
  pub wire : ItemWire
  pub there : wires k ≡ Some wire
  pub nothing : wire.up.items ≡ []
  pub ended : wire.up.ended ≡ true

-- the server hears of it
abbrev pub IsHeard : Identity → (ℕ → Login) → ServerState ItemOut → Table ItemWire → View ItemOut → ℕ → ItemWire → Type 0
IsHeard who logins h wires v k wire = ServerFollows who logins (gone_at k h) (with_at k (up_end_reported wire) wires) v []

-- ---- resumptions

-- In no session of the device the server put 2 ^ 32 stanzas. For an old resumption, on a connection that was left, can state
-- a count that is behind the one acknowledged; and since counts are told modulo 2 ^ 32, the server sees that it is none of
-- its queue only while it is behind by less than that.
pub record AreCountable (v : View ItemOut) : Type 0 where
  pub few : (q : ℕ) (s : links.Session ItemOut) → v.sessions q ≡ Some s → length s.down.put < 2 ^ 32

-- ---- other devices

-- two devices: each has its own place, and no account and resource are those of both
pub record AreApart (who whom : Identity) : Type 0 where
  pub position : whom.position ≢ who.position
  pub name : who.account ≡ whom.account → who.resource ≡ whom.resource → ⊥

-- the words whose rows are of their own device alone: of a login, on acknowledgement, and a footer
abbrev pub IsOwnWord : UpWord ItemOut → Type 0
IsOwnWord Foot = Unit {0}
IsOwnWord word = IsOfLogin word ⊎ IsOfManagement word

-- of another device nothing moves, or as the links say
abbrev pub IsLeft : Identity → Identity → (ℕ → Login) → (ℕ → Login) → ServerState ItemOut → Table ItemWire → View ItemOut → ℕ → ItemWire → UpWord ItemOut → Type 0
IsLeft who whom logins others h wires u k wire word = StepFollows whom others wires u k wire (on_item k (up_item who (logins k) word) h) []

-- ---- items

-- the item is that of a word, which is the first on the connection
pub record HasFirst (who : Identity) (logins : ℕ → Login) (h : ServerState ItemOut) (wires : Table ItemWire) (v : View ItemOut) (k : ℕ) (w : ItemWire) (i : ItemOut) : Type 0 where
  pub word : UpWord ItemOut
  pub is : up_item who (logins k) word ≡ i
  pub first : IsFirst who logins h wires v k word
  pub same : first.wire ≡ w

-- an item is the first on its way up on a connection of the device
pub record IsNext (who : Identity) (wires : Table ItemWire) (k : ℕ) (w : ItemWire) (i : ItemOut) : Type 0 where
  pub there : wires k ≡ Some w
  pub of : w.device ≡ who.position
  pub items : List ItemOut
  pub first : w.up.items ≡ i ∷ items
