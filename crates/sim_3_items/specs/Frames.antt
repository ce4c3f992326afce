-- What a step of one end leaves of the other.
use Rattle.std.specs.Prelude.{◌≡◌, ℕ, false, Option, Some, None}
use Rattle.sim_2_links.specs.Stages.{Conn}
use Rattle.sim_2_links.specs.Views.{Session, View}
use Rattle.sim_2_links.specs.Wires.{is_flowing}
use Rattle.xml_writer.specs.Items.{ItemOut}

-- of a connection the server changes nothing that the client has, but that it may end
abbrev pub KeepsClient : Option (Conn ItemOut) → Option (Conn ItemOut) → Type 0
KeepsClient None None = Unit {0}
KeepsClient (Some c) (Some next) = (next.client ≡ c.client) × (is_flowing c.wires ≡ false → is_flowing next.wires ≡ false)
KeepsClient _ _ = ⊥

-- and the client nothing that the server has
abbrev pub KeepsServer : Option (Conn ItemOut) → Option (Conn ItemOut) → Type 0
KeepsServer None None = Unit {0}
KeepsServer (Some c) (Some next) = (next.phase ≡ c.phase) × (next.ending ≡ c.ending) × (next.gone ≡ c.gone)
KeepsServer _ _ = ⊥

pub record SameClient (v next : View ItemOut) : Type 0 where
  pub here : next.here ≡ v.here
  pub own : next.own ≡ v.own
  pub epoch : next.epoch ≡ v.epoch
  pub conns : (k : ℕ) → KeepsClient (v.conns k) (next.conns k)

-- no session comes that wasn't there
pub record SameServer (v next : View ItemOut) : Type 0 where
  pub row : next.row ≡ v.row
  pub free : next.free ≡ v.free
  pub known : (q : ℕ) (t : Session ItemOut) → next.sessions q ≡ Some t → (s : Session ItemOut) × (v.sessions q ≡ Some s)
  pub conns : (k : ℕ) → KeepsServer (v.conns k) (next.conns k)
