-- What both ends put at any time: stanzas of a session, wherever it is, and requests for a count.
use Rattle.std.specs.Prelude.{◌≡◌, ℕ, Bool, true, false, [], ◌∷◌, ◌++◌, None, Some}
use Rattle.sim_2_links.specs.Words.{St, Req, Up, Down, Client, InOnline}
use Rattle.sim_2_links.specs.Wires.{send_up, send_down}
use Rattle.sim_2_links.specs.Stages.{Conn}
use Rattle.sim_2_links.specs.Views.{View, with_at, alter, has, Row, Own}
use Rattle.sim_2_links.specs.SessionMoves.{put_if}

abbrev pub is_online : Client → Bool
is_online (InOnline p) = true
is_online _ = false

-- the client puts a stanza of its session while it is not online: it stays in the queue
pub record IsClientQueued {A : Type 0} (z : A) (v next : View A) : Type 0 where
  pub own : Own A
  pub is_own : v.own ≡ Some own
  pub away : (k : ℕ) (conn : Conn A) → v.here ≡ Some k → v.conns k ≡ Some conn → is_online conn.client ≡ false
  pub gives : next ≡ record v {
    own = Some (record own { queue = own.queue ++ z ∷ [] });
    sessions = alter (λ q s. record s { up = put_if (has (Some own.number) q) z s.up }) v.sessions;
  }

-- the client puts a request
pub record IsClientRequest {A : Type 0} (k : ℕ) (v next : View A) : Type 0 where
  pub conn : Conn A
  pub here : v.here ≡ Some k
  pub is : v.conns k ≡ Some conn
  pub own : Own A
  pub is_own : v.own ≡ Some own
  pub client : conn.client ≡ InOnline own.number
  pub gives : next ≡ record v { conns = with_at k (record conn { wires = send_up (Up Req ∷ []) conn.wires }) v.conns }

-- the server puts a stanza of a session that is on a connection
pub record IsServerPut {A : Type 0} (k : ℕ) (z : A) (v next : View A) : Type 0 where
  pub conn : Conn A
  pub is : v.conns k ≡ Some conn
  pub row : Row A
  pub is_row : v.row ≡ Some row
  pub on : row.on ≡ Some k
  pub counted : row.counted ≡ true
  pub gives : next ≡ record v {
    conns = with_at k (record conn { wires = send_down (Down (St z) ∷ []) conn.wires }) v.conns;
    row = Some (record row { queue = row.queue ++ z ∷ [] });
    sessions = alter (λ q s. record s { down = put_if (has (Some row.number) q) z s.down }) v.sessions;
  }

-- of a session that is parked: it stays in the queue
pub record IsServerQueued {A : Type 0} (z : A) (v next : View A) : Type 0 where
  pub row : Row A
  pub is_row : v.row ≡ Some row
  pub off : row.on ≡ None
  pub counted : row.counted ≡ true
  pub gives : next ≡ record v {
    row = Some (record row { queue = row.queue ++ z ∷ [] });
    sessions = alter (λ q s. record s { down = put_if (has (Some row.number) q) z s.down }) v.sessions;
  }

-- the server puts a request
pub record IsServerRequest {A : Type 0} (k : ℕ) (v next : View A) : Type 0 where
  pub conn : Conn A
  pub is : v.conns k ≡ Some conn
  pub row : Row A
  pub is_row : v.row ≡ Some row
  pub on : row.on ≡ Some k
  pub counted : row.counted ≡ true
  pub gives : next ≡ record v { conns = with_at k (record conn { wires = send_down (Down Req ∷ []) conn.wires }) v.conns }
