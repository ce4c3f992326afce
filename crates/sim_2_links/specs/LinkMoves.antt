-- What can happen to one device.
use Rattle.std.specs.Prelude.{◌≡◌, ℕ, ◌&&◌, ◌+◌, ◌-◌, Bool, true, false, List, [], ◌∷◌, ◌++◌, length, take, drop, None, Some, if◌then◌else◌}
use Rattle.sim_2_links.specs.Words.{St, Req, Ack, UpWord, Hdr, Up, DownWord, Down, up_stanzas, down_stanzas, Client, InHeader1, InOnline, Phase, Start}
use Rattle.sim_2_links.specs.Wires.{Flow, is_flowing, up_words, down_words, send_up, send_down, left_up, left_down, cut}
use Rattle.sim_2_links.specs.Stages.{Conn, Stands, Goes, server_hand, client_hand, IsEarly}
use Rattle.sim_2_links.specs.Views.{View, with_at, alter, has, Session, Row, Own, session_on, carries, cut_if}

-- the ways of a session are cut, each where it is said
abbrev pub two_cut : {A : Type 0} → Bool → ℕ → Bool → ℕ → Session A → Session A
two_cut b n c m s = record s { up = cut_if b n s.up; down = cut_if c m s.down }

-- the ways of the sessions are cut as the pipes of a connection, on which the client works or not
abbrev pub ways_cut : {A : Type 0} → Bool → Conn A → ℕ → ℕ → ℕ → Session A → Session A
ways_cut works c i j q s =
    two_cut
    (s.counted && has (session_on c) q)
    (length (up_stanzas (take i (up_words c.wires))))
    (s.counted && (works && has (carries c) q))
    (length (down_stanzas (take j (down_words c.wires))))
    s

-- a connection is cut: of the words under way the first ones stay
pub record IsCut {A : Type 0} (k i j : ℕ) (v next : View A) : Type 0 where
  pub conn : Conn A
  pub is : v.conns k ≡ Some conn
  pub gives : next ≡ record v { conns = with_at k (record conn { wires = cut i j conn.wires }) v.conns; sessions = alter (ways_cut (has v.here k) conn i j) v.sessions }

-- the client lets a connection go that is ended and has nothing more to take: it was told its end, or it leaves, when
-- the connection is cut and all on its way down is lost
pub record IsLetGo {A : Type 0} (k : ℕ) (v next : View A) : Type 0 where
  pub conn : Conn A
  pub here : v.here ≡ Some k
  pub is : v.conns k ≡ Some conn
  pub ended : is_flowing conn.wires ≡ false
  pub empty : down_words conn.wires ≡ []
  pub gives : next ≡ record v { here = None }

-- a client with no connection dials a new one
abbrev pub dialled : {A : Type 0} → Conn A
dialled = record { client = InHeader1; phase = Start; wires = Flow (Hdr ∷ []) []; ending = Stands; footed = false; gone = false }

pub record IsDialled {A : Type 0} (k : ℕ) (v next : View A) : Type 0 where
  pub idle : v.here ≡ None
  pub fresh : v.conns k ≡ None
  pub gives : next ≡ record v { here = Some k; conns = with_at k dialled v.conns }

-- the server takes a word of the handshake, outside of sessions
pub record IsUpHand {A : Type 0} (k : ℕ) (v next : View A) : Type 0 where
  pub conn : Conn A
  pub is : v.conns k ≡ Some conn
  pub word : UpWord A
  pub rest : List (UpWord A)
  pub first : up_words conn.wires ≡ word ∷ rest
  pub phase : Phase
  pub puts : List (DownWord A)
  pub hand : server_hand conn.phase word ≡ Goes phase puts
  pub gives : next ≡ record v { conns = with_at k (record conn { phase = phase; wires = send_down puts (left_up rest conn.wires) }) v.conns }

-- the client takes a word of the handshake before it asks for a session
pub record IsDownHand {A : Type 0} (k : ℕ) (v next : View A) : Type 0 where
  pub conn : Conn A
  pub here : v.here ≡ Some k
  pub is : v.conns k ≡ Some conn
  pub word : DownWord A
  pub rest : List (DownWord A)
  pub first : down_words conn.wires ≡ word ∷ rest
  pub early : IsEarly conn.client
  pub client : Client
  pub puts : List (UpWord A)
  pub hand : client_hand None conn.client word ≡ Goes client puts
  pub gives : next ≡ record v { conns = with_at k (record conn { client = client; wires = send_up puts (left_down rest conn.wires) }) v.conns }

-- the receiving end of the way up handled a stanza, where it is said; these are under way behind it
abbrev pub handled_if : {A : Type 0} → Bool → A → List A → Session A → Session A
handled_if b z ways s = record s { up = record s.up { got = if b then s.up.got ++ z ∷ [] else s.up.got; way = if b then ways else s.up.way } }

-- the server takes a stanza of the session that it has on the connection
pub record IsUpStanza {A : Type 0} (k : ℕ) (z : A) (v next : View A) : Type 0 where
  pub conn : Conn A
  pub is : v.conns k ≡ Some conn
  pub rest : List (UpWord A)
  pub first : up_words conn.wires ≡ Up (St z) ∷ rest
  pub row : Row A
  pub is_row : v.row ≡ Some row
  pub on : row.on ≡ Some k
  pub counted : row.counted ≡ true
  pub gives : next ≡ record v {
    conns = with_at k (record conn { wires = send_down [] (left_up rest conn.wires) }) v.conns;
    row = Some (record row { handled = row.handled + 1 });
    sessions = alter (λ q s. handled_if (has (Some row.number) q) z (up_stanzas rest) s) v.sessions;
  }

-- the receiving end of the way up states how many stanzas it has handled
abbrev pub stated_if : {A : Type 0} → Bool → Session A → Session A
stated_if b s = record s { up = record s.up { stated = if b then s.up.stated ++ length s.up.got ∷ [] else s.up.stated } }

-- the server takes a request, and puts the count
pub record IsUpRequest {A : Type 0} (k : ℕ) (v next : View A) : Type 0 where
  pub conn : Conn A
  pub is : v.conns k ≡ Some conn
  pub rest : List (UpWord A)
  pub first : up_words conn.wires ≡ Up Req ∷ rest
  pub row : Row A
  pub is_row : v.row ≡ Some row
  pub on : row.on ≡ Some k
  pub counted : row.counted ≡ true
  pub gives : next ≡ record v {
    conns = with_at k (record conn { wires = send_down (Down (Ack row.handled) ∷ []) (left_up rest conn.wires) }) v.conns;
    sessions = alter (λ q s. stated_if (has (Some row.number) q) s) v.sessions;
  }

-- the sending end of the way down takes a count
abbrev pub acked_if : {A : Type 0} → Bool → ℕ → Session A → Session A
acked_if b h s = record s { down = record s.down { acked = if b then h else s.down.acked } }

-- the server takes a count
pub record IsUpCount {A : Type 0} (k h : ℕ) (v next : View A) : Type 0 where
  pub conn : Conn A
  pub is : v.conns k ≡ Some conn
  pub rest : List (UpWord A)
  pub first : up_words conn.wires ≡ Up (Ack h) ∷ rest
  pub row : Row A
  pub is_row : v.row ≡ Some row
  pub on : row.on ≡ Some k
  pub counted : row.counted ≡ true
  pub gives : next ≡ record v {
    conns = with_at k (record conn { wires = send_down [] (left_up rest conn.wires) }) v.conns;
    row = Some (record row { acked = h; queue = drop (h - row.acked) row.queue });
    sessions = alter (λ q s. acked_if (has (Some row.number) q) h s) v.sessions;
  }

-- the receiving end of the way down handled a stanza, where it is said; these are under way behind it
abbrev pub read_if : {A : Type 0} → Bool → A → List A → Session A → Session A
read_if b z ways s = record s { down = record s.down { got = if b then s.down.got ++ z ∷ [] else s.down.got; way = if b then ways else s.down.way } }

-- the client takes a stanza of its session
pub record IsDownStanza {A : Type 0} (k : ℕ) (z : A) (v next : View A) : Type 0 where
  pub conn : Conn A
  pub here : v.here ≡ Some k
  pub is : v.conns k ≡ Some conn
  pub rest : List (DownWord A)
  pub first : down_words conn.wires ≡ Down (St z) ∷ rest
  pub own : Own A
  pub is_own : v.own ≡ Some own
  pub client : conn.client ≡ InOnline own.number
  pub gives : next ≡ record v {
    conns = with_at k (record conn { wires = send_up [] (left_down rest conn.wires) }) v.conns;
    own = Some (record own { handled = own.handled + 1 });
    sessions = alter (λ q s. read_if (has (Some own.number) q) z (down_stanzas rest) s) v.sessions;
  }

-- the receiving end of the way down states how many stanzas it has handled
abbrev pub told_if : {A : Type 0} → Bool → Session A → Session A
told_if b s = record s { down = record s.down { stated = if b then s.down.stated ++ length s.down.got ∷ [] else s.down.stated } }

-- the client takes a request, and puts the count
pub record IsDownRequest {A : Type 0} (k : ℕ) (v next : View A) : Type 0 where
  pub conn : Conn A
  pub here : v.here ≡ Some k
  pub is : v.conns k ≡ Some conn
  pub rest : List (DownWord A)
  pub first : down_words conn.wires ≡ Down Req ∷ rest
  pub own : Own A
  pub is_own : v.own ≡ Some own
  pub client : conn.client ≡ InOnline own.number
  pub gives : next ≡ record v {
    conns = with_at k (record conn { wires = send_up (Up (Ack own.handled) ∷ []) (left_down rest conn.wires) }) v.conns;
    sessions = alter (λ q s. told_if (has (Some own.number) q) s) v.sessions;
  }

-- the sending end of the way up takes a count
abbrev pub heard_if : {A : Type 0} → Bool → ℕ → Session A → Session A
heard_if b h s = record s { up = record s.up { acked = if b then h else s.up.acked } }

-- the client takes a count
pub record IsDownCount {A : Type 0} (k h : ℕ) (v next : View A) : Type 0 where
  pub conn : Conn A
  pub here : v.here ≡ Some k
  pub is : v.conns k ≡ Some conn
  pub rest : List (DownWord A)
  pub first : down_words conn.wires ≡ Down (Ack h) ∷ rest
  pub own : Own A
  pub is_own : v.own ≡ Some own
  pub client : conn.client ≡ InOnline own.number
  pub gives : next ≡ record v {
    conns = with_at k (record conn { wires = send_up [] (left_down rest conn.wires) }) v.conns;
    own = Some (record own { acked = h; queue = drop (h - own.acked) own.queue });
    sessions = alter (λ q s. heard_if (has (Some own.number) q) h s) v.sessions;
  }
