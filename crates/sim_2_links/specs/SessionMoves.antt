-- How a session begins, is resumed, and ends, each as a few small moves.
use Rattle.std.specs.Prelude.{◌≡◌, ℕ, ◌&&◌, ◌+◌, ◌-◌, ◌≤◌, Bool, true, false, List, [], ◌∷◌, ◌++◌, length, drop, map, None, Some, if◌then◌else◌}
use Rattle.sm_acks.specs.Delivery.{beginning, Direction}
use Rattle.sim_2_links.specs.Words.{St, Req, UpWord, ResumeAt, Bind, Enable, Up, DownWord, Feat, Failed, Resumed, Bound, Enabled, Down, Foot, Conflict, Constraint, TooHigh, InFeatures2, InResume, InBind, InEnable, InOnline, Ready, AtSession}
use Rattle.sim_2_links.specs.Wires.{is_flowing, up_words, down_words, send_up, send_down, left_up, left_down, halt}
use Rattle.sim_2_links.specs.Stages.{Conn, Ending, Stands, Errs, Closes, tail_of}
use Rattle.sim_2_links.specs.Views.{View, with_at, alter, has, Session, Row, Own, carries, cut_if}
use Rattle.sim_2_links.specs.LinkMoves.{told_if}

-- the client, with a session, asks to resume it
pub record IsAskResume {A : Type 0} (k : ℕ) (v next : View A) : Type 0 where
  pub conn : Conn A
  pub here : v.here ≡ Some k
  pub is : v.conns k ≡ Some conn
  pub rest : List (DownWord A)
  pub first : down_words conn.wires ≡ Feat ∷ rest
  pub client : conn.client ≡ InFeatures2
  pub own : Own A
  pub is_own : v.own ≡ Some own
  pub gives : next ≡ record v {
    conns = with_at k (record conn { client = InResume own.number; wires = send_up (ResumeAt own.number own.handled ∷ []) (left_down rest conn.wires) }) v.conns;
    sessions = alter (λ q s. told_if (has (Some own.number) q) s) v.sessions;
  }

-- the client, with no session, asks for one
pub record IsAskBind {A : Type 0} (k : ℕ) (v next : View A) : Type 0 where
  pub conn : Conn A
  pub here : v.here ≡ Some k
  pub is : v.conns k ≡ Some conn
  pub rest : List (DownWord A)
  pub first : down_words conn.wires ≡ Feat ∷ rest
  pub client : conn.client ≡ InFeatures2
  pub none : v.own ≡ None
  pub gives : next ≡ record v { conns = with_at k (record conn { client = InBind; wires = send_up (Bind ∷ []) (left_down rest conn.wires) }) v.conns }

-- the client reads that its session is no more, and asks for a new one
pub record IsRefused {A : Type 0} (k : ℕ) (v next : View A) : Type 0 where
  pub conn : Conn A
  pub here : v.here ≡ Some k
  pub is : v.conns k ≡ Some conn
  pub rest : List (DownWord A)
  pub first : down_words conn.wires ≡ Failed ∷ rest
  pub p : ℕ
  pub client : conn.client ≡ InResume p
  pub gives : next ≡ record v { conns = with_at k (record conn { client = InBind; wires = send_up (Bind ∷ []) (left_down rest conn.wires) }) v.conns; own = None }

-- the server ends the stream on a connection, and shuts it
abbrev pub shut : {A : Type 0} → Ending → Conn A → Conn A
shut ending c = record c { ending = ending; wires = halt (send_down (tail_of ending) c.wires) }

-- why it does so where a session is on the connection: the session goes elsewhere or ends, its queue is full, or the
-- client's footer comes
abbrev pub IsReason : {A : Type 0} → Ending → List (UpWord A) → Type 0
IsReason Stands ws = ⊥
IsReason (Errs Conflict) ws = Unit {0}
IsReason (Errs Constraint) ws = Unit {0}
IsReason (Errs TooHigh) ws = ⊥
IsReason {A = A} Closes ws = (rest : List (UpWord A)) × (ws ≡ Foot ∷ rest)

-- the server takes the session from its connection, which it shuts

abbrev pub lost_if : {A : Type 0} → Bool → Bool → Session A → Session A
lost_if b c s = record s { up = cut_if b 0 s.up; down = record s.down { is_open = if c then false else s.down.is_open } }

pub record IsDetached {A : Type 0} (k : ℕ) (ending : Ending) (v next : View A) : Type 0 where
  pub conn : Conn A
  pub is : v.conns k ≡ Some conn
  pub row : Row A
  pub is_row : v.row ≡ Some row
  pub on : row.on ≡ Some k
  pub counted : row.counted ≡ true
  pub reason : IsReason ending (up_words conn.wires)
  pub gives : next ≡ record v {
    conns = with_at k (shut ending conn) v.conns;
    row = Some (record row { on = None });
    sessions = alter (λ q s. lost_if (has (Some row.number) q) (s.counted && (has v.here k && has (carries conn) q)) s) v.sessions;
  }

-- a row ends that is on no connection
pub record IsRowEnded {A : Type 0} (v next : View A) : Type 0 where
  pub row : Row A
  pub is_row : v.row ≡ Some row
  pub off : row.on ≡ None
  pub gives : next ≡ record v { row = None }

-- the server binds a new session
abbrev pub unread : {A : Type 0} → Session A
unread = record { epoch = None; counted = false; read = false; up = beginning; down = beginning }

pub record IsBound {A : Type 0} (k m : ℕ) (v next : View A) : Type 0 where
  pub conn : Conn A
  pub is : v.conns k ≡ Some conn
  pub rest : List (UpWord A)
  pub first : up_words conn.wires ≡ Bind ∷ rest
  pub phase : conn.phase ≡ Ready
  pub none : v.row ≡ None
  pub fresh : v.sessions m ≡ None
  pub rises : v.free ≤ m
  pub gives : next ≡ record v {
    conns = with_at k (record conn { phase = AtSession m; wires = send_down (Bound m ∷ []) (left_up rest conn.wires) }) v.conns;
    row = Some (record { number = m; on = Some k; counted = false; acked = 0; handled = 0; queue = [] });
    sessions = with_at m unread v.sessions;
    free = m + 1;
  }

-- the client reads that a session was bound for it, and begins an epoch
pub record IsReadBound {A : Type 0} (k m : ℕ) (v next : View A) : Type 0 where
  pub conn : Conn A
  pub here : v.here ≡ Some k
  pub is : v.conns k ≡ Some conn
  pub rest : List (DownWord A)
  pub first : down_words conn.wires ≡ Bound m ∷ rest
  pub client : conn.client ≡ InBind
  pub gives : next ≡ record v {
    conns = with_at k (record conn { client = InEnable; wires = send_up (Enable ∷ []) (left_down rest conn.wires) }) v.conns;
    epoch = v.epoch + 1;
    sessions = alter (λ q s. record s { epoch = if has (Some m) q then Some (v.epoch + 1) else s.epoch }) v.sessions;
  }

-- the server counts a session from here on
pub record IsEnabled {A : Type 0} (k : ℕ) (v next : View A) : Type 0 where
  pub conn : Conn A
  pub is : v.conns k ≡ Some conn
  pub rest : List (UpWord A)
  pub first : up_words conn.wires ≡ Enable ∷ rest
  pub row : Row A
  pub is_row : v.row ≡ Some row
  pub on : row.on ≡ Some k
  pub uncounted : row.counted ≡ false
  pub gives : next ≡ record v {
    conns = with_at k (record conn { wires = send_down (Enabled row.number ∷ []) (left_up rest conn.wires) }) v.conns;
    row = Some (record row { counted = true });
    sessions = alter (λ q s. record s {
      counted = if has (Some row.number) q then true else s.counted;
      up = record s.up { is_open = if has (Some row.number) q then is_flowing conn.wires else s.up.is_open };
      down = record s.down { is_open = if has (Some row.number) q then is_flowing conn.wires else s.down.is_open };
    }) v.sessions;
  }

-- the client reads this, and has a session
pub record IsReadEnabled {A : Type 0} (k m : ℕ) (v next : View A) : Type 0 where
  pub conn : Conn A
  pub here : v.here ≡ Some k
  pub is : v.conns k ≡ Some conn
  pub rest : List (DownWord A)
  pub first : down_words conn.wires ≡ Enabled m ∷ rest
  pub client : conn.client ≡ InEnable
  pub gives : next ≡ record v {
    conns = with_at k (record conn { client = InOnline m; wires = send_up [] (left_down rest conn.wires) }) v.conns;
    own = Some (record { number = m; acked = 0; handled = 0; queue = [] });
    sessions = alter (λ q s. record s { read = if has (Some m) q then true else s.read }) v.sessions;
  }

-- the client puts a stanza of its session, and the server one
abbrev pub put_if : {A : Type 0} → Bool → A → Direction A → Direction A
put_if b z d = record d { put = if b then d.put ++ z ∷ [] else d.put; way = if b && d.is_open then d.way ++ z ∷ [] else d.way }

pub record IsClientPut {A : Type 0} (k : ℕ) (z : A) (v next : View A) : Type 0 where
  pub conn : Conn A
  pub here : v.here ≡ Some k
  pub is : v.conns k ≡ Some conn
  pub own : Own A
  pub is_own : v.own ≡ Some own
  pub client : conn.client ≡ InOnline own.number
  pub gives : next ≡ record v {
    conns = with_at k (record conn { wires = send_up (Up (St z) ∷ []) conn.wires }) v.conns;
    own = Some (record own { queue = own.queue ++ z ∷ [] });
    sessions = alter (λ q s. record s { up = put_if (has (Some own.number) q) z s.up }) v.sessions;
  }

-- the server's answer to a resumption: the count that it has handled, and its queue behind the client's count
abbrev pub resumed_words : {A : Type 0} → Row A → ℕ → List (DownWord A)
resumed_words row h = Resumed row.number row.handled ∷ map Down (map St (drop (h - row.acked) row.queue))

-- the server resumes a session, on the connection that the client works on; the row is on no connection any more
abbrev pub resumed_if : {A : Type 0} → Bool → Bool → Session A → Session A
resumed_if b flows s = record s {
  up = record s.up { stated = if b then s.up.stated ++ length s.up.got ∷ [] else s.up.stated };
  down = record s.down {
    acked = if b then length s.down.got else s.down.acked;
    way = if b then (if flows then drop (length s.down.got) s.down.put else []) else s.down.way;
    is_open = if b then flows else s.down.is_open;
  };
}

pub record IsResumedHere {A : Type 0} (k : ℕ) (v next : View A) : Type 0 where
  pub conn : Conn A
  pub here : v.here ≡ Some k
  pub is : v.conns k ≡ Some conn
  pub h : ℕ
  pub row : Row A
  pub is_row : v.row ≡ Some row
  pub off : row.on ≡ None
  pub counted : row.counted ≡ true
  pub rest : List (UpWord A)
  pub first : up_words conn.wires ≡ ResumeAt row.number h ∷ rest
  pub gives : next ≡ record v {
    conns = with_at k (record conn { phase = AtSession row.number; wires = send_down (resumed_words row h) (left_up rest conn.wires) }) v.conns;
    row = Some (record row { on = Some k; acked = h; queue = drop (h - row.acked) row.queue });
    sessions = alter (λ q s. resumed_if (has (Some row.number) q) (is_flowing conn.wires) s) v.sessions;
  }

-- and on one that the client left: the session is counted as the old word says, and has no way any more; for a count
-- that is not behind the one acknowledged
pub record IsResumedLate {A : Type 0} (k : ℕ) (v next : View A) : Type 0 where
  pub conn : Conn A
  pub left : has v.here k ≡ false
  pub is : v.conns k ≡ Some conn
  pub h : ℕ
  pub row : Row A
  pub is_row : v.row ≡ Some row
  pub off : row.on ≡ None
  pub counted : row.counted ≡ true
  pub low : row.acked ≤ h
  pub rest : List (UpWord A)
  pub first : up_words conn.wires ≡ ResumeAt row.number h ∷ rest
  pub gives : next ≡ record v {
    conns = with_at k (record conn { phase = AtSession row.number; wires = send_down (resumed_words row h) (left_up rest conn.wires) }) v.conns;
    row = Some (record row { on = Some k; acked = h; queue = drop (h - row.acked) row.queue });
    sessions = alter (λ q s. record s {
      up = record s.up { stated = if has (Some row.number) q then s.up.stated ++ length s.up.got ∷ [] else s.up.stated };
      down = record s.down { acked = if has (Some row.number) q then h else s.down.acked };
    }) v.sessions;
  }

-- the client reads that its session was resumed, and sends again what was not handled
abbrev pub again : {A : Type 0} → List A → List (UpWord A)
again [] = []
again (z ∷ zs) = map Up (map St (z ∷ zs)) ++ Up Req ∷ []

pub record IsReadResumed {A : Type 0} (k : ℕ) (v next : View A) : Type 0 where
  pub conn : Conn A
  pub here : v.here ≡ Some k
  pub is : v.conns k ≡ Some conn
  pub own : Own A
  pub is_own : v.own ≡ Some own
  pub client : conn.client ≡ InResume own.number
  pub h : ℕ
  pub rest : List (DownWord A)
  pub first : down_words conn.wires ≡ Resumed own.number h ∷ rest
  pub gives : next ≡ record v {
    conns = with_at k (record conn { client = InOnline own.number; wires = send_up (again (drop (h - own.acked) own.queue)) (left_down rest conn.wires) }) v.conns;
    own = Some (record own { acked = h; queue = drop (h - own.acked) own.queue });
    sessions = alter (λ q s. record s {
      up = record s.up {
        acked = if has (Some own.number) q then length s.up.got else s.up.acked;
        way = if has (Some own.number) q then (if is_flowing conn.wires then drop (length s.up.got) s.up.put else []) else s.up.way;
        is_open = if has (Some own.number) q then is_flowing conn.wires else s.up.is_open;
      };
    }) v.sessions;
  }

-- the server hears of the end of a connection, and parks the session on it
pub record IsParked {A : Type 0} (k : ℕ) (v next : View A) : Type 0 where
  pub conn : Conn A
  pub is : v.conns k ≡ Some conn
  pub ended : is_flowing conn.wires ≡ false
  pub empty : up_words conn.wires ≡ []
  pub row : Row A
  pub is_row : v.row ≡ Some row
  pub on : row.on ≡ Some k
  pub counted : row.counted ≡ true
  pub gives : next ≡ record v { conns = with_at k (record conn { gone = true }) v.conns; row = Some (record row { on = None }) }
