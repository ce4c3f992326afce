-- What all moves of a device keep.
use Rattle.std.specs.Prelude.{◌≡◌, ℕ, ◌≤◌, ◌⊎◌, ◌&&◌, Bool, true, false, List, [], ◌∷◌, length, Contains, Option, None, Some}
use Rattle.sm_acks.specs.Delivery.{beginning, Direction, queue_of, Reached}
use Rattle.sim_2_links.specs.Words.{Ack, UpWord, Up, Foot, DownWord, Resumed, Down, Conflict, Constraint, TooHigh, up_stanzas, down_stanzas}
use Rattle.sim_2_links.specs.Wires.{is_flowing, up_words, down_words}
use Rattle.sim_2_links.specs.Stages.{Stage, AsksResume, Refused, Resumes, AsksBind, Binds, AsksEnable, Enables, Runs, Conn, IsAt, Ending, Stands, Errs, Closes}
use Rattle.sim_2_links.specs.Views.{View, Table, has, Session, Row, Own, session_on, carries, sends}

-- the counts among words going up rise from the lowest on, and each of them was stated
abbrev pub UpCounts : {A : Type 0} → ℕ → List ℕ → List (UpWord A) → Type 0
UpCounts low stated [] = Unit {0}
UpCounts low stated (Up (Ack h) ∷ ws) = (low ≤ h) × Contains stated h × UpCounts h stated ws
UpCounts low stated (_ ∷ ws) = UpCounts low stated ws

abbrev pub DownCounts : {A : Type 0} → ℕ → List ℕ → List (DownWord A) → Type 0
DownCounts low stated [] = Unit {0}
DownCounts low stated (Down (Ack h) ∷ ws) = (low ≤ h) × Contains stated h × DownCounts h stated ws
DownCounts low stated (Resumed p h ∷ ws) = (low ≤ h) × Contains stated h × DownCounts h stated ws
DownCounts low stated (_ ∷ ws) = DownCounts low stated ws

-- how the server ends the stream on a connection that the client works on: by a conflict, or since a queue was full
abbrev pub IsFair : Ending → Type 0
IsFair Stands = Unit {0}
IsFair (Errs Conflict) = Unit {0}
IsFair (Errs Constraint) = Unit {0}
IsFair (Errs TooHigh) = ⊥
IsFair Closes = ⊥

-- A connection whose pipes flow is the one that the client works on, and the server neither ended it nor heard of
-- its end; what a client left has nothing on its way down, and what the server ended has nothing on its way up
pub record ArePiped {A : Type 0} (works : Bool) (c : Conn A) : Type 0 where
  pub flowing : is_flowing c.wires ≡ true → (works ≡ true) × (c.ending ≡ Stands) × (c.gone ≡ false)
  pub unfooted : works ≡ true → c.footed ≡ false
  pub fair : works ≡ true → IsFair c.ending
  pub left : works ≡ false → down_words c.wires ≡ []
  pub ended : (c.ending ≡ Stands) ⊎ (up_words c.wires ≡ [])
  pub gone : c.gone ≡ true → up_words c.wires ≡ []

-- what the words that ask for a session say, also on a connection that was left: who resumes has read its session and
-- stated its count; whom the server is to count has an epoch
abbrev pub IsAsked : {A : Type 0} → Table (Session A) → Stage A → Type 0
IsAsked {A = A} sessions (AsksResume p h) = (s : Session A) × (sessions p ≡ Some s) × (s.read ≡ true) × Contains s.down.stated h
IsAsked {A = A} sessions (AsksEnable m) = (s : Session A) × (e : ℕ) × (sessions m ≡ Some s) × (s.epoch ≡ Some e)
IsAsked sessions _ = Unit {0}

-- what the rows of the table say of the client's session, on the connection that the client works on
abbrev pub IsOwn : {A : Type 0} → Option (Own A) → ℕ → Type 0
IsOwn {A = A} own p = (o : Own A) × (own ≡ Some o) × (o.number ≡ p)

abbrev pub FitsOwn : {A : Type 0} → Option (Own A) → ℕ → Table (Session A) → Stage A → Type 0
FitsOwn {A = A} own epoch sessions (AsksResume p h) = (o : Own A) × (own ≡ Some o) × (o.number ≡ p) × (o.handled ≡ h)
FitsOwn own epoch sessions (Refused p) = IsOwn own p
FitsOwn {A = A} own epoch sessions (Resumes p h downs) = IsOwn own p × ((s : Session A) → sessions p ≡ Some s → (h ≡ length s.up.got) × Contains s.up.stated h)
FitsOwn own epoch sessions AsksBind = own ≡ None
FitsOwn {A = A} own epoch sessions (Binds m) = (own ≡ None) × ((s : Session A) × (sessions m ≡ Some s) × (s.epoch ≡ None) × (s.counted ≡ false))
FitsOwn {A = A} own epoch sessions (AsksEnable m) = (own ≡ None) × ((s : Session A) × (sessions m ≡ Some s) × (s.epoch ≡ Some epoch))
FitsOwn {A = A} own epoch sessions (Enables m downs) = (own ≡ None) × ((s : Session A) × (sessions m ≡ Some s) × (s.epoch ≡ Some epoch) × (s.counted ≡ true) × (s.read ≡ false))
FitsOwn own epoch sessions (Runs p ups downs) = IsOwn own p
FitsOwn own epoch sessions _ = Unit {0}

-- at these rows the server doesn't count the session yet
abbrev pub is_yet : {A : Type 0} → Stage A → Bool
is_yet (Binds m) = true
is_yet (AsksEnable m) = true
is_yet _ = false

-- the session whose stanzas such a row of the table has on its way down
abbrev pub carried_of : {A : Type 0} → Stage A → Option ℕ
carried_of (Resumes p h downs) = Some p
carried_of (Enables m downs) = Some m
carried_of (Runs p ups downs) = Some p
carried_of _ = None

-- each connection: its pipes, its row of the table, and the server's row of the session on it
pub record ConnKept {A : Type 0} (v : View A) (k : ℕ) (c : Conn A) : Type 0 where
  pub piped : ArePiped (has v.here k) c
  pub stage : Stage A
  pub at : IsAt stage c
  pub asked : IsAsked v.sessions stage
  pub fits : has v.here k ≡ true → FitsOwn v.own v.epoch v.sessions stage
  pub attached : (p : ℕ) → session_on c ≡ Some p → (r : Row A) × (v.row ≡ Some r) × (r.number ≡ p) × (r.on ≡ Some k)
  pub uncounted : (r : Row A) → v.row ≡ Some r → r.on ≡ Some k → is_yet stage ≡ true → r.counted ≡ false
  pub counting : (r : Row A) → v.row ≡ Some r → r.on ≡ Some k → (p : ℕ) → carried_of stage ≡ Some p → r.counted ≡ true

-- what is under way in the session is what goes up on the connection that the server has it on
pub record GoesUp {A : Type 0} (c : Conn A) (s : Session A) : Type 0 where
  pub way : s.up.way ≡ up_stanzas (up_words c.wires)
  pub is_open : s.up.is_open ≡ is_flowing c.wires && sends c.client
  pub counts : UpCounts s.down.acked s.down.stated (up_words c.wires)

-- and down, on the connection that the client works on
pub record GoesDown {A : Type 0} (c : Conn A) (s : Session A) : Type 0 where
  pub counted : s.counted ≡ true
  pub way : s.down.way ≡ down_stanzas (down_words c.wires)
  pub is_open : s.down.is_open ≡ is_flowing c.wires
  pub counts : DownCounts s.up.acked s.up.stated (down_words c.wires)

-- nothing is under way, and nothing can be
pub record IsIdle {A : Type 0} (d : Direction A) : Type 0 where
  pub way : d.way ≡ []
  pub is_open : d.is_open ≡ false

-- where the server's row is: parked, or on a connection that has it
abbrev pub IsPlaced : {A : Type 0} → Table (Conn A) → Row A → Session A → Option ℕ → Type 0
IsPlaced conns r s None = (r.counted ≡ true) × IsIdle s.up
IsPlaced {A = A} conns r s (Some k) = (c : Conn A) × (conns k ≡ Some c) × (session_on c ≡ Some r.number) × (s.counted ≡ true → GoesUp c s)

-- the server's row and its session: its counts and its queue are its ends of both directions
pub record RowKept {A : Type 0} (conns : Table (Conn A)) (sessions : Table (Session A)) (r : Row A) : Type 0 where
  pub session : Session A
  pub is : sessions r.number ≡ Some session
  pub counted : r.counted ≡ session.counted
  pub handled : r.handled ≡ length session.up.got
  pub acked : r.acked ≡ session.down.acked
  pub queue : r.queue ≡ queue_of session.down
  pub placed : IsPlaced conns r session r.on

-- the client's session: likewise
pub record OwnKept {A : Type 0} (epoch : ℕ) (sessions : Table (Session A)) (o : Own A) : Type 0 where
  pub session : Session A
  pub is : sessions o.number ≡ Some session
  pub read : session.read ≡ true
  pub of_epoch : session.epoch ≡ Some epoch
  pub handled : o.handled ≡ length session.down.got
  pub acked : o.acked ≡ session.up.acked
  pub queue : o.queue ≡ queue_of session.up

-- each session: its directions come by moves of delivery; one that isn't counted has not begun
pub record SessionKept {A : Type 0} (s : Session A) : Type 0 where
  pub up : Reached s.up
  pub down : Reached s.down
  pub begun : s.counted ≡ false → (s.up ≡ beginning) × (s.down ≡ beginning)
  pub read : s.read ≡ true → s.counted ≡ true
  pub epoch : s.counted ≡ true → (e : ℕ) × (s.epoch ≡ Some e)
  pub unread : s.read ≡ false → s.up.put ≡ []
  pub unheard : s.read ≡ false → s.down.got ≡ []

-- who is on the way down
abbrev pub IsCarried : {A : Type 0} → View A → ℕ → Type 0
IsCarried {A = A} v p = (k : ℕ) × (c : Conn A) × (v.here ≡ Some k) × (v.conns k ≡ Some c) × (carries c ≡ Some p)

-- nothing but the client's footer
abbrev pub IsBare : {A : Type 0} → List (UpWord A) → Type 0
IsBare ws = (ws ≡ []) ⊎ (ws ≡ Foot ∷ [])

-- All that moves of one device keep: of its connections, the server's row, the client's session, all sessions, and what
-- is under way. The last is of late resumptions: while the way down of the client's connection carries a session that
-- one took to another connection, nothing goes up on that one.
pub record LinkKept {A : Type 0} (v : View A) : Type 0 where
  pub there : (k : ℕ) → v.here ≡ Some k → (c : Conn A) × (v.conns k ≡ Some c)
  pub conns : (k : ℕ) (c : Conn A) → v.conns k ≡ Some c → ConnKept v k c
  pub row : (r : Row A) → v.row ≡ Some r → RowKept v.conns v.sessions r
  pub own : (o : Own A) → v.own ≡ Some o → OwnKept v.epoch v.sessions o
  pub sessions : (p : ℕ) (s : Session A) → v.sessions p ≡ Some s → SessionKept s
  pub goes_down : (k : ℕ) (c : Conn A) (p : ℕ) → v.here ≡ Some k → v.conns k ≡ Some c → carries c ≡ Some p →
      (s : Session A) × (v.sessions p ≡ Some s) × GoesDown c s
  pub idle_up : (p : ℕ) (s : Session A) → v.sessions p ≡ Some s → s.counted ≡ true → IsIdle s.up ⊎ ((r : Row A) × (v.row ≡ Some r) × (r.number ≡ p))
  pub idle_down : (p : ℕ) (s : Session A) → v.sessions p ≡ Some s → s.counted ≡ true → IsIdle s.down ⊎ IsCarried v p
  pub late : (k : ℕ) (c : Conn A) (p : ℕ) → v.conns k ≡ Some c → has v.here k ≡ false → session_on c ≡ Some p → IsCarried v p → IsBare (up_words c.wires)
