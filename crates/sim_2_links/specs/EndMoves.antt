-- How streams, connections and rows end, and what a server does on a connection without a session.
use Rattle.std.specs.Prelude.{◌≡◌, ℕ, ◌+◌, ◌≤◌, ◌⊎◌, true, false, List, [], ◌∷◌, ◌++◌, length, None, Some}
use Rattle.sim_2_links.specs.Words.{UpWord, ResumeAt, Foot, Failed, TooHigh}
use Rattle.sim_2_links.specs.Wires.{Wires, Flow, Stop, is_flowing, up_words, send_down, left_up}
use Rattle.sim_2_links.specs.Stages.{Conn, Ending, Stands, Errs, Closes}
use Rattle.sim_2_links.specs.Views.{View, with_at, has, Row, session_on}
use Rattle.sim_2_links.specs.SessionMoves.{shut, IsReason}

-- the server takes a resumption of a session that it doesn't have, and says so
pub record IsFailed {A : Type 0} (k : ℕ) (v next : View A) : Type 0 where
  pub conn : Conn A
  pub is : v.conns k ≡ Some conn
  pub p : ℕ
  pub h : ℕ
  pub rest : List (UpWord A)
  pub first : up_words conn.wires ≡ ResumeAt p h ∷ rest
  pub no_row : (row : Row A) → v.row ≡ Some row → row.number ≡ p → ⊥
  pub gives : next ≡ record v { conns = with_at k (record conn { wires = send_down (Failed ∷ []) (left_up rest conn.wires) }) v.conns }

-- a count is too high, and the modulus makes one that is behind too high as well: it names no place in the queue
abbrev pub IsHigh : {A : Type 0} → ℕ → List A → ℕ → Type 0
IsHigh acked queue h = (h + 1 ≤ acked) ⊎ (acked + length queue + 1 ≤ h)

-- the server takes a resumption with such a count: it ends the stream by that error, and the session, which is on no
-- connection any more
pub record IsTooHigh {A : Type 0} (k : ℕ) (v next : View A) : Type 0 where
  pub conn : Conn A
  pub is : v.conns k ≡ Some conn
  pub h : ℕ
  pub row : Row A
  pub is_row : v.row ≡ Some row
  pub off : row.on ≡ None
  pub rest : List (UpWord A)
  pub first : up_words conn.wires ≡ ResumeAt row.number h ∷ rest
  pub high : IsHigh row.acked row.queue h
  pub gives : next ≡ record v { conns = with_at k (shut (Errs TooHigh) conn) v.conns; row = None }

-- the server takes the client's footer on a connection without a session, and puts its own
pub record IsFootTaken {A : Type 0} (k : ℕ) (v next : View A) : Type 0 where
  pub conn : Conn A
  pub is : v.conns k ≡ Some conn
  pub off : session_on conn ≡ None
  pub rest : List (UpWord A)
  pub first : up_words conn.wires ≡ Foot ∷ rest
  pub gives : next ≡ record v { conns = with_at k (shut Closes conn) v.conns }

-- the server ends a stream, and the session on it that it doesn't count yet
pub record IsUncountedShut {A : Type 0} (k : ℕ) (ending : Ending) (v next : View A) : Type 0 where
  pub conn : Conn A
  pub is : v.conns k ≡ Some conn
  pub row : Row A
  pub is_row : v.row ≡ Some row
  pub on : row.on ≡ Some k
  pub uncounted : row.counted ≡ false
  pub reason : IsReason ending (up_words conn.wires)
  pub gives : next ≡ record v { conns = with_at k (shut ending conn) v.conns; row = None }

-- the server hears of the end of a connection, and ends the session on it that it doesn't count yet
pub record IsUncountedGone {A : Type 0} (k : ℕ) (v next : View A) : Type 0 where
  pub conn : Conn A
  pub is : v.conns k ≡ Some conn
  pub ended : is_flowing conn.wires ≡ false
  pub empty : up_words conn.wires ≡ []
  pub row : Row A
  pub is_row : v.row ≡ Some row
  pub on : row.on ≡ Some k
  pub uncounted : row.counted ≡ false
  pub gives : next ≡ record v { conns = with_at k (record conn { gone = true }) v.conns; row = None }

-- the server hears of the end of a connection without a session
pub record IsGone {A : Type 0} (k : ℕ) (v next : View A) : Type 0 where
  pub conn : Conn A
  pub is : v.conns k ≡ Some conn
  pub ended : is_flowing conn.wires ≡ false
  pub empty : up_words conn.wires ≡ []
  pub off : session_on conn ≡ None
  pub gives : next ≡ record v { conns = with_at k (record conn { gone = true }) v.conns }

-- a footer behind what will be taken
abbrev pub with_foot : {A : Type 0} → Wires A → Wires A
with_foot (Flow us ds) = Flow (us ++ Foot ∷ []) ds
with_foot (Stop us ds lu ld) = Stop (us ++ Foot ∷ []) ds lu ld

abbrev pub up_lost : {A : Type 0} → Wires A → List (UpWord A)
up_lost (Flow us ds) = []
up_lost (Stop us ds lu ld) = lu

-- the client leaves with a footer: this joins what it had put on a connection that had not ended
pub record IsFooted {A : Type 0} (k : ℕ) (v next : View A) : Type 0 where
  pub conn : Conn A
  pub left : has v.here k ≡ false
  pub is : v.conns k ≡ Some conn
  pub unfooted : conn.footed ≡ false
  pub stands : conn.ending ≡ Stands
  pub untold : conn.gone ≡ false
  pub whole : up_lost conn.wires ≡ []
  pub gives : next ≡ record v { conns = with_at k (record conn { footed = true; wires = with_foot conn.wires }) v.conns }

-- a client with no connection gives its session up
pub record IsForgotten {A : Type 0} (v next : View A) : Type 0 where
  pub idle : v.here ≡ None
  pub gives : next ≡ record v { own = None }
