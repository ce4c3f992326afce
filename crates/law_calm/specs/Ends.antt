-- How the connection that a client works on ends, and how a session that the server counts does: by which move, and where.
use Rattle.std.specs.Prelude.{◌≡◌, ℕ, true, false, List, ◌∷◌, ◌++◌, Some}
use Rattle.sim_2_links.specs.Words.{Conflict, Constraint, InOnline, TooHigh}
use Rattle.sim_2_links.specs.Wires.{is_flowing}
use Rattle.sim_2_links.specs.Stages.{Conn, Ending, Stands, Errs, Closes}
use Rattle.sim_2_links.specs.Views.{View, Row, has}
use Rattle.sim_2_links.specs.Machine.{LinkMove, Cuts, Shuts, Detaches, EndsRow, TakesHighResume, LinkMoves, LinkReaches}

-- of moves that lead from the one view to the other this is one: those before it lead to a view of which something is so
pub record IsAmong {A : Type 0} (P : View A → Type 0) (E : LinkMove A → View A → Type 0) (moves : List (LinkMove A)) (v last : View A) : Type 0 where
  pub front : List (LinkMove A)
  pub move : LinkMove A
  pub behind : List (LinkMove A)
  pub are : moves ≡ front ++ move ∷ behind
  pub mid : View A
  pub leads : LinkReaches front v mid
  pub so : P mid
  pub ends : E move mid
  pub next : View A
  pub made : LinkMoves move mid next
  pub more : LinkReaches behind next last

-- ---- a connection

-- the client works on the connection, and it has not ended
pub record WorksOn {A : Type 0} (k : ℕ) (v : View A) : Type 0 where
  pub here : v.here ≡ Some k
  pub conn : Conn A
  pub is : v.conns k ≡ Some conn
  pub flows : is_flowing conn.wires ≡ true

-- the server ends a stream by one of these errors (RFC 6120, sections 4.9.3.3 and 4.9.3.17)
abbrev pub IsStreamEnd : Ending → Type 0
IsStreamEnd Stands = ⊥
IsStreamEnd (Errs Conflict) = Unit {0}
IsStreamEnd (Errs Constraint) = Unit {0}
IsStreamEnd (Errs TooHigh) = ⊥
IsStreamEnd Closes = ⊥

-- The network cuts the connection; or the server ends the stream on it by one of these, with the session that it has there.
abbrev pub EndsConn : {A : Type 0} → ℕ → LinkMove A → View A → Type 0
EndsConn k (Cuts j a b) v = j ≡ k
EndsConn k (Detaches j ending) v = (j ≡ k) × IsStreamEnd ending
EndsConn k (Shuts j ending) v = (j ≡ k) × IsStreamEnd ending
EndsConn k move v = ⊥

-- ---- a session

-- the server has the session with this number, and counts it
pub record HasCounted {A : Type 0} (p : ℕ) (v : View A) : Type 0 where
  pub row : Row A
  pub is : v.row ≡ Some row
  pub number : row.number ≡ p
  pub counted : row.counted ≡ true

-- It ends while it is on no connection; or a resumption on a connection that the client has left states a count that is too
-- high (XEP-0198, section 5).
abbrev pub EndsSession : {A : Type 0} → LinkMove A → View A → Type 0
EndsSession EndsRow v = Unit {0}
EndsSession (TakesHighResume j) v = has v.here j ≡ false
EndsSession move v = ⊥

-- ---- within moves

-- some moves lead from the one view to the other, and one of them ends something that was so
pub record EndsWithin {A : Type 0} (P : View A → Type 0) (E : LinkMove A → View A → Type 0) (v last : View A) : Type 0 where
  pub moves : List (LinkMove A)
  pub leads : LinkReaches moves v last
  pub among : IsAmong P E moves v last

-- the client works on the connection, which has not ended, and is online there with this session
pub record IsOnlineOn {A : Type 0} (k p : ℕ) (v : View A) : Type 0 where
  pub works : WorksOn k v
  pub online : works.conn.client ≡ InOnline p
