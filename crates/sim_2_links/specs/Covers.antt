-- Stanzas behind which the client puts a request at once: the count that covers them is still to come.
use Rattle.std.specs.Prelude.{◌≡◌, ℕ, ◌+◌, ◌⊎◌, Bool, true, false, List, [], ◌∷◌, length, drop, Some}
use Rattle.sim_2_links.specs.Words.{St, Req, Ack, UpWord, Up, DownWord, Down, InOnline}
use Rattle.sim_2_links.specs.Wires.{is_flowing, up_words, down_words}
use Rattle.sim_2_links.specs.Stages.{Conn}
use Rattle.sim_2_links.specs.Views.{View, Session, Row, Own}
use Rattle.sim_2_links.specs.SessionMoves.{IsClientPut}
use Rattle.sim_2_links.specs.PutMoves.{IsClientRequest}
use Rattle.sim_2_links.specs.Machine.{LinkMove, Puts, LinkMoves, nothing_yet}

-- none of them is such a stanza
abbrev pub NoneAsks : {A : Type 0} → (A → Bool) → List A → Type 0
NoneAsks asks [] = Unit {0}
NoneAsks asks (z ∷ zs) = (asks z ≡ false) × NoneAsks asks zs

-- the count is among the words that go down
abbrev pub IsOnWay : {A : Type 0} → ℕ → List (DownWord A) → Type 0
IsOnWay n [] = ⊥
IsOnWay n (Down (Ack h) ∷ ws) = (h ≡ n) ⊎ IsOnWay n ws
IsOnWay n (_ ∷ ws) = IsOnWay n ws

-- the server, which has handled so many stanzas, will state the count as it takes the words that go up
abbrev pub IsToCome : {A : Type 0} → ℕ → ℕ → List (UpWord A) → Type 0
IsToCome n got [] = ⊥
IsToCome n got (Up (St z) ∷ ws) = IsToCome n (got + 1) ws
IsToCome n got (Up Req ∷ ws) = (got ≡ n) ⊎ IsToCome n got ws
IsToCome n got (_ ∷ ws) = IsToCome n got ws

-- a count was acknowledged or is still to come, and none of the stanzas behind it is such a one
pub record IsCoveredBy {A : Type 0} (asks : A → Bool) (c : Conn A) (o : Own A) (s : Session A) : Type 0 where
  pub count : ℕ
  pub comes : (count ≡ o.acked) ⊎ (IsOnWay count (down_words c.wires) ⊎ IsToCome count (length s.up.got) (up_words c.wires))
  pub none : NoneAsks asks (drop count s.up.put)

-- on a connection that flows, on which the client is online
abbrev pub IsCovered : {A : Type 0} → (A → Bool) → View A → Type 0
IsCovered {A = A} asks v = (k : ℕ) (c : Conn A) (o : Own A) (s : Session A) → v.here ≡ Some k → v.conns k ≡ Some c → v.own ≡ Some o → c.client ≡ InOnline o.number → is_flowing c.wires ≡ true → v.sessions o.number ≡ Some s → IsCoveredBy asks c o s

-- the client puts such a stanza together with the request behind it
pub data PromptMove (A : Type 0) : Type 0 where
  Does : LinkMove A → PromptMove A
  Says : ℕ → A → PromptMove A

abbrev pub IsPrompt : {A : Type 0} → (A → Bool) → LinkMove A → Type 0
IsPrompt asks (Puts k z) = asks z ≡ false
IsPrompt asks _ = Unit {0}

abbrev pub PromptMoves : {A : Type 0} → (A → Bool) → PromptMove A → View A → View A → Type 0
PromptMoves asks (Does move) v next = IsPrompt asks move × LinkMoves move v next
PromptMoves {A = A} asks (Says k z) v next = (mid : View A) × IsClientPut k z v mid × IsClientRequest k mid next

abbrev pub PromptReaches : {A : Type 0} → (A → Bool) → List (PromptMove A) → View A → View A → Type 0
PromptReaches asks [] v last = last ≡ v
PromptReaches {A = A} asks (move ∷ moves) v last = (next : View A) × PromptMoves asks move v next × PromptReaches asks moves next last

-- some such moves lead to the view from the beginning
pub record PromptReached {A : Type 0} (asks : A → Bool) (v : View A) : Type 0 where
  pub moves : List (PromptMove A)
  pub reaches : PromptReaches asks moves nothing_yet v

-- nothing is outstanding: the client is online with a session that the server has on this connection, each end handled
-- all that the other put, and no stanza behind which the client put a request waits to be acknowledged
pub record IsSettled {A : Type 0} (asks : A → Bool) (v : View A) (k : ℕ) (c : Conn A) : Type 0 where
  pub own : Own A
  pub is_own : v.own ≡ Some own
  pub online : c.client ≡ InOnline own.number
  pub row : Row A
  pub is_row : v.row ≡ Some row
  pub same : row.number ≡ own.number
  pub on : row.on ≡ Some k
  pub session : Session A
  pub is : v.sessions own.number ≡ Some session
  pub up : session.up.got ≡ session.up.put
  pub down : session.down.got ≡ session.down.put
  pub acknowledged : NoneAsks asks own.queue
