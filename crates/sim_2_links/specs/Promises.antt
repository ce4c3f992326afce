-- What holds wherever the moves lead.
use Rattle.std.specs.Prelude.{◌≡◌, ℕ, ◌+◌, ◌≤◌, ◌⊎◌, Bool, true, false, List, [], length, None, Some}
use Rattle.sm_acks.specs.Delivery.{queue_of}
use Rattle.sim_2_links.specs.Words.{UpWord, Hdr, Auth, Resp, ResumeAt, Bind, Enable, Up, Foot, DownWord, Head, Feat, Chal, Succ, Failed, Resumed, Bound, Enabled, Down, Err, End, Conflict, Constraint, Client, InHeader1, InFeatures1, InAuth, InResponse, InHeader2, InFeatures2, InResume, InBind, InEnable, InOnline, Phase, Start, Sasl, Challenge, Restart, Ready, AtSession}
use Rattle.sim_2_links.specs.Wires.{up_words, down_words}
use Rattle.sim_2_links.specs.Stages.{Conn}
use Rattle.sim_2_links.specs.Views.{View, has, Session, Row, Own}
use Rattle.sim_2_links.specs.Machine.{LinkMove, LinkReaches}

-- the server's row has the counts and the queue of its ends of both directions
pub record IsServerEnd {A : Type 0} (r : Row A) (s : Session A) : Type 0 where
  pub handled : r.handled ≡ length s.up.got
  pub acked : r.acked ≡ s.down.acked
  pub queue : r.queue ≡ queue_of s.down

-- and the client's session those of its ends
pub record IsClientEnd {A : Type 0} (o : Own A) (s : Session A) : Type 0 where
  pub handled : o.handled ≡ length s.down.got
  pub acked : o.acked ≡ s.up.acked
  pub queue : o.queue ≡ queue_of s.up

-- a count is not too high: it names a place in the queue, or the one behind it
pub record IsWithin {A : Type 0} (acked : ℕ) (queue : List A) (h : ℕ) : Type 0 where
  pub low : acked ≤ h
  pub high : h ≤ acked + length queue

-- the server has the session on this connection, and counts it or not
abbrev pub HasThere : {A : Type 0} → View A → ℕ → Phase → Bool → Type 0
HasThere {A = A} v k phase counts = (r : Row A) × (v.row ≡ Some r) × (phase ≡ AtSession r.number) × (r.on ≡ Some k) × (r.counted ≡ counts)

-- the server, as far as it is with a connection, has a row of its table for the word: a header begins a stream, a
-- session is asked for behind the login, stanzas and counts come where it counts them; a footer comes only where the
-- client left
abbrev pub IsExpectedUp : {A : Type 0} → View A → ℕ → Phase → UpWord A → Type 0
IsExpectedUp v k phase Hdr = (phase ≡ Start) ⊎ (phase ≡ Restart)
IsExpectedUp v k phase Auth = phase ≡ Sasl
IsExpectedUp v k phase Resp = phase ≡ Challenge
IsExpectedUp v k phase (ResumeAt p h) = phase ≡ Ready
IsExpectedUp v k phase Bind = phase ≡ Ready
IsExpectedUp v k phase Enable = HasThere v k phase false
IsExpectedUp v k phase (Up t) = HasThere v k phase true
IsExpectedUp v k phase Foot = has v.here k ≡ false

-- the client likewise: what it doesn't expect, it would end the stream for
abbrev pub IsExpectedDown : {A : Type 0} → View A → Client → DownWord A → Type 0
IsExpectedDown v client Head = (client ≡ InHeader1) ⊎ (client ≡ InHeader2)
IsExpectedDown v client Feat = (client ≡ InFeatures1) ⊎ (client ≡ InFeatures2)
IsExpectedDown v client Chal = client ≡ InAuth
IsExpectedDown v client Succ = client ≡ InResponse
IsExpectedDown {A = A} v client Failed = (o : Own A) × (v.own ≡ Some o) × (client ≡ InResume o.number)
IsExpectedDown {A = A} v client (Resumed p h) = (o : Own A) × (v.own ≡ Some o) × (o.number ≡ p) × (client ≡ InResume p)
IsExpectedDown v client (Bound m) = (v.own ≡ None) × (client ≡ InBind)
IsExpectedDown v client (Enabled m) = (v.own ≡ None) × (client ≡ InEnable)
IsExpectedDown {A = A} v client (Down t) = (o : Own A) × (v.own ≡ Some o) × (client ≡ InOnline o.number)
IsExpectedDown v client (Err cause) = (cause ≡ Conflict) ⊎ (cause ≡ Constraint)
IsExpectedDown v client End = ⊥

-- the server takes the first word up: some moves lead to where it was taken from the pipe, or the stream was ended
pub record IsTaken {A : Type 0} (v : View A) (k : ℕ) (rest : List (UpWord A)) : Type 0 where
  pub moves : List (LinkMove A)
  pub next : View A
  pub reaches : LinkReaches moves v next
  pub conn : Conn A
  pub is : next.conns k ≡ Some conn
  pub taken : (up_words conn.wires ≡ rest) ⊎ (up_words conn.wires ≡ [])

-- and the client the first word down; at an error it leaves
pub record IsRead {A : Type 0} (v : View A) (k : ℕ) (rest : List (DownWord A)) : Type 0 where
  pub moves : List (LinkMove A)
  pub next : View A
  pub reaches : LinkReaches moves v next
  pub conn : Conn A
  pub is : next.conns k ≡ Some conn
  pub taken : (down_words conn.wires ≡ rest) ⊎ (next.here ≡ None)
