-- What the calls do to the table (RFC 6120 section 7, XEP-0198 section 5).
use Rattle.std.specs.Prelude.{◌≡◌, ◌≢◌, ℕ, ◌+◌, ◌-◌, ◌%◌, ◌^◌, ◌==◌, MatchBool, Bool, true, false, ◌&&◌, if◌then◌else◌, nat_le, nat_lt, List, [], ◌∷◌, ◌++◌, Option, None, Some, Result, Ok, Err, drop, find, length, pos, is_none, ℤ}
use Rattle.std.specs.Str.{bytes_eq}
use Rattle.sm_acks.specs.Counters.{ahead}
use Rattle.sm_acks.specs.declared.end.TooHigh.{TooHigh as TooHighCount}
use Rattle.sm_acks.specs.Queues.{PoolView, list_of, stanzas_of}
use Rattle.sm_resumption.specs.Housed.{IsGone, IsSame}
use Rattle.sm_resumption.specs.Previds.{previd_of}
use Rattle.sm_resumption.specs.Rows.{row_of, with_row, without}
use Rattle.sm_resumption.specs.declared.answers.Ended.{Ended}
use Rattle.sm_resumption.specs.declared.answers.Lost.{Lost}
use Rattle.sm_resumption.specs.declared.answers.Lost.TheVariants.{Parked, Ended as LostEnded}
use Rattle.sm_resumption.specs.declared.answers.ResumeFault.{ResumeFault}
use Rattle.sm_resumption.specs.declared.answers.ResumeFault.TheVariants.{TooHigh, UnknownPrevid}
use Rattle.sm_resumption.specs.declared.answers.ResumeOk.{ResumeOk}
use Rattle.sm_resumption.specs.declared.answers.TheConstants.{RESUMABLE_FOR}
use Rattle.sm_resumption.specs.declared.session.Row.{Row}

-- a session as a bind makes it
abbrev pub fresh_row : ℕ → ℕ → List ℕ → ℕ → ℕ → Row
fresh_row number account resource conn queue =
    record {
      shown = record { number = number; account = account; resource = resource; conn = Some conn; parked_at = 0; available = false; priority = pos 0; carbons = false; counted = false; resumable = false; asked = false };
      end = record { queue = queue; acked = 0; handled = 0 };
    }

-- what is told of a session that ended
abbrev pub ended_of : Row → Ended
ended_of r = record { number = r.shown.number; conn = r.shown.conn }

abbrev pub number_of : Row → ℕ
number_of r = r.shown.number

-- what becomes of a session whose connection was lost
abbrev pub lost_as : Row → Lost
lost_as r = if r.shown.resumable then Parked r.shown.number else LostEnded r.shown.number

-- what is told of a session that is resumed
abbrev pub resume_ok : Row → ResumeOk
resume_ok r = record { number = r.shown.number; handled = r.end.handled; former = r.shown.conn }

abbrev pub enabled : Bool → Row → Row
enabled resume r = record r { shown = record r.shown { counted = true; resumable = resume } }

abbrev pub present : Bool → ℤ → Row → Row
present available priority r = record r { shown = record r.shown { available = available; priority = priority } }

abbrev pub copying : Bool → Row → Row
copying on r = record r { shown = record r.shown { carbons = on } }

abbrev pub asking : Bool → Row → Row
asking on r = record r { shown = record r.shown { asked = on } }

-- the connection is lost
abbrev pub parked : ℕ → Row → Row
parked now r = record r { shown = record r.shown { conn = None; parked_at = now } }

-- the connection and the queue are others
abbrev pub attached : ℕ → ℕ → Row → Row
attached conn queue r = record { shown = record r.shown { conn = Some conn }; end = record r.end { queue = queue } }

-- stanzas of the peer were handled, one more
abbrev pub handling : Row → Row
handling r = record r { end = record r.end { handled = (r.end.handled + 1) % 2 ^ 32 } }

-- the peer has handled h stanzas
abbrev pub acknowledged : ℕ → Row → Row
acknowledged h r = record r { end = record r.end { acked = h } }

-- the session of a connection that was lost, where it ends: it can't be resumed
abbrev pub lost : Option Row → Option Row
lost None = None
lost (Some r) = if r.shown.resumable then None else Some r

-- the rows after the connection of a session was lost
abbrev pub rows_parked : ℕ → Option Row → List Row → List Row
rows_parked now None rows = rows
rows_parked now (Some r) rows = if r.shown.resumable then with_row r.shown.number (parked now) rows else without r.shown.number rows

-- a parked session that can be resumed no more: it was parked for as long as a session is kept
abbrev pub is_expired : ℕ → Row → Bool
is_expired now r = is_none r.shown.conn && nat_le RESUMABLE_FOR (now - r.shown.parked_at)

-- a session with a number has expired
abbrev pub HasExpired : ℕ → ℕ → List Row → Type 0
HasExpired now n rows = (r : Row) × (row_of n rows ≡ Some r) × (is_expired now r ≡ true)

-- the session that a `previd` names for an account: it can be resumed
abbrev pub is_resumed_by : List ℕ → ℕ → Row → Bool
is_resumed_by previd account r = bytes_eq (previd_of r.shown.number) previd && (r.shown.account == account) && r.shown.resumable

abbrev pub row_resumed : List ℕ → ℕ → List Row → Option Row
row_resumed previd account rows = find (is_resumed_by previd account) rows

-- the count that the peer has handled is above what was sent
abbrev pub is_too_high : ℕ → Row → PoolView → Bool
is_too_high h r pool = nat_lt (length (list_of r.end.queue pool)) (ahead h r.end.acked)

-- how many stanzas were sent to the peer, modulo 2 ^ 32
abbrev pub send_count_of : Row → PoolView → ℕ
send_count_of r pool = (r.end.acked + length (list_of r.end.queue pool)) % 2 ^ 32

-- what is told of a count that is too high
abbrev pub too_high_of : ℕ → Row → PoolView → Option TooHighCount
too_high_of h r pool = if is_too_high h r pool then Some (record { h = h; send_count = send_count_of r pool }) else None

-- the answer to a count of handled stanzas that the peer states (XEP-0198 section 4)
abbrev pub ack_answer : ℕ → Row → PoolView → Result ℕ TooHighCount
ack_answer h r pool = if is_too_high h r pool then Err (record { h = h; send_count = send_count_of r pool }) else Ok (ahead h r.end.acked)

-- a stanza more waits in a session's queue
pub record Joins (stanza : List ℕ) (r : Row) (old new : PoolView) : Type 0 where
  pub all : stanzas_of r.end.queue new ≡ Some (list_of r.end.queue old ++ stanza ∷ [])
  pub others : (other : ℕ) → other ≢ r.end.queue → stanzas_of other new ≡ stanzas_of other old

-- the first n stanzas have left a session's queue
pub record Leaves (n : ℕ) (r : Row) (old new : PoolView) : Type 0 where
  pub rest : stanzas_of r.end.queue new ≡ Some (drop n (list_of r.end.queue old))
  pub others : (other : ℕ) → other ≢ r.end.queue → stanzas_of other new ≡ stanzas_of other old

-- the pool after such a count
abbrev pub PoolAcknowledged : ℕ → Row → PoolView → PoolView → Type 0
PoolAcknowledged h r old new = MatchBool (is_too_high h r old) (IsSame old new) (Leaves (ahead h r.end.acked) r old new)

-- the answer to a resumption with the count h: the session that is resumed is told first
abbrev pub resume_answer : ℕ → Option Row → PoolView → Result ResumeOk ResumeFault
resume_answer h None pool = Err UnknownPrevid
resume_answer h (Some r) pool =
    if is_too_high h r pool
    then Err (TooHigh h (send_count_of r pool) r.shown.conn)
    else Ok (resume_ok r)

-- a session as a resumption leaves it
abbrev pub resumed : ℕ → ℕ → ℕ → Row → Row
resumed h conn queue r = record { shown = record r.shown { conn = Some conn }; end = record r.end { queue = queue; acked = h } }

abbrev pub rows_resumed : ℕ → ℕ → ℕ → Option Row → PoolView → List Row → List Row
rows_resumed h conn queue None pool rows = rows
rows_resumed h conn queue (Some r) pool rows =
    if is_too_high h r pool then without r.shown.number rows else with_row r.shown.number (resumed h conn queue) rows

-- a session's stanzas but the first n are in another queue, and its old one lives no more
pub record HandsOver (n queue : ℕ) (r : Row) (old new : PoolView) : Type 0 where
  pub rest : stanzas_of queue new ≡ Some (drop n (list_of r.end.queue old))
  pub gone : stanzas_of r.end.queue new ≡ None
  pub others : (other : ℕ) → other ≢ queue → other ≢ r.end.queue → stanzas_of other new ≡ stanzas_of other old

-- the pool after a resumption: the stanzas that the peer hasn't handled are in the new queue
abbrev pub PoolResumed : ℕ → ℕ → Option Row → PoolView → PoolView → Type 0
PoolResumed h queue None old new = IsSame old new
PoolResumed h queue (Some r) old new = MatchBool (is_too_high h r old) (IsGone r.end.queue old new) (HandsOver (ahead h r.end.acked) queue r old new)

-- the queues of the sessions that expired live no more, and each other is as it was
pub record DropsExpired (now : ℕ) (rows : List Row) (old new : PoolView) : Type 0 where
  pub gone : (n : ℕ) (r : Row) → row_of n rows ≡ Some r → is_expired now r ≡ true → stanzas_of r.end.queue new ≡ None
  pub others : (queue : ℕ) → ((n : ℕ) (r : Row) → row_of n rows ≡ Some r → is_expired now r ≡ true → queue ≢ r.end.queue) → stanzas_of queue new ≡ stanzas_of queue old
