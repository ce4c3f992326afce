-- Sessions and the queues of a pool: each session's stanzas wait in a queue of its own.
use Rattle.std.specs.Prelude.{◌≡◌, ◌≢◌, ℕ, ◌≤◌, List, [], Option, None, Some, length}
use Rattle.sm_acks.specs.declared.end.TheConstants.{MOST_UNACKNOWLEDGED}
use Rattle.sm_acks.specs.Queues.{Lives, PoolView, list_of, stanzas_of}
use Rattle.sm_resumption.specs.Rows.{row_of}
use Rattle.sm_resumption.specs.declared.session.Row.{Row}

-- each session's queue lives in the pool and holds at most `MOST_UNACKNOWLEDGED` stanzas, and no other session has it
pub record IsHoused (rows : List Row) (pool : PoolView) : Type 0 where
  pub lives : (n : ℕ) (r : Row) → row_of n rows ≡ Some r → Lives r.end.queue pool
  pub few : (n : ℕ) (r : Row) → row_of n rows ≡ Some r → length (list_of r.end.queue pool) ≤ MOST_UNACKNOWLEDGED
  pub apart : (m n : ℕ) (r s : Row) → row_of m rows ≡ Some r → row_of n rows ≡ Some s → m ≢ n → r.end.queue ≢ s.end.queue

-- a queue that lives, is empty and is no session's
pub record IsFree (queue : ℕ) (rows : List Row) (pool : PoolView) : Type 0 where
  pub empty : stanzas_of queue pool ≡ Some []
  pub unused : (n : ℕ) (r : Row) → row_of n rows ≡ Some r → r.end.queue ≢ queue

-- a queue lives no more, and each other is as it was
pub record IsGone (queue : ℕ) (old new : PoolView) : Type 0 where
  pub gone : stanzas_of queue new ≡ None
  pub others : (other : ℕ) → other ≢ queue → stanzas_of other new ≡ stanzas_of other old

-- each queue is as it was
pub record IsSame (old new : PoolView) : Type 0 where
  pub each : (queue : ℕ) → stanzas_of queue new ≡ stanzas_of queue old

-- the queue of the session that ended, where one did, lives no more, and each other is as it was
abbrev pub Drops : Option Row → PoolView → PoolView → Type 0
Drops None old new = IsSame old new
Drops (Some r) old new = IsGone r.end.queue old new
