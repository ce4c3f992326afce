-- How the sessions are kept: in a table, their stanzas in queues of a pool, and with what the next session needs.
use Rattle.std.specs.Prelude.{◌≡◌, ℕ, ◌-◌, ◌^◌, ◌<◌, ◌≤◌, List, Option, Some, None, map}
use Rattle.std.specs.Option.{option_map}
use Rattle.sm_live.specs.Sessions.{Session}
use Rattle.sm_live.specs.declared.reservation.Reservation.{Reservation}
use Rattle.sm_acks.specs.Queues.{PoolView, list_of}
use Rattle.sm_resumption.specs.Housed.{IsFree}
use Rattle.sm_resumption.specs.Rows.{Table}
use Rattle.sm_resumption.specs.declared.session.Row.{Row}

-- what clauses see: the sessions, ascending by number; the number of the next one; how many more stanzas fit without further
-- memory; the account for one session of which all memory is there, where it was reserved; and how many queues were made
pub record LiveView : Type 0 where
  pub sessions : List (Session (List ℕ))
  pub next : ℕ
  pub room : ℕ
  pub reservation : Option ℕ
  pub queues : ℕ

-- a row of the table, with the stanzas of its queue
abbrev pub seen_in : PoolView → Row → Session (List ℕ)
seen_in pool r = record { shown = r.shown; acked = r.end.acked; handled = r.end.handled; waiting = list_of r.end.queue pool }

abbrev pub all_seen : PoolView → List Row → List (Session (List ℕ))
all_seen pool rows = map (seen_in pool) rows

abbrev pub view_of : Table → PoolView → Option Reservation → ℕ → LiveView
view_of table pool reservation queues = record {
  sessions = all_seen pool table.rows;
  next = table.next;
  room = pool.spare;
  reservation = option_map (λ (s : Reservation). s.account) reservation;
  queues = queues;
}

-- the table has room for a session of the account and a number for it, and the queue is empty and no session's
pub record IsReservationIn (table : Table) (pool : PoolView) (s : Reservation) : Type 0 where
  pub room : 1 ≤ table.spare
  pub account : table.reservation ≡ s.account
  pub number : table.next < 2 ^ 64 - 1
  pub free : IsFree s.queue table.rows pool

abbrev pub IsReserved : Table → PoolView → Option Reservation → Type 0
IsReserved table pool None = Unit {0}
IsReserved table pool (Some s) = IsReservationIn table pool s
