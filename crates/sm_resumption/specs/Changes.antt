-- Changes of one session that keep its connection, its name and its queue.
use Rattle.std.specs.Prelude.{◌≡◌, ℕ, ◌≤◌}
use Rattle.sm_acks.specs.Queues.{PoolView}
use Rattle.sm_resumption.specs.Housed.{IsHoused}
use Rattle.sm_resumption.specs.Moves.{asking, copying, enabled, handling, present}
use Rattle.sm_resumption.specs.Rows.{Table, with_row}
use Rattle.sm_resumption.specs.declared.change.Change.{Change}
use Rattle.sm_resumption.specs.declared.change.Change.TheVariants.{Asked, Carbons, Enabled, Handled, Present}
use Rattle.sm_resumption.specs.declared.session.Row.{Row}

abbrev pub changed : Change → Row → Row
changed (Enabled resume) r = enabled resume r
changed (Present available priority) r = present available priority r
changed (Carbons on) r = copying on r
changed (Asked on) r = asking on r
changed Handled r = handling r

-- the session with a number is changed, and nothing else is
pub record ChangesRow (number : ℕ) (f : Row → Row) (old new : Table) : Type 0 where
  pub rows : new.rows ≡ with_row number f old.rows
  pub next : new.next ≡ old.next
  pub reservation : new.reservation ≡ old.reservation
  pub spare : old.spare ≤ new.spare
  pub housed : (pool : PoolView) → IsHoused old.rows pool → IsHoused new.rows pool
