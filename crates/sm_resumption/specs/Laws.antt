-- What a resumption right after a park gives back (XEP-0198 section 5).
use Rattle.std.specs.Prelude.{◌≡◌, ℕ, List, None, Some, Ok}
use Rattle.sm_acks.specs.Queues.{PoolView, list_of, stanzas_of}
use Rattle.sm_resumption.specs.Moves.{PoolResumed, resume_answer, row_resumed, rows_parked}
use Rattle.sm_resumption.specs.Previds.{previd_of}
use Rattle.sm_resumption.specs.declared.session.Row.{Row}

-- a session that was parked is resumed where the peer states the count that is acknowledged, and all stanzas in its queue
-- are in the new one
pub record ComesBackWhole (now queue : ℕ) (r : Row) (rows : List Row) (old new : PoolView) : Type 0 where
  pub answer : resume_answer r.end.acked (row_resumed (previd_of r.shown.number) r.shown.account (rows_parked now (Some r) rows)) old ≡ Ok (record { number = r.shown.number; handled = r.end.handled; former = None })
  pub whole : PoolResumed r.end.acked queue (row_resumed (previd_of r.shown.number) r.shown.account (rows_parked now (Some r) rows)) old new → stanzas_of queue new ≡ Some (list_of r.end.queue old)
