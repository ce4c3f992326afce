use Rattle.std.proofs.Common.{◌≡◌, ℕ, ◌<◌, false, get_or}
use Rattle.sm_resumption.specs.Rows.{row_of}
use Rattle.sm_resumption.specs.Stored.{passes, seeks}
use Rattle.sm_resumption.proofs.table.Sessions.scan.Given as goal

-- none of the sessions so far is sought
abbrev pub invariant-loop-number : goal.invariant-loop-number
invariant-loop-number l = (k : ℕ) → k < l.number-index → passes (seeks l.sought) (row_of (get_or l.number-items k 0) l.self.rows) ≡ false
