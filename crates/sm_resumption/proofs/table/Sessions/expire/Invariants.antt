use Rattle.std.proofs.Common.{◌≡◌, ◌≤◌, length}
use Rattle.sm_resumption.proofs.ExpiryFacts.{Expiring}
use Rattle.sm_resumption.specs.Housed.{IsHoused}
use Rattle.sm_resumption.proofs.table.Sessions.expire.Given as goal

-- some of the sessions that expired have ended
abbrev pub invariant-ending : goal.invariant-ending
invariant-ending l = record {
  so_far : Expiring l.now l.initial.self.rows l.self.rows l.initial.pool l.pool;
  next : l.self.next ≡ l.initial.self.next;
  reservation : l.self.reservation ≡ l.initial.self.reservation;
  kept : l.initial.self.spare ≤ l.self.spare;
  made : l.pool.made ≡ l.initial.pool.made;
  room : l.initial.pool.spare ≤ l.pool.spare;
  housed : IsHoused l.self.rows l.pool;
}

abbrev pub decreases-ending : goal.decreases-ending
decreases-ending l = length l.self.rows
