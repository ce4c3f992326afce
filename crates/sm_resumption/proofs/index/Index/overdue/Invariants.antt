use Rattle.std.proofs.Common.{◌≡◌, length}
use Rattle.std.specs.Prelude.{nat_eq}
use Rattle.std.specs.HashMap as hash
use Rattle.sm_resumption.specs.Indexed.{AreInOrder, KeepsParked}
use Rattle.sm_resumption.proofs.index.Index.overdue.Given as goal

-- each parked session is still told
abbrev pub invariant-first : goal.invariant-first
invariant-first l = record {
  kept : KeepsParked (hash.get nat_eq l.rows) l.fn.self l.self;
  ordered : AreInOrder l.self;
  conns : l.self.conns ≡ l.fn.self.conns;
  whole : l.self.whole ≡ l.fn.self.whole;
  sessions_by_account : l.self.sessions_by_account ≡ l.fn.self.sessions_by_account;
}

abbrev pub decreases-first : goal.decreases-first
decreases-first l = length l.self.waits.items
