use Rattle.std.proofs.Common.{◌≡◌, true}
use Rattle.std.specs.Prelude.{nat_eq}
use Rattle.std.specs.HashMap as hash
use Rattle.sm_resumption.specs.Indexed.{AreInOrder, HasFirst}
use Rattle.sm_resumption.proofs.index.Index.mend.Given as goal

-- the sessions so far are found
abbrev pub invariant-loop-number : goal.invariant-loop-number
invariant-loop-number l = (l.self.whole ≡ true → HasFirst l.number-index l.self l.numbers (hash.get nat_eq l.rows)) × (l.self.sessions_by_account ≡ l.fn.self.sessions_by_account) × AreInOrder l.self
