use Rattle.std.proofs.Common.{◌≤◌, arith}
use Rattle.sm_resumption.proofs.IndexFacts.{earliest}
use Rattle.sm_resumption.proofs.index.Index.first.Goals as goal

pub returns-then-saturating_sub-lt-RESUMABLE_FOR-clause-none : goal.returns-then-saturating_sub-lt-RESUMABLE_FOR-clause-none
returns-then-saturating_sub-lt-RESUMABLE_FOR-clause-none c = λ s q has.
    let low : c.in_ok-first.first.now.since ≤ s = earliest s q c.in_ok-first.first.now c.args.self.now.waits.items c.requires c.in_ok-first.ensures.lookup has in
    omega (arith, rw c.saturating_sub.ensures at c.if-saturating_sub-lt-RESUMABLE_FOR.true)
