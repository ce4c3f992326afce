use Rattle.std.proofs.Common.{arith}
use Rattle.sm_resumption.proofs.StoredFacts.{scanned_none}
use Rattle.sm_resumption.specs.Stored.{seeks}
use Rattle.sm_resumption.proofs.table.Sessions.scan.Goals as goal

pub returns-clause-number : goal.returns-clause-number
returns-clause-number c =
    scanned_none c.args.self.now.next c.loop-number.number-index (seeks c.args.sought.now) c.listed-number-items.result.now c.args.self.now.rows c.listed-number-items.ensures.all c.listed-number-items.ensures.table (omega (arith, c.loop-number-test.false))
    c.loop-number.invariant
