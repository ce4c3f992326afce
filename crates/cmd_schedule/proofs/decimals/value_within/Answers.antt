-- A value that is too great already stays so.
use Rattle.cmd_schedule.proofs.Numbers.{too_great}
use Rattle.cmd_schedule.proofs.decimals.value_within.Goals as goal

pub returns-in-None : goal.returns-in-None
returns-in-None c = too_great c.args.most c.loop-i.value c.loop-i.i c.args.digits.now c.loop-i-test.true c.loop-i.invariant.whole c.in-None.ensures
