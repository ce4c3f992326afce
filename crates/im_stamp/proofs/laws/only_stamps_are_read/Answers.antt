use Rattle.im_stamp.proofs.StampJudged.{judged_bad, judged_before, judged_ok}
use Rattle.im_stamp.proofs.laws.only_stamps_are_read.Goals as goal

pub returns-clause-ok : goal.returns-clause-ok
returns-clause-ok c = judged_ok

pub returns-clause-before : goal.returns-clause-before
returns-clause-before c = judged_before

pub returns-clause-bad : goal.returns-clause-bad
returns-clause-bad c = judged_bad
