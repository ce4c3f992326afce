use Rattle.im_stamp.proofs.Dates.{stamp_at_is_written}
use Rattle.im_stamp.proofs.StampLaws.{written_read}
use Rattle.im_stamp.proofs.StampOne.{one_stamp}
use Rattle.im_stamp.proofs.laws.stamp_is_read.Goals as goal

pub returns-clause-one : goal.returns-clause-one
returns-clause-one c = one_stamp

pub returns-clause-read : goal.returns-clause-read
returns-clause-read c = written_read

pub returns-clause-written : goal.returns-clause-written
returns-clause-written c = stamp_at_is_written
