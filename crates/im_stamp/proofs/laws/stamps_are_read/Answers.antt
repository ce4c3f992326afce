use Rattle.im_stamp.proofs.StampLaws.{stamp_read}
use Rattle.im_stamp.proofs.laws.stamps_are_read.Goals as goal

pub returns : goal.returns
returns c = stamp_read
