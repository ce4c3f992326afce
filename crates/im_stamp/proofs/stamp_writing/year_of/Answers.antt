use Rattle.std.proofs.Common.{rules}
use Rattle.im_stamp.proofs.Years.{year_is}
use Rattle.im_stamp.proofs.stamp_writing.year_of.Goals as goal

pub returns-clause-year : goal.returns-clause-year
returns-clause-year c =
    let is = year_is c.args.date c.requires in
    search (rules, is)
