use Rattle.std.proofs.Common.{rules}
use Rattle.im_stamp.proofs.Dates.{is_stamp_at}
use Rattle.im_stamp.proofs.StampTexts.{written_is_text}
use Rattle.im_stamp.proofs.stamp_writing.stamp_text.Goals as goal

pub returns-clause-value : goal.returns-clause-value
returns-clause-value c =
    let is = is_stamp_at c.args.ms c.stamp_bytes.result c.requires c.stamp_bytes.ensures in
    search (rules, is)

pub unreachable-requires : goal.unreachable-requires
unreachable-requires c = c.in-Err.ensures.cases.0 (written_is_text c.args.ms c.stamp_bytes.result c.stamp_bytes.ensures)
