use Rattle.std.proofs.Common.{◌∙◌, arith}
use Rattle.xml_tokens.proofs.Splits.{next_mark}
use Rattle.xml_tokens.specs.Values
use Rattle.xml_tokens.proofs.values.all_plain_ascii.Goals as goal

pub loop-b-preserved : goal.loop-b-preserved
loop-b-preserved c =
    let test = c.loop-b-test.true in
    let end = c.loop-b.auto.b-index-end in
    next_mark Values.is_plain_ascii c.loop-b.marks c.ascii_mark-marks.result c.loop-b.b-index 0 c.args.raw.now (omega (arith, test, end)) c.ascii_mark-marks.ensures ∙ c.loop-b.invariant
