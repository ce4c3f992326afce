use Rattle.std.proofs.Common.{◌∙◌, arith}
use Rattle.xml_tokens.proofs.Splits.{next_mark}
use Rattle.xml_tokens.specs.Spelling
use Rattle.xml_tokens.proofs.fronts.all_value_plain.Goals as goal

pub loop-b-preserved : goal.loop-b-preserved
loop-b-preserved c =
    let test = c.loop-b-test.true in
    let end = c.loop-b.auto.b-index-end in
    next_mark Spelling.is_value_plain c.loop-b.marks c.value_mark-marks.result c.loop-b.b-index 0 c.args.bytes.now (omega (arith, test, end)) c.value_mark-marks.ensures ∙ c.loop-b.invariant
