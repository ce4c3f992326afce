use Rattle.std.proofs.Common.{◌+◌, ◌≤◌, length, sym, ◌∙◌, arith}
use Rattle.xml_tokens.proofs.Splits.{prefix_further}
use Rattle.xml_tokens.specs.Spelling
use Rattle.xml_tokens.proofs.fronts.value_plain_len.Goals as goal

pub loop-done-preserved : goal.loop-done-preserved
loop-done-preserved c =
    let test = c.loop-done-test.true in
    let fits : c.loop-done.done + 64 ≤ length c.args.bytes.now = omega (arith, test, c.loop-done.invariant.within) in
    let step = prefix_further Spelling.is_value_plain c.loop-done.done (c.loop-done.done + 64) c.args.bytes.now (omega arith) fits (sym c.are_value_plain.ensures ∙ c.if-are_value_plain.true) in
    let before = c.loop-done.invariant.plain in
    record {
      within = fits;
      plain = omega (arith, step, before);
    }
