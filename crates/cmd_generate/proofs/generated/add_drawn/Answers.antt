use Rattle.std.proofs.Common.{◌++◌, arith}
use Rattle.cmd_generate.proofs.Dials.{dials_more, dials_one}
use Rattle.cmd_generate.proofs.Numbering.{drawn_next}
use Rattle.cmd_generate.proofs.generated.add_drawn.Goals as goal
use Rattle.cmd_generate.specs.Generated.{drawn_lines}

pub loop-i-preserved : goal.loop-i-preserved
loop-i-preserved c =
    let at = c.loop-i in
    let step = c.in_ok-step.step in
    let more = dials_more step at.dials in
    let one = dials_one step in
    let is = c.dials_with-dials.ensures in
    let some = at.invariant.some in
    let few = at.invariant.few in
    record {
      some = omega (arith, is, more, some);
      few = omega (arith, is, more, one, few);
      told =
          rw (c.in_ok-add.ensures, is)
          (drawn_next c.args.size at.i at.dials at.draws at.steps (c.args.steps.now ++ drawn_lines c.args.size 0 6 c.args.number) step c.line.new.draws c.loop-i-test.true c.in_ok-step.ensures at.invariant.told);
    }
