use Rattle.std.proofs.Common.{◌++◌}
use Rattle.cmd_generate.proofs.Numbering.{row_next}
use Rattle.cmd_generate.proofs.rows.add_row.Goals as goal
use Rattle.cmd_generate.specs.Generated.{row_steps}

pub loop-i-preserved : goal.loop-i-preserved
loop-i-preserved c =
    rw c.in_ok-add.ensures
    (row_next c.args.row c.args.count c.loop-i.i c.loop-i.steps (c.args.steps.now ++ row_steps c.args.row c.args.count 0) c.in_ok-row_step.field-0 c.loop-i-test.true c.in_ok-row_step.ensures c.loop-i.invariant)
