-- The steps so far, and those of the row to come.
use Rattle.std.proofs.Common.{◌≡◌, ◌-◌, ◌++◌}
use Rattle.cmd_generate.specs.Generated.{row_steps}
use Rattle.cmd_generate.proofs.rows.add_row.Given as goal

abbrev pub invariant-loop-i : goal.invariant-loop-i
invariant-loop-i l = l.steps ++ row_steps l.row (l.count - l.i) l.i ≡ l.initial.steps ++ row_steps l.row l.count 0
