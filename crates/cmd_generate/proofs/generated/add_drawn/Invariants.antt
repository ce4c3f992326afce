-- The steps so far, and those that are still drawn.
use Rattle.std.proofs.Common.{◌≡◌, ◌+◌, ◌-◌, ◌≤◌, ◌++◌}
use Rattle.cmd_generate.specs.Generated.{drawn_lines}
use Rattle.cmd_generate.proofs.generated.add_drawn.Given as goal

abbrev pub invariant-loop-i : goal.invariant-loop-i
invariant-loop-i l = record {
  some : 6 ≤ l.dials;
  few : l.dials ≤ 6 + l.i;
  told : l.steps ++ drawn_lines (l.size - l.i) l.i l.dials l.draws ≡ l.initial.steps ++ drawn_lines l.size 0 6 l.number;
}
