-- The lines so far, and those of what is left.
use Rattle.std.proofs.Common.{◌≡◌, ◌++◌, drop, map}
use Rattle.cmd_network.specs.DeviceLines.{held_line}
use Rattle.cmd_network.proofs.lines.held_lines.Given as goal

abbrev pub invariant-loop-entry : goal.invariant-loop-entry
invariant-loop-entry l = l.lines.items ++ map held_line (drop l.entry-index l.held) ≡ map held_line l.held
