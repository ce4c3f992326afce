-- The lines so far, and those of what is left.
use Rattle.std.proofs.Common.{◌≡◌, ◌++◌, drop, map}
use Rattle.cmd_network.specs.DeviceLines.{said_line}
use Rattle.cmd_network.proofs.lines.said_lines.Given as goal

abbrev pub invariant-loop-said : goal.invariant-loop-said
invariant-loop-said l = l.lines.items ++ map said_line (drop l.said-index l.all) ≡ map said_line l.all
