-- The lines so far, and those of the entries that are left.
use Rattle.std.proofs.Common.{◌≡◌, ◌++◌, drop, map}
use Rattle.cmd_report.specs.Lines.{entry_line}
use Rattle.cmd_world.proofs.report.entry_lines.Given as goal

abbrev pub invariant-loop-position : goal.invariant-loop-position
invariant-loop-position l = l.lines.items ++ map entry_line (drop l.position l.archive.entries) ≡ map entry_line l.archive.entries
