-- The lines so far, and those of the entries that are left.
use Rattle.std.proofs.Common.{◌≡◌, ◌++◌, drop}
use Rattle.cmd_report.specs.Lines.{logged_after}
use Rattle.cmd_network.proofs.lines.push_page.Given as goal

abbrev pub invariant-loop-logged : goal.invariant-loop-logged
invariant-loop-logged l = l.lines.items ++ logged_after l.broken (drop l.logged-index l.entries) ≡ l.initial.lines.items ++ logged_after l.fn.broken l.entries
