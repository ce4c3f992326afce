-- The lines so far, and those of the pages that are left.
use Rattle.std.proofs.Common.{◌≡◌, ◌++◌, drop}
use Rattle.cmd_report.specs.Lines.{logged_by}
use Rattle.cmd_network.proofs.lines.push_pages.Given as goal

abbrev pub invariant-loop-tile : goal.invariant-loop-tile
invariant-loop-tile l = l.lines.items ++ logged_by l.before (drop l.tile-index l.tiles) l.rest ≡ l.initial.lines.items ++ logged_by 0 l.tiles l.entries
