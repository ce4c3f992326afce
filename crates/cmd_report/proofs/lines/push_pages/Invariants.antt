-- The lines so far, and those of the pages to come.
use Rattle.std.proofs.Common.{◌≡◌, ◌++◌, drop, length}
use Rattle.std.specs.Vec.Iter.{into_iter_items, into_iter_len}
use Rattle.cmd_report.specs.Lines.{logged_by}
use Rattle.cmd_report.proofs.lines.push_pages.Given as goal

abbrev pub invariant-loop-tile : goal.invariant-loop-tile
invariant-loop-tile l = record {
  lines : l.lines.items ++ logged_by l.before (drop l.tile-index l.tile-items) (into_iter_items l.entries)
      ≡ l.initial.lines.items ++ logged_by 0 l.tile-items (into_iter_items l.initial.entries);
  counted : into_iter_len l.entries ≡ length (into_iter_items l.entries);
}
