-- The lines so far, and those of the entries behind the pages.
use Rattle.std.proofs.Common.{◌≡◌, ◌++◌, false, length, map}
use Rattle.std.specs.Vec.Iter.{into_iter_items, into_iter_len}
use Rattle.cmd_report.specs.Lines.{logged_by, logged_line}
use Rattle.cmd_report.proofs.lines.logged_lines.Given as goal

abbrev pub invariant-loop-logged : goal.invariant-loop-logged
invariant-loop-logged l = record {
  whole : l.lines.items ++ map (logged_line false) (into_iter_items l.logged-iterator) ≡ logged_by 0 l.fn.tiles.items l.fn.entries.items;
  counted : into_iter_len l.logged-iterator ≡ length (into_iter_items l.logged-iterator);
}
