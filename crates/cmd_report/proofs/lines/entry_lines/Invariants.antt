-- The lines so far, and those of the entries to come.
use Rattle.std.proofs.Common.{◌≡◌, ◌++◌, length, map}
use Rattle.std.specs.Vec.Iter.{into_iter_items, into_iter_len}
use Rattle.cmd_report.specs.Lines.{entry_line}
use Rattle.cmd_report.proofs.lines.entry_lines.Given as goal

abbrev pub invariant-loop-entry : goal.invariant-loop-entry
invariant-loop-entry l = record {
  whole : l.lines.items ++ map entry_line (into_iter_items l.entry-iterator) ≡ map entry_line l.fn.entries.items;
  counted : into_iter_len l.entry-iterator ≡ length (into_iter_items l.entry-iterator);
}
