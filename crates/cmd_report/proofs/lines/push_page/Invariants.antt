-- The lines so far, and those of the page's entries to come.
use Rattle.std.proofs.Common.{◌≡◌, ◌-◌, ◌++◌, drop, length, take}
use Rattle.std.specs.Vec.Iter.{into_iter_items, into_iter_len}
use Rattle.cmd_report.specs.Lines.{logged_after}
use Rattle.cmd_report.proofs.lines.push_page.Given as goal

abbrev pub invariant-loop-i : goal.invariant-loop-i
invariant-loop-i l = record {
  lines : l.lines.items ++ logged_after l.broken (take (l.count - l.i) (into_iter_items l.entries))
      ≡ l.initial.lines.items ++ logged_after l.fn.broken (take l.count (into_iter_items l.initial.entries));
  rest : drop (l.count - l.i) (into_iter_items l.entries) ≡ drop l.count (into_iter_items l.initial.entries);
  counted : into_iter_len l.entries ≡ length (into_iter_items l.entries);
}
