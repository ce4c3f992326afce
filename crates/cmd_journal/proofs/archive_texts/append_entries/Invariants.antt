use Rattle.std.proofs.Common.{◌≡◌, ◌++◌, take}
use Rattle.std.specs.List.{flat_map}
use Rattle.cmd_journal.specs.Texts.{plain_entry_text}
use Rattle.cmd_journal.proofs.archive_texts.append_entries.Given as goal

abbrev pub invariant-loop-i : goal.invariant-loop-i
invariant-loop-i l = l.out.items ≡ l.initial.out.items ++ flat_map plain_entry_text (take l.i l.archive.entries)
