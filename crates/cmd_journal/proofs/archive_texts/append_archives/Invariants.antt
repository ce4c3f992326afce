use Rattle.std.proofs.Common.{◌≡◌, ◌++◌, map, take}
use Rattle.std.specs.List.{flat_map}
use Rattle.cmd_journal.specs.Texts.{archive_text, named_view}
use Rattle.cmd_journal.proofs.archive_texts.append_archives.Given as goal

abbrev pub invariant-loop-named : goal.invariant-loop-named
invariant-loop-named l = l.out.items ≡ l.initial.out.items ++ flat_map (archive_text l.version) (map named_view (take l.named-index l.archives))
