use Rattle.std.proofs.Common.{◌≡◌, ◌++◌, false, take}
use Rattle.std.specs.List.{flat_map}
use Rattle.cmd_sync.specs.Texts.{logged_entry_text}
use Rattle.cmd_sync.proofs.logged.append_all_logged.Given as goal

abbrev pub invariant-loop-logged : goal.invariant-loop-logged
invariant-loop-logged l = l.out.items ≡ l.initial.out.items ++ flat_map (logged_entry_text false) (take l.logged-index l.entries)
