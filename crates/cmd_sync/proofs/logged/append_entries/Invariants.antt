-- The lines so far, and those of the pages to come.
use Rattle.std.proofs.Common.{◌≡◌, ◌++◌, drop}
use Rattle.cmd_sync.specs.Texts.{entries_text}
use Rattle.cmd_sync.proofs.logged.append_entries.Given as goal

abbrev pub invariant-loop-tile : goal.invariant-loop-tile
invariant-loop-tile l = l.out.items ++ entries_text l.before (drop l.tile-index l.tiles) l.rest ≡ l.initial.out.items ++ entries_text 0 l.tiles l.entries
