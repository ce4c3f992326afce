use Rattle.std.proofs.Common.{◌≡◌, ◌++◌, take}
use Rattle.std.specs.List.{flat_map}
use Rattle.cmd_sync.specs.Texts.{page_tile_text}
use Rattle.cmd_sync.proofs.logged.append_pages.Given as goal

abbrev pub invariant-loop-tile : goal.invariant-loop-tile
invariant-loop-tile l = l.out.items ≡ l.initial.out.items ++ flat_map page_tile_text (take l.tile-index l.tiles)
