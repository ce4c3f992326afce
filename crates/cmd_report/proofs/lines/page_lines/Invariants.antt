-- The lines so far, and those of the tiles to come.
use Rattle.std.proofs.Common.{◌≡◌, ◌++◌, length, map}
use Rattle.std.specs.Vec.Iter.{into_iter_items, into_iter_len}
use Rattle.cmd_report.specs.Lines.{tile_line}
use Rattle.cmd_report.proofs.lines.page_lines.Given as goal

abbrev pub invariant-loop-tile : goal.invariant-loop-tile
invariant-loop-tile l = record {
  whole : l.lines.items ++ map tile_line (into_iter_items l.tile-iterator) ≡ map tile_line l.fn.tiles.items;
  counted : into_iter_len l.tile-iterator ≡ length (into_iter_items l.tile-iterator);
}
