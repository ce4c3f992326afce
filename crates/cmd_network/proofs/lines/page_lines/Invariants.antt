-- The lines so far, and those of what is left.
use Rattle.std.proofs.Common.{◌≡◌, ◌++◌, drop, map}
use Rattle.cmd_report.specs.Lines.{tile_line}
use Rattle.cmd_network.proofs.lines.page_lines.Given as goal

abbrev pub invariant-loop-tile : goal.invariant-loop-tile
invariant-loop-tile l = l.lines.items ++ map tile_line (drop l.tile-index l.tiles) ≡ map tile_line l.tiles
