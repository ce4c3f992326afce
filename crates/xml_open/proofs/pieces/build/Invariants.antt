use Rattle.std.proofs.Common.{◌≡◌}
use Rattle.std.specs.VecDeque.{deque_len}
use Rattle.xml_open.specs.Building.{reading_of}
use Rattle.xml_open.specs.Pieces.{read_on, reading}
use Rattle.xml_open.proofs.pieces.build.Given as goal

-- what was made, and the pieces that are left
abbrev pub invariant-loop-piece : goal.invariant-loop-piece
invariant-loop-piece l = read_on (reading_of l.building) l.items.items ≡ reading l.fn.items.items

abbrev pub decreases-loop-piece : goal.decreases-loop-piece
decreases-loop-piece l = deque_len l.items
