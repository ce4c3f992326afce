-- What each move keeps, all moves and all lines keep; and which world lines come to behind others.
use Rattle.std.proofs.Common.{◌≡◌, List, [], ◌∷◌, ◌++◌, refl}
use Rattle.cmd_schedule.specs.declared.schedule.WireLine.{WireLine}
use Rattle.cmd_world.specs.Lines.{all_stepped, moves_of, stepped}
use Rattle.cmd_world.specs.Moves.{Move, all_moved, moved}
use Rattle.cmd_world.specs.Worlds.{ByteWorld}

pub kept_by_moves : (P : ByteWorld → Type 0) → ((m : Move) (w : ByteWorld) → P w → P (moved m w)) → (ms : List Move) (w : ByteWorld) → P w → P (all_moved ms w)
kept_by_moves P each [] w is = is
kept_by_moves P each (m ∷ ms) w is = kept_by_moves P each ms (moved m w) (each m w is)

pub kept_by_lines : (P : ByteWorld → Type 0) → ((m : Move) (w : ByteWorld) → P w → P (moved m w)) → (lines : List WireLine) (w : ByteWorld) → P w → P (all_stepped lines w)
kept_by_lines P each [] w is = is
kept_by_lines P each (line ∷ lines) w is = kept_by_lines P each lines (stepped line w) (kept_by_moves P each (moves_of line w) w is)

pub stepped_append : (xs ys : List WireLine) (w : ByteWorld) → all_stepped (xs ++ ys) w ≡ all_stepped ys (all_stepped xs w)
stepped_append [] ys w = refl
stepped_append (x ∷ xs) ys w = stepped_append xs ys (stepped x w)
