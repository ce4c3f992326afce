-- Worlds that follow one another by moves.
use Rattle.std.specs.Prelude.{◌≡◌, List, [], ◌∷◌}
use Rattle.cmd_world.specs.Moves.{Move, moved}
use Rattle.cmd_world.specs.Worlds.{ByteWorld}

-- the first of these worlds, where there is one, is one move behind this one
abbrev pub IsBefore : ByteWorld → List ByteWorld → Type 0
IsBefore v [] = Unit {0}
IsBefore v (w ∷ ws) = (m : Move) × (w ≡ moved m v)

-- each is one move behind the one before it
abbrev pub Follow : List ByteWorld → Type 0
Follow [] = Unit {0}
Follow (v ∷ ws) = IsBefore v ws × Follow ws
