-- Moves that are looked at, one list of them after another.
use Rattle.std.proofs.Common.{◌≡◌, ℕ, suc, ◌+◌, List, [], ◌∷◌, ◌++◌, ap, refl, sym, ◌∙◌}
use Rattle.cmd_world.specs.Lines.{pass_of, passes_of, round_from, rounds_of}
use Rattle.cmd_world.specs.Moves.{Move, moved}
use Rattle.cmd_resolving.specs.Expansion.{Watching, watched, watched_move}
use Rattle.cmd_deciding.specs.Looks.{HasLooked}
use Rattle.cmd_deciding.proofs.Looked.{looked}

watched_join : (a b : List Move) (s : Watching) → watched (a ++ b) s ≡ watched b (watched a s)
watched_join [] b s = refl
watched_join (m ∷ a) b s = watched_join a b (watched_move m s)

pub watched_looked : (moves : List Move) (s : Watching) → HasLooked s → HasLooked (watched moves s)
watched_looked [] s has = has
watched_looked (m ∷ moves) s has = watched_looked moves (watched_move m s) (looked (moved m s.world) s.intents)

-- a turn of so many that are left
pub passes_more : (left position : ℕ) (v w due : Watching) → w ≡ watched (pass_of position) v → watched (passes_of (suc left) position) v ≡ due → watched (passes_of left position) w ≡ due
passes_more left position v w due is was = ap (watched (passes_of left position)) is ∙ sym (watched_join (pass_of position) (passes_of left position) v) ∙ was

pub round_more : (left position : ℕ) (v w due : Watching) → w ≡ watched (pass_of position) v → watched (round_from position (suc left)) v ≡ due → watched (round_from (position + 1) left) w ≡ due
round_more left position v w due is was = ap (watched (round_from (position + 1) left)) is ∙ sym (watched_join (pass_of position) (round_from (position + 1) left) v) ∙ was

pub rounds_more : (left count : ℕ) (v w due : Watching) → w ≡ watched (round_from 0 count) v → watched (rounds_of (suc left) count) v ≡ due → watched (rounds_of left count) w ≡ due
rounds_more left count v w due is was = ap (watched (rounds_of left count)) is ∙ sym (watched_join (round_from 0 count) (rounds_of left count) v) ∙ was
