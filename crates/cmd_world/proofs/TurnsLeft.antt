-- Moves, one list of them after another.
use Rattle.std.proofs.Common.{◌≡◌, ℕ, suc, ◌+◌, List, [], ◌∷◌, ◌++◌, ap, refl, sym, ◌∙◌}
use Rattle.cmd_world.specs.Lines.{pass_of, passes_of, round_from, rounds_of}
use Rattle.cmd_world.specs.Moves.{Move, all_moved, moved}
use Rattle.cmd_world.specs.Worlds.{ByteWorld}

pub moved_join : (a b : List Move) (w : ByteWorld) → all_moved (a ++ b) w ≡ all_moved b (all_moved a w)
moved_join [] b w = refl
moved_join (m ∷ a) b w = moved_join a b (moved m w)

-- a turn of so many that are left
pub passes_more : (left position : ℕ) (v w due : ByteWorld) → w ≡ all_moved (pass_of position) v → all_moved (passes_of (suc left) position) v ≡ due → all_moved (passes_of left position) w ≡ due
passes_more left position v w due is was = ap (all_moved (passes_of left position)) is ∙ sym (moved_join (pass_of position) (passes_of left position) v) ∙ was

pub round_more : (left position : ℕ) (v w due : ByteWorld) → w ≡ all_moved (pass_of position) v → all_moved (round_from position (suc left)) v ≡ due → all_moved (round_from (position + 1) left) w ≡ due
round_more left position v w due is was = ap (all_moved (round_from (position + 1) left)) is ∙ sym (moved_join (pass_of position) (round_from (position + 1) left) v) ∙ was

pub rounds_more : (left count : ℕ) (v w due : ByteWorld) → w ≡ all_moved (round_from 0 count) v → all_moved (rounds_of (suc left) count) v ≡ due → all_moved (rounds_of left count) w ≡ due
rounds_more left count v w due is was = ap (all_moved (rounds_of left count)) is ∙ sym (moved_join (round_from 0 count) (rounds_of left count) v) ∙ was
