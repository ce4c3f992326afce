-- Moves that no user asks for refuse nothing, and no move changes the names of a world.
use Rattle.std.proofs.Common.{◌≡◌, ℕ, zero, suc, ◌+◌, ◌==◌, Bool, true, false, cond, List, [], ◌∷◌, ◌++◌, Option, Some, None, refl, ap, ◌∙◌}
use Rattle.std.specs.List.{AllByRecursion}
use Rattle.std.specs.Prelude.{slice_get, slice_set}
use Rattle.cmd_network.specs.Devices.{DeviceState}
use Rattle.sim_7_schedules.specs.Refusals.{all_refusals, move_refusals}
use Rattle.net_pipes.specs.Pipes.{is_end_due}
use Rattle.cmd_schedule.specs.declared.schedule.Count.{Count}
use Rattle.srv_core.specs.Events.{after_gone}
use Rattle.cmd_network.specs.Wires.{amount, up_end_reported}
use Rattle.cmd_network.specs.declared.wire.Wire.{Wire}
use Rattle.cmd_world.specs.Lines.{move_of, pass_of, passes_of, passes_where, round_from, rounds_of}
use Rattle.cmd_world.specs.Moves as moves
use Rattle.cmd_world.specs.Moves.{Move, all_moved, caught_up_by, closed_by, dialed_by, down_by, down_to, forgot_by, moved, reported_up, said_by, served, served_by}
use Rattle.cmd_world.specs.Worlds.{ByteWorld, number_at}

-- ---- what refuses nothing

abbrev IsQuiet : Move → Type 0
IsQuiet m = (w : ByteWorld) → move_refusals m w ≡ []

all_quiet : (ms : List Move) → AllByRecursion IsQuiet ms → (w : ByteWorld) → all_refusals ms w ≡ []
all_quiet [] all w = refl
all_quiet (m ∷ ms) all w = ap (λ l. l ++ all_refusals ms (moved m w)) (all.0 w) ∙ all_quiet ms all.1 (moved m w)

both : (ms more : List Move) → AllByRecursion IsQuiet ms → AllByRecursion IsQuiet more → AllByRecursion IsQuiet (ms ++ more)
both [] more a b = b
both (m ∷ ms) more a b = (a.0, both ms more a.1 b)

pass_quiet : (position : ℕ) → AllByRecursion IsQuiet (pass_of position)
pass_quiet position = (λ w. refl, (λ w. refl, tt))

passes_quiet : (times position : ℕ) → AllByRecursion IsQuiet (passes_of times position)
passes_quiet zero position = tt
passes_quiet (suc times) position = both (pass_of position) (passes_of times position) (pass_quiet position) (passes_quiet times position)

round_quiet : (position count : ℕ) → AllByRecursion IsQuiet (round_from position count)
round_quiet position zero = tt
round_quiet position (suc count) = both (pass_of position) (round_from (position + 1) count) (pass_quiet position) (round_quiet (position + 1) count)

rounds_quiet : (times count : ℕ) → AllByRecursion IsQuiet (rounds_of times count)
rounds_quiet zero count = tt
rounds_quiet (suc times) count = both (round_from 0 count) (rounds_of times count) (round_quiet 0 count) (rounds_quiet times count)

pub runs_refuse_nothing : (times count : ℕ) (w : ByteWorld) → all_refusals (rounds_of times count) w ≡ []
runs_refuse_nothing times count w = all_quiet (rounds_of times count) (rounds_quiet times count) w

pub passes_refuse_nothing : (times : ℕ) (o : Option ℕ) (w : ByteWorld) → all_refusals (passes_where times o) w ≡ []
passes_refuse_nothing times None w = refl
passes_refuse_nothing times (Some position) w = all_quiet (passes_of times position) (passes_quiet times position) w

pub one_refuses_nothing : (move : ℕ → Move) (o : Option ℕ) (w : ByteWorld) → ((position : ℕ) → IsQuiet (move position)) → all_refusals (move_of move o) w ≡ []
one_refuses_nothing move None w quiet = refl
one_refuses_nothing move (Some position) w quiet = ap (λ l. l ++ []) (quiet position w)

-- ---- names

names_if : (b : Bool) (u v w : ByteWorld) → u.names ≡ w.names → v.names ≡ w.names → (cond b u v).names ≡ w.names
names_if true u v w p q = p
names_if false u v w p q = q

dialed : (position : ℕ) (o : Option DeviceState) (w : ByteWorld) → (dialed_by position o w).names ≡ w.names
dialed position None w = refl
dialed position (Some d) w = refl

forgot : (position : ℕ) (o : Option DeviceState) (w : ByteWorld) → (forgot_by position o w).names ≡ w.names
forgot position None w = refl
forgot position (Some d) w = refl

closed : (position : ℕ) (o : Option DeviceState) (w : ByteWorld) → (closed_by position o w).names ≡ w.names
closed position None w = refl
closed position (Some d) w = refl

said : (position line : ℕ) (to text : List ℕ) (private : Bool) (o : Option DeviceState) (w : ByteWorld) → (said_by position line to text private o w).names ≡ w.names
said position line to text private None w = refl
said position line to text private (Some d) w = refl

asked : (position line most : ℕ) (o : Option DeviceState) (w : ByteWorld) → (caught_up_by position line most o w).names ≡ w.names
asked position line most None w = refl
asked position line most (Some d) w = refl

was_served : (position : ℕ) (count : Count) (o : Option Wire) (w : ByteWorld) → (served_by position count o w).names ≡ w.names
was_served position count None w = refl
was_served position count (Some wire) w = names_if (amount count wire.up == 0) w (served position (amount count wire.up) wire w) w refl refl

end_told : (position : ℕ) (o : Option Wire) (w : ByteWorld) → (reported_up position o w).names ≡ w.names
end_told position None w = refl
end_told position (Some wire) w = names_if (is_end_due wire.up) (record w { server = after_gone (number_at position) w.moment w.server; wires = slice_set w.wires position (up_end_reported wire) }) w w refl refl

heard_to : (position : ℕ) (count : Count) (wire : Wire) (o : Option DeviceState) (w : ByteWorld) → (down_to position count wire o w).names ≡ w.names
heard_to position count wire None w = refl
heard_to position count wire (Some d) w = refl

heard_on : (position : ℕ) (count : Count) (o : Option Wire) (w : ByteWorld) → (down_by position count o w).names ≡ w.names
heard_on position count None w = refl
heard_on position count (Some wire) w = heard_to position count wire (slice_get w.devices wire.device) w

one_keeps : (m : Move) (w : ByteWorld) → (moved m w).names ≡ w.names
one_keeps (moves.Dial position) w = dialed position (slice_get w.devices position) w
one_keeps (moves.Forget position) w = forgot position (slice_get w.devices position) w
one_keeps (moves.Close position) w = closed position (slice_get w.devices position) w
one_keeps (moves.Say position line to text private) w = said position line to text private (slice_get w.devices position) w
one_keeps (moves.CatchUp position line most) w = asked position line most (slice_get w.devices position) w
one_keeps (moves.Tick milliseconds) w = refl
one_keeps (moves.Up position count) w =
    let v = served_by position count (slice_get w.wires position) w in
    end_told position (slice_get v.wires position) v ∙ was_served position count (slice_get w.wires position) w
one_keeps (moves.Down position count) w = heard_on position count (slice_get w.wires position) w
one_keeps (moves.Cut position up down) w = refl

pub names_stay : (ms : List Move) (w : ByteWorld) → (all_moved ms w).names ≡ w.names
names_stay [] w = refl
names_stay (m ∷ ms) w = names_stay ms (moved m w) ∙ one_keeps m w
