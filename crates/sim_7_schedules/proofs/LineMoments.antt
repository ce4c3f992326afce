-- No line but a tick moves the clock on, and that by its milliseconds.
use Rattle.std.proofs.Common.{◌≡◌, ℕ, zero, suc, ◌+◌, ◌≤◌, ◌==◌, Bool, true, false, cond, List, [], ◌∷◌, ◌++◌, Option, Some, None, refl, ◌∙◌, arith}
use Rattle.std.specs.List.{AllByRecursion, slice_get, slice_set}
use Rattle.cmd_network.specs.Devices.{DeviceState}
use Rattle.base_io.specs.Names.{position_of}
use Rattle.net_pipes.specs.Pipes.{is_end_due}
use Rattle.cmd_schedule.specs.LineLists.{ticked_of}
use Rattle.cmd_schedule.specs.declared.schedule.Count.{Count}
use Rattle.cmd_schedule.specs.declared.schedule.Count.TheVariants.{All}
use Rattle.cmd_schedule.specs.declared.schedule.Step.TheVariants as step
use Rattle.cmd_schedule.specs.declared.schedule.WireStep.{WireStep}
use Rattle.cmd_schedule.specs.declared.schedule.WireStep.TheVariants as wire
use Rattle.srv_core.specs.Events.{after_gone}
use Rattle.cmd_network.specs.Positions.{position_under}
use Rattle.cmd_network.specs.Wires.{amount, up_end_reported}
use Rattle.cmd_network.specs.declared.wire.Wire.{Wire}
use Rattle.cmd_world.specs.Lines.{move_of, pass_of, passes_of, passes_where, round_from, rounds_of, step_moves}
use Rattle.cmd_world.specs.Moves as moves
use Rattle.cmd_world.specs.Moves.{Move, all_moved, caught_up_by, closed_by, dialed_by, down_by, down_to, forgot_by, moved, reported_up, said_by, served, served_by}
use Rattle.cmd_world.specs.Worlds.{ByteWorld, number_at}

-- ---- moves that leave the moment

abbrev pub IsStill : Move → Type 0
IsStill m = (w : ByteWorld) → (moved m w).moment ≡ w.moment

moment_if : (b : Bool) (u v w : ByteWorld) → u.moment ≡ w.moment → v.moment ≡ w.moment → (cond b u v).moment ≡ w.moment
moment_if true u v w p q = p
moment_if false u v w p q = q

pub dialed : (position : ℕ) (o : Option DeviceState) (w : ByteWorld) → (dialed_by position o w).moment ≡ w.moment
dialed position None w = refl
dialed position (Some d) w = refl

pub forgot : (position : ℕ) (o : Option DeviceState) (w : ByteWorld) → (forgot_by position o w).moment ≡ w.moment
forgot position None w = refl
forgot position (Some d) w = refl

pub closed : (position : ℕ) (o : Option DeviceState) (w : ByteWorld) → (closed_by position o w).moment ≡ w.moment
closed position None w = refl
closed position (Some d) w = refl

pub said : (position line : ℕ) (to text : List ℕ) (private : Bool) (o : Option DeviceState) (w : ByteWorld) → (said_by position line to text private o w).moment ≡ w.moment
said position line to text private None w = refl
said position line to text private (Some d) w = refl

pub asked : (position line most : ℕ) (o : Option DeviceState) (w : ByteWorld) → (caught_up_by position line most o w).moment ≡ w.moment
asked position line most None w = refl
asked position line most (Some d) w = refl

was_served : (position : ℕ) (count : Count) (o : Option Wire) (w : ByteWorld) → (served_by position count o w).moment ≡ w.moment
was_served position count None w = refl
was_served position count (Some wire) w = moment_if (amount count wire.up == 0) w (served position (amount count wire.up) wire w) w refl refl

end_told : (position : ℕ) (o : Option Wire) (w : ByteWorld) → (reported_up position o w).moment ≡ w.moment
end_told position None w = refl
end_told position (Some wire) w = moment_if (is_end_due wire.up) (record w { server = after_gone (number_at position) w.moment w.server; wires = slice_set w.wires position (up_end_reported wire) }) w w refl refl

pub up_still : (position : ℕ) (count : Count) → IsStill (moves.Up position count)
up_still position count w =
    let v = served_by position count (slice_get w.wires position) w in
    end_told position (slice_get v.wires position) v ∙ was_served position count (slice_get w.wires position) w

heard_to : (position : ℕ) (count : Count) (wire : Wire) (o : Option DeviceState) (w : ByteWorld) → (down_to position count wire o w).moment ≡ w.moment
heard_to position count wire None w = refl
heard_to position count wire (Some d) w = refl

heard_on : (position : ℕ) (count : Count) (o : Option Wire) (w : ByteWorld) → (down_by position count o w).moment ≡ w.moment
heard_on position count None w = refl
heard_on position count (Some wire) w = heard_to position count wire (slice_get w.devices wire.device) w

pub down_still : (position : ℕ) (count : Count) → IsStill (moves.Down position count)
down_still position count w = heard_on position count (slice_get w.wires position) w

-- ---- many of them

all_still : (ms : List Move) → AllByRecursion IsStill ms → (w : ByteWorld) → (all_moved ms w).moment ≡ w.moment
all_still [] all w = refl
all_still (m ∷ ms) all w = all_still ms all.1 (moved m w) ∙ all.0 w

both : (ms more : List Move) → AllByRecursion IsStill ms → AllByRecursion IsStill more → AllByRecursion IsStill (ms ++ more)
both [] more a b = b
both (m ∷ ms) more a b = (a.0, both ms more a.1 b)

pass_still : (position : ℕ) → AllByRecursion IsStill (pass_of position)
pass_still position = (λ w. up_still position All w, (λ w. down_still position All w, tt))

passes_still : (times position : ℕ) → AllByRecursion IsStill (passes_of times position)
passes_still zero position = tt
passes_still (suc times) position = both (pass_of position) (passes_of times position) (pass_still position) (passes_still times position)

round_still : (position count : ℕ) → AllByRecursion IsStill (round_from position count)
round_still position zero = tt
round_still position (suc count) = both (pass_of position) (round_from (position + 1) count) (pass_still position) (round_still (position + 1) count)

rounds_still : (times count : ℕ) → AllByRecursion IsStill (rounds_of times count)
rounds_still zero count = tt
rounds_still (suc times) count = both (round_from 0 count) (rounds_of times count) (round_still 0 count) (rounds_still times count)

-- ---- a line

one_still : (move : ℕ → Move) (o : Option ℕ) → ((position : ℕ) → IsStill (move position)) → AllByRecursion IsStill (move_of move o)
one_still move None each = tt
one_still move (Some position) each = (each position, tt)

turns_still : (times : ℕ) (o : Option ℕ) → AllByRecursion IsStill (passes_where times o)
turns_still times None = tt
turns_still times (Some position) = passes_still times position

module _ (names : List (List ℕ)) (count number : ℕ) (w : ByteWorld) where
  abbrev IsSoon : WireStep → Type 0
  IsSoon s = (all_moved (step_moves names count number s) w).moment ≤ w.moment + ticked_of s

  still : (s : WireStep) → AllByRecursion IsStill (step_moves names count number s) → IsSoon s
  still s each = let same = all_still (step_moves names count number s) each w in omega (arith, same)

  pub line_moment : (s : WireStep) → IsSoon s
  line_moment (wire.Common (step.Account name)) = still (wire.Common (step.Account name)) tt
  line_moment (wire.Common (step.Device name account)) = still (wire.Common (step.Device name account)) tt
  line_moment (wire.Common (step.Say device to text)) =
      still (wire.Common (step.Say device to text)) (one_still (λ position. moves.Say position number to text false) (position_of device names) (λ position v. said position number to text false (slice_get v.devices position) v))
  line_moment (wire.Common (step.Private device to text)) =
      still (wire.Common (step.Private device to text)) (one_still (λ position. moves.Say position number to text true) (position_of device names) (λ position v. said position number to text true (slice_get v.devices position) v))
  line_moment (wire.Common (step.Catchup device most)) =
      still (wire.Common (step.Catchup device most)) (one_still (λ position. moves.CatchUp position number most) (position_of device names) (λ position v. asked position number most (slice_get v.devices position) v))
  line_moment (wire.Common (step.Tick ms)) = omega arith
  line_moment (wire.Dial device) = still (wire.Dial device) (one_still moves.Dial (position_of device names) (λ position v. dialed position (slice_get v.devices position) v))
  line_moment (wire.Forget device) = still (wire.Forget device) (one_still moves.Forget (position_of device names) (λ position v. forgot position (slice_get v.devices position) v))
  line_moment (wire.Close device) = still (wire.Close device) (one_still moves.Close (position_of device names) (λ position v. closed position (slice_get v.devices position) v))
  line_moment (wire.Up k bytes) = still (wire.Up k bytes) (one_still (λ position. moves.Up position bytes) (position_under k) (λ position. up_still position bytes))
  line_moment (wire.Down k bytes) = still (wire.Down k bytes) (one_still (λ position. moves.Down position bytes) (position_under k) (λ position. down_still position bytes))
  line_moment (wire.Cut k up down) = still (wire.Cut k up down) (one_still (λ position. moves.Cut position up down) (position_under k) (λ position v. refl))
  line_moment (wire.Pass k times) = still (wire.Pass k times) (turns_still times (position_under k))
  line_moment (wire.Run times) = still (wire.Run times) (rounds_still times count)
