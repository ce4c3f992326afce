-- In each world of the history of a list of lines the moment has a stamp.
use Rattle.std.proofs.Common.{◌≡◌, ℕ, ◌+◌, ◌≤◌, List, [], ◌∷◌, Some, length, slice_get, subst, arith}
use Rattle.std.specs.List.{AllByRecursion}
use Rattle.std.specs.Prelude.{IfSome}
use Rattle.sim_3_images.proofs.ChangedLists.{all_at}
use Rattle.cmd_schedule.proofs.Lists.{all_append}
use Rattle.cmd_schedule.specs.Schedules.{WireView}
use Rattle.cmd_schedule.specs.LineLists.{IsLineList, ticked_in}
use Rattle.cmd_schedule.specs.declared.schedule.WireLine.{WireLine}
use Rattle.sim_7_schedules.proofs.ByteMoves.{IsTimely}
use Rattle.sim_7_schedules.proofs.LineMoments.{asked, closed, dialed, down_still, forgot, line_moment, said, up_still}
use Rattle.cmd_world.specs.Histories.{history_of, world_at_start, worlds_along, worlds_by}
use Rattle.cmd_world.specs.Lines.{moves_of, stepped}
use Rattle.cmd_world.specs.Moves.{CatchUp, Close, Cut, Dial, Down, Forget, Move, Say, Tick, Up, all_moved, moved}
use Rattle.cmd_world.specs.Worlds.{ByteWorld}

-- no move turns the clock back
grows : (m : Move) (w : ByteWorld) → w.moment ≤ (moved m w).moment
grows (Dial i) w = let same = dialed i (slice_get w.devices i) w in omega (arith, same)
grows (Forget i) w = let same = forgot i (slice_get w.devices i) w in omega (arith, same)
grows (Close i) w = let same = closed i (slice_get w.devices i) w in omega (arith, same)
grows (Say i line to text private) w = let same = said i line to text private (slice_get w.devices i) w in omega (arith, same)
grows (CatchUp i line most) w = let same = asked i line most (slice_get w.devices i) w in omega (arith, same)
grows (Tick milliseconds) w = omega arith
grows (Up position count) w = let same = up_still position count w in omega (arith, same)
grows (Down position count) w = let same = down_still position count w in omega (arith, same)
grows (Cut position up down) w = omega arith

all_grow : (ms : List Move) (w : ByteWorld) → w.moment ≤ (all_moved ms w).moment
all_grow [] w = omega arith
all_grow (m ∷ ms) w = let one = grows m w in let more = all_grow ms (moved m w) in omega (arith, one, more)

-- so the moment within a line is at most the one behind it
within : (ms : List Move) (w : ByteWorld) (most : ℕ) → (all_moved ms w).moment ≤ most → AllByRecursion (λ (v : ByteWorld). v.moment ≤ most) (worlds_by ms w)
within [] w most last = tt
within (m ∷ ms) w most last = ((let more = all_grow ms (moved m w) in omega (arith, more, last)), within ms (moved m w) most last)

lines_timely : (lines : List WireLine) (w : ByteWorld) → w.moment + ticked_in lines ≤ 253402207200000 → AllByRecursion IsTimely (worlds_along lines w)
lines_timely [] w low = tt
lines_timely (line ∷ lines) w low =
    let soon = line_moment w.names (length w.wires) line.number w line.step in
    let following : (stepped line w).moment + ticked_in lines ≤ 253402207200000 = omega (arith, low, soon) in
    all_append IsTimely (worlds_by (moves_of line w) w) (worlds_along lines (stepped line w)) (within (moves_of line w) w 253402207200000 (omega (arith, following))) (lines_timely lines (stepped line w) following)

pub timely_at : (s : WireView) → IsLineList s → (j : ℕ) (w : ByteWorld) → slice_get (history_of s) j ≡ Some w → IsTimely w
timely_at s right j w at =
    let ticked : ticked_in s.lines ≤ 253402207200000 = right.ticked in
    let all : AllByRecursion IsTimely (history_of s) = (omega arith, lines_timely s.lines (world_at_start s) (omega (arith, ticked))) in
    subst (λ o. IfSome o IsTimely) at (all_at IsTimely (history_of s) j all)
