-- The lines of a wire schedule are a list of lines.
use Rattle.std.proofs.Common.{ℕ, ◌+◌, ◌*◌, ◌≤◌, List, [], ◌∷◌, length, arith}
use Rattle.std.proofs.lemmas.Bool.{leb-true}
use Rattle.std.specs.Prelude.{IsTrue}
use Rattle.cmd_schedule.specs.LineLists.{AreListed, IsLineList, counted_in, counted_of, ticked_in, ticked_of}
use Rattle.cmd_schedule.specs.Schedules.{WireView}
use Rattle.cmd_schedule.specs.WireGrammar.{AreWireLines, IsWireSchedule, WireAbove, above_by, may_run, nothing_above}
use Rattle.cmd_schedule.specs.declared.schedule.Step.TheVariants as step
use Rattle.cmd_schedule.specs.declared.schedule.TheConstants.{MOST_TICK}
use Rattle.cmd_schedule.specs.declared.schedule.WireLine.{WireLine}
use Rattle.cmd_schedule.specs.declared.schedule.WireStep.{WireStep}
use Rattle.cmd_schedule.specs.declared.schedule.WireStep.TheVariants as wire

-- ---- a line

pub counted_one : (s : WireStep) → counted_of s ≤ 1
counted_one (wire.Up k count) = omega arith
counted_one (wire.Cut k up down) = omega arith
counted_one (wire.Common s) = omega arith
counted_one (wire.Dial device) = omega arith
counted_one (wire.Forget device) = omega arith
counted_one (wire.Close device) = omega arith
counted_one (wire.Down k count) = omega arith
counted_one (wire.Pass k times) = omega arith
counted_one (wire.Run times) = omega arith

ticked_few : (above : WireAbove) (s : WireStep) → IsTrue (may_run above s) → ticked_of s ≤ 1000000000
ticked_few above (wire.Common (step.Account name)) may = omega arith
ticked_few above (wire.Common (step.Device name account)) may = omega arith
ticked_few above (wire.Common (step.Say device to text)) may = omega arith
ticked_few above (wire.Common (step.Private device to text)) may = omega arith
ticked_few above (wire.Common (step.Catchup device most)) may = omega arith
ticked_few above (wire.Common (step.Tick ms)) may = leb-true ms MOST_TICK may
ticked_few above (wire.Dial device) may = omega arith
ticked_few above (wire.Forget device) may = omega arith
ticked_few above (wire.Close device) may = omega arith
ticked_few above (wire.Up k count) may = omega arith
ticked_few above (wire.Down k count) may = omega arith
ticked_few above (wire.Cut k up down) may = omega arith
ticked_few above (wire.Pass k times) may = omega arith
ticked_few above (wire.Run times) may = omega arith

-- ---- lines, numbered from n

lines_listed : (above : WireAbove) (n : ℕ) (lines : List WireLine) → AreWireLines above n lines → AreListed above lines
lines_listed above n [] are = tt
lines_listed above n (line ∷ lines) are = (omega (arith, are.0, are.1), are.2, are.3, lines_listed (above_by line.step above) (n + 1) lines are.4)

lines_few : (above : WireAbove) (n : ℕ) (lines : List WireLine) → n ≤ 100001 → AreWireLines above n lines → length lines + n ≤ 100001
lines_few above n [] low are = omega (arith, low)
lines_few above n (line ∷ lines) low are = let rest = lines_few (above_by line.step above) (n + 1) lines (omega (arith, are.1)) are.4 in omega (arith, rest)

lines_counted : (lines : List WireLine) → counted_in lines ≤ length lines
lines_counted [] = omega arith
lines_counted (line ∷ lines) = omega (arith, counted_one line.step, lines_counted lines)

lines_ticked : (above : WireAbove) (n : ℕ) (lines : List WireLine) → AreWireLines above n lines → ticked_in lines ≤ 1000000000 * length lines
lines_ticked above n [] are = omega arith
lines_ticked above n (line ∷ lines) are =
    let one = ticked_few above line.step are.2 in
    let rest = lines_ticked (above_by line.step above) (n + 1) lines are.4 in
    omega (arith, one, rest)

pub listed : (s : WireView) → IsWireSchedule s → IsLineList s
listed s is =
    let few = lines_few nothing_above 2 s.lines (omega arith) is.lines in
    let counted = lines_counted s.lines in
    let ticked = lines_ticked nothing_above 2 s.lines is.lines in
    record {
      keeps = is.keeps;
      lines = lines_listed nothing_above 2 s.lines is.lines;
      few = omega (arith, few);
      counted = omega (arith, few, counted);
      ticked = omega (arith, few, ticked);
    }
