-- What the grammar says of a line's message and page, and what its bounds leave for the lines below.
use Rattle.std.proofs.Common.{◌≡◌, ◌+◌, ◌≤◌, ◌<◌, refl, arith}
use Rattle.std.proofs.lemmas.Bool.{and_parts, leb-true, ltb-true}
use Rattle.std.specs.Prelude.{IsTrue, ◌&&◌, nat_le}
use Rattle.base_io.specs.Names.{is_among}
use Rattle.cmd_schedule.specs.Grammar.{is_name, is_text}
use Rattle.cmd_schedule.specs.LineLists.{counted_of}
use Rattle.cmd_schedule.specs.WireGrammar.{WireAbove, above_by, are_few, may_run}
use Rattle.cmd_schedule.specs.declared.schedule.Step.TheVariants as step
use Rattle.cmd_schedule.specs.declared.schedule.TheConstants.{MOST_DIALS, MOST_TIMES_TOGETHER}
use Rattle.cmd_schedule.specs.declared.schedule.WireStep.{WireStep}
use Rattle.cmd_schedule.specs.declared.schedule.WireStep.TheVariants as wire
use Rattle.sim_7_schedules.proofs.LineUnits.{MaySay, dials_of, units_of}

-- ---- a message, a page

pub may_say : (above : WireAbove) (s : WireStep) → IsTrue (may_run above s) → MaySay s
may_say above (wire.Common (step.Account name)) may = tt
may_say above (wire.Common (step.Device name account)) may = tt
may_say above (wire.Common (step.Say device to text)) may =
    let p = and_parts (is_among device above.names.devices && is_name to) (is_text text) may in
    ((and_parts (is_among device above.names.devices) (is_name to) p.0).1, p.1)
may_say above (wire.Common (step.Private device to text)) may =
    let p = and_parts (is_among device above.names.devices && is_name to) (is_text text) may in
    ((and_parts (is_among device above.names.devices) (is_name to) p.0).1, p.1)
may_say above (wire.Common (step.Catchup device most)) may =
    let p = and_parts (is_among device above.names.devices && nat_le 1 most) (nat_le most 100) may in
    (leb-true 1 most (and_parts (is_among device above.names.devices) (nat_le 1 most) p.0).1, leb-true most 100 p.1)
may_say above (wire.Common (step.Tick ms)) may = tt
may_say above (wire.Dial device) may = tt
may_say above (wire.Forget device) may = tt
may_say above (wire.Close device) may = tt
may_say above (wire.Up k count) may = tt
may_say above (wire.Down k count) may = tt
may_say above (wire.Cut k up down) may = tt
may_say above (wire.Pass k times) may = tt
may_say above (wire.Run times) may = tt

-- ---- connections and pages

-- A line's connections are those that stand above the next one beside its own. Its pages are its times; or one, where the
-- line is counted.
pub record IsCounted (above : WireAbove) (s : WireStep) : Type 0 where
  pub dials : (above_by s above).dials ≡ above.dials + dials_of s
  pub few_dials : (above_by s above).dials ≤ 10000
  pub units : units_of s + above.times ≤ (above_by s above).times + counted_of s
  pub few_times : (above_by s above).times ≤ 100000

module _ (above : WireAbove) (dials : above.dials ≤ 10000) (times : above.times ≤ 100000) where
  -- a line that makes no connection and repeats nothing
  other : (s : WireStep) → (above_by s above).dials ≡ above.dials → (above_by s above).times ≡ above.times → dials_of s ≡ 0 → units_of s ≤ counted_of s → IsCounted above s
  other s same_dials same_times none one = record {
    dials = omega (arith, same_dials, none);
    few_dials = omega (arith, same_dials, dials);
    units = omega (arith, same_times, one);
    few_times = omega (arith, same_times, times);
  }

  pub counted : (s : WireStep) → IsTrue (are_few above s) → IsCounted above s
  counted (wire.Common (step.Account name)) few = other (wire.Common (step.Account name)) refl refl refl (omega arith)
  counted (wire.Common (step.Device name account)) few = other (wire.Common (step.Device name account)) refl refl refl (omega arith)
  counted (wire.Common (step.Say device to text)) few = other (wire.Common (step.Say device to text)) refl refl refl (omega arith)
  counted (wire.Common (step.Private device to text)) few = other (wire.Common (step.Private device to text)) refl refl refl (omega arith)
  counted (wire.Common (step.Catchup device most)) few = other (wire.Common (step.Catchup device most)) refl refl refl (omega arith)
  counted (wire.Common (step.Tick ms)) few = other (wire.Common (step.Tick ms)) refl refl refl (omega arith)
  counted (wire.Dial device) few =
      let low : above.dials < 10000 = ltb-true above.dials MOST_DIALS few in
      record { dials = refl; few_dials = omega (arith, low); units = omega arith; few_times = times }
  counted (wire.Forget device) few = other (wire.Forget device) refl refl refl (omega arith)
  counted (wire.Close device) few = other (wire.Close device) refl refl refl (omega arith)
  counted (wire.Up k count) few = other (wire.Up k count) refl refl refl (omega arith)
  counted (wire.Down k count) few = other (wire.Down k count) refl refl refl (omega arith)
  counted (wire.Cut k up down) few = other (wire.Cut k up down) refl refl refl (omega arith)
  counted (wire.Pass k more) few =
      let low : above.times + more ≤ 100000 = leb-true (above.times + more) MOST_TIMES_TOGETHER few in
      record { dials = omega arith; few_dials = dials; units = omega arith; few_times = low }
  counted (wire.Run more) few =
      let low : above.times + more ≤ 100000 = leb-true (above.times + more) MOST_TIMES_TOGETHER few in
      record { dials = omega arith; few_dials = dials; units = omega arith; few_times = low }
