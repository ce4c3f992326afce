-- What a line of a wire schedule may come to.
use Rattle.std.proofs.Common.{ℕ, ◌≤◌}
use Rattle.std.specs.Prelude.{IsTrue}
use Rattle.cmd_schedule.specs.Grammar.{is_name, is_text}
use Rattle.cmd_schedule.specs.declared.schedule.Step.TheVariants as step
use Rattle.cmd_schedule.specs.declared.schedule.WireStep.{WireStep}
use Rattle.cmd_schedule.specs.declared.schedule.WireStep.TheVariants as wire

-- how many pages a device may ask for at it, and how many connections it makes
abbrev pub units_of : WireStep → ℕ
units_of (wire.Common (step.Catchup device most)) = 1
units_of (wire.Down k count) = 1
units_of (wire.Pass k times) = times
units_of (wire.Run times) = times
units_of _ = 0

abbrev pub dials_of : WireStep → ℕ
dials_of (wire.Dial device) = 1
dials_of _ = 0

-- what the grammar says of it
abbrev pub MaySay : WireStep → Type 0
MaySay (wire.Common (step.Say device to text)) = IsTrue (is_name to) × IsTrue (is_text text)
MaySay (wire.Common (step.Private device to text)) = IsTrue (is_name to) × IsTrue (is_text text)
MaySay (wire.Common (step.Catchup device most)) = (1 ≤ most) × (most ≤ 100)
MaySay s = Unit {0}
