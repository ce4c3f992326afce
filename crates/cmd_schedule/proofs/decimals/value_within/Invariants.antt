-- The digits to come make the whole value of the value so far.
use Rattle.std.proofs.Common.{◌≡◌, ◌≤◌, drop}
use Rattle.std.specs.Prelude.{fold}
use Rattle.cmd_schedule.specs.Reading.{grown, value_of}
use Rattle.cmd_schedule.proofs.decimals.value_within.Given as goal

abbrev pub invariant-loop-i : goal.invariant-loop-i
invariant-loop-i l = record { small : l.value ≤ l.most; whole : fold grown l.value (drop l.i l.digits) ≡ value_of l.digits }
