-- Lists of lines that may be longer than those of a wire schedule: the lines are those of its grammar, but for their numbers
-- and for how many there may be.
use Rattle.std.specs.Prelude.{ℕ, ◌+◌, ◌≤◌, ◌<◌, ◌^◌, List, [], ◌∷◌, IsTrue, length}
use Rattle.cmd_schedule.specs.Grammar.{may_keep}
use Rattle.cmd_schedule.specs.Schedules.{WireView}
use Rattle.cmd_schedule.specs.WireGrammar.{WireAbove, above_by, are_few, may_run, nothing_above}
use Rattle.cmd_schedule.specs.declared.schedule.Step.TheVariants.{Tick}
use Rattle.cmd_schedule.specs.declared.schedule.WireLine.{WireLine}
use Rattle.cmd_schedule.specs.declared.schedule.WireStep.{WireStep}
use Rattle.cmd_schedule.specs.declared.schedule.WireStep.TheVariants.{Common, Up, Cut}

-- ---- the bounds

-- the most lines of a list
abbrev pub most_lines : ℕ
most_lines = 4294967294

-- the most of them that are counted: those that are neither `cut` nor `up`
abbrev pub most_counted : ℕ
most_counted = 10000000

-- the most milliseconds of all its `tick` lines together: no moment comes behind the last one that has a stamp (XEP-0082)
abbrev pub most_ticked : ℕ
most_ticked = 253402207200000

-- ---- what lines come to

-- one, where the line is counted
abbrev pub counted_of : WireStep → ℕ
counted_of (Up conn count) = 0
counted_of (Cut conn up down) = 0
counted_of _ = 1

-- its milliseconds
abbrev pub ticked_of : WireStep → ℕ
ticked_of (Common (Tick milliseconds)) = milliseconds
ticked_of _ = 0

abbrev pub counted_in : List WireLine → ℕ
counted_in [] = 0
counted_in (line ∷ lines) = counted_of line.step + counted_in lines

abbrev pub ticked_in : List WireLine → ℕ
ticked_in [] = 0
ticked_in (line ∷ lines) = ticked_of line.step + ticked_in lines

-- ---- lists

-- Each line may stand where it stands. Its number has 32 bits; a number may come again, and some may be left out.
abbrev pub AreListed : WireAbove → List WireLine → Type 0
AreListed above [] = Unit {0}
AreListed above (line ∷ lines) =
    (line.number < 2 ^ 32) × IsTrue (may_run above line.step) × IsTrue (are_few above line.step) × AreListed (above_by line.step above) lines

pub record IsLineList (schedule : WireView) : Type 0 where
  pub keeps : IsTrue (may_keep schedule.version)
  pub lines : AreListed nothing_above schedule.lines
  pub few : length schedule.lines ≤ most_lines
  pub counted : counted_in schedule.lines ≤ most_counted
  pub ticked : ticked_in schedule.lines ≤ most_ticked
