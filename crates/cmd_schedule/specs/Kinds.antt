-- Schedules of both kinds.
use Rattle.std.specs.Prelude.{◌≡◌, ℕ, List}
use Rattle.cmd_schedule.specs.Grammar.{IsDirectSchedule, direct_text}
use Rattle.cmd_schedule.specs.WireGrammar.{IsWireSchedule, wire_text}
use Rattle.cmd_schedule.specs.declared.schedule.Schedule.{Schedule}
use Rattle.cmd_schedule.specs.declared.schedule.Schedule.TheVariants.{Direct, Wire}

abbrev pub IsSchedule : Schedule → Type 0
IsSchedule (Direct schedule) = IsDirectSchedule schedule
IsSchedule (Wire schedule) = IsWireSchedule schedule

-- the text of a schedule
abbrev pub schedule_text : Schedule → List ℕ
schedule_text (Direct schedule) = direct_text schedule
schedule_text (Wire schedule) = wire_text schedule

-- the input is the text of some schedule
abbrev pub InGrammar : List ℕ → Type 0
InGrammar input = (schedule : Schedule) × IsSchedule schedule × (input ≡ schedule_text schedule)
