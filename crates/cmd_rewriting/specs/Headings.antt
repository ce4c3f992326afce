-- Lines of a file, written as a schedule has them, and the schedule that is read of what was written.
use Rattle.std.specs.Prelude.{ℕ, Bool, List, [], ◌∷◌, ◌++◌, Option, Some, None, Result, Ok, Err, codes, if◌then◌else◌}
use Rattle.std.specs.Str.{bytes_eq, is_utf8}
use Rattle.cmd_schedule.specs.Reading.{Cut, cut_of}
use Rattle.cmd_schedule.specs.Schedules.{WireView}
use Rattle.cmd_schedule.specs.declared.fault.LineWhy.TheVariants as why
use Rattle.cmd_schedule.specs.declared.fault.ScheduleFault.{ScheduleFault}
use Rattle.cmd_schedule.specs.declared.fault.ScheduleFault.TheVariants.{BadLine}
use Rattle.cmd_schedule.specs.declared.schedule.Schedule.{Schedule}
use Rattle.cmd_schedule.specs.declared.schedule.Schedule.TheVariants.{Direct, Wire}

abbrev pub ending_of : Bool → List ℕ
ending_of ended = if ended then 10 ∷ [] else []

-- a word, and what follows the space after it, where there is one
abbrev pub with_rest : List ℕ → Option (List ℕ) → List ℕ
with_rest word None = word
with_rest word (Some rest) = word ++ 32 ∷ rest

-- ---- line 1

-- what stands after `NAME 1` in line 1 stands after `xmpp-schedule 2 wire`
abbrev pub heading_by : Cut → Option (List ℕ)
heading_by words = if bytes_eq words.front (codes "1") then Some (with_rest (codes "xmpp-schedule 2 wire") words.rest) else None

abbrev pub heading_where : Option (List ℕ) → Option (List ℕ)
heading_where None = None
heading_where (Some rest) = heading_by (cut_of rest)

abbrev pub heading_of : List ℕ → Cut → Option (List ℕ)
heading_of name words = if bytes_eq words.front name then heading_where words.rest else None

-- line 1 of a file with this name, as a schedule has it. There is none where it isn't such a file's
abbrev pub heading_as_schedule : List ℕ → List ℕ → Option (List ℕ)
heading_as_schedule name line = if is_utf8 line then heading_of name (cut_of line) else None

-- ---- the schedule

-- a direct schedule's line 1 is no wire schedule's
abbrev pub wire_of : Result Schedule ScheduleFault → Result WireView ScheduleFault
wire_of (Err fault) = Err fault
wire_of (Ok (Direct schedule)) = Err (BadLine 1 why.Header)
wire_of (Ok (Wire schedule)) = Ok schedule
