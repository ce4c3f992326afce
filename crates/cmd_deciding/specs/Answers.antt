-- What a run of the text of a file of intents answers.
use Rattle.std.specs.Prelude.{ℕ, List, Result, Ok, Err}
use Rattle.cmd_intents.specs.Files.{FileView, reading_intents}
use Rattle.cmd_schedule.specs.declared.fault.ScheduleFault.{ScheduleFault}
use Rattle.cmd_resolving.specs.Expansion.{watched_end}
use Rattle.cmd_deciding.specs.Texts.{text_of_intents}

abbrev pub answer_by : Result FileView ScheduleFault → Result (List ℕ) ScheduleFault
answer_by (Err fault) = Err fault
answer_by (Ok f) = Ok (text_of_intents (watched_end f))

-- the text of what the file comes to; or the fault that reading it has
abbrev pub answer_of : List ℕ → Result (List ℕ) ScheduleFault
answer_of text = answer_by (reading_intents text)
