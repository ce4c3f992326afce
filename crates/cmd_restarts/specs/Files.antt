-- A file of restarts, and its reading: the text is a schedule's but for line 1 and the lines `restart`.
use Rattle.std.specs.Prelude.{ℕ, ◌+◌, Bool, ◌&&◌, List, [], ◌∷◌, ◌++◌, Option, Some, None, Result, Ok, Err, codes, if◌then◌else◌}
use Rattle.std.specs.Str.{bytes_eq}
use Rattle.cmd_rewriting.specs.Headings.{ending_of, heading_as_schedule, wire_of}
use Rattle.cmd_schedule.specs.Reading.{Piece, pieces_of}
use Rattle.cmd_schedule.specs.Schedules.{WireView}
use Rattle.cmd_schedule.specs.WireReading.{reading}
use Rattle.cmd_schedule.specs.declared.fault.LineWhy.TheVariants as why
use Rattle.cmd_schedule.specs.declared.fault.ScheduleFault.{ScheduleFault}
use Rattle.cmd_schedule.specs.declared.fault.ScheduleFault.TheVariants.{BadLine}

-- the schedule that a file is, and the numbers of its restart lines, ascending
pub record FileView : Type 0 where
  pub schedule : WireView
  pub restarts : List ℕ

-- ---- one line

-- the line is the word alone, and an LF ends it
abbrev pub is_restart : Piece → Bool
is_restart p = p.ended && bytes_eq p.bytes (codes "restart")

-- the line as a schedule has it: so much time passes at a restart
abbrev pub line_as_schedule : Piece → List ℕ
line_as_schedule p = (if is_restart p then codes "tick 300000" else p.bytes) ++ ending_of p.ended

-- ---- lines

abbrev pub text_as_schedule : List Piece → List ℕ
text_as_schedule [] = []
text_as_schedule (p ∷ ps) = line_as_schedule p ++ text_as_schedule ps

abbrev pub number_if : Bool → ℕ → List ℕ
number_if is n = if is then n ∷ [] else []

-- the numbers of the restart lines, of which the first line has number n
abbrev pub numbers_of : ℕ → List Piece → List ℕ
numbers_of n [] = []
numbers_of n (p ∷ ps) = number_if (is_restart p) n ++ numbers_of (n + 1) ps

-- ---- a text

abbrev pub file_of : List Piece → Result WireView ScheduleFault → Result FileView ScheduleFault
file_of pieces (Err fault) = Err fault
file_of pieces (Ok schedule) = Ok (record { schedule = schedule; restarts = numbers_of 2 pieces })

abbrev pub read_below : Option (List ℕ) → Bool → List Piece → Result FileView ScheduleFault
read_below None ended pieces = Err (BadLine 1 why.Header)
read_below (Some heading) ended pieces = file_of pieces (wire_of (reading (heading ++ ending_of ended ++ text_as_schedule pieces)))

abbrev pub read_pieces : List Piece → Result FileView ScheduleFault
read_pieces [] = Err (BadLine 1 why.Header)
read_pieces (p ∷ ps) = read_below (heading_as_schedule (codes "xmpp-restarts") p.bytes) p.ended ps

-- What reading a text answers, where memory doesn't run out: the schedule that it is, with the numbers of its restart lines,
-- or the first bad line of that schedule with its first reason.
unfoldable pub reading_restarts : List ℕ → Result FileView ScheduleFault
reading_restarts text = read_pieces (pieces_of text)
