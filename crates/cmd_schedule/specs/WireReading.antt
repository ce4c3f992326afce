-- What reading a text answers: its schedule, or the first bad line with its first reason.
use Rattle.std.specs.Prelude.{ℕ, ◌+◌, nat_lt, nat_le, Bool, true, false, ◌&&◌, List, [], ◌∷◌, Option, Result, Ok, Err, codes, if◌then◌else◌}
use Rattle.std.specs.Str.{bytes_eq, is_utf8}
use Rattle.base_io.specs.Names.{is_among}
use Rattle.cmd_schedule.specs.Grammar.{nothing_declared}
use Rattle.cmd_schedule.specs.Reading.{Cut, Piece, cut_of, either, last_field, next_field, number_within, pieces_of, read_header, read_lines, read_words, wants, ◌>>=◌}
use Rattle.cmd_schedule.specs.WireGrammar.{WireAbove, above_by, nothing_above}
use Rattle.cmd_schedule.specs.declared.fault.LineWhy.{LineWhy}
use Rattle.cmd_schedule.specs.declared.fault.ScheduleFault.{ScheduleFault}
use Rattle.cmd_schedule.specs.declared.fault.ScheduleFault.TheVariants.{BadLine}
use Rattle.cmd_schedule.specs.declared.heading.Heading.{Heading}
use Rattle.cmd_schedule.specs.declared.schedule.Count.{Count}
use Rattle.cmd_schedule.specs.declared.schedule.Count.TheVariants.{Number, All}
use Rattle.cmd_schedule.specs.declared.schedule.Line.{Line}
use Rattle.cmd_schedule.specs.declared.schedule.Schedule.{Schedule}
use Rattle.cmd_schedule.specs.declared.schedule.Schedule.TheVariants.{Direct, Wire}
use Rattle.cmd_schedule.specs.declared.schedule.TheConstants.{MOST_DIALS, MOST_NUMBER, MOST_TIMES, MOST_TIMES_TOGETHER}
use Rattle.cmd_schedule.specs.declared.schedule.Version.{Version}
use Rattle.cmd_schedule.specs.declared.schedule.WireLine.{WireLine}
use Rattle.cmd_schedule.specs.declared.schedule.WireStep.{WireStep}
use Rattle.cmd_schedule.specs.declared.schedule.WireStep.TheVariants.{Common, Dial, Forget, Close, Up, Down, Cut as CutOff, Pass, Run}
use Rattle.cmd_schedule.specs.declared.fault.LineWhy.TheVariants as why

-- the only field, which names a device that is declared above
unfoldable pub read_device_name : WireAbove → Option (List ℕ) → Result (List ℕ) LineWhy
read_device_name above fields = do
  device ← last_field fields
  known ← wants (is_among device above.names.devices) why.Unknown
  Ok device

unfoldable pub read_dial : WireAbove → Option (List ℕ) → Result WireStep LineWhy
read_dial above fields = do
  many ← wants (nat_lt above.dials MOST_DIALS) why.Many
  device ← read_device_name above fields
  Ok (Dial device)

unfoldable pub read_forget : WireAbove → Option (List ℕ) → Result WireStep LineWhy
read_forget above fields = do
  device ← read_device_name above fields
  Ok (Forget device)

unfoldable pub read_close : WireAbove → Option (List ℕ) → Result WireStep LineWhy
read_close above fields = do
  device ← read_device_name above fields
  Ok (Close device)

-- whatever is wrong with a connection's number, no such connection was made
abbrev pub or_unknown : Result ℕ LineWhy → Result ℕ LineWhy
or_unknown (Ok n) = Ok n
or_unknown (Err reason) = Err why.Unknown

-- the number of one of so many connections
abbrev pub conn_of : ℕ → List ℕ → Result ℕ LineWhy
conn_of dials field = or_unknown (number_within 1 dials field)

abbrev pub as_count : Result ℕ LineWhy → Result Count LineWhy
as_count (Ok n) = Ok (Number n)
as_count (Err reason) = Err reason

abbrev pub count_of : List ℕ → Result Count LineWhy
count_of field = if bytes_eq field (codes "all") then Ok All else as_count (number_within 0 MOST_NUMBER field)

-- a connection, and how many bytes are moved
unfoldable pub read_moved : WireAbove → Option (List ℕ) → Result (ℕ × Count) LineWhy
read_moved above fields = do
  conn ← next_field fields
  field ← last_field conn.rest
  k ← conn_of above.dials conn.front
  count ← count_of field
  Ok (k, count)

unfoldable pub read_up : WireAbove → Option (List ℕ) → Result WireStep LineWhy
read_up above fields = do
  moved ← read_moved above fields
  Ok (Up moved.0 moved.1)

unfoldable pub read_down : WireAbove → Option (List ℕ) → Result WireStep LineWhy
read_down above fields = do
  moved ← read_moved above fields
  Ok (Down moved.0 moved.1)

unfoldable pub read_cut : WireAbove → Option (List ℕ) → Result WireStep LineWhy
read_cut above fields = do
  conn ← next_field fields
  first ← next_field conn.rest
  second ← last_field first.rest
  k ← conn_of above.dials conn.front
  up ← number_within 0 MOST_NUMBER first.front
  down ← number_within 0 MOST_NUMBER second
  Ok (CutOff k up down)

-- times that are a number are no more than the bound, with those above
abbrev pub fit_with : ℕ → Result ℕ LineWhy → Bool
fit_with before (Ok times) = nat_le (before + times) MOST_TIMES_TOGETHER
fit_with before (Err reason) = true

abbrev pub times_of : List ℕ → Result ℕ LineWhy
times_of field = number_within 1 MOST_TIMES field

unfoldable pub read_pass : WireAbove → Option (List ℕ) → Result WireStep LineWhy
read_pass above fields = do
  conn ← next_field fields
  field ← last_field conn.rest
  many ← wants (fit_with above.times (times_of field)) why.Many
  k ← conn_of above.dials conn.front
  times ← times_of field
  Ok (Pass k times)

unfoldable pub read_run : WireAbove → Option (List ℕ) → Result WireStep LineWhy
read_run above fields = do
  field ← last_field fields
  many ← wants (fit_with above.times (times_of field)) why.Many
  times ← times_of field
  Ok (Run times)

-- a line that direct schedules have too
unfoldable pub read_common : WireAbove → Cut → Result WireStep LineWhy
read_common above words = do
  step ← read_words above.names words
  Ok (Common step)

-- by the first word, where it is one that moves bytes
unfoldable pub read_moves : WireAbove → Cut → Result WireStep LineWhy
read_moves above words =
    if bytes_eq words.front (codes "up") then read_up above words.rest
    else (if bytes_eq words.front (codes "down") then read_down above words.rest
    else (if bytes_eq words.front (codes "cut") then read_cut above words.rest
    else (if bytes_eq words.front (codes "pass") then read_pass above words.rest
    else (if bytes_eq words.front (codes "run") then read_run above words.rest
    else read_common above words))))

-- by the first word
unfoldable pub read_wire_words : WireAbove → Cut → Result WireStep LineWhy
read_wire_words above words =
    if bytes_eq words.front (codes "dial") then read_dial above words.rest
    else (if bytes_eq words.front (codes "forget") then read_forget above words.rest
    else (if bytes_eq words.front (codes "close") then read_close above words.rest
    else read_moves above words))

-- line n, below what stands above
unfoldable pub read_wire_line : WireAbove → ℕ → Piece → Result WireStep LineWhy
read_wire_line above n piece = do
  ended ← wants (piece.ended && is_utf8 piece.bytes) why.Ending
  few ← wants (nat_le n 100000) why.Many
  read_wire_words above (cut_of piece.bytes)

abbrev pub with_wire_front : WireLine → Result (List WireLine) ScheduleFault → Result (List WireLine) ScheduleFault
with_wire_front line (Ok lines) = Ok (line ∷ lines)
with_wire_front line (Err e) = Err e

-- the lines from line n on
abbrev pub read_wire_lines : WireAbove → ℕ → List Piece → Result (List WireLine) ScheduleFault
read_wire_lines above n [] = Ok []
read_wire_lines above n (piece ∷ pieces) =
    either
    (λ step. with_wire_front (record { number = n; step = step }) (read_wire_lines (above_by step above) (n + 1) pieces))
    (λ reason. Err (BadLine n reason))
    (read_wire_line above n piece)

abbrev pub as_direct : Version → Result (List Line) ScheduleFault → Result Schedule ScheduleFault
as_direct version (Ok lines) = Ok (Direct (record { version = version; wire = false; lines = lines }))
as_direct version (Err e) = Err e

abbrev pub as_wire : Version → Result (List WireLine) ScheduleFault → Result Schedule ScheduleFault
as_wire version (Ok lines) = Ok (Wire (record { version = version; lines = lines }))
as_wire version (Err e) = Err e

abbrev pub read_kind : Version → Bool → List Piece → Result Schedule ScheduleFault
read_kind version false pieces = as_direct version (read_lines nothing_declared 2 pieces)
read_kind version true pieces = as_wire version (read_wire_lines nothing_above 2 pieces)

abbrev pub read_below : Result (Heading × List Piece) LineWhy → Result Schedule ScheduleFault
read_below (Err reason) = Err (BadLine 1 reason)
read_below (Ok begun) = read_kind begun.0.version begun.0.wire begun.1

-- what reading a text answers, where memory doesn't run out
unfoldable pub reading : List ℕ → Result Schedule ScheduleFault
reading text = read_below (read_header (pieces_of text))
