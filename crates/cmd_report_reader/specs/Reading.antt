-- What reading a text answers: the report that it is of, or a line at which it is none.
use Rattle.std.specs.Prelude.{ℕ, ◌+◌, Bool, ◌&&◌, not, List, [], ◌∷◌, Option, Some, Result, Ok, Err, codes, if◌then◌else◌}
use Rattle.std.specs.Str.{bytes_eq, is_utf8}
use Rattle.cmd_report.specs.Reports.{ReportView}
use Rattle.cmd_report_reader.specs.LineReading.{read_words}
use Rattle.cmd_report_reader.specs.SoFar.{SoFarView, add_line, nothing_told, whole_report}
use Rattle.cmd_schedule.specs.Reading.{Cut, Piece, cut_of, either, last_field, next_field, number_within, pieces_of, read_mode, wants, ◌>>=◌}
use Rattle.cmd_schedule.specs.declared.fault.LineWhy.{LineWhy}
use Rattle.cmd_schedule.specs.declared.fault.ScheduleFault.{ScheduleFault}
use Rattle.cmd_schedule.specs.declared.fault.ScheduleFault.TheVariants.{BadLine}
use Rattle.cmd_schedule.specs.declared.schedule.TheConstants.{MOST_KEPT}
use Rattle.cmd_schedule.specs.declared.schedule.Version.{Version}
use Rattle.cmd_schedule.specs.declared.schedule.Version.TheVariants.{One, Two}
use Rattle.cmd_schedule.specs.declared.fault.LineWhy.TheVariants as why

-- ---- line 1

-- what follows the version in line 1 of version 1
unfoldable pub read_one : Option (List ℕ) → Result SoFarView LineWhy
read_one fields = do
  mode ← last_field fields
  wire ← read_mode mode
  Ok (nothing_told One wire)

-- and of version 2
unfoldable pub read_two : Option (List ℕ) → Result SoFarView LineWhy
read_two fields = do
  mode ← next_field fields
  field ← last_field mode.rest
  wire ← read_mode mode.front
  keep ← number_within 1 MOST_KEPT field
  Ok (nothing_told (Two keep) wire)

-- by the version
unfoldable pub read_version : Cut → Result SoFarView LineWhy
read_version words =
    if bytes_eq words.front (codes "1") then read_one words.rest
    else (if bytes_eq words.front (codes "2") then read_two words.rest else Err why.Header)

-- what line 1 says
unfoldable pub read_heading : List ℕ → Result SoFarView LineWhy
read_heading line = do
  name ← next_field (Some line)
  named ← wants (bytes_eq name.front (codes "xmpp-report")) why.Header
  version ← next_field name.rest
  read_version version

-- ---- the lines behind it

abbrev pub spelled : Piece → Bool
spelled piece = piece.ended && is_utf8 piece.bytes

unfoldable pub read_first : Piece → Result SoFarView LineWhy
read_first piece = do
  whole ← wants (spelled piece) why.Ending
  read_heading piece.bytes

-- one line more
unfoldable pub read_next : SoFarView → Piece → Result SoFarView LineWhy
read_next so_far piece = do
  whole ← wants (spelled piece) why.Ending
  what_follows ← wants (not so_far.ended) why.Word
  line ← read_words so_far.version (cut_of piece.bytes)
  add_line so_far line

-- a reason, at its line
abbrev pub at_line : {A : Type 0} → ℕ → Result A LineWhy → Result A ScheduleFault
at_line n (Ok x) = Ok x
at_line n (Err reason) = Err (BadLine n reason)

-- the lines from line n on; where they end too early, the next one is missing
abbrev pub read_lines : ℕ → SoFarView → List Piece → Result ReportView ScheduleFault
read_lines n so_far [] = at_line n (whole_report so_far)
read_lines n so_far (piece ∷ pieces) =
    either (λ further. read_lines (n + 1) further pieces) (λ reason. Err (BadLine n reason)) (read_next so_far piece)

abbrev pub read_pieces : List Piece → Result ReportView ScheduleFault
read_pieces [] = Err (BadLine 1 why.Header)
read_pieces (piece ∷ pieces) = either (λ begun. read_lines 2 begun pieces) (λ reason. Err (BadLine 1 reason)) (read_first piece)

-- what reading a text answers, where memory doesn't run out
unfoldable pub report_reading : List ℕ → Result ReportView ScheduleFault
report_reading text = read_pieces (pieces_of text)
