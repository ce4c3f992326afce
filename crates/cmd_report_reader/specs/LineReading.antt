-- What a line of a report says, or the first reason against it.
use Rattle.std.specs.Prelude.{ℕ, Bool, true, false, List, [], Option, Some, None, Result, Ok, Err, codes, if◌then◌else◌}
use Rattle.std.specs.Str.{bytes_eq}
use Rattle.cmd_report.specs.EntryLines.{EntryLineView}
use Rattle.cmd_report.specs.Reports.{AccountView, DeviceView}
use Rattle.cmd_report.specs.declared.report.ConnEnd.{ConnEnd}
use Rattle.cmd_report.specs.declared.report.ConnEnd.TheVariants.{Cut as CutOff, Left, Shut, Open}
use Rattle.cmd_report.specs.declared.report.ConnLine.{ConnLine}
use Rattle.cmd_report.specs.declared.report.HeldLine.{HeldLine}
use Rattle.cmd_report.specs.declared.report.PageLine.{PageLine}
use Rattle.cmd_report.specs.declared.report.RefusedLine.{RefusedLine}
use Rattle.cmd_report.specs.declared.report.RefusedWhy.{RefusedWhy}
use Rattle.cmd_report.specs.declared.report.RefusedWhy.TheVariants.{NotBound, OutboxFull, Underway as IsUnderway}
use Rattle.cmd_report.specs.declared.report.SaidLine.{SaidLine}
use Rattle.cmd_report.specs.declared.report.SaidMark.{SaidMark}
use Rattle.cmd_report.specs.declared.report.SaidMark.TheVariants.{Acknowledged, Waiting, Undecided}
use Rattle.cmd_report.specs.declared.report.TakeLine.{TakeLine}
use Rattle.cmd_report.specs.declared.report.UnderwayLine.{UnderwayLine}
use Rattle.cmd_report_reader.specs.declared.line.DevicePart.{DevicePart}
use Rattle.cmd_report_reader.specs.declared.line.DevicePart.TheVariants.{Said, Refused, Page, Underway, Logged, Held}
use Rattle.cmd_report_reader.specs.declared.line.ReportLine.{ReportLine}
use Rattle.cmd_report_reader.specs.declared.line.ReportLine.TheVariants.{Take, Account, Entry, Conn, Device, Part, Break, End}
use Rattle.cmd_report_reader.specs.declared.line_reading.Pipes.{Pipes}
use Rattle.cmd_schedule.specs.Reading.{Cut, last_field, next_field, number_within, rest_field, wants, ◌>>=◌}
use Rattle.cmd_schedule.specs.declared.fault.LineWhy.{LineWhy}
use Rattle.cmd_schedule.specs.declared.schedule.Version.{Version}
use Rattle.cmd_schedule.specs.declared.schedule.Version.TheVariants.{One, Two}
use Rattle.cmd_schedule.specs.declared.fault.LineWhy.TheVariants as why

-- a number below 2^64
abbrev pub number_in : List ℕ → Result ℕ LineWhy
number_in field = number_within 0 18446744073709551615 field

-- ---- lines that stand by themselves

-- the account of a take, and the moment that version 2 tells
unfoldable pub read_told : Version → Option (List ℕ) → Result (List ℕ × Option ℕ) LineWhy
read_told One fields = do
  account ← last_field fields
  Ok (account, None)
read_told (Two keep) fields = do
  account ← next_field fields
  field ← last_field account.rest
  moment ← number_in field
  Ok (account.front, Some moment)

unfoldable pub read_take : Version → Option (List ℕ) → Result TakeLine LineWhy
read_take version fields = do
  device ← next_field fields
  first ← next_field device.rest
  second ← next_field first.rest
  told ← read_told version second.rest
  epoch ← number_in first.front
  n ← number_in second.front
  Ok (record { device = device.front; epoch = epoch; n = n; account = told.0; moment = told.1 })

-- how many entries an account keeps, and the greatest number that it gave
unfoldable pub read_counts : Version → Option (List ℕ) → Result (ℕ × ℕ) LineWhy
read_counts One fields = do
  field ← last_field fields
  count ← number_in field
  Ok (count, count)
read_counts (Two keep) fields = do
  first ← next_field fields
  second ← last_field first.rest
  count ← number_in first.front
  last ← number_in second
  Ok (count, last)

unfoldable pub read_account : Version → Option (List ℕ) → Result AccountView LineWhy
read_account version fields = do
  name ← next_field fields
  counts ← read_counts version name.rest
  Ok (record { name = name.front; count = counts.0; last = counts.1; entries = [] })

-- the fields of an entry, in an archive and in a log alike
unfoldable pub read_entry : Option (List ℕ) → Result EntryLineView LineWhy
read_entry fields = do
  id ← next_field fields
  field ← next_field id.rest
  from ← next_field field.rest
  to ← next_field from.rest
  origin ← next_field to.rest
  text ← rest_field origin.rest
  stamp ← number_in field.front
  Ok (record { id = id.front; stamp = stamp; from = from.front; to = to.front; origin = origin.front; text = text })

unfoldable pub read_conn_end : List ℕ → Result ConnEnd LineWhy
read_conn_end word =
    if bytes_eq word (codes "cut") then Ok CutOff
    else (if bytes_eq word (codes "left") then Ok Left
    else (if bytes_eq word (codes "shut") then Ok Shut
    else (if bytes_eq word (codes "open") then Ok Open else Err why.Word)))

-- how many bytes entered and left each pipe of a connection, and its end
unfoldable pub read_pipes : Option (List ℕ) → Result Pipes LineWhy
read_pipes fields = do
  first ← next_field fields
  second ← next_field first.rest
  third ← next_field second.rest
  fourth ← next_field third.rest
  last ← last_field fourth.rest
  upput ← number_in first.front
  uptaken ← number_in second.front
  downput ← number_in third.front
  downtaken ← number_in fourth.front
  ended ← read_conn_end last
  Ok (record { upput = upput; uptaken = uptaken; downput = downput; downtaken = downtaken; end = ended })

unfoldable pub read_conn : Option (List ℕ) → Result ConnLine LineWhy
read_conn fields = do
  field ← next_field fields
  device ← next_field field.rest
  pipes ← read_pipes device.rest
  k ← number_in field.front
  Ok (record {
    k = k;
    device = device.front;
    upput = pipes.upput;
    uptaken = pipes.uptaken;
    downput = pipes.downput;
    downtaken = pipes.downtaken;
    end = pipes.end;
  })

unfoldable pub read_settled : List ℕ → Result Bool LineWhy
read_settled word =
    if bytes_eq word (codes "yes") then Ok true
    else (if bytes_eq word (codes "no") then Ok false else Err why.Word)

unfoldable pub read_device : Option (List ℕ) → Result DeviceView LineWhy
read_device fields = do
  name ← next_field fields
  account ← next_field name.rest
  first ← next_field account.rest
  second ← last_field first.rest
  epoch ← number_in first.front
  settled ← read_settled second
  Ok (record {
    name = name.front;
    account = account.front;
    epoch = epoch;
    settled = settled;
    said = [];
    refused = [];
    pages = [];
    underway = [];
    logged = [];
    held = [];
  })

-- ---- lines of a device

unfoldable pub read_mark : List ℕ → Result SaidMark LineWhy
read_mark word =
    if bytes_eq word (codes "acknowledged") then Ok Acknowledged
    else (if bytes_eq word (codes "waiting") then Ok Waiting
    else (if bytes_eq word (codes "undecided") then Ok Undecided else Err why.Word))

unfoldable pub read_said : Option (List ℕ) → Result SaidLine LineWhy
read_said fields = do
  first ← next_field fields
  second ← next_field first.rest
  third ← next_field second.rest
  to ← next_field third.rest
  text ← rest_field to.rest
  epoch ← number_in first.front
  n ← number_in second.front
  state ← read_mark third.front
  Ok (record { epoch = epoch; n = n; state = state; to = to.front; text = text })

unfoldable pub read_refused_why : List ℕ → Result RefusedWhy LineWhy
read_refused_why word =
    if bytes_eq word (codes "NotBound") then Ok NotBound
    else (if bytes_eq word (codes "OutboxFull") then Ok OutboxFull
    else (if bytes_eq word (codes "Underway") then Ok IsUnderway else Err why.Word))

unfoldable pub read_refused : Option (List ℕ) → Result RefusedLine LineWhy
read_refused fields = do
  first ← next_field fields
  second ← last_field first.rest
  line ← number_in first.front
  reason ← read_refused_why second
  Ok (record { line = line; why = reason })

-- the id behind which a page was asked for
abbrev pub read_after : List ℕ → Option (List ℕ)
read_after word = if bytes_eq word (codes "-") then None else Some word

-- the word that a page is not complete, and nothing behind it
abbrev pub says_more : Option (List ℕ) → Bool
says_more None = false
says_more (Some bytes) = bytes_eq bytes (codes "more")

-- of a page that is complete, how many entries the archive had
unfoldable pub read_complete : Option (List ℕ) → Result (Option ℕ) LineWhy
read_complete fields = do
  mark ← next_field fields
  field ← last_field mark.rest
  marked ← wants (bytes_eq mark.front (codes "complete")) why.Word
  total ← number_in field
  Ok (Some total)

unfoldable pub read_total : Option (List ℕ) → Result (Option ℕ) LineWhy
read_total fields = if says_more fields then Ok None else read_complete fields

unfoldable pub read_page : Option (List ℕ) → Result PageLine LineWhy
read_page fields = do
  after ← next_field fields
  field ← next_field after.rest
  total ← read_total field.rest
  count ← number_in field.front
  Ok (record { after = read_after after.front; count = count; total = total })

unfoldable pub read_underway : Option (List ℕ) → Result UnderwayLine LineWhy
read_underway fields = do
  queryid ← next_field fields
  field ← last_field queryid.rest
  got ← number_in field
  Ok (record { queryid = queryid.front; got = got })

unfoldable pub read_held : Option (List ℕ) → Result HeldLine LineWhy
read_held fields = do
  id ← last_field fields
  Ok (record { id = id })

-- by the first word
unfoldable pub read_part : Cut → Result DevicePart LineWhy
read_part words =
    if bytes_eq words.front (codes "said") then (read_said words.rest >>= λ line. Ok (Said line))
    else (if bytes_eq words.front (codes "refused") then (read_refused words.rest >>= λ line. Ok (Refused line))
    else (if bytes_eq words.front (codes "page") then (read_page words.rest >>= λ line. Ok (Page line))
    else (if bytes_eq words.front (codes "underway") then (read_underway words.rest >>= λ line. Ok (Underway line))
    else (if bytes_eq words.front (codes "logged") then (read_entry words.rest >>= λ line. Ok (Logged line))
    else (if bytes_eq words.front (codes "held") then (read_held words.rest >>= λ line. Ok (Held line))
    else Err why.Word)))))

-- ---- all lines

-- a line that has its first word alone
unfoldable pub read_bare : Option (List ℕ) → ReportLine → Result ReportLine LineWhy
read_bare None line = Ok line
read_bare (Some fields) line = Err why.Shape

-- by the first word
unfoldable pub read_words : Version → Cut → Result ReportLine LineWhy
read_words version words =
    if bytes_eq words.front (codes "take") then (read_take version words.rest >>= λ line. Ok (Take line))
    else (if bytes_eq words.front (codes "account") then (read_account version words.rest >>= λ line. Ok (Account line))
    else (if bytes_eq words.front (codes "entry") then (read_entry words.rest >>= λ line. Ok (Entry line))
    else (if bytes_eq words.front (codes "conn") then (read_conn words.rest >>= λ line. Ok (Conn line))
    else (if bytes_eq words.front (codes "device") then (read_device words.rest >>= λ line. Ok (Device line))
    else (if bytes_eq words.front (codes "break") then read_bare words.rest Break
    else (if bytes_eq words.front (codes "end") then read_bare words.rest End
    else (read_part words >>= λ part. Ok (Part part))))))))
