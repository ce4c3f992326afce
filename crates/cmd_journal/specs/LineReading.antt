-- What reading one line of an accounts file or a journal answers: what it says, or its first reason.
use Rattle.std.specs.Prelude.{ℕ, nat_lt, nat_le, Bool, ◌&&◌, ◌||◌, not, List, Option, Some, None, Result, Ok, Err, codes, if◌then◌else◌}
use Rattle.std.specs.List.{list_all}
use Rattle.std.specs.Str.{bytes_eq, is_utf8}
use Rattle.hex.specs.Hex.{decode_of, decode_sized}
use Rattle.hex.specs.declared.error.FromHexError.{FromHexError}
use Rattle.base_io.specs.Names.{is_among}
use Rattle.cmd_journal.specs.AccountsFiles.{is_account_name, is_domain, is_password}
use Rattle.cmd_journal.specs.Journals.{EventView, Connect, Piece, Gone, ends_events, journal_header}
use Rattle.cmd_journal.specs.declared.accounts_file.Registration.{Registration}
use Rattle.cmd_journal.specs.declared.event.TheConstants.{LAST_CONNECTION}
use Rattle.cmd_schedule.specs.Reading.{Cut, cut_of, last_field, next_field, number_within, wants, ◌>>=◌}
use Rattle.cmd_schedule.specs.declared.fault.LineWhy.{LineWhy}
use Rattle.cmd_schedule.specs.declared.schedule.TheConstants.{MOST_KEPT}
use Rattle.cmd_schedule.specs.declared.schedule.Version.{Version}
use Rattle.im_stamp.specs.declared.stamp_writing.TheConstants.{LAST_MOMENT}
use Rattle.cmd_schedule.specs.Reading as lines
use Rattle.cmd_schedule.specs.declared.fault.LineWhy.TheVariants as why

-- what follows the first word of a line, which must be this word
unfoldable pub fields_after : List ℕ → lines.Piece → Result (Option (List ℕ)) LineWhy
fields_after word piece = do
  ended ← wants (piece.ended && is_utf8 piece.bytes) why.Ending
  named ← wants (bytes_eq (cut_of piece.bytes).front word) why.Word
  Ok (cut_of piece.bytes).rest

-- ---- an accounts file

-- whether line 1 is that of version 2, which has a `keep` line: right as it stands, it must be ended
unfoldable pub read_first : lines.Piece → Result Bool LineWhy
read_first piece = do
  known ← wants (bytes_eq piece.bytes (codes "xmpp-accounts 1") || bytes_eq piece.bytes (codes "xmpp-accounts 2")) why.Header
  whole ← wants piece.ended why.Ending
  Ok (bytes_eq piece.bytes (codes "xmpp-accounts 2"))

unfoldable pub read_domain : lines.Piece → Result (List ℕ) LineWhy
read_domain piece = do
  fields ← fields_after (codes "domain") piece
  name ← last_field fields
  normal ← wants (is_domain name) why.Name
  Ok name

unfoldable pub read_keep : lines.Piece → Result ℕ LineWhy
read_keep piece = do
  fields ← fields_after (codes "keep") piece
  field ← last_field fields
  number_within 1 MOST_KEPT field

-- an account, behind those with these names
unfoldable pub read_registration : List (List ℕ) → lines.Piece → Result Registration LineWhy
read_registration above piece = do
  fields ← fields_after (codes "account") piece
  name ← next_field fields
  password ← last_field name.rest
  normal ← wants (is_account_name name.front) why.Name
  once ← wants (not (is_among name.front above)) why.Twice
  spelled ← wants (is_password password) why.Text
  Ok (record { name = name.front; password = password })

-- ---- a journal

-- the first line of a journal of this version: right as it stands, it must be ended
unfoldable pub read_journal_header : Version → lines.Piece → Result Bool LineWhy
read_journal_header version piece = do
  known ← wants (bytes_eq piece.bytes (journal_header version)) why.Header
  wants piece.ended why.Ending

-- a hexadecimal digit in lower case
abbrev pub is_digit : ℕ → Bool
is_digit c = (nat_le 48 c && nat_le c 57) || (nat_le 97 c && nat_le c 102)

abbrev pub decoded : Result (List ℕ) FromHexError → Result (List ℕ) LineWhy
decoded (Ok bytes) = Ok bytes
decoded (Err e) = Err why.Text

-- the bytes that pairs of digits in lower case spell
unfoldable pub bytes_in : List ℕ → Result (List ℕ) LineWhy
bytes_in field = do
  lower ← wants (list_all is_digit field) why.Text
  decoded (decode_of field)

-- the same of 24 bytes
unfoldable pub entropy_in : List ℕ → Result (List ℕ) LineWhy
entropy_in field = do
  lower ← wants (list_all is_digit field) why.Text
  decoded (decode_sized field 24)

abbrev pub connection_in : List ℕ → Result ℕ LineWhy
connection_in field = number_within 1 LAST_CONNECTION field

abbrev pub moment_in : List ℕ → Result ℕ LineWhy
moment_in field = number_within 0 LAST_MOMENT field

unfoldable pub read_connect : ℕ → Option (List ℕ) → Result EventView LineWhy
read_connect last fields = do
  number ← next_field fields
  time ← next_field number.rest
  field ← last_field time.rest
  connection ← connection_in number.front
  later ← wants (nat_lt last connection) why.Twice
  moment ← moment_in time.front
  entropy ← entropy_in field
  Ok (Connect connection moment entropy)

unfoldable pub read_piece : Option (List ℕ) → Result EventView LineWhy
read_piece fields = do
  number ← next_field fields
  time ← next_field number.rest
  field ← last_field time.rest
  connection ← connection_in number.front
  moment ← moment_in time.front
  bytes ← bytes_in field
  Ok (Piece connection moment bytes)

unfoldable pub read_gone : Option (List ℕ) → Result EventView LineWhy
read_gone fields = do
  number ← next_field fields
  time ← last_field number.rest
  connection ← connection_in number.front
  moment ← moment_in time
  Ok (Gone connection moment)

-- an event, by the first word
unfoldable pub read_words : ℕ → Cut → Result EventView LineWhy
read_words last words =
    if bytes_eq words.front (codes "connect") then read_connect last words.rest
    else (if bytes_eq words.front (codes "piece") then read_piece words.rest
    else (if bytes_eq words.front (codes "gone") then read_gone words.rest
    else Err why.Word))

abbrev pub as_some : Result EventView LineWhy → Result (Option EventView) LineWhy
as_some (Ok event) = Ok (Some event)
as_some (Err reason) = Err reason

-- what a line behind the journal's first says; nothing, where it is behind the events
unfoldable pub read_event : ℕ → lines.Piece → Result (Option EventView) LineWhy
read_event last piece = do
  ended ← wants (piece.ended && is_utf8 piece.bytes) why.Ending
  if ends_events (cut_of piece.bytes).front then Ok None else as_some (read_words last (cut_of piece.bytes))
