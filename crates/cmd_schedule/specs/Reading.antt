-- What reading line 1 and the lines of a direct schedule answers, or the first reason against them.
use Rattle.std.specs.Prelude.{ℕ, ◌+◌, ◌*◌, ◌-◌, ◌==◌, nat_lt, nat_le, Bool, true, false, ◌&&◌, not, List, [], ◌∷◌, Option, Some, None, Result, Ok, Err, length, fold, codes, if◌then◌else◌}
use Rattle.std.specs.List.{list_all}
use Rattle.std.specs.Str.{bytes_eq, is_utf8}
use Rattle.cmd_schedule.specs.Grammar.{is_digit, is_name, is_text, Declared, declared_by}
use Rattle.base_io.specs.Names.{is_among}
use Rattle.cmd_schedule.specs.declared.schedule.Line.{Line}
use Rattle.cmd_schedule.specs.declared.fault.LineWhy.{LineWhy}
use Rattle.cmd_schedule.specs.declared.fault.ScheduleFault.{ScheduleFault}
use Rattle.cmd_schedule.specs.declared.fault.ScheduleFault.TheVariants.{BadLine}
use Rattle.cmd_schedule.specs.declared.heading.Heading.{Heading}
use Rattle.cmd_schedule.specs.declared.schedule.Step.{Step}
use Rattle.cmd_schedule.specs.declared.schedule.Step.TheVariants.{Account, Device, Say, Private, Catchup, Tick}
use Rattle.cmd_schedule.specs.declared.schedule.TheConstants.{MOST_KEPT, MOST_TICK}
use Rattle.cmd_schedule.specs.declared.schedule.Version.TheVariants.{One, Two}
use Rattle.cmd_schedule.specs.declared.fault.LineWhy.TheVariants as why

-- a line, and whether an LF ends it
pub record Piece : Type 0 where
  pub bytes : List ℕ
  pub ended : Bool

abbrev pub joined : ℕ → List Piece → List Piece
joined b [] = record { bytes = b ∷ []; ended = false } ∷ []
joined b (piece ∷ pieces) = record piece { bytes = b ∷ piece.bytes } ∷ pieces

-- the lines of a text; nothing behind the last LF is no line
abbrev pub pieces_of : List ℕ → List Piece
pieces_of [] = []
pieces_of (b ∷ bs) = if b == 10 then record { bytes = []; ended = true } ∷ pieces_of bs else joined b (pieces_of bs)

-- what precedes the first space, and what follows it where there is one
pub record Cut : Type 0 where
  pub front : List ℕ
  pub rest : Option (List ℕ)

abbrev pub longer : ℕ → Cut → Cut
longer b cut = record cut { front = b ∷ cut.front }

abbrev pub cut_of : List ℕ → Cut
cut_of [] = record { front = []; rest = None }
cut_of (b ∷ bs) = if b == 32 then record { front = []; rest = Some bs } else longer b (cut_of bs)

-- on with what was read, or stop at the first reason
infixl 10 ◌>>=◌
abbrev pub ◌>>=◌ : {A B : Type 0} → Result A LineWhy → (A → Result B LineWhy) → Result B LineWhy
(Ok x) >>= f = f x
(Err e) >>= f = Err e

-- a test that has to hold, else the reason
abbrev pub wants : Bool → LineWhy → Result Bool LineWhy
wants true reason = Ok true
wants false reason = Err reason

abbrev pub not_empty : List ℕ → Bool
not_empty [] = false
not_empty (b ∷ bs) = true

-- the last field: all that is left, which has bytes and no space
abbrev pub last_field : Option (List ℕ) → Result (List ℕ) LineWhy
last_field None = Err why.Shape
last_field (Some bytes) = if not_empty bytes && list_all (λ b. not (b == 32)) bytes then Ok bytes else Err why.Shape

-- what a cut says of a field that others follow
abbrev pub front_of : Cut → Result Cut LineWhy
front_of cut = if not_empty cut.front then Ok cut else Err why.Shape

-- a field that others follow: what precedes the first space, which has bytes
abbrev pub next_field : Option (List ℕ) → Result Cut LineWhy
next_field None = Err why.Shape
next_field (Some bytes) = front_of (cut_of bytes)

-- the rest of the line as it is, which has bytes
abbrev pub rest_field : Option (List ℕ) → Result (List ℕ) LineWhy
rest_field None = Err why.Shape
rest_field (Some bytes) = if not_empty bytes then Ok bytes else Err why.Shape

-- a number with a digit more
abbrev pub grown : ℕ → ℕ → ℕ
grown value digit = value * 10 + (digit - 48)

-- the value of decimal digits
abbrev pub value_of : List ℕ → ℕ
value_of digits = fold grown 0 digits

-- a number that is no more than a bound
abbrev pub at_most : ℕ → ℕ → Option ℕ
at_most most n = if nat_le n most then Some n else None

-- digits, the first of which is no 0 unless it stands alone
abbrev pub is_number : List ℕ → Bool
is_number [] = false
is_number (d ∷ []) = is_digit d
is_number (d ∷ e ∷ ds) = is_digit d && not (d == 48) && list_all is_digit (e ∷ ds)

-- a number within bounds
abbrev pub number_within : ℕ → ℕ → List ℕ → Result ℕ LineWhy
number_within least most field =
    if is_number field && nat_le least (value_of field) && nat_le (value_of field) most then Ok (value_of field) else Err why.Number

unfoldable pub read_account : Declared → Option (List ℕ) → Result Step LineWhy
read_account above fields = do
  many ← wants (nat_lt (length above.accounts) 100) why.Many
  name ← last_field fields
  named ← wants (is_name name) why.Name
  once ← wants (not (is_among name above.accounts)) why.Twice
  Ok (Account name)

unfoldable pub read_device : Declared → Option (List ℕ) → Result Step LineWhy
read_device above fields = do
  many ← wants (nat_lt (length above.devices) 100) why.Many
  name ← next_field fields
  account ← last_field name.rest
  named ← wants (is_name name.front) why.Name
  once ← wants (not (is_among name.front above.devices)) why.Twice
  known ← wants (is_among account above.accounts) why.Unknown
  Ok (Device name.front account)

-- the device, the account and the text of a message
unfoldable pub read_message : Declared → Option (List ℕ) → Result (List ℕ × List ℕ × List ℕ) LineWhy
read_message above fields = do
  device ← next_field fields
  to ← next_field device.rest
  text ← rest_field to.rest
  known ← wants (is_among device.front above.devices) why.Unknown
  named ← wants (is_name to.front) why.Name
  spelled ← wants (is_text text) why.Text
  Ok (device.front, to.front, text)

unfoldable pub read_say : Declared → Option (List ℕ) → Result Step LineWhy
read_say above fields = do
  message ← read_message above fields
  Ok (Say message.0 message.1 message.2)

unfoldable pub read_private : Declared → Option (List ℕ) → Result Step LineWhy
read_private above fields = do
  message ← read_message above fields
  Ok (Private message.0 message.1 message.2)

unfoldable pub read_catchup : Declared → Option (List ℕ) → Result Step LineWhy
read_catchup above fields = do
  device ← next_field fields
  field ← last_field device.rest
  known ← wants (is_among device.front above.devices) why.Unknown
  most ← number_within 1 100 field
  Ok (Catchup device.front most)

unfoldable pub read_tick : Option (List ℕ) → Result Step LineWhy
read_tick fields = do
  field ← last_field fields
  ms ← number_within 0 MOST_TICK field
  Ok (Tick ms)

-- by the first word
unfoldable pub read_words : Declared → Cut → Result Step LineWhy
read_words above words =
    if bytes_eq words.front (codes "account") then read_account above words.rest
    else (if bytes_eq words.front (codes "device") then read_device above words.rest
    else (if bytes_eq words.front (codes "say") then read_say above words.rest
    else (if bytes_eq words.front (codes "private") then read_private above words.rest
    else (if bytes_eq words.front (codes "catchup") then read_catchup above words.rest
    else (if bytes_eq words.front (codes "tick") then read_tick words.rest
    else Err why.Word)))))

-- line n, below what is declared
unfoldable pub read_line : Declared → ℕ → Piece → Result Step LineWhy
read_line above n piece = do
  ended ← wants (piece.ended && is_utf8 piece.bytes) why.Ending
  few ← wants (nat_le n 100000) why.Many
  read_words above (cut_of piece.bytes)

abbrev pub with_front : Line → Result (List Line) ScheduleFault → Result (List Line) ScheduleFault
with_front line (Ok lines) = Ok (line ∷ lines)
with_front line (Err e) = Err e

-- one thing where a line was read, another with the reason why it wasn't
abbrev pub either : {A B : Type 0} → (A → B) → (LineWhy → B) → Result A LineWhy → B
either read refused (Ok x) = read x
either read refused (Err reason) = refused reason

-- the lines from line n on
abbrev pub read_lines : Declared → ℕ → List Piece → Result (List Line) ScheduleFault
read_lines above n [] = Ok []
read_lines above n (piece ∷ pieces) =
    either
    (λ step. with_front (record { number = n; step = step }) (read_lines (declared_by step above) (n + 1) pieces))
    (λ reason. Err (BadLine n reason))
    (read_line above n piece)

-- whether it is a wire schedule
unfoldable pub read_mode : List ℕ → Result Bool LineWhy
read_mode word =
    if bytes_eq word (codes "wire") then Ok true
    else (if bytes_eq word (codes "direct") then Ok false else Err why.Header)

-- what follows the version in line 1 of version 1
unfoldable pub read_one : Option (List ℕ) → Result Heading LineWhy
read_one fields = do
  mode ← last_field fields
  wire ← read_mode mode
  Ok (record { version = One; wire = wire })

-- and of version 2
unfoldable pub read_two : Option (List ℕ) → Result Heading LineWhy
read_two fields = do
  mode ← next_field fields
  field ← last_field mode.rest
  wire ← read_mode mode.front
  keep ← number_within 1 MOST_KEPT field
  Ok (record { version = Two keep; wire = wire })

-- by the version
unfoldable pub read_version : Cut → Result Heading LineWhy
read_version words =
    if bytes_eq words.front (codes "1") then read_one words.rest
    else (if bytes_eq words.front (codes "2") then read_two words.rest else Err why.Header)

-- what line 1 says
unfoldable pub read_heading : List ℕ → Result Heading LineWhy
read_heading line = do
  spelled ← wants (is_utf8 line) why.Ending
  name ← next_field (Some line)
  named ← wants (bytes_eq name.front (codes "xmpp-schedule")) why.Header
  version ← next_field name.rest
  read_version version

-- whatever is wrong, the line is no heading
abbrev pub as_heading : Result Heading LineWhy → Result Heading LineWhy
as_heading (Ok heading) = Ok heading
as_heading (Err reason) = Err why.Header

-- line 1, and the lines behind it
abbrev pub read_header : List Piece → Result (Heading × List Piece) LineWhy
read_header [] = Err why.Header
read_header (piece ∷ pieces) = do
  heading ← as_heading (read_heading piece.bytes)
  whole ← wants piece.ended why.Ending
  Ok (heading, pieces)
