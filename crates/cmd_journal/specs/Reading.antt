-- What reading a text answers: what it says, or the first bad line with its first reason.
use Rattle.std.specs.Prelude.{ℕ, ◌+◌, Bool, true, false, ◌&&◌, List, [], ◌∷◌, ◌++◌, Option, Some, None, Result, Ok, Err, if◌then◌else◌}
use Rattle.std.specs.Str.{bytes_eq}
use Rattle.cmd_journal.specs.AccountsFiles.{AccountsView}
use Rattle.cmd_journal.specs.Journals.{EventView, InputView, begun_last, mark}
use Rattle.cmd_journal.specs.LineReading.{read_domain, read_event, read_first, read_journal_header, read_keep, read_registration}
use Rattle.cmd_journal.specs.declared.accounts_file.Registration.{Registration}
use Rattle.cmd_journal.specs.declared.fault.InputFault.{InputFault}
use Rattle.cmd_journal.specs.declared.fault.InputFault.TheVariants.{BadLine}
use Rattle.cmd_journal.specs.declared.accounts_reading.Behind.{Behind}
use Rattle.cmd_journal.specs.declared.accounts_reading.Behind.TheVariants.{Nothing, Journal}
use Rattle.cmd_schedule.specs.Reading.{Piece, either, pieces_of}
use Rattle.cmd_schedule.specs.declared.fault.LineWhy.{LineWhy}
use Rattle.cmd_schedule.specs.declared.schedule.Version.{Version}
use Rattle.cmd_schedule.specs.declared.schedule.Version.TheVariants.{One, Two}
use Rattle.cmd_schedule.specs.declared.fault.LineWhy.TheVariants as why

-- on with what was read, or stop at the first bad line
infixl 10 ◌>>=◌
abbrev pub ◌>>=◌ : {A B : Type 0} → Result A InputFault → (A → Result B InputFault) → Result B InputFault
(Ok x) >>= f = f x
(Err e) >>= f = Err e

-- a reason, at its line
abbrev pub at_line : {A : Type 0} → ℕ → Result A LineWhy → Result A InputFault
at_line n (Ok x) = Ok x
at_line n (Err reason) = Err (BadLine n reason)

-- what the next line says, and the lines behind it; where there is none, this reason
abbrev pub with_next : {A : Type 0} → (Piece → Result A LineWhy) → LineWhy → List Piece → Result (A × List Piece) LineWhy
with_next read missing [] = Err missing
with_next read missing (piece ∷ pieces) = either (λ x. Ok (x, pieces)) (λ reason. Err reason) (read piece)

-- ---- an accounts file

-- A line that must be there and isn't is another word's, unless a line `%%` should come: then that is missing too.
abbrev pub missing_line : Behind → LineWhy
missing_line Nothing = why.Word
missing_line Journal = why.Ending

-- what stands above the accounts, the number of the next line, and the lines from there on
pub record PreambleView : Type 0 where
  pub version : Version
  pub domain : List ℕ
  pub next : ℕ
  pub rest : List Piece

-- the lines above the accounts behind the domain's
unfoldable pub read_version : Behind → Bool → List ℕ → List Piece → Result PreambleView InputFault
read_version following false domain pieces = Ok (record { version = One; domain = domain; next = 3; rest = pieces })
read_version following true domain pieces = do
  keep ← at_line 3 (with_next read_keep (missing_line following) pieces)
  Ok (record { version = Two keep.0; domain = domain; next = 4; rest = keep.1 })

unfoldable pub read_preamble : Behind → List Piece → Result PreambleView InputFault
read_preamble following pieces = do
  first ← at_line 1 (with_next read_first why.Header pieces)
  domain ← at_line 2 (with_next read_domain (missing_line following) first.1)
  read_version following first.0 domain.0 domain.1

-- accounts, the number of the next line, and the lines from there on
pub record Accounts : Type 0 where
  pub accounts : List Registration
  pub next : ℕ
  pub rest : List Piece

abbrev pub with_account : Registration → Result Accounts InputFault → Result Accounts InputFault
with_account r (Ok read) = Ok (record read { accounts = r ∷ read.accounts })
with_account r (Err e) = Err e

-- the accounts end here
abbrev pub is_mark : Behind → Piece → Bool
is_mark Nothing piece = false
is_mark Journal piece = piece.ended && bytes_eq piece.bytes mark

-- where the lines end
abbrev pub at_end : Behind → ℕ → Result Accounts InputFault
at_end Nothing n = Ok (record { accounts = []; next = n; rest = [] })
at_end Journal n = Err (BadLine n why.Ending)

-- the accounts from line n on, behind those with these names
abbrev pub read_registrations : Behind → List (List ℕ) → ℕ → List Piece → Result Accounts InputFault
read_registrations following above n [] = at_end following n
read_registrations following above n (piece ∷ pieces) =
    if is_mark following piece then Ok (record { accounts = []; next = n + 1; rest = pieces })
    else either
    (λ r. with_account r (read_registrations following (above ++ r.name ∷ []) (n + 1) pieces))
    (λ reason. Err (BadLine n reason))
    (read_registration above piece)

-- an accounts file, the number of the next line, and the lines from there on
pub record BegunView : Type 0 where
  pub file : AccountsView
  pub next : ℕ
  pub rest : List Piece

unfoldable pub read_file : Behind → List Piece → Result BegunView InputFault
read_file following pieces = do
  above ← read_preamble following pieces
  read ← read_registrations following [] above.next above.rest
  Ok (record {
    file = record { version = above.version; domain = above.domain; accounts = read.accounts };
    next = read.next;
    rest = read.rest;
  })

-- what reading an accounts file answers, where memory doesn't run out
unfoldable pub accounts_reading : List ℕ → Result AccountsView InputFault
accounts_reading text = do
  begun ← read_file Nothing (pieces_of text)
  Ok begun.file

-- ---- with a journal

abbrev pub with_event : EventView → Result (List EventView) InputFault → Result (List EventView) InputFault
with_event event (Ok events) = Ok (event ∷ events)
with_event event (Err e) = Err e

-- one thing where an event was read, another where the events end
abbrev pub if_event : {B : Type 0} → (EventView → B) → B → Option EventView → B
if_event read done (Some event) = read event
if_event read done None = done

-- the events from line n on
abbrev pub read_events : ℕ → ℕ → List Piece → Result (List EventView) InputFault
read_events last n [] = Ok []
read_events last n (piece ∷ pieces) =
    either
    (if_event (λ event. with_event event (read_events (begun_last last event) (n + 1) pieces)) (Ok []))
    (λ reason. Err (BadLine n reason))
    (read_event last piece)

-- what reading the input of a rerun answers, where memory doesn't run out
unfoldable pub rerun_reading : List ℕ → Result InputView InputFault
rerun_reading text = do
  begun ← read_file Journal (pieces_of text)
  journal ← at_line begun.next (with_next (read_journal_header begun.file.version) why.Header begun.rest)
  events ← read_events 0 (begun.next + 1) journal.1
  Ok (record { accounts = begun.file; events = events })
