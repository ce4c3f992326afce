-- Journals: what happens to a server, and its text; and what a run is done again from.
use Rattle.std.specs.Prelude.{◌≡◌, ◌⊎◌, ℕ, ◌==◌, nat_le, nat_lt, Bool, not, ◌&&◌, ◌||◌, List, [], ◌∷◌, ◌++◌, IsTrue, length, codes}
use Rattle.std.specs.Fmt.{decimal}
use Rattle.std.specs.List.{flat_map, list_all}
use Rattle.std.specs.Str.{bytes_eq, is_utf8}
use Rattle.hex.specs.Hex.{encode_lower}
use Rattle.cmd_journal.specs.AccountsFiles.{AccountsView, IsAccountsFile, accounts_text}
use Rattle.cmd_journal.specs.declared.event.Event.{Event}
use Rattle.cmd_journal.specs.declared.event.TheConstants.{LAST_CONNECTION}
use Rattle.cmd_schedule.specs.Reading.{cut_of, not_empty}
use Rattle.cmd_schedule.specs.declared.schedule.Version.{Version}
use Rattle.cmd_schedule.specs.declared.schedule.Version.TheVariants.{One, Two}
use Rattle.im_stamp.specs.declared.stamp_writing.TheConstants.{LAST_MOMENT}
use Rattle.cmd_journal.specs.declared.event.Event.TheVariants as told

-- A connection of this number begins, at this moment (milliseconds since 1970), with the bytes that are drawn for it;
-- bytes come in on one; one is gone.
pub data EventView : Type 0 where
  Connect : ℕ → ℕ → List ℕ → EventView
  Piece : ℕ → ℕ → List ℕ → EventView
  Gone : ℕ → ℕ → EventView

-- an event of the code, without the room of its bytes
abbrev pub event_view : Event → EventView
event_view (told.Connect connection moment entropy) = Connect connection moment entropy
event_view (told.Piece connection moment bytes) = Piece connection moment bytes.items
event_view (told.Gone connection moment) = Gone connection moment

-- ---- which events may be

abbrev pub is_connection : ℕ → Bool
is_connection n = nat_le 1 n && nat_le n LAST_CONNECTION

abbrev pub is_moment : ℕ → Bool
is_moment n = nat_le n LAST_MOMENT

abbrev pub are_bytes : List ℕ → Bool
are_bytes bytes = list_all (λ b. nat_lt b 256) bytes

-- an event that may follow, where `last` is the number of the connection that began last, and 0 where none did
abbrev pub may_happen : ℕ → EventView → Bool
may_happen last (Connect connection moment entropy) =
    is_connection connection && nat_lt last connection && is_moment moment && (length entropy == 24) && are_bytes entropy
may_happen last (Piece connection moment bytes) = is_connection connection && is_moment moment && not_empty bytes && are_bytes bytes
may_happen last (Gone connection moment) = is_connection connection && is_moment moment

-- the number of the connection that began last
abbrev pub begun_last : ℕ → EventView → ℕ
begun_last last (Connect connection moment entropy) = connection
begun_last last _ = last

-- each event may follow those before it
abbrev pub AreEvents : ℕ → List EventView → Type 0
AreEvents last [] = Unit {0}
AreEvents last (event ∷ events) = IsTrue (may_happen last event) × AreEvents (begun_last last event) events

-- ---- their text: each line is ended by LF

abbrev pub event_text : EventView → List ℕ
event_text (Connect connection moment entropy) = codes "connect " ++ decimal connection ++ 32 ∷ decimal moment ++ 32 ∷ encode_lower entropy
event_text (Piece connection moment bytes) = codes "piece " ++ decimal connection ++ 32 ∷ decimal moment ++ 32 ∷ encode_lower bytes
event_text (Gone connection moment) = codes "gone " ++ decimal connection ++ 32 ∷ decimal moment

abbrev pub events_text : List EventView → List ℕ
events_text events = flat_map (λ event. event_text event ++ 10 ∷ []) events

-- the first line of a journal
abbrev pub journal_header : Version → List ℕ
journal_header One = codes "xmpp-journal 1"
journal_header (Two keep) = codes "xmpp-journal 2"

-- a line of this first word is behind the events
abbrev pub ends_events : List ℕ → Bool
ends_events word = bytes_eq word (codes "account") || bytes_eq word (codes "overrun") || bytes_eq word (codes "end")

-- a line that is behind the events, with what follows it
pub record IsAfterEvents (text : List ℕ) : Type 0 where
  pub line : List ℕ
  pub rest : List ℕ
  pub whole : text ≡ line ++ 10 ∷ rest
  pub one_line : IsTrue (list_all (λ b. not (b == 10)) line)
  pub spelled : IsTrue (is_utf8 line)
  pub ends : IsTrue (ends_events (cut_of line).front)

-- ---- what a run is done again from

-- the accounts, and what happened
pub record InputView : Type 0 where
  pub accounts : AccountsView
  pub events : List EventView

pub record IsInput (input : InputView) : Type 0 where
  pub accounts : IsAccountsFile input.accounts
  pub events : AreEvents 0 input.events

-- the line between the accounts file and the journal
abbrev pub mark : List ℕ
mark = codes "%%"

abbrev pub input_text : InputView → List ℕ
input_text input = accounts_text input.accounts ++ (mark ++ 10 ∷ (journal_header input.accounts.version ++ 10 ∷ events_text input.events))

-- what may follow the events: nothing, or lines of which the first is behind the events
abbrev pub MayFollow : List ℕ → Type 0
MayFollow text = (text ≡ []) ⊎ IsAfterEvents text

-- the text says this
pub record Says (text : List ℕ) (input : InputView) : Type 0 where
  pub rest : List ℕ
  pub right : IsInput input
  pub whole : text ≡ input_text input ++ rest
  pub follows : MayFollow rest
