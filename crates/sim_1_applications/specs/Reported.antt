-- The lines of a report that a state of the two applications makes.
use Rattle.std.specs.Prelude.{◌≡◌, ℕ, zero, suc, ◌-◌, min, nat_lt, Bool, true, List, [], ◌∷◌, ◌++◌, Option, Some, None, is_some, length, map, filter_map, take, drop, slice_get, if◌then◌else◌}
use Rattle.std.specs.Fmt.{decimal}
use Rattle.std.specs.List.{flat_map}
use Rattle.std.specs.Option.{option_map}
use Rattle.mam_archive.specs.Entries.{EntryView, entry_numbered, newest}
use Rattle.mam_archive.specs.Ids.{id_of}
use Rattle.cmd_direct.specs.Direct.{as_logged}
use Rattle.base_io.specs.Names.{is_among}
use Rattle.mam_log.specs.LogPages.{LogPage}
use Rattle.cmd_report.specs.Lines.{entry_line, logged_from, page_line}
use Rattle.cmd_report.specs.Reports.{AccountView, DeviceView}
use Rattle.cmd_report.specs.Takes.{Take, archive_of}
use Rattle.cmd_report.specs.Worlds.{ReportWorld}
use Rattle.cmd_report.specs.declared.report.HeldLine.{HeldLine}
use Rattle.cmd_report.specs.declared.report.SaidLine.{SaidLine}
use Rattle.cmd_report.specs.declared.report.SaidMark.{SaidMark}
use Rattle.cmd_report.specs.declared.report.SaidMark.TheVariants.{Acknowledged, Undecided, Waiting}
use Rattle.cmd_report.specs.declared.report.UnderwayLine.{UnderwayLine}
use Rattle.cmd_schedule.specs.Contents.{Owned}
use Rattle.sim_1_applications.specs.Devices.{Device, OpenPage, Reading, Session, Sessions, Tile, epoch_of, log_of, up_put}
use Rattle.sim_1_applications.specs.Devices as sessions
use Rattle.sim_1_applications.specs.Devices.Row.{Present}
use Rattle.sim_1_applications.specs.Histories.{asked_of}
use Rattle.sim_1_applications.specs.Stanzas.{Submission, Up, messages}
use Rattle.sim_1_applications.specs.Stanzas.Up.{Carbons, Presence, Message, Query}

-- the name of the device at a place
abbrev pub name_at : List Owned → ℕ → List ℕ
name_at [] i = []
name_at (o ∷ os) zero = o.device
name_at (o ∷ os) (suc i) = name_at os i

-- a take, with its device's name
abbrev pub take_of : List Owned → sessions.Take → Take
take_of owned t = record {
  device = name_at owned t.device;
  account = t.account;
  epoch = t.said.epoch;
  n = t.said.n;
  to = t.said.to;
  text = t.said.text;
  moment = t.moment;
}

-- what an account's archive would hold after these takes if nothing were purged
abbrev pub history_at : List Owned → List sessions.Take → List ℕ → List EntryView
history_at owned takes account = archive_of account (map (take_of owned) takes)

abbrev pub account_line : ℕ → List EntryView → List ℕ → AccountView
account_line keep history name = record {
  name = name;
  count = length (newest keep history);
  last = length history;
  entries = map entry_line (newest keep history);
}

-- Submissions.

abbrev pub said_line : SaidMark → Submission → SaidLine
said_line mark m = record { epoch = m.epoch; n = m.n; state = mark; to = m.to; text = m.text }

-- the messages among stanzas, of which the first so many are acknowledged
abbrev pub said_among : ℕ → SaidMark → List Up → List SaidLine
said_among acked mark [] = []
said_among acked mark (Carbons ∷ zs) = said_among (acked - 1) mark zs
said_among acked mark (Presence ∷ zs) = said_among (acked - 1) mark zs
said_among acked mark (Query r ∷ zs) = said_among (acked - 1) mark zs
said_among acked mark (Message m ∷ zs) =
    said_line (if nat_lt 0 acked then Acknowledged else mark) m ∷ said_among (acked - 1) mark zs

abbrev pub said_in : SaidMark → Session → List SaidLine
said_in mark s = said_among s.acked mark (up_put s)

-- what isn't acknowledged may still be, where the client has the session
abbrev pub mark_of : Bool → SaidMark
mark_of online = if online then Waiting else Undecided

abbrev pub said_of : Sessions → List SaidLine
said_of s = flat_map (said_in Undecided) s.past ++ said_in (mark_of s.online) s.now

-- Pages.

-- the entries with these numbers
abbrev pub entries_at : List EntryView → List ℕ → List EntryView
entries_at history numbers = filter_map (λ n. entry_numbered n history) numbers

-- the page of the first of these numbers
abbrev pub page_with : ℕ → List EntryView → Tile → List ℕ → LogPage
page_with keep history t numbers = record {
  after = option_map id_of t.after;
  entries = map as_logged (entries_at history (take t.count numbers));
  complete = is_some t.total;
  total = min t.given keep;
}

abbrev pub pages_with : ℕ → List EntryView → List Tile → List ℕ → List LogPage
pages_with keep history [] numbers = []
pages_with keep history (t ∷ ts) numbers = page_with keep history t numbers ∷ pages_with keep history ts (drop t.count numbers)

-- the pages that a device took over, of its account's history
abbrev pub pages_of : ℕ → List EntryView → Reading → List LogPage
pages_of keep history b = pages_with keep history b.tiles (log_of b)

abbrev pub underway_of : Option OpenPage → List UnderwayLine
underway_of None = []
underway_of (Some page) = record { queryid = 113 ∷ decimal page.number; got = length page.results } ∷ []

abbrev pub held_line : ℕ → HeldLine
held_line n = record { id = id_of n }

-- A device.

-- Both ends have its session, nothing is under way, and every message of the session is acknowledged. A report calls
-- no other device settled; the links show it of each that it calls so.
pub record IsAtRest (s : Sessions) : Type 0 where
  pub online : s.online ≡ true
  pub row : s.row ≡ Present
  pub up : s.now.up_rest ≡ []
  pub down : s.now.down_rest ≡ []
  pub acknowledged : messages (drop s.now.acked (up_put s.now)) ≡ []

-- the device's line
pub record IsDeviceLine (keep : ℕ) (history : List EntryView) (o : Owned) (d : Device) (line : DeviceView) : Type 0 where
  pub name : line.name ≡ o.device
  pub account : line.account ≡ o.account
  pub epoch : line.epoch ≡ epoch_of d.sessions
  pub settled : line.settled ≡ true → IsAtRest d.sessions
  pub said : line.said ≡ said_of d.sessions
  pub pages : line.pages ≡ map page_line (pages_of keep history d.reading)
  pub underway : line.underway ≡ underway_of d.reading.page
  pub logged : line.logged ≡ logged_from 0 (pages_of keep history d.reading)
  pub held : line.held ≡ map held_line d.reading.held

-- one line for each device
abbrev pub AreDeviceLines : ℕ → (List ℕ → List EntryView) → List Owned → List Device → List DeviceView → Type 0
AreDeviceLines keep history [] [] [] = Unit {0}
AreDeviceLines keep history (o ∷ os) (d ∷ ds) (line ∷ lines) =
    IsDeviceLine keep (history o.account) o d line × AreDeviceLines keep history os ds lines
AreDeviceLines keep history _ _ _ = ⊥

-- Worlds.

-- what the state shows: what the archives keep, and of each device how many pages it took over and asked for
pub record IsShown (owned : List Owned) (w : sessions.AppWorld) (shown : ReportWorld) : Type 0 where
  pub archive : (account : List ℕ) → is_among account w.accounts ≡ true → shown.archive account ≡ newest w.keep (history_at owned w.takes account)
  pub pages : (i : ℕ) (o : Owned) (d : Device) → slice_get owned i ≡ Some o → slice_get w.devices i ≡ Some d →
      length (shown.pages o.device) ≡ length d.reading.tiles
  pub asked : (i : ℕ) (o : Owned) (d : Device) → slice_get owned i ≡ Some o → slice_get w.devices i ≡ Some d →
      shown.asked o.device ≡ asked_of d.reading

abbrev pub AreRepresented : List Owned → List sessions.AppWorld → List ReportWorld → Type 0
AreRepresented owned [] [] = Unit {0}
AreRepresented owned (w ∷ ws) (shown ∷ others) = IsShown owned w shown × AreRepresented owned ws others
AreRepresented owned _ _ = ⊥
