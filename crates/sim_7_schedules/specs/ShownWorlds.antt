-- What a world of bytes shows: the entries that its archives keep, by the names of their accounts, and the pages that its
-- devices took over, by theirs.
use Rattle.std.specs.Prelude.{ℕ, ◌+◌, List, [], ◌∷◌, Option, Some, None, drop, length, take, if◌then◌else◌}
use Rattle.std.specs.Str.{bytes_eq}
use Rattle.mam_archive.specs.Entries.{EntryView}
use Rattle.srv_state.specs.State.{Kept}
use Rattle.cmd_network.specs.Devices.{DeviceState}
use Rattle.mam_log.specs.LogPages.{LogPage}
use Rattle.mam_log.specs.Views.{LogView, OpenPage}
use Rattle.mam_log.specs.declared.log_entry.LogEntry.{LogEntry}
use Rattle.mam_log.specs.declared.tile.Tile.{Tile}
use Rattle.cmd_report.specs.Worlds as report
use Rattle.cmd_world.specs.Worlds.{ByteWorld}

-- ---- archives

-- the entries under the name, where the names stand beside the archives
abbrev pub entries_for : List ℕ → List (List ℕ) → List Kept → List EntryView
entries_for name [] archives = []
entries_for name (other ∷ names) [] = []
entries_for name (other ∷ names) (kept ∷ archives) = if bytes_eq name other then kept.entries else entries_for name names archives

-- ---- logs

-- the entries cut into their pages
abbrev pub pages_cut : List Tile → List LogEntry → List LogPage
pages_cut [] entries = []
pages_cut (t ∷ tiles) entries =
    record { after = t.after; entries = take t.count entries; complete = t.complete; total = t.total } ∷ pages_cut tiles (drop t.count entries)

abbrev pub underway : Option OpenPage → ℕ
underway None = 0
underway (Some page) = 1

abbrev pub log_named : List ℕ → List DeviceState → Option LogView
log_named name [] = None
log_named name (d ∷ devices) = if bytes_eq name d.name then Some d.client.client.log else log_named name devices

abbrev pub pages_in : Option LogView → List LogPage
pages_in None = []
pages_in (Some log) = pages_cut log.tiles log.entries

-- those that were taken over, and one more where one is under way
abbrev pub asked_in : Option LogView → ℕ
asked_in None = 0
asked_in (Some log) = length log.tiles + underway log.page

-- ---- a world

abbrev pub shown_of : ByteWorld → report.ReportWorld
shown_of w = record {
  archive = λ account. entries_for account w.accounts w.server.server_state.archives;
  pages = λ device. pages_in (log_named device w.devices);
  asked = λ device. asked_in (log_named device w.devices);
}
