-- The report's lines of what was taken, archived and logged.
use Rattle.std.specs.Prelude.{ℕ, nat_lt, ◌+◌, Bool, false, ◌&&◌, List, [], ◌∷◌, ◌++◌, Option, Some, None, is_none, length, map, take, drop, if◌then◌else◌}
use Rattle.mam_archive.specs.Entries.{EntryView}
use Rattle.mam_archive.specs.Ids.{id_of}
use Rattle.mam_log.specs.LogPages.{LogPage}
use Rattle.mam_log.specs.declared.log_entry.LogEntry.{LogEntry}
use Rattle.cmd_report.specs.EntryLines.{EntryLineView, first_body}
use Rattle.cmd_report.specs.declared.report.LoggedLine.{LoggedLine}
use Rattle.cmd_report.specs.declared.report.PageLine.{PageLine}
use Rattle.cmd_report.specs.declared.report.TakeLine.{TakeLine}
use Rattle.mam_log.specs.declared.tile.Tile.{Tile}
use Rattle.cmd_report.specs.Takes.{Take}
use Rattle.cmd_schedule.specs.declared.schedule.Version.{Version}
use Rattle.cmd_schedule.specs.declared.schedule.Version.TheVariants.{One, Two}

-- the moment of a take, which version 1 doesn't tell
abbrev pub reported_moment : Version → ℕ → Option ℕ
reported_moment One moment = None
reported_moment (Two keep) moment = Some moment

abbrev pub take_line : Version → Take → TakeLine
take_line version take =
    record { device = take.device; epoch = take.epoch; n = take.n; account = take.to; moment = reported_moment version take.moment }

abbrev pub entry_line : EntryView → EntryLineView
entry_line e = record { id = id_of e.number; stamp = e.stamp; from = e.from; to = e.to; origin = e.origin; text = first_body e.bodies }

-- the line of a log's entry, and whether a run begins with it after a break
abbrev pub logged_line : Bool → LogEntry → LoggedLine
logged_line broken l = record {
  entry = record { id = l.id; stamp = l.entry.stamp; from = l.entry.from; to = l.entry.to; origin = l.entry.origin; text = first_body l.entry.bodies };
  broken = broken;
}

-- the lines of a page's entries, the first of which may stand behind a break
abbrev pub logged_after : Bool → List LogEntry → List LoggedLine
logged_after broken [] = []
logged_after broken (l ∷ ls) = logged_line broken l ∷ map (logged_line false) ls

-- a page that was asked for without an id, behind n entries, begins a run after a break
abbrev pub is_break : ℕ → Option (List ℕ) → Bool
is_break n after = is_none after && nat_lt 0 n

-- the lines of a log's entries, page by page, behind n entries
abbrev pub logged_from : ℕ → List LogPage → List LoggedLine
logged_from n [] = []
logged_from n (page ∷ pages) = logged_after (is_break n page.after) page.entries ++ logged_from (n + length page.entries) pages

-- the same, of what is kept of the pages: their entries in one list
abbrev pub logged_by : ℕ → List Tile → List LogEntry → List LoggedLine
logged_by n [] entries = map (logged_line false) entries
logged_by n (tile ∷ tiles) entries =
    logged_after (is_break n tile.after) (take tile.count entries) ++ logged_by (n + tile.count) tiles (drop tile.count entries)

abbrev pub page_line : LogPage → PageLine
page_line page = record { after = page.after; count = length page.entries; total = if page.complete then Some page.total else None }

-- the line of a page, of what is kept of it
abbrev pub tile_line : Tile → PageLine
tile_line tile = record { after = tile.after; count = tile.count; total = if tile.complete then Some tile.total else None }
