-- A log whose entries are in the order of their numbers, and the pages that make it grow.
use Rattle.std.specs.Prelude.{◌≡◌, ℕ, zero, suc, ◌+◌, List, [], ◌∷◌, ◌++◌, Option, Some, None, length, map, if◌then◌else◌}
use Rattle.std.specs.List.{AllByRecursion}
use Rattle.std.specs.Option.{option_map}
use Rattle.mam_archive.specs.Entries.{EntryView}
use Rattle.mam_archive.specs.Ids.{id_of}
use Rattle.cmd_direct.specs.NextPages.{last_logged, page_at}
use Rattle.mam_log.specs.LogPages.{LogPage, ids_of, log_of, tile_of}
use Rattle.mam_log.specs.Views.{LogView, OpenPage, unheld}
use Rattle.mam_log.specs.declared.log_entry.LogEntry.{LogEntry}
use Rattle.mam_pages.specs.Spans.{Rises}

-- each entry has its number's id, the numbers rise from 1 on, and none is above the archive's last
pub record IsInOrder (last : ℕ) (logged : List LogEntry) : Type 0 where
  pub ids : AllByRecursion (λ l. l.id ≡ id_of l.entry.number) logged
  pub rise : Rises 0 last (map (λ l. l.entry.number) logged)

-- the log is what these pages left
pub record IsLogOf (pages : List LogPage) (log : LogView) : Type 0 where
  pub entries : log.entries ≡ log_of pages
  pub tiles : log.tiles ≡ map tile_of pages
  pub closed : log.page ≡ None

-- the log with a page at its end
abbrev pub with_turn : LogView → LogPage → LogView
with_turn log page = record {
  entries = log.entries ++ page.entries;
  tiles = log.tiles ++ tile_of page ∷ [];
  page = None;
  held = unheld (ids_of page.entries) log.held;
}

-- the next page of a log, of an archive that gave numbers up to `last` and keeps these entries
abbrev pub turn_of : ℕ → ℕ → List EntryView → LogView → LogPage
turn_of most last kept log = page_at (last_logged log.entries) most last kept

-- the log after pages until one is complete, in so many turns at most
abbrev pub log_after : ℕ → ℕ → ℕ → List EntryView → LogView → LogView
log_after zero most last kept log = log
log_after (suc turns) most last kept log =
    if (turn_of most last kept log).complete
    then with_turn log (turn_of most last kept log)
    else log_after turns most last kept (with_turn log (turn_of most last kept log))

-- the log after a catch-up
abbrev pub caught_up : ℕ → ℕ → List EntryView → LogView → LogView
caught_up most last kept log = log_after (length kept + 1) most last kept log

-- the log with an open page, which was asked for at a place and has results
abbrev pub opened : List ℕ → ℕ → Option (List ℕ) → LogView → List LogEntry → LogView
opened queryid most after log results =
    record log { page = Some (record { queryid = queryid; max = most; after = after; results = results }) }

-- the log with further results in its open page
abbrev pub with_results : LogView → List LogEntry → LogView
with_results log results = record log { page = option_map (λ (page : OpenPage). record page { results = page.results ++ results }) log.page }
