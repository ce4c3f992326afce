-- A log (of `mam_log`), and the same by numbers alone, as the reading of an application over sessions (of
-- `sim_1_applications`), where the archive's history is known.
use Rattle.std.specs.Prelude.{◌≡◌, ℕ, ◌<◌, ◌^◌, min, List, ◌∷◌, Option, Some, None, Bool, is_some, map}
use Rattle.std.specs.Fmt.{decimal}
use Rattle.std.specs.List.{AllByRecursion}
use Rattle.std.specs.Option.{option_map}
use Rattle.mam_archive.specs.Entries.{EntryView, entry_numbered}
use Rattle.mam_archive.specs.Ids.{id_of}
use Rattle.cmd_direct.specs.Direct.{as_logged}
use Rattle.mam_log.specs.Views as log
use Rattle.mam_log.specs.Views.{LogView}
use Rattle.mam_log.specs.declared.log_entry.LogEntry.{LogEntry}
use Rattle.mam_log.specs.declared.tile.Tile.{Tile as LogTile}
use Rattle.mam_pages.specs.declared.fin.Fin.{Fin}
use Rattle.sim_1_applications.specs.Devices.{OpenPage, Reading, Tile, log_of}
use Rattle.sim_1_applications.specs.Reported.{entries_at}

-- the number's entry is in the history
pub record IsGiven (history : List EntryView) (n : ℕ) : Type 0 where
  pub entry : EntryView
  pub there : entry_numbered n history ≡ Some entry
  pub number : entry.number ≡ n
  pub small : n < 2 ^ 64

abbrev pub AreGiven : List EntryView → List ℕ → Type 0
AreGiven history ns = AllByRecursion (IsGiven history) ns

-- a page's query id
abbrev pub queryid_of : ℕ → List ℕ
queryid_of number = 113 ∷ decimal number

-- the page under way
abbrev pub page_shown : List EntryView → OpenPage → log.OpenPage
page_shown history page = record {
  queryid = queryid_of page.number;
  max = page.max;
  after = option_map id_of page.after;
  results = map as_logged (entries_at history page.results);
}

-- a page that was taken over, of an archive that keeps so many
abbrev pub tile_shown : ℕ → Tile → LogTile
tile_shown keep t = record { after = option_map id_of t.after; count = t.count; complete = is_some t.total; total = min t.given keep }

abbrev pub id_logged : LogEntry → List ℕ
id_logged e = e.id

pub record LogRepresents (keep : ℕ) (history : List EntryView) (log : LogView) (b : Reading) : Type 0 where
  pub entries : log.entries ≡ map as_logged (entries_at history (log_of b))
  pub tiles : log.tiles ≡ map (tile_shown keep) b.tiles
  pub page : log.page ≡ option_map (page_shown history) b.page
  pub held : map id_logged log.held ≡ map id_of b.held

-- the numbers that a reading has are of entries in the history
abbrev pub ArePageGiven : List EntryView → Option OpenPage → Type 0
ArePageGiven history None = Unit {0}
ArePageGiven history (Some page) = AreGiven history page.results

pub record IsReadingGiven (history : List EntryView) (b : Reading) : Type 0 where
  pub logged : AreGiven history (log_of b)
  pub page : ArePageGiven history b.page
  pub held : AllByRecursion (λ n. n < 2 ^ 64) b.held

-- The end of a page (XEP-0313, section 4.2) as the application has it: whether it is complete, the last entry's number, and
-- how many the archive keeps.
pub record IsFinOf (fin : Fin) (whole : Bool) (greatest : Option ℕ) (kept : ℕ) : Type 0 where
  pub complete : fin.complete ≡ whole
  pub last : fin.last ≡ option_map id_of greatest
  pub count : fin.count ≡ kept
