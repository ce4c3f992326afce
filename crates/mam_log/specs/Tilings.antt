-- A log as the pages that it is made of.
use Rattle.std.specs.Prelude.{◌≡◌, ℕ, ◌≤◌, false, List, Option, length, map, IfSome}
use Rattle.std.specs.List.{AllByRecursion}
use Rattle.mam_log.specs.Breaks.{breaks_of}
use Rattle.mam_log.specs.LogPages.{LogPage, IsAfter, IsTiled, ids_of, log_of, tile_of}
use Rattle.mam_log.specs.Orders.{IsOrderOf}
use Rattle.mam_log.specs.Views.{OpenPage, is_among}
use Rattle.mam_log.specs.declared.log_entry.LogEntry.{LogEntry}
use Rattle.mam_log.specs.declared.tile.Tile.{Tile}
use Rattle.mam_pages.specs.declared.span.TheConstants.{MOST_RESULTS}

-- the entries are pages that follow on one another, and the tiles are what is kept of these pages
pub record IsTiling (entries : List LogEntry) (tiles : List Tile) : Type 0 where
  pub pages : List LogPage
  pub tiled : IsTiled pages
  pub joined : log_of pages ≡ entries
  pub kept : map tile_of pages ≡ tiles

-- no id of these is in the log
abbrev pub AreUnlogged : List LogEntry → List LogEntry → Type 0
AreUnlogged entries held = AllByRecursion (λ e. is_among e.id (ids_of entries) ≡ false) held

-- what is so of a log between any two calls: the order is that of its entries' ids, its entries and tiles are those of
-- pages, the breaks are those of the tiles, the open page was asked for behind the last entry or anew and has at most as many
-- results as were asked for, and no message that is held is in the log
pub record IsSound (order : List ℕ) (entries : List LogEntry) (tiles : List Tile) (breaks : List ℕ) (page : Option OpenPage) (held : List LogEntry) : Type 0 where
  pub ordered : IsOrderOf order (ids_of entries)
  pub tiling : IsTiling entries tiles
  pub broken : breaks ≡ breaks_of tiles
  pub following : IfSome page (λ p. IsAfter entries p.after)
  pub bound : IfSome page (λ p. (length p.results ≤ p.max) × (p.max ≤ MOST_RESULTS))
  pub unlogged : AreUnlogged entries held
