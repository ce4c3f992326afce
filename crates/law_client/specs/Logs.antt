-- A client's log between any two calls, and how it grows (XEP-0313, section 4).
use Rattle.std.specs.Prelude.{◌≡◌, ◌≤◌, ◌<◌, false, List, [], ◌∷◌, ◌++◌, length, map, IfSome, None, Ok}
use Rattle.mam_log.specs.Breaks.{is_break}
use Rattle.mam_log.specs.HeldIds.{AreApart}
use Rattle.mam_log.specs.LogPages.{IsAfter, LogPage, last_id, log_of, tile_of}
use Rattle.mam_log.specs.Tilings.{AreUnlogged, IsTiling}
use Rattle.mam_log.specs.Views.{LogView, OpenPage, end_of}
use Rattle.mam_log.specs.declared.fin.PageOutcome.{PageOutcome}
use Rattle.mam_log.specs.declared.log_entry.LogEntry.{LogEntry}
use Rattle.mam_pages.specs.declared.fin.Fin.{Fin}

-- The entries are those of pages, one behind the other, in which no id stands twice, and the tiles are what is kept of
-- these pages. The open page was asked for behind the last entry, or anew, and has at most as many results as were asked
-- for. The ids of the messages that are held differ, and none is in the log.
pub record IsLogKept (log : LogView) : Type 0 where
  pub tiling : IsTiling log.entries log.tiles
  pub following : IfSome log.page (λ p. IsAfter log.entries p.after)
  pub bound : IfSome log.page (λ p. length p.results ≤ p.max)
  pub apart : AreApart log.held
  pub unlogged : AreUnlogged log.entries log.held

-- Each page that has an entry and doesn't break the log was asked for behind the last entry before it.
abbrev pub FollowUnbroken : List LogEntry → List LogPage → Type 0
FollowUnbroken before [] = Unit {0}
FollowUnbroken before (page ∷ pages) =
    (is_break (length before) (tile_of page) ≡ false → 0 < length page.entries → page.after ≡ last_id before) × FollowUnbroken (before ++ page.entries) pages

-- ---- how it grows

-- the page with all results of an open page, at the end that was told
abbrev pub whole_page : OpenPage → Fin → LogPage
whole_page opened fin = record { after = opened.after; entries = opened.results; complete = fin.complete; total = fin.count }

-- The page has all results of one that was open, and its end was judged well: the last result told is the last that came,
-- and no id of it repeats or stands before it.
pub record IsTaken (log : LogView) (page : LogPage) : Type 0 where
  pub opened : OpenPage
  pub fin : Fin
  pub outcome : PageOutcome
  pub judged : end_of log opened fin ≡ Ok outcome
  pub whole : page ≡ whole_page opened fin

-- a log with these entries alone
abbrev pub log_with : List LogEntry → LogView
log_with entries = record { entries = entries; tiles = []; page = None; held = [] }

-- each page was taken over behind the entries before it
abbrev pub AreTaken : List LogEntry → List LogPage → Type 0
AreTaken before [] = Unit {0}
AreTaken before (page ∷ pages) = IsTaken (log_with before) page × AreTaken (before ++ page.entries) pages

-- behind the entries stand those of pages that were taken over whole, in order, and behind the tiles what is kept of these
pub record GrewByPages (old new : LogView) : Type 0 where
  pub pages : List LogPage
  pub taken : AreTaken old.entries pages
  pub entries : new.entries ≡ old.entries ++ log_of pages
  pub tiles : new.tiles ≡ old.tiles ++ map tile_of pages
