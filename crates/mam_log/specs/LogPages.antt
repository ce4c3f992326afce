-- The pages that a device took of its account's archive (XEP-0313 section 4.3, XEP-0059).
use Rattle.std.specs.Prelude.{◌≡◌, ◌≢◌, ℕ, ◌<◌, ◌⊎◌, Bool, false, List, [], ◌∷◌, ◌++◌, Option, Some, None, length, map, AllPairs}
use Rattle.std.specs.List.{flat_map}
use Rattle.mam_log.specs.declared.log_entry.LogEntry.{LogEntry}
use Rattle.mam_log.specs.declared.tile.Tile.{Tile}

-- a page that was taken over: the id behind which it was asked for, its results, whether it was the last, and how
-- many entries the archive had when it was made
pub record LogPage : Type 0 where
  pub after : Option (List ℕ)
  pub entries : List LogEntry
  pub complete : Bool
  pub total : ℕ

-- the results of the pages, joined
abbrev pub log_of : List LogPage → List LogEntry
log_of pages = flat_map (λ page. page.entries) pages

-- what is kept of a page beside its results
abbrev pub tile_of : LogPage → Tile
tile_of page = record { after = page.after; count = length page.entries; complete = page.complete; total = page.total }

abbrev pub ids_of : List LogEntry → List (List ℕ)
ids_of entries = map (λ e. e.id) entries

-- the id of the last entry, where there is one
abbrev pub last_id : List LogEntry → Option (List ℕ)
last_id [] = None
last_id (e ∷ []) = Some e.id
last_id (e ∷ f ∷ es) = last_id (f ∷ es)

-- a page is asked for behind the last entry before it, or anew, from the first entry that the archive keeps
abbrev pub IsAfter : List LogEntry → Option (List ℕ) → Type 0
IsAfter before after = (after ≡ None) ⊎ (after ≡ last_id before)

-- each page was asked for so, and one that isn't the last has an entry
abbrev pub FollowsOn : List LogEntry → List LogPage → Type 0
FollowsOn before [] = Unit {0}
FollowsOn before (page ∷ pages) =
    IsAfter before page.after × (page.complete ≡ false → 0 < length page.entries) × FollowsOn (before ++ page.entries) pages

-- pages that follow on one another from the beginning, and in which no id stands twice
pub record IsTiled (pages : List LogPage) : Type 0 where
  pub follows : FollowsOn [] pages
  pub distinct : AllPairs (λ a b. a ≢ b) (ids_of (log_of pages))
