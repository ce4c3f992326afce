-- Where a log breaks: a page that was asked for anew doesn't follow on the entries before it, since the archive no longer has
-- the last of them (XEP-0313 section 4.3.1, `item-not-found`).
use Rattle.std.specs.Prelude.{ℕ, ◌+◌, nat_lt, Bool, ◌&&◌, List, [], ◌∷◌, ◌++◌, is_none, if◌then◌else◌}
use Rattle.mam_log.specs.declared.tile.Tile.{Tile}

-- the page was asked for anew, has an entry, and stands behind entries
abbrev pub is_break : ℕ → Tile → Bool
is_break before tile = is_none tile.after && (nat_lt 0 before && nat_lt 0 tile.count)

abbrev pub break_at : ℕ → Tile → List ℕ
break_at before tile = if is_break before tile then before ∷ [] else []

abbrev pub breaks_from : ℕ → List Tile → List ℕ
breaks_from before [] = []
breaks_from before (tile ∷ tiles) = break_at before tile ++ breaks_from (before + tile.count) tiles

-- how many entries stand before each such page
abbrev pub breaks_of : List Tile → List ℕ
breaks_of tiles = breaks_from 0 tiles
