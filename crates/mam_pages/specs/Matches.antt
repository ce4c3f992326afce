-- Which entries match a query (XEP-0313 sections 4.1.1 to 4.1.3).
use Rattle.std.specs.Prelude.{ℕ, nat_le, Bool, true, ◌&&◌, List, Option, Some, None, filter, if◌then◌else◌}
use Rattle.std.specs.Str.{bytes_eq}
use Rattle.mam_archive.specs.Entries.{EntryView}
use Rattle.mam_pages.specs.Kept.{Kept}
use Rattle.mam_pages.specs.Parties.{is_full, other_party}
use Rattle.mam_archive.specs.Peers.{is_with}
use Rattle.mam_pages.specs.declared.query.PageQuery.{PageQuery}

-- an address without a resource matches the other party's bare address, one with a resource its whole address
abbrev pub with_passes : List ℕ → Option (List ℕ) → EntryView → Bool
with_passes owner None e = true
with_passes owner (Some peer) e = if is_full peer then bytes_eq (other_party owner e) peer else is_with owner peer e

-- taken at this moment or later
abbrev pub start_passes : Option ℕ → EntryView → Bool
start_passes None e = true
start_passes (Some start) e = nat_le start e.stamp

-- taken at this moment or earlier
abbrev pub end_passes : Option ℕ → EntryView → Bool
end_passes None e = true
end_passes (Some end) e = nat_le e.stamp end

abbrev pub stamp_passes : PageQuery → EntryView → Bool
stamp_passes query e = start_passes query.start e && end_passes query.end e

abbrev pub is_wanted : List ℕ → PageQuery → EntryView → Bool
is_wanted owner query e = with_passes owner query.peer e && stamp_passes query e

-- the entries that match, in order
abbrev pub matching : Kept → PageQuery → List EntryView
matching kept query = filter (is_wanted kept.owner query) kept.entries
