-- What a look at an archive answers, and what bounds the looks that are taken for a page.
use Rattle.std.specs.Prelude.{ℕ, Bool, true, false, List, Option, Some, None, filter, length}
use Rattle.mam_archive.specs.Entries.{EntryView, entry_numbered}
use Rattle.mam_archive.specs.Peers.{is_with}
use Rattle.mam_pages.specs.Kept.{Kept}
use Rattle.mam_pages.specs.PageOf.{entry_of_id}
use Rattle.mam_pages.specs.declared.query.PagePosition.{PagePosition}
use Rattle.mam_pages.specs.declared.query.PagePosition.TheVariants.{First, After, Before, Last}

-- there is an entry, and it is with this account
abbrev pub is_found_with : List ℕ → List ℕ → Option EntryView → Bool
is_found_with owner peer None = false
is_found_with owner peer (Some e) = is_with owner peer e

-- the entry with this number is with this account
abbrev pub is_number_with : Kept → List ℕ → ℕ → Bool
is_number_with kept peer n = is_found_with kept.owner peer (entry_numbered n kept.entries)

-- the page stands at an end of the archive, or beside an entry with this account (XEP-0059 sections 2.1 to 2.5)
abbrev pub is_place_with : Kept → List ℕ → PagePosition → Bool
is_place_with kept peer First = true
is_place_with kept peer Last = true
is_place_with kept peer (After id) = is_found_with kept.owner peer (entry_of_id id kept.entries)
is_place_with kept peer (Before id) = is_found_with kept.owner peer (entry_of_id id kept.entries)

-- the number of entries with an account
abbrev pub entries_with : List ℕ → Kept → ℕ
entries_with peer kept = length (filter (is_with kept.owner peer) kept.entries)
