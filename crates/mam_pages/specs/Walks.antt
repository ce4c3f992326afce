-- What is walked for a page, and how many looks that may take.
use Rattle.std.specs.Prelude.{ℕ, ◌+◌, ◌*◌, Bool, true, List, [], ◌∷◌, Option, Some, None, filter, if◌then◌else◌}
use Rattle.std.specs.Str.{bytes_eq}
use Rattle.mam_archive.specs.Entries.{EntryView}
use Rattle.mam_pages.specs.Kept.{Kept}
use Rattle.mam_pages.specs.Matches.{is_wanted}
use Rattle.mam_archive.specs.Peers.{bare_form, is_with}
use Rattle.mam_pages.specs.Spans.{numbers_of}
use Rattle.mam_pages.specs.declared.query.PageQuery.{PageQuery}

-- with the account that is asked for, from whichever session of it
abbrev pub is_in_chain : List ℕ → Option (List ℕ) → EntryView → Bool
is_in_chain owner None e = true
is_in_chain owner (Some peer) e = is_with owner (bare_form peer) e

-- the entries with that account, or all
abbrev pub chain : Kept → PageQuery → List EntryView
chain kept query = filter (is_in_chain kept.owner query.peer) kept.entries

-- that account is the owner's
abbrev pub is_own : List ℕ → Option (List ℕ) → Bool
is_own owner None = true
is_own owner (Some peer) = bytes_eq owner (bare_form peer)

-- an entry's number, where it matches
abbrev pub wanted_number : List ℕ → PageQuery → EntryView → List ℕ
wanted_number owner query e = if is_wanted owner query e then e.number ∷ [] else []

-- of these entries, the numbers of those that match
abbrev pub wanted_numbers : List ℕ → PageQuery → List EntryView → List ℕ
wanted_numbers owner query entries = numbers_of (filter (is_wanted owner query) entries)

-- how many looks at most are taken for entries that are walked along their chain: where it begins, and for each the
-- entry and the next
abbrev pub chain_looks : ℕ → ℕ
chain_looks entries = 2 * entries + 1

-- the number of the first of these entries
abbrev pub head_number : List EntryView → Option ℕ
head_number [] = None
head_number (e ∷ es) = Some e.number
