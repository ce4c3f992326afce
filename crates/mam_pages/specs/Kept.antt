-- The entries that an archive keeps: those with the highest numbers. So the numbers go up by one, and the first may be
-- any.
use Rattle.std.specs.Prelude.{ℕ, ◌≤◌, List, [], ◌∷◌, length}
use Rattle.mam_archive.specs.Entries.{AreNumbered, ArchiveView, EntryView}

-- an account's bare address, and the entries of its archive
pub record Kept : Type 0 where
  pub owner : List ℕ
  pub entries : List EntryView

-- the number of the first entry, or 1 where there is none
abbrev pub first_number : List EntryView → ℕ
first_number [] = 1
first_number (e ∷ es) = e.number

-- the number of the last entry, or another where there is none
abbrev pub last_number_or : ℕ → List EntryView → ℕ
last_number_or n [] = n
last_number_or n (e ∷ es) = last_number_or e.number es

-- the number of the last entry, or 0 where there is none
abbrev pub last_number : List EntryView → ℕ
last_number entries = last_number_or 0 entries

-- the numbers are consecutive, and none of them is 0
pub record AreConsecutive (entries : List EntryView) : Type 0 where
  pub numbers : AreNumbered (last_number entries) entries
  pub from_one : length entries ≤ last_number entries

-- what an archive keeps
abbrev pub kept_of : ArchiveView → Kept
kept_of archive = record { owner = archive.owner; entries = archive.entries }

-- these entries of an account's
abbrev pub kept_by : List ℕ → List EntryView → Kept
kept_by owner entries = record { owner = owner; entries = entries }
