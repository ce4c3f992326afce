-- The accounts of a run, each with its archive.
use Rattle.std.specs.Prelude.{◌≡◌, ℕ, zero, suc, ◌+◌, ◌==◌, List, [], ◌∷◌, ◌++◌, length, map, if◌then◌else◌}
use Rattle.mam_archive.specs.Entries.{EntryView, newest, numbered}
use Rattle.cmd_report.specs.Takes.{Take, archive_of}
use Rattle.cmd_replay.specs.declared.run.accounts.Account.{Account}

-- an account's name, the greatest number that its archive gave, and the entries that it keeps
pub record Home : Type 0 where
  pub name : List ℕ
  pub last : ℕ
  pub entries : List EntryView

-- how many entries each archive keeps, the accounts, and how many entries more fit into each archive without further
-- memory
pub record HomesView : Type 0 where
  pub keep : ℕ
  pub homes : List Home
  pub rooms : List ℕ

abbrev pub home_of_account : Account → Home
home_of_account account = record { name = account.name; last = account.archive.last; entries = account.archive.entries }

-- the account's archive keeps so many
abbrev pub Keeps : ℕ → Account → Type 0
Keeps keep account = account.archive.keep ≡ keep

abbrev pub room_of_account : Account → ℕ
room_of_account account = account.archive.spare

abbrev pub names_of : List Home → List (List ℕ)
names_of homes = map (λ home. home.name) homes

-- an account whose archive is empty
abbrev pub empty_home : List ℕ → Home
empty_home name = record { name = name; last = 0; entries = [] }

-- with an entry at the archive's end, under the next number, of which the newest are kept
abbrev pub appended : ℕ → EntryView → Home → Home
appended keep entry home = record home { last = home.last + 1; entries = newest keep (home.entries ++ numbered (home.last + 1) entry ∷ []) }

-- with an entry at the end of the archive at a place
abbrev pub appended_at : ℕ → ℕ → EntryView → List Home → List Home
appended_at keep position entry [] = []
appended_at keep zero entry (home ∷ homes) = appended keep entry home ∷ homes
appended_at keep (suc position) entry (home ∷ homes) = home ∷ appended_at keep position entry homes

-- an entry goes to the archives at two places, or once where they are the same
abbrev pub delivered : ℕ → ℕ → ℕ → EntryView → List Home → List Home
delivered keep from to entry homes =
    if from == to then appended_at keep from entry homes else appended_at keep to entry (appended_at keep from entry homes)

-- the account after these takes
abbrev pub home_at : ℕ → List Take → List ℕ → Home
home_at keep takes name =
    record { name = name; last = length (archive_of name takes); entries = newest keep (archive_of name takes) }
