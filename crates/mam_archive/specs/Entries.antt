-- Entries and archives (XEP-0313, "Message Archive Management").
use Rattle.std.specs.Prelude.{◌≡◌, ℕ, ◌+◌, ◌-◌, ◌≤◌, ◌==◌, Bool, List, Option, Some, find, slice_get, length, drop}
use Rattle.mam_archive.specs.declared.archive.TheConstants.{GREATEST_NUMBER}
use Rattle.mam_archive.specs.declared.entry.ArchivedMessage.{ArchivedMessage}
use Rattle.mam_archive.specs.declared.entry.Body.{Body}

-- one message of an account's history: its number, when it was taken (milliseconds since 1970), the addresses
-- as the server saw them, its type (`normal` or else `chat`), its ids and its bodies. An absent text is empty.
pub record EntryView : Type 0 where
  pub number : ℕ
  pub stamp : ℕ
  pub from : List ℕ
  pub to : List ℕ
  pub normal : Bool
  pub id : List ℕ
  pub origin : List ℕ
  pub bodies : List Body

-- the entry of a message under a number
abbrev pub entry_with : ℕ → ArchivedMessage → EntryView
entry_with number message =
    record {
      number = number;
      stamp = message.stamp;
      from = message.from;
      to = message.to;
      normal = message.normal;
      id = message.id;
      origin = message.origin;
      bodies = message.bodies.items;
    }

-- an account's archive: its bare address, how many entries it keeps, the greatest number given (0 where none was),
-- the entries that it keeps, and how many more are taken without further memory
pub record ArchiveView : Type 0 where
  pub owner : List ℕ
  pub keep : ℕ
  pub last : ℕ
  pub entries : List EntryView
  pub spare : ℕ

-- the entry under another number
abbrev pub numbered : ℕ → EntryView → EntryView
numbered n e = record e { number = n }

-- the numbers are consecutive, and the last entry has this one
pub record AreNumbered (last : ℕ) (entries : List EntryView) : Type 0 where
  pub each : (i : ℕ) (e : EntryView) → slice_get entries i ≡ Some e → e.number + length entries ≡ last + 1 + i

-- entries that an archive keeps: at most so many, the last ones of those that got the numbers 1, 2, 3 and so on.
-- None is kept exactly where no number was given
pub record AreKept (keep last : ℕ) (entries : List EntryView) : Type 0 where
  pub numbers : AreNumbered last entries
  pub some : 1 ≤ keep
  pub few : length entries ≤ keep
  pub within : length entries ≤ last
  pub most : last ≤ GREATEST_NUMBER
  pub none : length entries ≡ 0 → last ≡ 0

-- the newest so many of a list
abbrev pub newest : {A : Type 0} → ℕ → List A → List A
newest keep xs = drop (length xs - keep) xs

-- the entry with a number
abbrev pub entry_numbered : ℕ → List EntryView → Option EntryView
entry_numbered n entries = find (λ e. e.number == n) entries
