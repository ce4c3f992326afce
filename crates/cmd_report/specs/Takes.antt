-- Messages that a server took, and the archives that they make.
use Rattle.std.specs.Prelude.{ℕ, ◌+◌, Bool, false, ◌||◌, List, [], ◌∷◌, map, filter}
use Rattle.std.specs.Str.{bytes_eq}
use Rattle.mam_archive.specs.Entries.{EntryView, numbered}
use Rattle.cmd_report.specs.Addresses.{bare_address, full_address, origin_of}

-- A message of a device that the server took: of which account the device is, in which epoch, its number there, to
-- which account, its text, and the moment.
pub record Take : Type 0 where
  pub device : List ℕ
  pub account : List ℕ
  pub epoch : ℕ
  pub n : ℕ
  pub to : List ℕ
  pub text : List ℕ
  pub moment : ℕ

-- the entry that a take makes in an archive, but for its number
abbrev pub entry_of : Take → EntryView
entry_of take = record {
  number = 0;
  stamp = take.moment;
  from = full_address take.account take.device;
  to = bare_address take.to;
  normal = false;
  id = origin_of take.device take.epoch take.n;
  origin = origin_of take.device take.epoch take.n;
  bodies = record { lang = []; text = take.text } ∷ [];
}

-- the take goes into the archive of its sender's account and into that of its recipient
abbrev pub concerns : List ℕ → Take → Bool
concerns account take = bytes_eq account take.account || bytes_eq account take.to

abbrev pub numbered_from : ℕ → List EntryView → List EntryView
numbered_from n [] = []
numbered_from n (entry ∷ entries) = numbered n entry ∷ numbered_from (n + 1) entries

-- an account's archive after these takes, in their order
abbrev pub archive_of : List ℕ → List Take → List EntryView
archive_of account takes = numbered_from 1 (map entry_of (filter (concerns account) takes))
