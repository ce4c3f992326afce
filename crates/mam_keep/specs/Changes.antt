-- What a commit makes of what is kept.
use Rattle.std.specs.Prelude.{◌≡◌, ℕ, ◌+◌, ◌<◌, ◌≤◌, ◌==◌, List, [], ◌∷◌, ◌++◌, Option, IfSome, true, if◌then◌else◌}
use Rattle.std.specs.List.{AllByRecursion}
use Rattle.std.specs.Str.{bytes_eq}
use Rattle.mam_archive.specs.Entries.{EntryView, newest}
use Rattle.mam_archive.specs.declared.archive.TheConstants.{GREATEST_NUMBER}
use Rattle.mam_keep.specs.Kept.{BothTold, IsOf, IsSession, Table, Tables}

-- one entry more for an account, whose newest so many are kept
pub record AppendView : Type 0 where
  pub owner : List ℕ
  pub keep : ℕ
  pub entry : EntryView

-- the number of the next session from then on, and the entries that came, in order
pub record ChangeView : Type 0 where
  pub session : ℕ
  pub appends : List AppendView

-- an archive with an entry more. Where its number isn't the next one, those between were purged, and so are those
-- before
abbrev pub with_entry : AppendView → Table → Table
with_entry a t = record {
  last = a.entry.number;
  entries = newest a.keep ((if a.entry.number == t.last + 1 then t.entries else []) ++ a.entry ∷ []);
}

-- an account's archive after these appends, of which those of other accounts change nothing
abbrev pub after : List ℕ → List AppendView → Table → Table
after owner [] t = t
after owner (a ∷ rest) t = after owner rest (if bytes_eq a.owner owner then with_entry a t else t)

-- an entry that may be committed, whatever is kept
pub record MayAppend (a : AppendView) : Type 0 where
  pub keep : 1 ≤ a.keep
  pub entry : IsOf a.owner a.entry
  pub low : 1 ≤ a.entry.number
  pub high : a.entry.number ≤ GREATEST_NUMBER

-- the numbers of an account's entries rise from its last one
abbrev pub Rise : List ℕ → List AppendView → ℕ → Type 0
Rise owner [] last = Unit {0}
Rise owner (a ∷ rest) last =
    (bytes_eq a.owner owner ≡ true → last < a.entry.number) × Rise owner rest (if bytes_eq a.owner owner then a.entry.number else last)

-- a change that may be committed over what is kept, where the keeper says that
pub record MayCommit (c : ChangeView) (tables : Option Tables) : Type 0 where
  pub session : IsSession c.session
  pub appends : AllByRecursion MayAppend c.appends
  pub rise : IfSome tables (λ t. (owner : List ℕ) → Rise owner c.appends (t.table owner).last)

-- what is kept once a change was made
pub record IsAfter (c : ChangeView) (old new : Tables) : Type 0 where
  pub session : new.session ≡ c.session
  pub each : (owner : List ℕ) → new.table owner ≡ after owner c.appends (old.table owner)

-- the same where the keeper says what it keeps
abbrev pub Makes : ChangeView → Option Tables → Option Tables → Type 0
Makes c old new = BothTold (IsAfter c) old new
