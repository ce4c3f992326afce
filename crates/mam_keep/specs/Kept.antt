-- What a keeper keeps over restarts: the number of the next session, and each account's archive (XEP-0313).
use Rattle.std.specs.Prelude.{◌≡◌, ◌≢◌, ℕ, ◌≤◌, ◌⊎◌, List, [], ◌∷◌, length, Option, None, Some, IfSome, if◌then◌else◌}
use Rattle.std.specs.List.{AllByRecursion}
use Rattle.std.specs.Str.{bytes_eq}
use Rattle.mam_archive.specs.Entries.{AreNumbered, EntryView}
use Rattle.mam_archive.specs.Peers.{bare_form}
use Rattle.mam_archive.specs.declared.archive.TheConstants.{GREATEST_NUMBER}
use Rattle.mam_keep.specs.declared.checks.TheConstants.{GREATEST_SESSION, GREATEST_STAMP}

-- an archive as it is kept: the greatest number given, 0 where none was, and the entries
pub record Table : Type 0 where
  pub last : ℕ
  pub entries : List EntryView

-- the same with the bare address of its account
pub record OwnedTable : Type 0 where
  pub owner : List ℕ
  pub table : Table

-- what is kept: the number of the next session, and the archive of each bare address. It is a function, so that an
-- account without an archive and one with a blank archive are the same, and no order of accounts is kept
pub record Tables : Type 0 where
  pub session : ℕ
  pub table : List ℕ → Table

-- the same as a list of archives
pub record KeptView : Type 0 where
  pub session : ℕ
  pub archives : List OwnedTable

-- the archive of an account that has none yet
abbrev pub blank : Table
blank = record { last = 0; entries = [] }

-- an account's archive among these: the first that it owns
abbrev pub table_in : List ℕ → List OwnedTable → Table
table_in owner [] = blank
table_in owner (a ∷ rest) = if bytes_eq a.owner owner then a.table else table_in owner rest

-- an account is one of the two parties of an entry
abbrev pub IsParty : List ℕ → EntryView → Type 0
IsParty owner e = (bare_form e.from ≡ owner) ⊎ (bare_form e.to ≡ owner)

-- what is true of each kept entry of an account
pub record IsOf (owner : List ℕ) (e : EntryView) : Type 0 where
  pub party : IsParty owner e
  pub stamp : e.stamp ≤ GREATEST_STAMP

-- an archive that may be answered as an account's: its entries have consecutive numbers from 1 on that end with `last`,
-- and are none exactly where that is 0
pub record IsTable (owner : List ℕ) (t : Table) : Type 0 where
  pub numbers : AreNumbered t.last t.entries
  pub within : length t.entries ≤ t.last
  pub most : t.last ≤ GREATEST_NUMBER
  pub none : length t.entries ≡ 0 → t.last ≡ 0
  pub each : AllByRecursion (IsOf owner) t.entries

abbrev pub IsOwnedTable : OwnedTable → Type 0
IsOwnedTable o = IsTable o.owner o.table

-- no two of these have one owner
abbrev pub Differ : List OwnedTable → Type 0
Differ [] = Unit {0}
Differ (o ∷ os) = AllByRecursion (λ p. p.owner ≢ o.owner) os × Differ os

-- a number that a server may give to its next session
pub record IsSession (n : ℕ) : Type 0 where
  pub low : 1 ≤ n
  pub high : n ≤ GREATEST_SESSION

-- what a keeper may answer
pub record IsKeptRight (k : KeptView) : Type 0 where
  pub session : IsSession k.session
  pub archives : AllByRecursion IsOwnedTable k.archives
  pub owners : Differ k.archives

-- two that keep the same
pub record AreSame (s t : Tables) : Type 0 where
  pub session : t.session ≡ s.session
  pub each : (owner : List ℕ) → t.table owner ≡ s.table owner

-- what an answer says; an archive that isn't in it is blank
abbrev pub tables_of : KeptView → Tables
tables_of k = record { session = k.session; table = λ owner. table_in owner k.archives }

-- where a keeper says what it keeps, the answer is that
abbrev pub Tells : Option Tables → KeptView → Type 0
Tells tables k = IfSome tables (λ t. AreSame t (tables_of k))

-- of what a keeper keeps before and after a call: it says both, and then this holds of them, or neither
abbrev pub BothTold : (Tables → Tables → Type 0) → Option Tables → Option Tables → Type 0
BothTold R (Some s) (Some t) = R s t
BothTold R (Some s) None = ⊥
BothTold R None (Some t) = ⊥
BothTold R None None = Unit {0}

-- a call changed nothing that is kept
abbrev pub Stays : Option Tables → Option Tables → Type 0
Stays old new = BothTold AreSame old new
