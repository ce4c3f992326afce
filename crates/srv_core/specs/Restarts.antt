-- A server that is started again, with archives that were kept.
use Rattle.std.specs.Prelude.{◌≡◌, ℕ, max, List, [], ◌∷◌, map}
use Rattle.std.specs.List.{flat_map}
use Rattle.mam_archive.specs.Entries.{EntryView}
use Rattle.srv_login.specs.declared.account.Account.{Account}
use Rattle.srv_core.specs.Configs.{archives_of}
use Rattle.srv_core.specs.Events.{Whole}
use Rattle.srv_state.specs.State.{Kept, ServerState}

-- ---- archives of these accounts

-- an archive as it was before its first entry
abbrev pub emptied : Kept → Kept
emptied a = record a { last = 0; entries = [] }

-- there is one for each account, in order, which has the account's bare address and keeps so many entries
abbrev pub AreArchivesOf : List ℕ → ℕ → List Account → List Kept → Type 0
AreArchivesOf domain keep accounts archives = map emptied archives ≡ archives_of domain keep accounts

-- ---- the moment

abbrev pub stamp_of : EntryView → ℕ
stamp_of e = e.stamp

-- the stamps of an archive's entries, and of those of all
abbrev pub stamps_in : Kept → List ℕ
stamps_in a = map stamp_of a.entries

abbrev pub stamps_of : List Kept → List ℕ
stamps_of archives = flat_map stamps_in archives

-- the greatest of a moment and these
abbrev pub greatest : ℕ → List ℕ → ℕ
greatest now [] = now
greatest now (stamp ∷ stamps) = greatest (max now stamp) stamps

-- ---- the server

abbrev pub server_state_at_restart : {A : Type 0} → List ℕ → List Account → List Kept → ℕ → ℕ → ServerState A
server_state_at_restart domain accounts archives session now = record {
  domain = domain;
  accounts = accounts;
  archives = archives;
  sessions = [];
  next = session;
  conns = [];
  moment = greatest now (stamps_of archives);
}

-- These archives and this next session number, no connection and no session. The moment is the greatest of this one and
-- the stamps of all entries.
abbrev pub at_restart : {A : Type 0} → List ℕ → List Account → List Kept → ℕ → ℕ → Whole A
at_restart domain accounts archives session now = record { server_state = server_state_at_restart domain accounts archives session now; framers = [] }
