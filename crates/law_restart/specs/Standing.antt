-- What is so of a server at all times, from its start on.
use Rattle.std.specs.Prelude.{◌≡◌, ◌≤◌, ℕ, IfSome, List, Some, map}
use Rattle.std.specs.List.{AllByRecursion}
use Rattle.mam_archive.specs.Entries.{EntryView}
use Rattle.mam_archive.specs.declared.archive.TheConstants.{GREATEST_NUMBER}
use Rattle.srv_core.specs.Events.{Whole}
use Rattle.srv_state.specs.State.{Kept, ServerState, archive_at, conn_at}
use Rattle.srv_state.specs.declared.connection.Connection.{Connection}
use Rattle.srv_state.specs.declared.connection.Phase.TheVariants as phase
use Rattle.sm_live.specs.Sessions.{Session, session_at}
use Rattle.law_server.specs.Sound.{IsSound}

-- the numbers of what has one
abbrev pub numbers_of : {V : Type 0} → List (ℕ × V) → List ℕ
numbers_of entries = map (λ e. e.0) entries

-- where the session is on a connection, it is the one that is found there
abbrev pub IsAlone : {A : Type 0} → List (Session A) → Session A → Type 0
IsAlone sessions s = (k : ℕ) → s.shown.conn ≡ Some k → session_at k sessions ≡ Some s

-- the connection that it is on is open, and logged in as its account
abbrev pub IsOnItsLogin : {A : Type 0} → ServerState A → Session A → Type 0
IsOnItsLogin h s = (k : ℕ) → s.shown.conn ≡ Some k → (c : Connection) × (conn_at k h ≡ Some c) × (c.phase ≡ phase.Ready s.shown.account)

-- it was parked, where it was, at a moment that has been
abbrev pub WasParkedBy : {A : Type 0} → ℕ → Session A → Type 0
WasParkedBy now s = s.shown.parked_at ≤ now

-- each entry has the stamp of a moment that has been
abbrev pub AreStampedBy : ℕ → List EntryView → Type 0
AreStampedBy now entries = AllByRecursion (λ (e : EntryView). e.stamp ≤ now) entries

-- A server stands where it is sound; a connection has one session at most, and is open and logged in as the account of that
-- one; each session was parked, and each entry archived, at moments that have been; and those connections whose bytes are
-- framed are the open ones.
pub record IsStanding {A : Type 0} (w : Whole A) : Type 0 where
  pub sound : IsSound w.server_state
  pub alone : AllByRecursion (IsAlone w.server_state.sessions) w.server_state.sessions
  pub seated : AllByRecursion (IsOnItsLogin w.server_state) w.server_state.sessions
  pub parked : AllByRecursion (WasParkedBy w.server_state.moment) w.server_state.sessions
  pub stamped : (account : ℕ) → IfSome (archive_at account w.server_state) (λ (kept : Kept). AreStampedBy w.server_state.moment kept.entries)
  pub framed : numbers_of w.framers ≡ numbers_of w.server_state.conns

-- ---- a server with which one may start again

-- no archive gave a number above the greatest
abbrev pub AreWithin : List Kept → Type 0
AreWithin archives = AllByRecursion (λ (kept : Kept). kept.last ≤ GREATEST_NUMBER) archives
