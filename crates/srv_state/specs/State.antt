-- What a server is to its clients, and what it puts out, as plain lists, over any type of what is put.
use Rattle.std.specs.Prelude.{ℕ, List, [], ◌∷◌, ◌++◌, Bool, Option, Some, None, slice_get}
use Rattle.std.specs.BTreeMap.{is_at}
use Rattle.std.specs.Map.{lookup, remove_entry, set_value}
use Rattle.std.specs.Option.{option_map}
use Rattle.std.specs.Ordering.{nat_cmp}
use Rattle.mam_archive.specs.Entries.{EntryView}
use Rattle.sm_live.specs.Sessions.{Session, session_of}
use Rattle.srv_login.specs.Accounts.{bare_text}
use Rattle.srv_login.specs.declared.account.Account.{Account}
use Rattle.sm_resumption.specs.declared.session.SessionView.{SessionView}
use Rattle.srv_state.specs.declared.connection.Connection.{Connection}

-- an account's archive: its bare address, how many entries it keeps, the greatest number given, and the entries
pub record Kept : Type 0 where
  pub owner : List ℕ
  pub keep : ℕ
  pub last : ℕ
  pub entries : List EntryView

-- the domain and the accounts; an archive for each of these, in their order; the sessions that live, ascending by number,
-- and the number of the next one; the connections that are open, each under its number, ascending; the moment
pub record ServerState (A : Type 0) : Type 0 where
  pub domain : List ℕ
  pub accounts : List Account
  pub archives : List Kept
  pub sessions : List (Session A)
  pub next : ℕ
  pub conns : List (ℕ × Connection)
  pub moment : ℕ

-- something for a connection, that it is shut, or that a message was archived
pub data Out (A : Type 0) : Type 0 where
  Put : ℕ → A → Out A
  Shut : ℕ → Out A
  Took : List ℕ → List ℕ → List ℕ → Out A

-- a server, and what it has put out
pub record Step (A : Type 0) : Type 0 where
  pub server_state : ServerState A
  pub outs : List (Out A)

-- ---- connections

abbrev pub is_number : ℕ → ℕ → Bool
is_number k = is_at (nat_cmp k)

abbrev pub conn_at : {A : Type 0} → ℕ → ServerState A → Option Connection
conn_at k h = lookup (is_number k) h.conns

abbrev pub changed : ℕ → (Connection → Connection) → Option Connection → List (ℕ × Connection) → List (ℕ × Connection)
changed k f None conns = conns
changed k f (Some c) conns = set_value (is_number k) conns (f c)

-- the connection is changed, where it is open
abbrev pub with_conn : {A : Type 0} → ℕ → (Connection → Connection) → ServerState A → ServerState A
with_conn k f h = record h { conns = changed k f (conn_at k h) h.conns }

abbrev pub without_conn : {A : Type 0} → ℕ → ServerState A → ServerState A
without_conn k h = record h { conns = remove_entry (is_number k) h.conns }

-- ---- sessions and archives

abbrev pub with_sessions : {A : Type 0} → List (Session A) → ServerState A → ServerState A
with_sessions sessions h = record h { sessions = sessions }

abbrev pub archive_at : {A : Type 0} → ℕ → ServerState A → Option Kept
archive_at account h = slice_get h.archives account

-- ---- addresses (RFC 7622, section 3.1)

abbrev pub name_of : Option Account → List ℕ
name_of None = []
name_of (Some account) = account.name

-- an account's bare address
abbrev pub bare_address : {A : Type 0} → ℕ → ServerState A → List ℕ
bare_address account h = bare_text (name_of (slice_get h.accounts account)) h.domain

-- that of a client of the account with a resource
abbrev pub full_address : {A : Type 0} → ℕ → List ℕ → ServerState A → List ℕ
full_address account resource h = bare_address account h ++ 47 ∷ resource

abbrev pub shown_of : {A : Type 0} → Session A → SessionView
shown_of t = t.shown

abbrev pub address_shown : {A : Type 0} → Option SessionView → ServerState A → List ℕ
address_shown None h = []
address_shown (Some shown) h = full_address shown.account shown.resource h

-- that of the session with a number
abbrev pub session_address : {A : Type 0} → ℕ → ServerState A → List ℕ
session_address n h = address_shown (option_map shown_of (session_of n h.sessions)) h
