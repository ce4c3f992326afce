-- Sessions and logins are of accounts that exist.
use Rattle.std.specs.Prelude.{ℕ, ◌<◌, List, length}
use Rattle.std.specs.List.{AllByRecursion}
use Rattle.srv_state.specs.State.{ServerState}
use Rattle.srv_state.specs.declared.connection.Connection.{Connection}
use Rattle.srv_state.specs.declared.connection.Phase.{Phase}
use Rattle.srv_state.specs.declared.connection.Phase.TheVariants as phase
use Rattle.sm_live.specs.Sessions.{Session}
use Rattle.srv_login.specs.declared.account.Account.{Account}

-- it has one of these places
abbrev pub Exists : List Account → ℕ → Type 0
Exists accounts account = account < length accounts

-- the account of a login, where there is one
abbrev pub IsOfAccount : List Account → Phase → Type 0
IsOfAccount accounts phase.Start = Unit {0}
IsOfAccount accounts phase.Login = Unit {0}
IsOfAccount accounts (phase.Challenge n) = Exists accounts n.account
IsOfAccount accounts (phase.Restart account) = Exists accounts account
IsOfAccount accounts (phase.Ready account) = Exists accounts account

pub record HaveAccounts {A : Type 0} (h : ServerState A) : Type 0 where
  pub sessions : AllByRecursion (λ (s : Session A). Exists h.accounts s.shown.account) h.sessions
  pub logins : AllByRecursion (λ (e : ℕ × Connection). IsOfAccount h.accounts e.1.phase) h.conns
