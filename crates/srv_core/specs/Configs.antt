-- What a server begins with.
use Rattle.std.specs.Prelude.{ℕ, Bool, List, [], Option, Some, None, Result, Ok, Err, map, if◌then◌else◌, not}
use Rattle.std.specs.Option.{option_map}
use Rattle.std.specs.Str.{bytes_eq}
use Rattle.im_jid.specs.Forms.{domain_form}
use Rattle.srv_login.specs.Accounts.{accounts_fault, bare_text, is_form}
use Rattle.srv_login.specs.declared.account.Account.{Account}
use Rattle.srv_login.specs.declared.accounts_fault.AccountsFault.{AccountsFault}
use Rattle.srv_login.specs.declared.accounts_fault.AccountsFault.TheVariants as accounts
use Rattle.srv_core.specs.Events.{Whole}
use Rattle.srv_state.specs.State.{Kept, ServerState}
use Rattle.srv_core.specs.declared.config.ConfigFault.{ConfigFault}
use Rattle.srv_core.specs.declared.config.ConfigFault.TheVariants as config

-- an archive without entries
abbrev pub empty_kept : List ℕ → ℕ → List ℕ → Kept
empty_kept domain keep name = record { owner = bare_text name domain; keep = keep; last = 0; entries = [] }

abbrev pub archives_of : List ℕ → ℕ → List Account → List Kept
archives_of domain keep accounts = map (λ (a : Account). empty_kept domain keep a.name) accounts

abbrev pub server_state_at_start : {A : Type 0} → List ℕ → List Account → ℕ → ServerState A
server_state_at_start domain accounts keep = record {
  domain = domain;
  accounts = accounts;
  archives = archives_of domain keep accounts;
  sessions = [];
  next = 1;
  conns = [];
  moment = 0;
}

-- no connection and no session
abbrev pub at_start : {A : Type 0} → List ℕ → List Account → ℕ → Whole A
at_start domain accounts keep = record { server_state = server_state_at_start domain accounts keep; framers = [] }

-- ---- what is wrong

abbrev pub fault_of_accounts : AccountsFault → ConfigFault
fault_of_accounts (accounts.BadName position) = config.BadName position
fault_of_accounts (accounts.Twice position) = config.Twice position
fault_of_accounts (accounts.NoIterations position) = config.NoIterations position
fault_of_accounts accounts.NoMemory = config.NoMemory

-- the domain is in normal form (RFC 7622, section 3.2)
abbrev pub is_normal_domain : List ℕ → Bool
is_normal_domain domain = is_form (domain_form domain) domain

-- the domain is judged first, then the accounts in their order
abbrev pub config_fault : List ℕ → List Account → Option ConfigFault
config_fault domain accounts = if not (is_normal_domain domain) then Some config.BadDomain else option_map fault_of_accounts (accounts_fault accounts)
