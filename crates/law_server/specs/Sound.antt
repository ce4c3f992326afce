-- What is so of a server's sessions, logins and archives from the start.
use Rattle.std.specs.Prelude.{ℕ, ◌≤◌, IfSome}
use Rattle.mam_archive.specs.declared.archive.TheConstants.{GREATEST_NUMBER}
use Rattle.srv_state.specs.State.{Kept, ServerState, archive_at}
use Rattle.law_server.specs.Accounts.{HaveAccounts}
use Rattle.law_server.specs.Numbers.{HaveNumbers}

-- Sessions have numbers of their own, and are of accounts that exist, as logins are. No archive gave a number above the
-- greatest.
pub record IsSound {A : Type 0} (h : ServerState A) : Type 0 where
  pub numbers : HaveNumbers h
  pub accounts : HaveAccounts h
  pub archives : (account : ℕ) → IfSome (archive_at account h) (λ (kept : Kept). kept.last ≤ GREATEST_NUMBER)
