-- Servers are sound from the start, and stay so at events.
use Rattle.std.proofs.Common.{ℕ, List, arith}
use Rattle.srv_state.specs.Moments.{at_moment, gone_at, with_fresh}
use Rattle.srv_state.specs.State.{ServerState}
use Rattle.srv_login.specs.declared.account.Account.{Account}
use Rattle.srv_core.specs.Configs.{at_start}
use Rattle.srv_core.specs.Events.{Whole, after_connect, after_gone}
use Rattle.law_server.proofs.AccountsKept.{accounts_at_moment, accounts_fresh, accounts_gone}
use Rattle.law_server.proofs.NumbersWithin.{within_first}
use Rattle.law_server.proofs.NumbersKept.{numbers_at_moment, numbers_gone}
use Rattle.law_server.specs.Sound.{IsSound}

pub sound_at_start : {A : Type 0} (domain : List ℕ) (accounts : List Account) (keep : ℕ) → IsSound (at_start {A = A} domain accounts keep).server_state
sound_at_start domain accounts keep = record { numbers = omega arith; accounts = record { sessions = tt; logins = tt }; archives = within_first domain keep accounts }

pub sound_at_moment : {A : Type 0} (now : ℕ) (h : ServerState A) → IsSound h → IsSound (at_moment now h)
sound_at_moment now h is = record { numbers = numbers_at_moment now h is.numbers; accounts = accounts_at_moment now h is.accounts; archives = is.archives }

pub sound_fresh : {A : Type 0} (k : ℕ) (entropy : List ℕ) (h : ServerState A) → IsSound h → IsSound (with_fresh k entropy h)
sound_fresh k entropy h is = record { numbers = is.numbers; accounts = accounts_fresh k entropy h is.accounts; archives = is.archives }

pub sound_gone : {A : Type 0} (k : ℕ) (h : ServerState A) → IsSound h → IsSound (gone_at k h)
sound_gone k h is = record { numbers = numbers_gone k h is.numbers; accounts = accounts_gone k h is.accounts; archives = is.archives }

pub sound_connect : {A : Type 0} (k : ℕ) (entropy : List ℕ) (now : ℕ) (w : Whole A) → IsSound w.server_state → IsSound (after_connect k entropy now w).server_state
sound_connect k entropy now w is = sound_fresh k entropy (at_moment now w.server_state) (sound_at_moment now w.server_state is)

pub sound_gone_now : {A : Type 0} (k now : ℕ) (w : Whole A) → IsSound w.server_state → IsSound (after_gone k now w).server_state
sound_gone_now k now w is = sound_gone k (at_moment now w.server_state) (sound_at_moment now w.server_state is)
