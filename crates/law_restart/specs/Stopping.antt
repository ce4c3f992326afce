-- A server stops, and is started again.
use Rattle.std.specs.Prelude.{ℕ, List, [], ◌∷◌, ◌++◌, map}
use Rattle.law_server.specs.Events.{Event, Gone, Run, Tick, run}
use Rattle.srv_core.specs.Events.{Whole}
use Rattle.srv_core.specs.Restarts.{at_restart}
use Rattle.srv_login.specs.declared.account.Account.{Account}
use Rattle.srv_state.specs.State.{Kept, ServerState}
use Rattle.srv_state.specs.declared.connection.Connection.{Connection}

-- each of these connections is gone, one after another, at one moment; and time passes, up to another
abbrev pub stopping : ℕ → ℕ → List (ℕ × Connection) → List Event
stopping now later conns = map (λ c. Gone c.0 now) conns ++ Tick later ∷ []

-- a server that is started again with these archives, which has put out nothing
abbrev pub at_first_again : {A : Type 0} → List ℕ → List Account → List Kept → ℕ → ℕ → Run A
at_first_again domain accounts archives session now = run (at_restart domain accounts archives session now) []

-- a server that is started again with the archives and the next session number of another
abbrev pub again : {A : Type 0} → ℕ → ServerState A → Whole A
again now h = at_restart h.domain h.accounts h.archives h.next now
