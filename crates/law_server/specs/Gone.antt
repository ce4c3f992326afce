-- Sessions that have ended for good (XEP-0198, sections 4 and 5), and where a connection stands behind its login.
use Rattle.std.specs.Prelude.{◌≡◌, ℕ, ◌<◌, ◌==◌, false, Option, Some, None}
use Rattle.srv_state.specs.State.{ServerState, conn_at}
use Rattle.srv_state.specs.declared.connection.Connection.{Connection}
use Rattle.srv_state.specs.declared.connection.Phase.TheVariants as phase
use Rattle.sm_live.specs.Sessions.{Session, session_at, session_of}

-- no session has the number, and none will get it: the next one gets a greater
pub record IsGone {A : Type 0} (n : ℕ) (h : ServerState A) : Type 0 where
  pub none : session_of n h.sessions ≡ None
  pub spent : n < h.next

-- that session has ended for good, and each other is there as it was
pub record EndsAlone {A : Type 0} (n : ℕ) (old new : ServerState A) : Type 0 where
  pub gone : IsGone n new
  pub others : (m : ℕ) → (m == n) ≡ false → session_of m new.sessions ≡ session_of m old.sessions

-- ---- where a connection stands behind its login

-- it is logged in as the account, and has this session or none
pub record IsLoggedIn {A : Type 0} (k account : ℕ) (session : Option (Session A)) (h : ServerState A) : Type 0 where
  pub conn : Connection
  pub there : conn_at k h ≡ Some conn
  pub login : conn.phase ≡ phase.Ready account
  pub on : session_at k h.sessions ≡ session
