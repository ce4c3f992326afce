-- Moments pass, and connections come and go.
use Rattle.std.specs.Prelude.{ℕ, max, List}
use Rattle.std.specs.BTreeMap.{insert_entry}
use Rattle.std.specs.Ordering.{nat_cmp}
use Rattle.srv_state.specs.State.{ServerState, with_sessions, without_conn}
use Rattle.srv_state.specs.declared.connection.Connection.{Connection}
use Rattle.srv_state.specs.declared.connection.Phase.TheVariants as phase
use Rattle.srv_state.specs.declared.connection.Tries.TheVariants as tries
use Rattle.sm_live.specs.Sessions.{lost, session_at, unexpired}

-- Each event moves the moment on, and ends the sessions that were parked for too long (XEP-0198, section 5).
abbrev pub at_moment : {A : Type 0} → ℕ → ServerState A → ServerState A
at_moment now h = record h { moment = max h.moment now; sessions = unexpired (max h.moment now) h.sessions }

-- a connection comes, with the bytes that were drawn for it
abbrev pub fresh_conn : List ℕ → Connection
fresh_conn entropy = record { entropy = entropy; phase = phase.Start; tries = tries.Three }

abbrev pub with_fresh : {A : Type 0} → ℕ → List ℕ → ServerState A → ServerState A
with_fresh k entropy h = record h { conns = insert_entry nat_cmp h.conns k (fresh_conn entropy) }

-- a connection is gone: its session is parked where it can be resumed, and else ends
abbrev pub gone_at : {A : Type 0} → ℕ → ServerState A → ServerState A
gone_at k h = with_sessions (lost h.moment (session_at k h.sessions) h.sessions) (without_conn k h)
