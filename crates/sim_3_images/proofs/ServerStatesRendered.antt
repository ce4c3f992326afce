-- A moment, a connection that comes and one that goes are the same however what waits is written.
use Rattle.std.proofs.Common.{◌≡◌, ℕ, ◌-◌, nat_le, not, ◌&&◌, max, Bool, true, false, List, Option, Some, None, cond, refl, ap, ◌∙◌}
use Rattle.std.specs.Option.{is_none, option_map}
use Rattle.srv_state.specs.Moments.{at_moment, gone_at, with_fresh}
use Rattle.srv_state.specs.State.{ServerState, with_sessions, without_conn}
use Rattle.sm_live.specs.Sessions.{Session, lost, parked, session_at, with_session, without}
use Rattle.sm_resumption.specs.declared.answers.TheConstants.{RESUMABLE_FOR}
use Rattle.law_server.proofs.SessionsRendered.{at_rendered, changed_rendered, filtered, without_rendered}
use Rattle.law_server.specs.Rendered.{server_state_rendered, session_rendered, sessions_rendered}
pub use Rattle.law_server.proofs.MomentsRendered.{fresh_rendered, gone_rendered, moment_rendered}

lost_one : {A B : Type 0} (f : A → B) (now : ℕ) (s : Session A) (ss : List (Session A)) (b : Bool) → cond b (with_session s.shown.number (parked now) (sessions_rendered f ss)) (without s.shown.number (sessions_rendered f ss))
    ≡ sessions_rendered f (cond b (with_session s.shown.number (parked now) ss) (without s.shown.number ss))
lost_one f now s ss true = changed_rendered f s.shown.number (parked now) (parked now) ss (λ t. refl)
lost_one f now s ss false = without_rendered f s.shown.number ss
