-- Moments, and connections that come and go, go through.
use Rattle.std.proofs.Common.{◌≡◌, ℕ, ◌-◌, max, Bool, true, false, not, ◌&&◌, nat_le, List, Option, Some, None, cond, refl, ap, ◌∙◌}
use Rattle.std.specs.BTreeMap.{insert_entry}
use Rattle.std.specs.Map.{remove_entry}
use Rattle.std.specs.Option.{is_none, option_map}
use Rattle.std.specs.Ordering.{nat_cmp}
use Rattle.srv_state.specs.Moments.{at_moment, gone_at, with_fresh}
use Rattle.srv_state.specs.State.{Out, ServerState, is_number, with_sessions, without_conn}
use Rattle.xml_framer.specs.Limits.{server_limits}
use Rattle.xml_framer.specs.States.{from_start}
use Rattle.sm_live.specs.Sessions.{Session, lost, parked, session_at, unexpired, with_session, without}
use Rattle.sm_resumption.specs.declared.answers.TheConstants.{RESUMABLE_FOR}
use Rattle.srv_core.specs.Events.{Whole, after_connect, after_gone, begun, whole}
use Rattle.law_server.proofs.SessionsRendered.{at_rendered, changed_rendered, filtered, without_rendered}
use Rattle.law_server.specs.Rendered.{outs_rendered, server_state_rendered, session_rendered, sessions_rendered, step_rendered}
use Rattle.law_server.specs.Encodings.{whole_rendered}

-- ---- moments

unexpired_rendered : {A B : Type 0} (f : A → B) (now : ℕ) (ss : List (Session A)) → unexpired now (sessions_rendered f ss) ≡ sessions_rendered f (unexpired now ss)
unexpired_rendered f now ss = filtered f (λ v. not (is_none v.conn && nat_le RESUMABLE_FOR (now - v.parked_at))) ss

pub moment_rendered : {A B : Type 0} (f : A → B) (now : ℕ) (h : ServerState A) → at_moment now (server_state_rendered f h) ≡ server_state_rendered f (at_moment now h)
moment_rendered f now h = ap (λ sessions. record (server_state_rendered f h) { moment = max h.moment now; sessions = sessions }) (unexpired_rendered f (max h.moment now) h.sessions)

pub begun_rendered : {A B : Type 0} (f : A → B) (now : ℕ) (h : ServerState A) (outs : List (Out A)) → begun now (server_state_rendered f h) (outs_rendered f outs) ≡ step_rendered f (begun now h outs)
begun_rendered f now h outs = ap (λ server_state. record { server_state = server_state; outs = outs_rendered f outs }) (moment_rendered f now h)

-- ---- connections

lost_one : {A B : Type 0} (f : A → B) (now n : ℕ) (ss : List (Session A)) (b : Bool) →
    cond b (with_session n (parked now) (sessions_rendered f ss)) (without n (sessions_rendered f ss)) ≡ sessions_rendered f (cond b (with_session n (parked now) ss) (without n ss))
lost_one f now n ss true = changed_rendered f n (parked now) (parked now) ss (λ t. refl)
lost_one f now n ss false = without_rendered f n ss

lost_rendered : {A B : Type 0} (f : A → B) (now : ℕ) (o : Option (Session A)) (ss : List (Session A)) → lost now (option_map (session_rendered f) o) (sessions_rendered f ss) ≡ sessions_rendered f (lost now o ss)
lost_rendered f now None ss = refl
lost_rendered f now (Some s) ss = lost_one f now s.shown.number ss s.shown.resumable

pub fresh_rendered : {A B : Type 0} (f : A → B) (k : ℕ) (entropy : List ℕ) (h : ServerState A) → with_fresh k entropy (server_state_rendered f h) ≡ server_state_rendered f (with_fresh k entropy h)
fresh_rendered f k entropy h = refl

pub gone_rendered : {A B : Type 0} (f : A → B) (k : ℕ) (h : ServerState A) → gone_at k (server_state_rendered f h) ≡ server_state_rendered f (gone_at k h)
gone_rendered f k h =
    ap (λ sessions. with_sessions sessions (without_conn k (server_state_rendered f h)))
    (ap (λ o. lost h.moment o (sessions_rendered f h.sessions)) (at_rendered f k h.sessions) ∙ lost_rendered f h.moment (session_at k h.sessions) h.sessions)

pub connect_rendered : {A B : Type 0} (f : A → B) (k : ℕ) (entropy : List ℕ) (now : ℕ) (w : Whole A) → after_connect k entropy now (whole_rendered f w) ≡ whole_rendered f (after_connect k entropy now w)
connect_rendered f k entropy now w = ap (λ server_state. whole (with_fresh k entropy server_state) (insert_entry nat_cmp w.framers k (from_start server_limits))) (moment_rendered f now w.server_state)

pub left_rendered : {A B : Type 0} (f : A → B) (k now : ℕ) (w : Whole A) → after_gone k now (whole_rendered f w) ≡ whole_rendered f (after_gone k now w)
left_rendered f k now w =
    ap (λ server_state. whole server_state (remove_entry (is_number k) w.framers)) (ap (gone_at k) (moment_rendered f now w.server_state) ∙ gone_rendered f k (at_moment now w.server_state))
