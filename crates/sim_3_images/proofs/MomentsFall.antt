-- Moments pass, and connections come and go.
use Rattle.std.proofs.Common.{◌≡◌, ◌≢◌, ℕ, ◌+◌, ◌≤◌, ◌==◌, Bool, true, false, not, cond, max, List, Option, Some, None, is_none, refl, sym, ap, subst, arith}
use Rattle.std.proofs.lemmas.Bool.{ne_eqb}
use Rattle.srv_state.specs.Moments.{at_moment, fresh_conn, gone_at, with_fresh}
use Rattle.srv_state.specs.State.{ServerState, with_sessions, without_conn}
use Rattle.sm_live.specs.Sessions.{Session, is_at, is_expired, lost, parked, session_at, session_of, with_session, without}
use Rattle.sim_3_images.proofs.Counted.{inserted_ascend, inserted_pass}
use Rattle.sim_3_images.proofs.Falls.{Falls, bound_is, counts, ended_falls, every_one, gone_conn_falls, moved_falls, off, parked_go_falls, sessions_fall, then_falls}
use Rattle.sim_3_images.proofs.RuleKept.{Keeps, numbered_here, on_seat, stays}
use Rattle.sim_3_images.specs.Unbound.{IsOrdered, unbound}

pub other_is : (k j : ℕ) → j ≢ k → off (Some k) j ≡ true
other_is k j apart = (let other : (k == j) ≡ false = ne_eqb k j (λ e. apart (sym e)) in rw other refl)

module _ {A : Type 0} where
  attached_stays : (now : ℕ) (s : Session A) (j : ℕ) → s.shown.conn ≡ Some j → not (is_expired now s) ≡ true
  attached_stays now s j on = (let some : is_none s.shown.conn ≡ false = ap is_none on in rw some refl)

  pub moment_falls : (now : ℕ) (h : ServerState A) → IsOrdered h → Falls every_one every_one h (at_moment now h)
  moment_falls now h is =
      let fell = parked_go_falls every_one (λ s. not (is_expired (max h.moment now) s)) h (attached_stays (max h.moment now)) is in
      record { keeps = record { sessions = fell.keeps.sessions; conns = fell.keeps.conns }; less = fell.less }

  parks : (now : ℕ) → Keeps (parked {A = A} now)
  parks now = record { number = λ s. refl; account = λ s. refl; resource = λ s. refl }

  abbrev Off : ℕ → Session A → Type 0
  Off k s = (j : ℕ) → off (Some k) j ≡ true → (every_one j ≡ true) × (off s.shown.conn j ≡ true)

  -- the session is parked, or ends
  lost_falls : (k : ℕ) (h : ServerState A) → IsOrdered h → (o : Option (Session A)) → session_at k h.sessions ≡ o → Falls every_one (off (Some k)) h (with_sessions (lost h.moment o h.sessions) h)
  lost_falls k h is None at_k = sessions_fall every_one (off (Some k)) h.sessions h is is.sessions (λ j yes'. refl) (λ j s yes' there. bound_is j h.sessions s there)
  lost_falls k h is (Some s) at_k = by s.shown.resumable
    where
      here : session_of s.shown.number h.sessions ≡ Some s
      here = numbered_here (is_at k) h.next 1 h.sessions s is.sessions.ascending at_k

      apart : Off k s
      apart j yes' = (refl, subst (λ c. off c j ≡ true) (sym (on_seat k h.sessions s at_k)) yes')

      by : (b : Bool) → Falls every_one (off (Some k)) h (with_sessions (cond b (with_session s.shown.number (parked h.moment) h.sessions) (without s.shown.number h.sessions)) h)
      by true =
          moved_falls every_one (off (Some k)) s.shown.number (λ j. ⊥) (parked h.moment) h s here (parks h.moment) (stays h.sessions (parked h.moment) (λ t j on. absurd (let no_way : ⊥ = cc on in no_way))) (λ t it. is.sessions.few s.shown.number t it) apart is
      by false = ended_falls every_one (off (Some k)) s.shown.number h s here apart is

  -- and its connection is no more
  pub gone_falls : (k : ℕ) (h : ServerState A) → IsOrdered h → Falls every_one every_one h (gone_at k h)
  gone_falls k h is =
      let g = with_sessions (lost h.moment (session_at k h.sessions) h.sessions) h in
      then_falls every_one (off (Some k)) every_one h g (without_conn k g) (lost_falls k h is (session_at k h.sessions) refl)
      (λ ordered. gone_conn_falls k (off (Some k)) every_one g (λ j apart yes'. other_is k j apart) ordered)

  -- a connection comes
  pub fresh_ordered : (k : ℕ) (entropy : List ℕ) (h : ServerState A) → IsOrdered h → IsOrdered (with_fresh k entropy h)
  fresh_ordered k entropy h is = record { sessions = is.sessions; conns = inserted_ascend k (fresh_conn entropy) h.conns is.conns }

  pub fresh_rises : (k : ℕ) (entropy : List ℕ) (h : ServerState A) → (with_fresh k entropy h).next + unbound (with_fresh k entropy h) ≤ h.next + unbound h + 1
  fresh_rises k entropy h = let more = inserted_pass (counts every_one h.sessions) k (fresh_conn entropy) h.conns in omega (arith, more)
