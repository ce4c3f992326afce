-- Each act but a binding and a resumption.
use Rattle.std.proofs.Common.{◌≡◌, ◌≢◌, ℕ, ◌≤◌, ◌==◌, Bool, true, false, not, cond, List, [], ◌∷◌, ◌++◌, Option, Some, None, length, refl, sym, ap, subst, ◌∙◌, arith, length-append, length-drop}
use Rattle.std.proofs.lemmas.Bool.{and_from, and_parts, eq-eqb, false≢true}
use Rattle.std.proofs.lemmas.Option.{same_Some}
use Rattle.std.specs.Option.{option_map}
use Rattle.sm_acks.specs.Counters.{ahead}
use Rattle.sm_acks.specs.declared.end.TheConstants.{MOST_UNACKNOWLEDGED}
use Rattle.mam_archive.specs.Entries.{EntryView}
use Rattle.srv_state.specs.State.{Kept, ServerState, Step, archive_at}
use Rattle.srv_state.specs.Steps as steps
use Rattle.srv_state.specs.Steps.{Act, act, acted, after_failure, archived_in, ask_where, in_phase, in_sessions, is_due, overflow, part_where, put, put_where, queue, send_by_info}
use Rattle.sm_live.specs.Sessions.{Session, acknowledged, asks, copies, enables, handles, info_of, presents, session_of, told, waits, with_session, without}
use Rattle.sm_live.specs.declared.told.SessionInfo.{SessionInfo}
use Rattle.im_replies.specs.Streams.{error_item}
use Rattle.im_replies.specs.declared.conditions.StreamCondition.TheVariants.{ResourceConstraint}
use Rattle.sim_3_images.proofs.CalmRows.{Calm, calm}
use Rattle.sim_3_images.proofs.Falls.{Falls, both, changed_falls, conn_falls, ended_falls, no_fall, off, refocus, shut_falls, then_falls}
use Rattle.sim_3_images.proofs.MomentsFall.{other_is}
use Rattle.sim_3_images.proofs.RuleKept.{Keeps, was_found}
use Rattle.sim_3_images.specs.Unbound.{IsOrdered}
use Rattle.xml_writer.specs.Items.{ItemOut}

module _ {A : Type 0} (say : ItemOut → A) (x : ℕ → Bool) where
  abbrev Fall : ServerState A → Step A → Type 0
  Fall h s = Falls x x h s.server_state

  put_falls : (o : Option ℕ) (a : A) (h : ServerState A) (s : Step A) → Fall h s → Fall h (put_where o a s)
  put_falls None a h s fell = fell
  put_falls (Some k) a h s fell = fell

  -- one session is changed, of which no more stanzas wait
  same_falls : (n : ℕ) (f : Session A → Session A) (s : Step A) → Keeps f → ((t : Session A) → (f t).shown.conn ≡ t.shown.conn) → ((t : Session A) → length (f t).waiting ≤ length t.waiting) → IsOrdered s.server_state → Fall s.server_state (in_sessions (with_session n f) s)
  same_falls n f s kept conn shorter is =
      changed_falls x n f s.server_state kept conn (λ t it. let short = shorter t in let few = is.sessions.few n t it in omega (arith, short, few)) is

  asks_falls : (n : ℕ) (on : Bool) (s : Step A) → IsOrdered s.server_state → Fall s.server_state (in_sessions (with_session n (asks on)) s)
  asks_falls n on s is = same_falls n (asks on) s (record { number = λ t. refl; account = λ t. refl; resource = λ t. refl }) (λ t. refl) (λ t. omega arith) is

  -- ---- a stanza to a session

  asking_falls : (n : ℕ) (o : Option ℕ) (due : Bool) (s : Step A) → IsOrdered s.server_state → Fall s.server_state (ask_where say n o due s)
  asking_falls n o false s is = no_fall x s.server_state is
  asking_falls n None true s is = no_fall x s.server_state is
  asking_falls n (Some k) true s is = asks_falls n true s is

  queue_falls : (n : ℕ) (a : A) (t : SessionInfo) (s : Step A) → info_of n s.server_state.sessions ≡ Some t → (t.waiting == MOST_UNACKNOWLEDGED) ≡ false → IsOrdered s.server_state → Fall s.server_state (queue say n a t s)
  queue_falls n a t s it room is =
      let u = in_sessions (with_session n (waits a)) s in
      let v = put_where t.conn a u in
      let waited : Fall s.server_state u =
      changed_falls x n (waits a) s.server_state (record { number = λ r. refl; account = λ r. refl; resource = λ r. refl }) (λ r. refl) few is in
      then_falls x x x s.server_state v.server_state (ask_where say n t.conn (is_due t) v).server_state (put_falls t.conn a s.server_state u waited) (λ ordered. asking_falls n t.conn (is_due t) v ordered)
    where
      few : (r : Session A) → session_of n s.server_state.sessions ≡ Some r → length (r.waiting ++ a ∷ []) ≤ MOST_UNACKNOWLEDGED
      few r there =
          let waiting : length r.waiting ≡ t.waiting = ap (λ (u : SessionInfo). u.waiting) (same_Some (told r) t (sym (ap (option_map told) there) ∙ it)) in
          let other : t.waiting ≢ MOST_UNACKNOWLEDGED = λ e. false≢true (sym room ∙ eq-eqb t.waiting MOST_UNACKNOWLEDGED e) in
          let most = is.sessions.few n r there in
          omega (arith, length-append r.waiting (a ∷ []), waiting, other, most)

  -- a connection is shut behind its session, or none is
  part_falls : (o : Option ℕ) (a : A) (h : ServerState A) (s : Step A) → Falls x (both x (off o)) h s.server_state → Fall h (part_where say o a s)
  part_falls None a h s fell = then_falls x (both x (off None)) x h s.server_state s.server_state fell (λ ordered. refocus (both x (off None)) x s.server_state (λ j yes'. and_from (x j) true yes' refl) ordered)
  part_falls (Some k) a h s fell =
      then_falls x (both x (off (Some k))) x h s.server_state _ fell (λ ordered. shut_falls k (both x (off (Some k))) x s.server_state (λ j apart yes'. and_from (x j) (off (Some k) j) yes' (other_is k j apart)) ordered)

  overflow_falls : (n : ℕ) (t : SessionInfo) (s : Step A) → info_of n s.server_state.sessions ≡ Some t → IsOrdered s.server_state → Fall s.server_state (overflow say n t s)
  overflow_falls n t s it is =
      let was = was_found told (session_of n s.server_state.sessions) t it in
      let conn : was.0.shown.conn ≡ t.conn = ap (λ (u : SessionInfo). u.conn) was.2 in
      part_falls t.conn (say (error_item ResourceConstraint)) s.server_state (in_sessions (without n) s)
      (ended_falls x (both x (off t.conn)) n s.server_state was.0 was.1 (λ j yes'. let parts = and_parts (x j) (off t.conn j) yes' in (parts.0, subst (λ c. off c j ≡ true) (sym conn) parts.1)) is)

  send_falls : (n : ℕ) (a : A) (s : Step A) (o : Option SessionInfo) → info_of n s.server_state.sessions ≡ o → IsOrdered s.server_state → Fall s.server_state (send_by_info say n a o s)
  send_falls n a s None it is = no_fall x s.server_state is
  send_falls n a s (Some t) it is =
      choose (not t.counted) (put_where t.conn a s) (cond (t.waiting == MOST_UNACKNOWLEDGED) (overflow say n t s) (queue say n a t s)) (put_falls t.conn a s.server_state s (no_fall x s.server_state is))
      (full (t.waiting == MOST_UNACKNOWLEDGED) refl)
    where
      choose : (b : Bool) (u v : Step A) → Fall s.server_state u → Fall s.server_state v → Fall s.server_state (cond b u v)
      choose true u v here there = here
      choose false u v here there = there

      full : (b : Bool) → (t.waiting == MOST_UNACKNOWLEDGED) ≡ b → Fall s.server_state (cond b (overflow say n t s) (queue say n a t s))
      full true most = overflow_falls n t s it is
      full false room = queue_falls n a t s it room is

  -- ---- each act

  archived_falls : (e : EntryView) (account : ℕ) (o : Option Kept) (h : ServerState A) → IsOrdered h → Falls x x h (archived_in e account o h)
  archived_falls e account None h is = no_fall x h is
  archived_falls e account (Some kept) h is = record { keeps = record { sessions = is.sessions; conns = is.conns }; less = omega arith }

  act_falls : (a : Act A) (s : Step A) (More : Type 0) → calm a More → IsOrdered s.server_state → Fall s.server_state (act say a s)
  act_falls (steps.Say k a) s More c is = no_fall x s.server_state is
  act_falls (steps.Close k) s More c is = shut_falls k x x s.server_state (λ j apart yes'. yes') is
  act_falls (steps.Enter k phase) s More c is = conn_falls x k (in_phase phase) s.server_state is
  act_falls (steps.Fail k left) s More c is = conn_falls x k (after_failure left) s.server_state is
  act_falls (steps.Bind account resource k) s More c is = absurd c
  act_falls (steps.Resume previd account h k) s More c is = absurd c
  act_falls (steps.Enable n resume) s More c is = same_falls n (enables resume) s (record { number = λ t. refl; account = λ t. refl; resource = λ t. refl }) (λ t. refl) (λ t. omega arith) is
  act_falls (steps.Acknowledge n h) s More c is =
      same_falls n (acknowledged h) s (record { number = λ t. refl; account = λ t. refl; resource = λ t. refl }) (λ t. refl) (λ t. omega (arith, length-drop (ahead h t.acked) t.waiting)) is
  act_falls (steps.Ask n on) s More c is = asks_falls n on s is
  act_falls (steps.Handle n) s More c is = same_falls n handles s (record { number = λ t. refl; account = λ t. refl; resource = λ t. refl }) (λ t. refl) (λ t. omega arith) is
  act_falls (steps.Present n available priority) s More c is =
      same_falls n (presents available priority) s (record { number = λ t. refl; account = λ t. refl; resource = λ t. refl }) (λ t. refl) (λ t. omega arith) is
  act_falls (steps.Copy n on) s More c is = same_falls n (copies on) s (record { number = λ t. refl; account = λ t. refl; resource = λ t. refl }) (λ t. refl) (λ t. omega arith) is
  act_falls (steps.Send n a) s More c is = send_falls n a s (info_of n s.server_state.sessions) refl is
  act_falls (steps.Archive account e) s More c is = archived_falls e account (archive_at account s.server_state) s.server_state is
  act_falls (steps.Tell from to origin) s More c is = no_fall x s.server_state is

  rest_calm : (a : Act A) (More : Type 0) → calm a More → More
  rest_calm (steps.Bind account resource k) More c = absurd c
  rest_calm (steps.Resume previd account h k) More c = absurd c
  rest_calm a More c = c

  pub acted_falls : (acts : List (Act A)) (s : Step A) → Calm acts → IsOrdered s.server_state → Fall s.server_state (acted say acts s)
  acted_falls [] s c is = no_fall x s.server_state is
  acted_falls (a ∷ acts) s c is =
      then_falls x x x s.server_state (act say a s).server_state (acted say acts (act say a s)).server_state (act_falls a s (Calm acts) c is) (λ ordered. acted_falls acts (act say a s) (rest_calm a (Calm acts) c) ordered)
