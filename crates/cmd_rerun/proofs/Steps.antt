-- What the small steps leave of a connection and of the sessions on it.
use Rattle.std.proofs.Common.{◌≡◌, ◌==◌, ◌⊎◌, ℕ, Bool, true, false, not, ◌||◌, List, [], ◌∷◌, ◌++◌, Option, Some, None, ap, cond, refl, subst, sym, ◌∙◌, inl, inr}
use Rattle.std.proofs.lemmas.Bool.{cases_Bool, false≢true}
use Rattle.std.specs.List.{AllByRecursion}
use Rattle.sm_acks.specs.declared.end.TheConstants.{MOST_UNACKNOWLEDGED}
use Rattle.mam_archive.specs.Entries.{EntryView}
use Rattle.srv_state.specs.State.{Kept, Out, Put, Shut, Step, Took, archive_at, changed, conn_at, is_number, with_conn}
use Rattle.srv_state.specs.Steps.{Act, Acknowledge, Archive, Ask, Bind, Close, Copy, Enable, Enter, Fail, Handle, Present, Resume, Say, Send, Tell, act, acted, after_failure, archived_in, ask_where, in_server_state, in_phase, in_sessions, is_due, overflow, part, part_where, put, put_where, queue, send_by_info, shut}
use Rattle.srv_state.specs.declared.connection.Connection.{Connection}
use Rattle.sm_live.specs.Sessions.{Session, acknowledged, asks, copies, enables, handles, info_of, is_at, presents, waits, with_session, without}
use Rattle.sm_live.specs.declared.told.SessionInfo.{SessionInfo}
use Rattle.im_replies.specs.Management.{request_item}
use Rattle.im_replies.specs.Streams.{error_item}
use Rattle.im_replies.specs.declared.conditions.StreamCondition.TheVariants.{ResourceConstraint}
use Rattle.srv_core.specs.Telling.{is_shut, is_told}
use Rattle.cmd_rerun.proofs.Entries.{Absent, Sole, absent_before, absent_removed, absent_set, removed_absent, same_is, set_absent, sole_removed, sole_set}
use Rattle.cmd_rerun.proofs.Sessions.{EachIs, IsAway, NoneAt, each_filter, each_with, none_left}
use Rattle.xml_writer.specs.Items.{Closing, ItemOut}

-- ---- what steps add up to, of connection k

-- It does not come back, and where it closed no session is left on it. What is so of each session is so behind them. That
-- the connection is shut was told before, or it is closed now.
pub record Goes {A : Type 0} (k : ℕ) (s u : Step A) : Type 1 where
  pub closed : Absent k s.server_state.conns → Absent k u.server_state.conns
  pub sole : Sole k s.server_state.conns → Sole k u.server_state.conns
  pub back : Absent k u.server_state.conns → Absent k s.server_state.conns ⊎ NoneAt k u.server_state.sessions
  pub each : (Q : ℕ → Option ℕ → Type 0) → EachIs Q s.server_state.sessions → EachIs Q u.server_state.sessions
  pub told : Sole k s.server_state.conns → is_told k u.outs ≡ true → (is_told k s.outs ≡ true) ⊎ Absent k u.server_state.conns

pub told_more : {A : Type 0} (k : ℕ) (outs : List (Out A)) (o : Out A) → is_told k (outs ++ o ∷ []) ≡ true → (is_told k outs ≡ true) ⊎ (is_shut k o ≡ true)
told_more k [] o told = elim (cases_Bool (is_shut k o)) [
  | inl here ↦ inr here
  | inr other ↦ absurd (false≢true (sym (ap (λ b. b || false) other) ∙ told))
]
told_more k (p ∷ outs) o told = elim (cases_Bool (is_shut k p)) [
  | inl here ↦ inl (ap (λ b. b || is_told k outs) here)
  | inr other ↦ elim (told_more k outs o (sym (ap (λ b. b || is_told k (outs ++ o ∷ [])) other) ∙ told)) [
    | inl before ↦ inl (ap (λ b. b || is_told k outs) other ∙ before)
    | inr last ↦ inr last
  ]
]

closed_changed : (k j : ℕ) (f : Connection → Connection) (o : Option Connection) (es : List (ℕ × Connection)) → Absent k es → Absent k (changed j f o es)
closed_changed k j f None es absent = absent
closed_changed k j f (Some c) es absent = absent_set k (is_number j) es (f c) absent

changed_closed : (k j : ℕ) (f : Connection → Connection) (o : Option Connection) (es : List (ℕ × Connection)) → Absent k (changed j f o es) → Absent k es
changed_closed k j f None es absent = absent
changed_closed k j f (Some c) es absent = set_absent k (is_number j) es (f c) absent

sole_changed : (k j : ℕ) (f : Connection → Connection) (o : Option Connection) (es : List (ℕ × Connection)) → Sole k es → Sole k (changed j f o es)
sole_changed k j f None es sole = sole
sole_changed k j f (Some c) es sole = sole_set k (is_number j) es (f c) sole

module _ {A : Type 0} (k : ℕ) where
  pub goes_nowhere : (s : Step A) → Goes k s s
  goes_nowhere s = record { closed = λ a. a; sole = λ a. a; back = λ a. inl a; each = λ Q e. e; told = λ a told. inl told }

  pub goes_both : (s t u : Step A) → Goes k s t → Goes k t u → Goes k s u
  goes_both s t u a b = record {
    closed = λ absent. b.closed (a.closed absent);
    sole = λ sole. b.sole (a.sole sole);
    back = λ absent. elim (b.back absent) [
      | inl before ↦ elim (a.back before) [ inl first ↦ inl first | inr none ↦ inr (b.each (IsAway k) none) ]
      | inr none ↦ inr none
    ];
    each = λ Q each. b.each Q (a.each Q each);
    told = λ sole told. elim (b.told (a.sole sole) told) [
      | inl before ↦ elim (a.told sole before) [ inl first ↦ inl first | inr now ↦ inr (b.closed now) ]
      | inr now ↦ inr now
    ];
  }

  goes_if : (b : Bool) (s t u : Step A) → Goes k s t → Goes k s u → Goes k s (cond b t u)
  goes_if true s t u p q = p
  goes_if false s t u p q = q

  -- something is put out that shuts nothing
  goes_out : (s : Step A) (o : Out A) → is_shut k o ≡ false → Goes k s (record { server_state = s.server_state; outs = s.outs ++ o ∷ [] })
  goes_out s o not_shut = record {
    closed = λ a. a;
    sole = λ a. a;
    back = λ a. inl a;
    each = λ Q e. e;
    told = λ a told. elim (told_more k s.outs o told) [ inl before ↦ inl before | inr here ↦ absurd (false≢true (sym not_shut ∙ here)) ];
  }

  goes_put : (j : ℕ) (a : A) (s : Step A) → Goes k s (put j a s)
  goes_put j a s = goes_out s (Put j a) refl

  goes_sessions : (f : List (Session A) → List (Session A)) (s : Step A) → ((Q : ℕ → Option ℕ → Type 0) → EachIs Q s.server_state.sessions → EachIs Q (f s.server_state.sessions)) → Goes k s (in_sessions f s)
  goes_sessions f s keeps = record { closed = λ a. a; sole = λ a. a; back = λ a. inl a; each = keeps; told = λ a told. inl told }

  goes_with : (n : ℕ) (f : Session A → Session A) (s : Step A) → ((Q : ℕ → Option ℕ → Type 0) (t : Session A) → Q t.shown.number t.shown.conn → Q (f t).shown.number (f t).shown.conn)
      → Goes k s (in_sessions (with_session n f) s)
  goes_with n f s keeps = goes_sessions (with_session n f) s (λ Q each. each_with Q n f s.server_state.sessions (λ t same is. keeps Q t is) each)

  goes_without : (n : ℕ) (s : Step A) → Goes k s (in_sessions (without n) s)
  goes_without n s = goes_sessions (without n) s (λ Q each. each_filter Q (λ t. not (t.shown.number == n)) s.server_state.sessions each)

  goes_conn : (j : ℕ) (f : Connection → Connection) (s : Step A) → Goes k s (in_server_state (with_conn j f) s)
  goes_conn j f s = record {
    closed = closed_changed k j f (conn_at j s.server_state) s.server_state.conns;
    sole = sole_changed k j f (conn_at j s.server_state) s.server_state.conns;
    back = λ absent. inl (changed_closed k j f (conn_at j s.server_state) s.server_state.conns absent);
    each = λ Q e. e;
    told = λ a told. inl told;
  }

  shut_closed : (j : ℕ) (s : Step A) → is_number k j ≡ true → Sole k s.server_state.conns → Absent k (shut j s).server_state.conns
  shut_closed j s same sole = subst (λ n. Absent k (shut n s).server_state.conns) (same_is k j same) (removed_absent k s.server_state.conns sole)

  goes_shut : (j : ℕ) (s : Step A) → Goes k s (shut j s)
  goes_shut j s = record {
    closed = absent_removed k (is_number j) s.server_state.conns;
    sole = sole_removed k (is_number j) s.server_state.conns;
    back = λ absent. elim (cases_Bool (is_number k j)) [
      | inl same ↦ inr (subst (λ n. NoneAt k (shut n s).server_state.sessions) (same_is k j same) (none_left k s.server_state.sessions))
      | inr apart ↦ inl (absent_before k j s.server_state.conns apart absent)
    ];
    each = λ Q each. each_filter Q (λ t. not (is_at j t)) s.server_state.sessions each;
    told = λ sole told. elim (told_more k s.outs (Shut j) told) [ inl before ↦ inl before | inr here ↦ inr (shut_closed j s here sole) ];
  }

  -- ---- a stanza to a session

  goes_put_where : (o : Option ℕ) (a : A) (s : Step A) → Goes k s (put_where o a s)
  goes_put_where None a s = goes_nowhere s
  goes_put_where (Some j) a s = goes_put j a s

  goes_part : (say : ItemOut → A) (j : ℕ) (error : A) (s : Step A) → Goes k s (part say j error s)
  goes_part say j error s =
      let t = put j error s in
      let u = put j (say Closing) t in
      goes_both s u (shut j u) (goes_both s t u (goes_put j error s) (goes_put j (say Closing) t)) (goes_shut j u)

  goes_part_where : (say : ItemOut → A) (o : Option ℕ) (error : A) (s : Step A) → Goes k s (part_where say o error s)
  goes_part_where say None error s = goes_nowhere s
  goes_part_where say (Some j) error s = goes_part say j error s

  goes_ask_where : (say : ItemOut → A) (n : ℕ) (o : Option ℕ) (due : Bool) (s : Step A) → Goes k s (ask_where say n o due s)
  goes_ask_where say n o false s = goes_nowhere s
  goes_ask_where say n None true s = goes_nowhere s
  goes_ask_where say n (Some j) true s =
      let t = in_sessions (with_session n (asks true)) s in
      goes_both s t (put j (say request_item) t) (goes_with n (asks true) s (λ Q t is. is)) (goes_put j (say request_item) t)

  goes_queue : (say : ItemOut → A) (n : ℕ) (a : A) (told : SessionInfo) (s : Step A) → Goes k s (queue say n a told s)
  goes_queue say n a told s =
      let t = in_sessions (with_session n (waits a)) s in
      let u = put_where told.conn a t in
      goes_both s u (ask_where say n told.conn (is_due told) u) (goes_both s t u (goes_with n (waits a) s (λ Q t is. is)) (goes_put_where told.conn a t))
      (goes_ask_where say n told.conn (is_due told) u)

  goes_overflow : (say : ItemOut → A) (n : ℕ) (told : SessionInfo) (s : Step A) → Goes k s (overflow say n told s)
  goes_overflow say n told s =
      let t = in_sessions (without n) s in
      let error = say (error_item ResourceConstraint) in
      goes_both s t (part_where say told.conn error t) (goes_without n s) (goes_part_where say told.conn error t)

  goes_send : (say : ItemOut → A) (n : ℕ) (a : A) (o : Option SessionInfo) (s : Step A) → Goes k s (send_by_info say n a o s)
  goes_send say n a None s = goes_nowhere s
  goes_send say n a (Some told) s =
      goes_if (not told.counted) s (put_where told.conn a s) (cond (told.waiting == MOST_UNACKNOWLEDGED) (overflow say n told s) (queue say n a told s)) (goes_put_where told.conn a s)
      (goes_if (told.waiting == MOST_UNACKNOWLEDGED) s (overflow say n told s) (queue say n a told s) (goes_overflow say n told s) (goes_queue say n a told s))

  goes_archive : (account : ℕ) (e : EntryView) (o : Option Kept) (s : Step A) → Goes k s (in_server_state (archived_in e account o) s)
  goes_archive account e None s = goes_nowhere s
  goes_archive account e (Some kept) s = record { closed = λ a. a; sole = λ a. a; back = λ a. inl a; each = λ Q e. e; told = λ a told. inl told }

-- ---- a step that puts no session on a connection

abbrev pub MovesNone : {A : Type 0} → Act A → Type 0
MovesNone (Bind account resource j) = ⊥
MovesNone (Resume previd account h j) = ⊥
MovesNone a = Unit {0}

pub act_goes : {A : Type 0} (say : ItemOut → A) (k : ℕ) (a : Act A) (s : Step A) → MovesNone a → Goes k s (act say a s)
act_goes say k (Say j a) s moves = goes_put k j a s
act_goes say k (Close j) s moves = goes_shut k j s
act_goes say k (Enter j phase) s moves = goes_conn k j (in_phase phase) s
act_goes say k (Fail j left) s moves = goes_conn k j (after_failure left) s
act_goes say k (Bind account resource j) s moves = absurd moves
act_goes say k (Resume previd account h j) s moves = absurd moves
act_goes say k (Enable n resume) s moves = goes_with k n (enables resume) s (λ Q t is. is)
act_goes say k (Acknowledge n h) s moves = goes_with k n (acknowledged h) s (λ Q t is. is)
act_goes say k (Ask n on) s moves = goes_with k n (asks on) s (λ Q t is. is)
act_goes say k (Handle n) s moves = goes_with k n handles s (λ Q t is. is)
act_goes say k (Present n available priority) s moves = goes_with k n (presents available priority) s (λ Q t is. is)
act_goes say k (Copy n on) s moves = goes_with k n (copies on) s (λ Q t is. is)
act_goes say k (Send n a) s moves = goes_send k say n a (info_of n s.server_state.sessions) s
act_goes say k (Archive account e) s moves = goes_archive k account e (archive_at account s.server_state) s
act_goes say k (Tell from to origin) s moves = goes_out k s (Took from to origin) refl

pub acts_go : {A : Type 0} (say : ItemOut → A) (k : ℕ) (acts : List (Act A)) (s : Step A) → AllByRecursion MovesNone acts → Goes k s (acted say acts s)
acts_go say k [] s all = goes_nowhere k s
acts_go say k (a ∷ more) s all = goes_both k s (act say a s) (acted say more (act say a s)) (act_goes say k a s all.0) (acts_go say k more (act say a s) all.1)
