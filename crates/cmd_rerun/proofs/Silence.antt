-- Nothing is told of a connection that is over, whatever other connections do.
use Rattle.std.proofs.Common.{◌≡◌, ◌==◌, ℕ, Bool, true, false, not, List, [], ◌∷◌, ◌++◌, Option, Some, None, IfSome, cond, subst, sym, inl, inr}
use Rattle.std.proofs.lemmas.Bool.{cases_Bool}
use Rattle.std.specs.List.{AllByRecursion}
use Rattle.sm_acks.specs.declared.end.TheConstants.{MOST_UNACKNOWLEDGED}
use Rattle.srv_state.specs.State.{Out, Put, Shut, Step, Took, is_number}
use Rattle.srv_state.specs.Steps.{Act, Acknowledge, Archive, Ask, Bind, Close, Copy, Enable, Enter, Fail, Handle, Present, Resume, Say, Send, Tell, act, acted, ask_where, in_sessions, is_due, overflow, part_where, put_where, queue, send_by_info}
use Rattle.srv_state.specs.Streams.{standing_at}
use Rattle.xml_framer.specs.declared.items.Item.{Item}
use Rattle.sm_live.specs.Sessions.{Session, info_of, session_resumed, waits, with_session, without}
use Rattle.sm_live.specs.declared.told.SessionInfo.{SessionInfo}
use Rattle.im_replies.specs.Streams.{error_item}
use Rattle.im_replies.specs.declared.conditions.StreamCondition.TheVariants.{ResourceConstraint}
use Rattle.sm_resumption.specs.Rows.{is_some_number}
use Rattle.srv_core.specs.Table.{after_item, after_items, at_open}
use Rattle.cmd_rerun.proofs.Entries.{Absent, eqb_apart, same_is}
use Rattle.cmd_rerun.proofs.Rows.{Allowed, AreAllowed, Bounded, Enters, IsEntry, Known, open_bounded}
use Rattle.cmd_rerun.proofs.Sessions.{IsAway, NoneAt, bound_none, each_told, resumed_none}
use Rattle.cmd_rerun.proofs.Steps.{Goes, MovesNone, act_goes}
use Rattle.cmd_rerun.specs.Silence.{IsApart, Quiet}
use Rattle.xml_writer.specs.Items.{ItemOut}

-- ---- what is put out

pub quiet_both : {A : Type 0} (k : ℕ) (a b : List (Out A)) → Quiet k a → Quiet k b → Quiet k (a ++ b)
quiet_both k [] b p q = q
quiet_both k (o ∷ a) b p q = (p.0, quiet_both k a b p.1 q)

quiet_more : {A : Type 0} (k : ℕ) (outs : List (Out A)) (o : Out A) → Quiet k outs → IsApart k o → Quiet k (outs ++ o ∷ [])
quiet_more k outs o p q = quiet_both k outs (o ∷ []) p (q, tt)

-- ---- a connection that is over

pub record IsGone {A : Type 0} (k : ℕ) (s : Step A) : Type 0 where
  pub absent : Absent k s.server_state.conns
  pub none : NoneAt k s.server_state.sessions
  pub quiet : Quiet k s.outs

abbrev pub IsAside : {A : Type 0} → ℕ → Act A → Type 0
IsAside k (Say j a) = is_number k j ≡ false
IsAside k (Close j) = is_number k j ≡ false
IsAside k (Bind account resource j) = is_number k j ≡ false
IsAside k (Resume previd account h j) = is_number k j ≡ false
IsAside k a = Unit {0}

module _ {A : Type 0} (say : ItemOut → A) (k : ℕ) where
  quiet_if : (b : Bool) (s u : Step A) → Quiet k s.outs → Quiet k u.outs → Quiet k (cond b s u).outs
  quiet_if true s u p q = p
  quiet_if false s u p q = q

  put_quiet : (o : Option ℕ) (a : A) (s : Step A) → is_some_number k o ≡ false → Quiet k s.outs → Quiet k (put_where o a s).outs
  put_quiet None a s away quiet = quiet
  put_quiet (Some j) a s away quiet = quiet_more k s.outs (Put j a) quiet (eqb_apart k j away)

  part_quiet : (o : Option ℕ) (error : A) (s : Step A) → is_some_number k o ≡ false → Quiet k s.outs → Quiet k (part_where say o error s).outs
  part_quiet None error s away quiet = quiet
  part_quiet (Some j) error s away quiet =
      let apart = eqb_apart k j away in quiet_more k _ (Shut j) (quiet_more k _ (Put j _) (quiet_more k s.outs (Put j error) quiet apart) apart) apart

  ask_quiet : (n : ℕ) (o : Option ℕ) (due : Bool) (s : Step A) → is_some_number k o ≡ false → Quiet k s.outs → Quiet k (ask_where say n o due s).outs
  ask_quiet n o false s away quiet = quiet
  ask_quiet n None true s away quiet = quiet
  ask_quiet n (Some j) true s away quiet = quiet_more k s.outs (Put j _) quiet (eqb_apart k j away)

  queue_quiet : (n : ℕ) (a : A) (t : SessionInfo) (s : Step A) → is_some_number k t.conn ≡ false → Quiet k s.outs → Quiet k (queue say n a t s).outs
  queue_quiet n a t s away quiet =
      ask_quiet n t.conn (is_due t) (put_where t.conn a (in_sessions (with_session n (waits a)) s)) away (put_quiet t.conn a (in_sessions (with_session n (waits a)) s) away quiet)

  overflow_quiet : (n : ℕ) (t : SessionInfo) (s : Step A) → is_some_number k t.conn ≡ false → Quiet k s.outs → Quiet k (overflow say n t s).outs
  overflow_quiet n t s away quiet = part_quiet t.conn (say (error_item ResourceConstraint)) (in_sessions (without n) s) away quiet

  send_quiet : (n : ℕ) (a : A) (o : Option SessionInfo) (s : Step A) → IfSome o (λ t. IsAway k t.number t.conn) → Quiet k s.outs → Quiet k (send_by_info say n a o s).outs
  send_quiet n a None s away quiet = quiet
  send_quiet n a (Some t) s away quiet =
      quiet_if (not t.counted) (put_where t.conn a s) (cond (t.waiting == MOST_UNACKNOWLEDGED) (overflow say n t s) (queue say n a t s)) (put_quiet t.conn a s away quiet)
      (quiet_if (t.waiting == MOST_UNACKNOWLEDGED) (overflow say n t s) (queue say n a t s) (overflow_quiet n t s away quiet) (queue_quiet n a t s away quiet))

  pub gone_by : (s u : Step A) → Goes k s u → Quiet k u.outs → IsGone k s → IsGone k u
  gone_by s u goes quiet gone = record { absent = goes.closed gone.absent; none = goes.each (IsAway k) gone.none; quiet = quiet }

  moved : (a : Act A) (s : Step A) → MovesNone a → Quiet k (act say a s).outs → IsGone k s → IsGone k (act say a s)
  moved a s moves quiet gone = gone_by s (act say a s) (act_goes say k a s moves) quiet gone

  act_gone : (a : Act A) (s : Step A) → IsAside k a → IsGone k s → IsGone k (act say a s)
  act_gone (Say j a) s aside gone = moved (Say j a) s tt (quiet_more k s.outs (Put j a) gone.quiet aside) gone
  act_gone (Close j) s aside gone = moved (Close j) s tt (quiet_more k s.outs (Shut j) gone.quiet aside) gone
  act_gone (Enter j phase) s aside gone = moved (Enter j phase) s tt gone.quiet gone
  act_gone (Fail j left) s aside gone = moved (Fail j left) s tt gone.quiet gone
  act_gone (Bind account resource j) s aside gone = record { absent = gone.absent; none = bound_none k j aside s.server_state.next account resource s.server_state.sessions gone.none; quiet = gone.quiet }
  act_gone (Resume previd account h j) s aside gone = record {
    absent = gone.absent;
    none = resumed_none k j aside h (session_resumed previd account s.server_state.sessions) s.server_state.sessions gone.none;
    quiet = gone.quiet;
  }
  act_gone (Enable n resume) s aside gone = moved (Enable n resume) s tt gone.quiet gone
  act_gone (Acknowledge n h) s aside gone = moved (Acknowledge n h) s tt gone.quiet gone
  act_gone (Ask n on) s aside gone = moved (Ask n on) s tt gone.quiet gone
  act_gone (Handle n) s aside gone = moved (Handle n) s tt gone.quiet gone
  act_gone (Present n available priority) s aside gone = moved (Present n available priority) s tt gone.quiet gone
  act_gone (Copy n on) s aside gone = moved (Copy n on) s tt gone.quiet gone
  act_gone (Send n a) s aside gone = moved (Send n a) s tt (send_quiet n a (info_of n s.server_state.sessions) s (each_told (IsAway k) n s.server_state.sessions gone.none) gone.quiet) gone
  act_gone (Archive account e) s aside gone = moved (Archive account e) s tt gone.quiet gone
  act_gone (Tell from to origin) s aside gone = moved (Tell from to origin) s tt (quiet_more k s.outs (Took from to origin) gone.quiet tt) gone

  acts_gone : (acts : List (Act A)) (s : Step A) → AllByRecursion (IsAside k) acts → IsGone k s → IsGone k (acted say acts s)
  acts_gone [] s all gone = gone
  acts_gone (a ∷ more) s all gone = acts_gone more (act say a s) all.1 (act_gone a s all.0 gone)

-- ---- the rows of another connection

module _ {A : Type 0} (k j : ℕ) (apart : is_number k j ≡ false) (ss : List (Session A)) (none : NoneAt k ss) where
  known_apart : (x : ℕ) → Known j ss x → is_number k x ≡ false
  known_apart x (inl same) = subst (λ n. is_number k n ≡ false) (sym same) apart
  known_apart x (inr some) = elim (cases_Bool (is_number k x)) [ inl here ↦ absurd (some (subst (λ n. NoneAt n ss) (same_is k x here) none)) | inr other ↦ other ]

  allowed_aside : (a : Act A) → Allowed j ss a → IsAside k a
  allowed_aside (Say x a) h = known_apart x h
  allowed_aside (Close x) h = known_apart x h
  allowed_aside (Enter x phase) h = tt
  allowed_aside (Fail x left) h = tt
  allowed_aside (Bind account resource x) h = absurd h
  allowed_aside (Resume previd account n x) h = absurd h
  allowed_aside (Enable n resume) h = tt
  allowed_aside (Acknowledge n m) h = tt
  allowed_aside (Ask n on) h = tt
  allowed_aside (Handle n) h = tt
  allowed_aside (Present n available priority) h = tt
  allowed_aside (Copy n on) h = tt
  allowed_aside (Send n a) h = tt
  allowed_aside (Archive account e) h = tt
  allowed_aside (Tell from to origin) h = tt

  entry_aside : (a : Act A) → IsEntry j ss a → IsAside k a
  entry_aside (Say x a) h = absurd h
  entry_aside (Close x) h = absurd h
  entry_aside (Enter x phase) h = absurd h
  entry_aside (Fail x left) h = absurd h
  entry_aside (Bind account resource x) h = subst (λ n. is_number k n ≡ false) (sym h.0) apart
  entry_aside (Resume previd account n x) h = subst (λ n. is_number k n ≡ false) (sym h.0) apart
  entry_aside (Enable n resume) h = absurd h
  entry_aside (Acknowledge n m) h = absurd h
  entry_aside (Ask n on) h = absurd h
  entry_aside (Handle n) h = absurd h
  entry_aside (Present n available priority) h = absurd h
  entry_aside (Copy n on) h = absurd h
  entry_aside (Send n a) h = absurd h
  entry_aside (Archive account e) h = absurd h
  entry_aside (Tell from to origin) h = absurd h

  all_aside : (acts : List (Act A)) → AreAllowed j ss acts → AllByRecursion (IsAside k) acts
  all_aside [] all = tt
  all_aside (a ∷ more) all = (allowed_aside a all.0, all_aside more all.1)

  entering_aside : (acts : List (Act A)) → Enters j ss acts → AllByRecursion (IsAside k) acts
  entering_aside [] enters = absurd enters
  entering_aside (a ∷ more) enters = (entry_aside a enters.0, all_aside more enters.1)

  bounded_aside : (acts : List (Act A)) → Bounded j ss acts → AllByRecursion (IsAside k) acts
  bounded_aside acts (inl all) = all_aside acts all
  bounded_aside acts (inr enters) = entering_aside acts enters

module _ {A : Type 0} (say : ItemOut → A) (k j : ℕ) (apart : is_number k j ≡ false) where
  pub allowed_gone : (acts : List (Act A)) (s : Step A) → AreAllowed j s.server_state.sessions acts → IsGone k s → IsGone k (acted say acts s)
  allowed_gone acts s all gone = acts_gone say k acts s (all_aside k j apart s.server_state.sessions gone.none acts all) gone

  item_gone : (i : Item) (s : Step A) → IsGone k s → IsGone k (after_item say j i s)
  item_gone i s gone =
      let acts = at_open say j i (standing_at j s.server_state) s.server_state in
      acts_gone say k acts s (bounded_aside k j apart s.server_state.sessions gone.none acts (open_bounded say j i (standing_at j s.server_state) s.server_state)) gone

  pub items_gone : (items : List Item) (s : Step A) → IsGone k s → IsGone k (after_items say j items s)
  items_gone [] s gone = gone
  items_gone (i ∷ items) s gone = items_gone items (after_item say j i s) (item_gone i s gone)
