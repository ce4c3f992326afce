-- The rows of a binding and of a resumption.
use Rattle.std.proofs.Common.{◌≡◌, ℕ, ◌+◌, ◌<◌, ◌^◌, ◌==◌, nat_le, Bool, true, false, not, cond, List, [], ◌∷◌, ◌++◌, Option, Some, None, Ok, Err, is_none, length, refl, sym, ap, subst, ◌∙◌, inl, inr, arith, length-drop}
use Rattle.std.proofs.lemmas.Bool.{and_right, cases_Bool, eq-eqb, eqb-true, false≢true}
use Rattle.std.specs.List.{find}
use Rattle.std.specs.Option.{option_map}
use Rattle.sm_acks.specs.Counters.{ahead}
use Rattle.srv_state.specs.State.{ServerState, Step, conn_at, full_address, with_sessions}
use Rattle.srv_state.specs.Steps.{Act, Ask, Close, Say, acted, binds, in_server_state, in_sessions, put, shut}
use Rattle.srv_state.specs.Streams.{parting_where}
use Rattle.srv_state.specs.declared.connection.Connection.{Connection}
use Rattle.srv_state.specs.declared.limits.TheConstants.{ASKS_AT}
use Rattle.sm_live.specs.Rule.{IsRule}
use Rattle.sm_live.specs.Sessions.{Session, after_resume, ended_of, fresh, is_at, is_named, is_resumed_by, is_too_high, less, resent, resume_answer, resume_ok, resumes, send_count, session_at, session_named, session_of, session_resumed, with_session, without}
use Rattle.im_replies.specs.Management.{resumed_item}
use Rattle.im_replies.specs.Requests.{bound_item}
use Rattle.im_replies.specs.Streams.{error_item, too_high_item}
use Rattle.im_replies.specs.declared.conditions.StreamCondition.TheVariants as stream
use Rattle.sm_resumption.specs.declared.answers.ResumeFault.TheVariants.{TooHigh}
use Rattle.sim_3_images.proofs.ActsFall.{acted_falls}
use Rattle.sim_3_images.proofs.CalmRows.{Calm, calm_asking, calm_saying}
use Rattle.sim_3_images.proofs.Counted.{one_fewer}
use Rattle.sim_3_images.proofs.Falls.{Falls, counts, ended_falls, every_one, implied, moved_falls, no_fall, off, refocus, shut_falls, then_falls}
use Rattle.sim_3_images.proofs.MomentsFall.{other_is}
use Rattle.sim_3_images.proofs.RuleKept.{Keeps, comes, is_seat, left_found, named_gone, none_left, numbered_here, on_seat, one_number, rule_left, rule_pushed}
use Rattle.sim_3_images.specs.Unbound.{IsOrdered, is_unbound, unbound}
use Rattle.srv_handlers.specs.Bindings.{binding_as, former_of}
use Rattle.srv_handlers.specs.Resumptions.{asking, resent_where, resuming, saying}
use Rattle.xml_writer.specs.Items.{Closing, ItemOut}

-- ---- a list with one behind it

pushed_found : {S : Type 0} (p : S → Bool) (ss : List S) (f s : S) → find p ss ≡ Some s → find p (ss ++ f ∷ []) ≡ Some s
pushed_found p [] f s is = absurd (let no_way : ⊥ = cc in no_way)
pushed_found p (x ∷ ss) f s is = elim (cases_Bool (p x)) [ inl here ↦ let found : Some x ≡ Some s = rw here at is in rw here found | inr other ↦ rw other (pushed_found p ss f s (rw other at is)) ]

pushed_some : {S : Type 0} (p : S → Bool) (ss : List S) (f : S) → p f ≡ true → is_none (find p (ss ++ f ∷ [])) ≡ false
pushed_some p [] f fits = rw fits refl
pushed_some p (x ∷ ss) f fits = elim (cases_Bool (p x)) [ inl here ↦ rw here refl | inr other ↦ rw other (pushed_some p ss f fits) ]

module _ {A : Type 0} where
  -- ---- a binding

  module _ (account : ℕ) (resource : List ℕ) (k : ℕ) (h : ServerState A) (c : Connection) (is : IsOrdered h) (below : h.next + unbound h < 2 ^ 64) (open_one : conn_at k h ≡ Some c) (seat : session_at k h.sessions ≡ None) where
    abbrev newest : Session A
    newest = fresh h.next account resource k

    free : counts every_one h.sessions k ≡ true
    free = ap is_none seat

    room : h.next + 1 < 2 ^ 64
    room = let one = one_fewer k (λ j. false) (counts every_one h.sessions) h.conns c open_one free refl (λ j none. absurd (false≢true none)) in omega (arith, one, below)

    -- the older one is not among those that are left, and all others are
    following : (former : Option ℕ) (left : List (Session A)) → IsRule left h.next → session_at k left ≡ None → session_named account resource left ≡ None
        → ((j : ℕ) (s : Session A) → off former j ≡ true → session_at j h.sessions ≡ Some s → session_at j left ≡ Some s)
        → Falls every_one (off former) h (record h { sessions = left ++ newest ∷ []; next = h.next + 1 })
    following former left rule nobody nameless stays =
        let ts = left ++ newest ∷ [] in
        let taken : is_unbound ts k ≡ false = pushed_some (is_at k) left newest (is_seat k newest refl) in
        let fewer = one_fewer k (counts (off former) ts) (counts every_one h.sessions) h.conns c open_one free (and_right (off former k) (is_unbound ts k) taken)
        (λ j. implied every_one (off former) h.sessions ts j (λ yes'. refl) (λ s yes' there. ap is_none (pushed_found (is_at j) left newest s (stays j s yes' there)))) in
        record {
          keeps = record { sessions = rule_pushed h.next account resource k left rule room nobody nameless; conns = is.conns };
          less = omega (arith, fewer);
        }

    pub binds_fall : (o : Option (Session A)) → session_named account resource h.sessions ≡ o
        → Falls every_one (off (former_of (option_map ended_of o))) h (record h { sessions = less o h.sessions ++ newest ∷ []; next = h.next + 1 })
    binds_fall None named = following None h.sessions is.sessions seat named (λ j s yes' there. there)
    binds_fall (Some old) named =
        following old.shown.conn (without old.shown.number h.sessions) (rule_left stays h.next h.sessions is.sessions) (none_left (is_at k) stays h.sessions seat)
        (named_gone stays account resource h.next h.sessions old is.sessions named (ap not (eq-eqb old.shown.number old.shown.number refl))) left
      where
        stays : Session A → Bool
        stays s = not (s.shown.number == old.shown.number)

        left : (j : ℕ) (s : Session A) → off old.shown.conn j ≡ true → session_at j h.sessions ≡ Some s → session_at j (without old.shown.number h.sessions) ≡ Some s
        left j s apart there =
            elim (cases_Bool (s.shown.number == old.shown.number)) [
              | inl here ↦
                  let same : s ≡ old = one_number (is_at j) (is_named account resource) h.next h.sessions s old is.sessions there named (eqb-true s.shown.number old.shown.number here) in
                  let on : old.shown.conn ≡ Some j = ap (λ (u : Session A). u.shown.conn) (sym same) ∙ on_seat j h.sessions s there in
                  absurd (false≢true (sym (ap not (is_seat j old on)) ∙ apart))
              | inr other ↦ left_found (is_at j) stays h.sessions s there (ap not other)
            ]

  -- ---- a resumption

  resumes_keep : (n k : ℕ) → Keeps (resumes {A = A} n k)
  resumes_keep n k = record { number = λ s. refl; account = λ s. refl; resource = λ s. refl }

  module _ (previd : List ℕ) (account n k : ℕ) (h : ServerState A) (t : Session A) (is : IsOrdered h) (seat : session_at k h.sessions ≡ None) (found : session_resumed previd account h.sessions ≡ Some t) where
    here : session_of t.shown.number h.sessions ≡ Some t
    here = numbered_here (is_resumed_by previd account) h.next 1 h.sessions t is.sessions.ascending found

    pub resumed_falls : Falls every_one (off t.shown.conn) h (with_sessions (with_session t.shown.number (resumes n k) h.sessions) h)
    resumed_falls =
        moved_falls every_one (off t.shown.conn) t.shown.number (λ j. j ≡ k) (resumes n k) h t here (resumes_keep n k) (comes k h.sessions (resumes n k) seat (λ s. refl))
        (λ s it. let few = is.sessions.few t.shown.number s it in omega (arith, few, length-drop (ahead n s.acked) s.waiting)) (λ j yes'. (refl, yes')) is

    pub high_falls : Falls every_one (off t.shown.conn) h (with_sessions (without t.shown.number h.sessions) h)
    high_falls = ended_falls every_one (off t.shown.conn) t.shown.number h t here (λ j yes'. (refl, yes')) is

module _ {A : Type 0} (say : ItemOut → A) where
  -- a connection that is not looked at is shut, where there is one, and then all are looked at
  parting_falls : (former : Option ℕ) (error : A) (more : List (Act A)) (s : Step A) → Calm more → IsOrdered s.server_state → Falls (off former) every_one s.server_state (acted say (parting_where say former error more) s).server_state
  parting_falls None error more s c is =
      then_falls (off None) every_one every_one s.server_state s.server_state (acted say more s).server_state (refocus (off None) every_one s.server_state (λ j yes'. refl) is) (λ ordered. acted_falls say every_one more s c ordered)
  parting_falls (Some f) error more s c is =
      let u = put f (say Closing) (put f error s) in
      then_falls (off (Some f)) every_one every_one s.server_state (shut f u).server_state (acted say more (shut f u)).server_state
      (shut_falls f (off (Some f)) every_one s.server_state (λ j apart yes'. other_is f j apart) is) (λ ordered. acted_falls say every_one more (shut f u) c ordered)

  abbrev pub Goes : Step A → List (Act A) → Type 0
  Goes s acts = Falls every_one every_one s.server_state (acted say acts s).server_state

  pub binding_goes : (k account : ℕ) (id resource : List ℕ) (s : Step A) (c : Connection) → IsOrdered s.server_state → s.server_state.next + unbound s.server_state < 2 ^ 64 → conn_at k s.server_state ≡ Some c → session_at k s.server_state.sessions ≡ None
      → Goes s (binding_as say k account id (Some resource) s.server_state)
  binding_goes k account id resource s c is below open_one seat =
      let h = s.server_state in
      let o = session_named account resource h.sessions in
      let former = former_of (option_map ended_of o) in
      let u = in_server_state (binds account resource k) s in
      let more = Say k (say (bound_item id (full_address account resource h))) ∷ [] in
      then_falls every_one (off former) every_one h u.server_state (acted say (parting_where say former (say (error_item stream.Conflict)) more) u).server_state
      (binds_fall account resource k h c is below open_one seat o refl) (λ ordered. parting_falls former (say (error_item stream.Conflict)) more u tt ordered)

  -- the session that was found is resumed, or ends
  module _ (k account : ℕ) (previd : List ℕ) (n : ℕ) (s : Step A) (is : IsOrdered s.server_state) (seat : session_at k s.server_state.sessions ≡ None) where
    module _ (t : Session A) (found : session_resumed previd account s.server_state.sessions ≡ Some t) where
      abbrev former : Option ℕ
      former = t.shown.conn

      abbrev conflict : A
      conflict = say (error_item stream.Conflict)

      -- the count is too high
      abbrev shuts : List (Act A)
      shuts = Say k (say (too_high_item n (send_count t))) ∷ Say k (say Closing) ∷ Close k ∷ parting_where say former conflict []

      abbrev ended : Step A
      ended = in_sessions (λ sessions. without t.shown.number s.server_state.sessions) s

      abbrev shut_here : Step A
      shut_here = shut k (put k (say Closing) (put k (say (too_high_item n (send_count t))) ended))

      ends : is_too_high n t ≡ true → after_resume n k (session_resumed previd account s.server_state.sessions) s.server_state.sessions ≡ without t.shown.number s.server_state.sessions
      ends high = ap (λ o. after_resume n k o s.server_state.sessions) found ∙ (rw high refl)

      high_goes : is_too_high n t ≡ true → Goes s (resuming say k account previd n (Err (TooHigh n (send_count t) former)) (resent n t))
      high_goes high =
          subst (λ ts. Falls every_one every_one s.server_state (acted say shuts (in_sessions (λ sessions. ts) s)).server_state) (sym (ends high))
          (then_falls every_one (off former) every_one s.server_state ended.server_state (acted say shuts ended).server_state (high_falls previd account n k s.server_state t is seat found)
          (λ ordered. then_falls (off former) (off former) every_one ended.server_state shut_here.server_state (acted say shuts ended).server_state (shut_falls k (off former) (off former) ended.server_state (λ j apart yes'. yes') ordered)
          (λ later. parting_falls former conflict [] shut_here tt later)))

      -- it isn't
      abbrev asked : List (Act A)
      asked = asking say k t.shown.number (nat_le ASKS_AT (length (resent n t)))

      abbrev sends : List (Act A)
      sends = Say k (say (resumed_item t.shown.number t.handled)) ∷ saying k (resent n t) asked

      abbrev goes_on : List (Act A)
      goes_on = Ask t.shown.number false ∷ parting_where say former conflict sends

      abbrev moved : Step A
      moved = in_sessions (λ sessions. with_session t.shown.number (resumes n k) s.server_state.sessions) s

      abbrev unasked : Step A
      unasked = acted say (Ask t.shown.number false ∷ []) moved

      moves : is_too_high n t ≡ false → after_resume n k (session_resumed previd account s.server_state.sessions) s.server_state.sessions ≡ with_session t.shown.number (resumes n k) s.server_state.sessions
      moves low = ap (λ o. after_resume n k o s.server_state.sessions) found ∙ (rw low refl)

      resumed_goes : is_too_high n t ≡ false → Goes s (resuming say k account previd n (Ok (resume_ok t)) (resent n t))
      resumed_goes low =
          subst (λ ts. Falls every_one every_one s.server_state (acted say goes_on (in_sessions (λ sessions. ts) s)).server_state) (sym (moves low))
          (then_falls every_one (off former) every_one s.server_state moved.server_state (acted say goes_on moved).server_state (resumed_falls previd account n k s.server_state t is seat found)
          (λ ordered. then_falls (off former) (off former) every_one moved.server_state unasked.server_state (acted say goes_on moved).server_state (acted_falls say (off former) (Ask t.shown.number false ∷ []) moved tt ordered)
          (λ later. parting_falls former conflict sends unasked (calm_saying say k (resent n t) asked (calm_asking say k t.shown.number (nat_le ASKS_AT (length (resent n t))))) later)))

      found_goes : (b : Bool) → is_too_high n t ≡ b → Goes s (resuming say k account previd n (cond b (Err (TooHigh n (send_count t) former)) (Ok (resume_ok t))) (resent n t))
      found_goes true high = high_goes high
      found_goes false low = resumed_goes low

    pub resuming_goes : (o : Option (Session A)) → session_resumed previd account s.server_state.sessions ≡ o → Goes s (resuming say k account previd n (resume_answer n o) (resent_where n o))
    resuming_goes None found = no_fall every_one s.server_state is
    resuming_goes (Some t) found = found_goes t found (is_too_high n t) refl
