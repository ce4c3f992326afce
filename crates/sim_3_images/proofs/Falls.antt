-- Numbers and unbound connections, together, do not rise where sessions and connections change.
use Rattle.std.proofs.Common.{◌≡◌, ◌≢◌, ℕ, ◌+◌, ◌≤◌, ◌==◌, ◌&&◌, Bool, true, false, not, cond, List, [], ◌∷◌, Option, Some, None, is_none, length, map, refl, sym, ap, subst, ◌∙◌, inl, inr, arith}
use Rattle.std.proofs.lemmas.Bool.{and_from, and_parts, cases_Bool, eqb-true, false≢true, ne_eqb}
use Rattle.std.proofs.lemmas.Option.{same_Some}
use Rattle.std.specs.List.{filter, find}
use Rattle.std.specs.List.Sorted.{IsStrictlySortedBy}
use Rattle.std.specs.Map.{keys_of}
use Rattle.std.specs.Ordering.{nat_cmp}
use Rattle.sm_acks.specs.declared.end.TheConstants.{MOST_UNACKNOWLEDGED}
use Rattle.srv_state.specs.State.{ServerState, changed, conn_at, is_number, with_conn, with_sessions, without_conn}
use Rattle.srv_state.specs.declared.connection.Connection.{Connection}
use Rattle.sm_live.specs.Rule.{IsRule}
use Rattle.sm_live.specs.Sessions.{Session, is_at, is_numbered, session_at, session_of, with_session, without, without_at}
use Rattle.sm_resumption.specs.Rows.{is_some_number}
use Rattle.sim_3_images.proofs.Counted.{every, fewer_pass, key_set, passing, removed_ascend, removed_pass}
use Rattle.sim_3_images.proofs.RuleKept.{Keeps, Sits, changes_one, is_seat, left_found, number_is, on_seat, one_number, rule_changed, rule_left, stays}
use Rattle.sim_3_images.specs.Unbound.{IsOrdered, is_unbound}

-- ---- what is counted: of some connections alone, where others are about to be shut

abbrev pub every_one : ℕ → Bool
every_one j = true

abbrev pub off : Option ℕ → ℕ → Bool
off former j = not (is_some_number j former)

abbrev pub both : (ℕ → Bool) → (ℕ → Bool) → ℕ → Bool
both x y j = x j && y j

abbrev pub counts : {A : Type 0} → (ℕ → Bool) → List (Session A) → ℕ → Bool
counts x ss j = x j && is_unbound ss j

abbrev pub measure : {A : Type 0} → (ℕ → Bool) → ServerState A → ℕ
measure x h = h.next + passing (counts x h.sessions) (keys_of h.conns)

pub record Falls {A : Type 0} (x y : ℕ → Bool) (h g : ServerState A) : Type 0 where
  pub keeps : IsOrdered g
  pub less : measure y g ≤ measure x h

-- it stays at one of these where it was: a session is on each connection that had one
abbrev pub Held : {A : Type 0} → (ℕ → Bool) → List (Session A) → List (Session A) → Type 0
Held {A = A} y ss ts = (j : ℕ) (s : Session A) → y j ≡ true → session_at j ss ≡ Some s → is_unbound ts j ≡ false

found_in_map : {S : Type 0} (p : S → Bool) (g : S → S) (ss : List S) (s : S) → find p ss ≡ Some s → p (g s) ≡ true → is_none (find p (map g ss)) ≡ false
found_in_map p g [] s is fits = absurd (let no_way : ⊥ = cc in no_way)
found_in_map p g (x ∷ ss) s is fits =
    elim (cases_Bool (p (g x))) [
      | inl here ↦ rw here refl
      | inr other ↦
          elim (cases_Bool (p x)) [
            | inl first ↦ let same : x ≡ s = same_Some x s (rw first at is) in absurd (false≢true (sym other ∙ ap (λ t. p (g t)) same ∙ fits))
            | inr later ↦ rw other (found_in_map p g ss s (rw later at is) fits)
          ]
    ]

module _ {A : Type 0} where
  pub no_fall : (x : ℕ → Bool) (h : ServerState A) → IsOrdered h → Falls x x h h
  no_fall x h is = record { keeps = is; less = omega arith }

  pub then_falls : (x y z : ℕ → Bool) (h g i : ServerState A) → Falls x y h g → (IsOrdered g → Falls y z g i) → Falls x z h i
  then_falls x y z h g i first second =
      let next = second first.keeps in
      let a = first.less in
      let b = next.less in
      record { keeps = next.keeps; less = omega (arith, a, b) }

  pub implied : (x y : ℕ → Bool) (ss ts : List (Session A)) (j : ℕ) → (y j ≡ true → x j ≡ true) → ((s : Session A) → y j ≡ true → session_at j ss ≡ Some s → is_unbound ts j ≡ false) → counts y ts j ≡ true → counts x ss j ≡ true
  implied x y ss ts j wider held counted =
      let parts = and_parts (y j) (is_unbound ts j) counted in
      and_from (x j) (is_unbound ss j) (wider parts.0) (go (session_at j ss) refl parts.0 parts.1)
    where
      go : (o : Option (Session A)) → session_at j ss ≡ o → y j ≡ true → is_unbound ts j ≡ true → is_unbound ss j ≡ true
      go None is yes' free = ap is_none is
      go (Some s) is yes' free = absurd (false≢true (sym (held s yes' is) ∙ free))

  -- ---- the same connections

  pub sessions_fall : (x y : ℕ → Bool) (ts : List (Session A)) (h : ServerState A) → IsOrdered h → IsRule ts h.next → ((j : ℕ) → y j ≡ true → x j ≡ true) → Held y h.sessions ts → Falls x y h (with_sessions ts h)
  sessions_fall x y ts h is rule wider held =
      let less = fewer_pass (counts y ts) (counts x h.sessions) (keys_of h.conns)
      (every (λ j. counts y ts j ≡ true → counts x h.sessions j ≡ true) (keys_of h.conns) (λ j. implied x y h.sessions ts j (wider j) (λ s. held j s))) in
      record { keeps = record { sessions = rule; conns = is.conns }; less = omega (arith, less) }

  pub bound_is : (j : ℕ) (ts : List (Session A)) (s : Session A) → session_at j ts ≡ Some s → is_unbound ts j ≡ false
  bound_is j ts s is = ap is_none is

  -- fewer connections are looked at
  pub refocus : (x y : ℕ → Bool) (h : ServerState A) → ((j : ℕ) → y j ≡ true → x j ≡ true) → IsOrdered h → Falls x y h h
  refocus x y h wider is =
      let fell = sessions_fall x y h.sessions h is is.sessions wider (λ j s yes' there. bound_is j h.sessions s there) in
      record { keeps = is; less = fell.less }

  -- one that stays on its connection is changed
  pub changed_falls : (x : ℕ → Bool) (n : ℕ) (f : Session A → Session A) (h : ServerState A) → Keeps f → ((s : Session A) → (f s).shown.conn ≡ s.shown.conn) → ((s : Session A) → session_of n h.sessions ≡ Some s → length (f s).waiting ≤ MOST_UNACKNOWLEDGED)
      → IsOrdered h → Falls x x h (with_sessions (with_session n f h.sessions) h)
  changed_falls x n f h kept conn few is =
      sessions_fall x x (with_session n f h.sessions) h is
      (rule_changed h.next n (λ j. ⊥) f h.sessions is.sessions kept (stays h.sessions f (λ s j on. sym (conn s) ∙ on)) few)
      (λ j yes'. yes')
      (λ j s yes' there. found_in_map (is_at j) (changes_one n f) h.sessions s there (is_seat j (changes_one n f s) (same (s.shown.number == n) s ∙ on_seat j h.sessions s there)))
    where
      same : (b : Bool) (s : Session A) → (cond b (f s) s).shown.conn ≡ s.shown.conn
      same true s = conn s
      same false s = refl

  -- one moves, or ends, of which the connection isn't looked at
  pub moved_falls : (x y : ℕ → Bool) (n : ℕ) (Free : ℕ → Type 0) (f : Session A → Session A) (h : ServerState A) (t : Session A) → session_of n h.sessions ≡ Some t → Keeps f → Sits Free h.sessions f
      → ((s : Session A) → session_of n h.sessions ≡ Some s → length (f s).waiting ≤ MOST_UNACKNOWLEDGED) → ((j : ℕ) → y j ≡ true → (x j ≡ true) × (off t.shown.conn j ≡ true)) → IsOrdered h
      → Falls x y h (with_sessions (with_session n f h.sessions) h)
  moved_falls x y n Free f h t it kept sits few wider is =
      sessions_fall x y (with_session n f h.sessions) h is (rule_changed h.next n Free f h.sessions is.sessions kept sits few) (λ j yes'. (wider j yes').0) held
    where
      held : Held y h.sessions (with_session n f h.sessions)
      held j s yes' there =
          elim (cases_Bool (s.shown.number == n)) [
            | inl here ↦
                let number : s.shown.number ≡ t.shown.number = eqb-true s.shown.number n here ∙ sym (number_is n h.sessions t it) in
                let same : s ≡ t = one_number (is_at j) (is_numbered n) h.next h.sessions s t is.sessions there it number in
                let on : t.shown.conn ≡ Some j = ap (λ (u : Session A). u.shown.conn) (sym same) ∙ on_seat j h.sessions s there in
                absurd (false≢true (sym (ap not (is_seat j t on)) ∙ (wider j yes').1))
            | inr apart ↦
                let unchanged : changes_one n f s ≡ s = rw apart refl in
                found_in_map (is_at j) (changes_one n f) h.sessions s there (is_seat j (changes_one n f s) (ap (λ (u : Session A). u.shown.conn) unchanged ∙ on_seat j h.sessions s there))
          ]

  pub ended_falls : (x y : ℕ → Bool) (n : ℕ) (h : ServerState A) (t : Session A) → session_of n h.sessions ≡ Some t → ((j : ℕ) → y j ≡ true → (x j ≡ true) × (off t.shown.conn j ≡ true)) → IsOrdered h
      → Falls x y h (with_sessions (without n h.sessions) h)
  ended_falls x y n h t it wider is =
      sessions_fall x y (without n h.sessions) h is (rule_left (λ s. not (s.shown.number == n)) h.next h.sessions is.sessions) (λ j yes'. (wider j yes').0) held
    where
      held : Held y h.sessions (without n h.sessions)
      held j s yes' there =
          elim (cases_Bool (s.shown.number == n)) [
            | inl here ↦
                let number : s.shown.number ≡ t.shown.number = eqb-true s.shown.number n here ∙ sym (number_is n h.sessions t it) in
                let same : s ≡ t = one_number (is_at j) (is_numbered n) h.next h.sessions s t is.sessions there it number in
                let on : t.shown.conn ≡ Some j = ap (λ (u : Session A). u.shown.conn) (sym same) ∙ on_seat j h.sessions s there in
                absurd (false≢true (sym (ap not (is_seat j t on)) ∙ (wider j yes').1))
            | inr apart ↦ bound_is j (without n h.sessions) s (left_found (is_at j) (λ u. not (u.shown.number == n)) h.sessions s there (ap not apart))
          ]

  -- those go that are on no connection
  pub parked_go_falls : (x : ℕ → Bool) (q : Session A → Bool) (h : ServerState A) → ((s : Session A) (j : ℕ) → s.shown.conn ≡ Some j → q s ≡ true) → IsOrdered h → Falls x x h (with_sessions (filter q h.sessions) h)
  parked_go_falls x q h stay is =
      sessions_fall x x (filter q h.sessions) h is (rule_left q h.next h.sessions is.sessions) (λ j yes'. yes')
      (λ j s yes' there. bound_is j (filter q h.sessions) s (left_found (is_at j) q h.sessions s there (stay s j (on_seat j h.sessions s there))))

  -- ---- other connections

  pub conn_falls : (x : ℕ → Bool) (k : ℕ) (f : Connection → Connection) (h : ServerState A) → IsOrdered h → Falls x x h (with_conn k f h)
  conn_falls x k f h is = go (conn_at k h)
    where
      go : (o : Option Connection) → Falls x x h (record h { conns = changed k f o h.conns })
      go None = record { keeps = record { sessions = is.sessions; conns = is.conns }; less = omega arith }
      go (Some c) =
          let keys = key_set k h.conns (f c) in
          record {
            keeps = record { sessions = is.sessions; conns = subst (λ ks. Ascends ks) (sym keys) is.conns };
            less = subst (λ ks. h.next + passing (counts x h.sessions) ks ≤ measure x h) (sym keys) (omega arith);
          }
        where
          Ascends : List ℕ → Type 0
          Ascends ks = IsStrictlySortedBy nat_cmp ks

  -- one is without its sessions, and is no more
  pub shut_falls : (f : ℕ) (x y : ℕ → Bool) (h : ServerState A) → ((j : ℕ) → j ≢ f → y j ≡ true → x j ≡ true) → IsOrdered h → Falls x y h (with_sessions (without_at f h.sessions) (without_conn f h))
  shut_falls f x y h wider is =
      let ts = without_at f h.sessions in
      let less = removed_pass f (counts y ts) (counts x h.sessions) h.conns is.conns (λ j apart. implied x y h.sessions ts j (wider j apart) (λ s yes' there. held j s apart there)) in
      record {
        keeps = record { sessions = rule_left (λ s. not (is_at f s)) h.next h.sessions is.sessions; conns = removed_ascend (is_number f) h.conns is.conns };
        less = omega (arith, less);
      }
    where
      held : (j : ℕ) (s : Session A) → j ≢ f → session_at j h.sessions ≡ Some s → is_unbound (without_at f h.sessions) j ≡ false
      held j s apart there =
          let on = on_seat j h.sessions s there in
          let other : is_at f s ≡ false = ap (is_some_number f) on ∙ ne_eqb j f apart in
          bound_is j (without_at f h.sessions) s (left_found (is_at j) (λ u. not (is_at f u)) h.sessions s there (ap not other))

  -- one is no more
  pub gone_conn_falls : (f : ℕ) (x y : ℕ → Bool) (h : ServerState A) → ((j : ℕ) → j ≢ f → y j ≡ true → x j ≡ true) → IsOrdered h → Falls x y h (without_conn f h)
  gone_conn_falls f x y h wider is =
      let less = removed_pass f (counts y h.sessions) (counts x h.sessions) h.conns is.conns (λ j apart. implied x y h.sessions h.sessions j (wider j apart) (λ s yes' there. bound_is j h.sessions s there)) in
      record { keeps = record { sessions = is.sessions; conns = removed_ascend (is_number f) h.conns is.conns }; less = omega (arith, less) }
