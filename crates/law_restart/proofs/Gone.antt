-- Once all connections are gone, no session is on one, and each was parked at a moment that has been.
use Rattle.std.proofs.Common.{◌≡◌, ◌≢◌, ◌⊎◌, ℕ, ◌+◌, ◌-◌, ◌≤◌, ◌==◌, max, Bool, true, false, true≢false, cond, not, ◌&&◌, List, [], ◌∷◌, Option, Some, None, is_none, sym, refl, ap, ◌∙◌, ⊎_elim, inl, inr, arith, eq-eqb, le_trans, le-leb, le_refl}
use Rattle.std.proofs.Math.Nat.{max-eq_right, max-le}
use Rattle.std.proofs.lemmas.Bool.{cases_Bool, eqb-true}
use Rattle.std.proofs.lemmas.Option.{none-some}
use Rattle.std.specs.Cmp.{unsigned_ties}
use Rattle.std.specs.List.{AllByRecursion, find}
use Rattle.std.specs.Map.{lookup, remove_entry}
use Rattle.std.specs.Prelude.{nat_le}
use Rattle.law_restart.proofs.Framed.{numbers_removed, without_number}
use Rattle.law_restart.proofs.Stamped.{none_later, stamped_later}
use Rattle.law_restart.specs.Standing.{IsAlone, IsOnItsLogin, IsStanding, WasParkedBy, numbers_of}
use Rattle.law_restart.specs.Stopping.{again, stopping}
use Rattle.law_server.proofs.LiveRows.{found_has}
use Rattle.law_server.proofs.Seats.{all_kept, number_same}
use Rattle.law_server.specs.Events.{after_events, run}
use Rattle.sm_live.specs.Sessions.{Session, is_at, is_expired, lost, parked, session_at, unexpired, with_session, without}
use Rattle.sm_resumption.specs.Rows.{is_some_number}
use Rattle.sm_resumption.specs.declared.answers.TheConstants.{RESUMABLE_FOR}
use Rattle.srv_core.specs.Events.{Whole, after_gone, whole}
use Rattle.srv_core.specs.Restarts.{greatest, stamps_of}
use Rattle.srv_state.specs.Moments.{at_moment}
use Rattle.srv_state.specs.State.{Out, ServerState, conn_at, is_number}
use Rattle.srv_state.specs.declared.connection.Connection.{Connection}
use Rattle.srv_state.specs.declared.connection.Phase.TheVariants as phase
use Rattle.xml_writer.specs.Items.{ItemOut}

-- ---- one session

abbrev IsOneOf : ℕ → List ℕ → Type 0
IsOneOf k [] = ⊥
IsOneOf k (j ∷ js) = (k ≡ j) ⊎ IsOneOf k js

-- It is on one of these connections, on which no session of another number is; or it was parked at a moment that has been.
abbrev IsSeatedAt : List ℕ → ℕ → (ℕ → ℕ) → ℕ → Option ℕ → ℕ → Type 0
IsSeatedAt keys now seat number None parked_at = parked_at ≤ now
IsSeatedAt keys now seat number (Some k) parked_at = IsOneOf k keys × (number ≡ seat k)

abbrev IsSeated : {A : Type 0} → List ℕ → ℕ → (ℕ → ℕ) → Session A → Type 0
IsSeated keys now seat s = IsSeatedAt keys now seat s.shown.number s.shown.conn s.shown.parked_at

-- its number is another than that of the session on k, so it is on another connection
apart_number : (k : ℕ) (keys : List ℕ) (now : ℕ) (seat : ℕ → ℕ) (number : ℕ) (conn : Option ℕ) (p : ℕ) → number ≢ seat k → IsSeatedAt (k ∷ keys) now seat number conn p → IsSeatedAt keys now seat number conn p
apart_number k keys now seat number None p other h = h
apart_number k keys now seat number (Some j) p other h = (⊎_elim (λ e. absurd (other (h.1 ∙ ap seat e))) (λ x. x) h.0, h.1)

apart_test : (k : ℕ) (keys : List ℕ) (now : ℕ) (seat : ℕ → ℕ) (number : ℕ) (conn : Option ℕ) (p : ℕ) → is_some_number k conn ≡ false → IsSeatedAt (k ∷ keys) now seat number conn p → IsSeatedAt keys now seat number conn p
apart_test k keys now seat number None p test h = h
apart_test k keys now seat number (Some j) p test h = (⊎_elim (λ e. absurd (true≢false (sym (eq-eqb j k e) ∙ test))) (λ x. x) h.0, h.1)

-- the number of the session on k
number_at : (k : ℕ) (keys : List ℕ) (now : ℕ) (seat : ℕ → ℕ) (number : ℕ) (conn : Option ℕ) (p : ℕ) → is_some_number k conn ≡ true → IsSeatedAt keys now seat number conn p → number ≡ seat k
number_at k keys now seat number None p test h = absurd (true≢false (sym test))
number_at k keys now seat number (Some j) p test h = h.1 ∙ ap seat (eqb-true j k test)

-- ---- those of a list

module _ {A : Type 0} (k : ℕ) (keys : List ℕ) (now : ℕ) (seat : ℕ → ℕ) where
  abbrev Was : Session A → Type 0
  Was s = IsSeated (k ∷ keys) now seat s

  abbrev Is : Session A → Type 0
  Is s = IsSeated keys now seat s

  -- no session is on k
  none_at : (ss : List (Session A)) → find (is_at k) ss ≡ None → AllByRecursion Was ss → AllByRecursion Is ss
  none_at [] e h = tt
  none_at (s ∷ ss) e h =
      elim (cases_Bool (is_at k s)) [
        | inl here ↦ absurd (none-some s (sym (rw here at e)))
        | inr other ↦ (apart_test k keys now seat s.shown.number s.shown.conn s.shown.parked_at other h.0, none_at ss (rw other at e) h.1)
      ]

  -- the session of k is parked
  all_parked : (n p : ℕ) → n ≡ seat k → p ≤ now → (ss : List (Session A)) → AllByRecursion Was ss → AllByRecursion Is (with_session n (parked p) ss)
  all_parked n p is le [] h = tt
  all_parked n p is le (s ∷ ss) h =
      let rest = all_parked n p is le ss h.1 in
      elim (cases_Bool (s.shown.number == n)) [
        | inl here ↦ rw here (le, rest)
        | inr other ↦ rw other (apart_number k keys now seat s.shown.number s.shown.conn s.shown.parked_at (λ e. true≢false (sym (eq-eqb s.shown.number n (e ∙ sym is)) ∙ other)) h.0, rest)
      ]

  -- or it ends
  all_without : (n : ℕ) → n ≡ seat k → (ss : List (Session A)) → AllByRecursion Was ss → AllByRecursion Is (without n ss)
  all_without n is [] h = tt
  all_without n is (s ∷ ss) h =
      let rest = all_without n is ss h.1 in
      elim (cases_Bool (s.shown.number == n)) [
        | inl here ↦ rw here rest
        | inr other ↦ rw other (apart_number k keys now seat s.shown.number s.shown.conn s.shown.parked_at (λ e. true≢false (sym (eq-eqb s.shown.number n (e ∙ sym is)) ∙ other)) h.0, rest)
      ]

  all_lost : (p : ℕ) → p ≤ now → (ss : List (Session A)) → AllByRecursion Was ss → (o : Option (Session A)) → session_at k ss ≡ o → AllByRecursion Is (lost p o ss)
  all_lost p le ss h None e = none_at ss e h
  all_lost p le ss h (Some s) e =
      let found = found_has Was (is_at k) ss s h e in
      let number : s.shown.number ≡ seat k = number_at k (k ∷ keys) now seat s.shown.number s.shown.conn s.shown.parked_at found.0 found.1 in
      either s.shown.resumable number
    where
      either : (b : Bool) → s.shown.number ≡ seat k → AllByRecursion Is (cond b (with_session s.shown.number (parked p) ss) (without s.shown.number ss))
      either true number = all_parked s.shown.number p number le ss h
      either false number = all_without s.shown.number number ss h

-- ---- connections

own : (k : ℕ) → is_number k k ≡ true
own k = sym (unsigned_ties k k) ∙ eq-eqb k k refl

removed : {V : Type 0} (k : ℕ) (keys : List ℕ) (entries : List (ℕ × V)) → numbers_of entries ≡ k ∷ keys → numbers_of (remove_entry (is_number k) entries) ≡ keys
removed k keys entries e = numbers_removed k entries ∙ ap (without_number k) e ∙ (let here = own k in rw here refl)

no_entries : {V : Type 0} (entries : List (ℕ × V)) → numbers_of entries ≡ [] → entries ≡ []
no_entries [] e = refl
no_entries (x ∷ xs) e = absurd (true≢false (sym (ap empty e)))
  where
    empty : List ℕ → Bool
    empty [] = true
    empty (n ∷ ns) = false

is_one : (k : ℕ) (c : Connection) (conns : List (ℕ × Connection)) → lookup (is_number k) conns ≡ Some c → IsOneOf k (numbers_of conns)
is_one k c [] found = absurd (none-some c found)
is_one k c (e ∷ conns) found =
    elim (cases_Bool (is_number k e.0)) [
      | inl here ↦ inl (number_same k e.0 here)
      | inr other ↦ inr (is_one k c conns (rw other at found))
    ]

-- ---- sessions that can be resumed no more

expired : (now later : ℕ) (seat : ℕ → ℕ) (number : ℕ) (conn : Option ℕ) (p : ℕ) → now + RESUMABLE_FOR ≤ later → IsSeatedAt [] now seat number conn p → (is_none conn && nat_le RESUMABLE_FOR (later - p)) ≡ true
expired now later seat number None p le h = le-leb RESUMABLE_FOR (later - p) (omega (arith, le, h))
expired now later seat number (Some k) p le h = absurd h.0

all_expired : {A : Type 0} (now later : ℕ) (seat : ℕ → ℕ) (ss : List (Session A)) → now + RESUMABLE_FOR ≤ later → AllByRecursion (IsSeated [] now seat) ss → unexpired later ss ≡ []
all_expired now later seat [] le h = refl
all_expired now later seat (s ∷ ss) le h =
    ap (λ b. cond (not b) (s ∷ unexpired later ss) (unexpired later ss)) (expired now later seat s.shown.number s.shown.conn s.shown.parked_at le h.0) ∙ all_expired now later seat ss le h.1

-- ---- what is left once connections are gone

-- all these are gone, one after another
abbrev all_gone : {A : Type 0} → ℕ → List (ℕ × Connection) → Whole A → Whole A
all_gone now [] w = w
all_gone now (c ∷ conns) w = all_gone now conns (after_gone c.0 now w)

record Left {A : Type 0} (now : ℕ) (seat : ℕ → ℕ) (w u : Whole A) : Type 0 where
  domain : u.server_state.domain ≡ w.server_state.domain
  accounts : u.server_state.accounts ≡ w.server_state.accounts
  archives : u.server_state.archives ≡ w.server_state.archives
  next : u.server_state.next ≡ w.server_state.next
  conns : numbers_of u.server_state.conns ≡ []
  framers : numbers_of u.framers ≡ []
  moment : u.server_state.moment ≤ now
  sessions : AllByRecursion (IsSeated [] now seat) u.server_state.sessions

module _ {A : Type 0} where
  gone_on : (now : ℕ) (seat : ℕ → ℕ) (conns : List (ℕ × Connection)) (w : Whole A) → numbers_of w.server_state.conns ≡ numbers_of conns → numbers_of w.framers ≡ numbers_of conns → w.server_state.moment ≤ now
      → AllByRecursion (IsSeated (numbers_of conns) now seat) w.server_state.sessions → Left now seat w (all_gone now conns w)
  gone_on now seat [] w conns framers moment sessions = record { domain = refl; accounts = refl; archives = refl; next = refl; conns = conns; framers = framers; moment = moment; sessions = sessions }
  gone_on now seat (c ∷ cs) w conns framers moment sessions =
      let m = max w.server_state.moment now in
      let le : m ≤ now = max-le moment (le_refl now) in
      let ss = unexpired m w.server_state.sessions in
      let kept = all_kept (IsSeated (numbers_of (c ∷ cs)) now seat) (λ s. not (is_expired m s)) w.server_state.sessions sessions in
      let l = gone_on now seat cs (after_gone c.0 now w) (removed c.0 (numbers_of cs) w.server_state.conns conns) (removed c.0 (numbers_of cs) w.framers framers) le
      (all_lost c.0 (numbers_of cs) now seat m le ss kept (session_at c.0 ss) refl) in
      record { domain = l.domain; accounts = l.accounts; archives = l.archives; next = l.next; conns = l.conns; framers = l.framers; moment = l.moment; sessions = l.sessions }

  -- ---- a server that stands

  abbrev number_of_one : Option (Session A) → ℕ
  number_of_one None = 0
  number_of_one (Some s) = s.shown.number

  seated_in : (h : ServerState A) (now : ℕ) → h.moment ≤ now → (ss : List (Session A)) → AllByRecursion (IsAlone h.sessions) ss → AllByRecursion (IsOnItsLogin h) ss → AllByRecursion (WasParkedBy h.moment) ss
      → AllByRecursion (IsSeated (numbers_of h.conns) now (λ k. number_of_one (session_at k h.sessions))) ss
  seated_in h now le [] alone seated past = tt
  seated_in h now le (s ∷ ss) alone seated past = (by s.shown.conn alone.0 seated.0, seated_in h now le ss alone.1 seated.1 past.1)
    where
      by : (conn : Option ℕ) → ((k : ℕ) → conn ≡ Some k → session_at k h.sessions ≡ Some s) → ((k : ℕ) → conn ≡ Some k → (c : Connection) × (conn_at k h ≡ Some c) × (c.phase ≡ phase.Ready s.shown.account))
          → IsSeatedAt (numbers_of h.conns) now (λ k. number_of_one (session_at k h.sessions)) s.shown.number conn s.shown.parked_at
      by None found opened = le_trans past.0 le
      by (Some k) found opened = (is_one k (opened k refl).0 h.conns (opened k refl).1, sym (ap number_of_one (found k refl)))

  stops : (say : ItemOut → A) (now later : ℕ) (conns : List (ℕ × Connection)) (w : Whole A) (outs : List (Out A))
      → after_events say (stopping now later conns) (run w outs) ≡ run (whole (at_moment later (all_gone now conns w).server_state) (all_gone now conns w).framers) outs
  stops say now later [] w outs = refl
  stops say now later (c ∷ conns) w outs = stops say now later conns (after_gone c.0 now w) outs

  started : (w : Whole A) (now later : ℕ) → IsStanding w → w.server_state.moment ≤ now → now + RESUMABLE_FOR ≤ later
      → whole (at_moment later (all_gone now w.server_state.conns w).server_state) (all_gone now w.server_state.conns w).framers ≡ again later w.server_state
  started w now later is below le =
      let h = w.server_state in
      let u = all_gone now h.conns w in
      let seat = λ (k : ℕ). number_of_one (session_at k h.sessions) in
      let left = gone_on now seat h.conns w refl is.framed below (seated_in h now below h.sessions is.alone is.seated is.parked) in
      let moment : max u.server_state.moment later ≡ later = max-eq_right (le_trans left.moment (omega (arith, le))) in
      let sessions : unexpired (max u.server_state.moment later) u.server_state.sessions ≡ [] = ap (λ n. unexpired n u.server_state.sessions) moment ∙ all_expired now later seat u.server_state.sessions le left.sessions in
      let stamps : later ≡ greatest later (stamps_of h.archives) = sym (none_later later h.archives (λ account. stamped_later h.moment later _ (omega (arith, below, le)) (is.stamped account))) in
      let conns = no_entries u.server_state.conns left.conns in
      let framers = no_entries u.framers left.framers in
      let at : max u.server_state.moment later ≡ greatest later (stamps_of h.archives) = moment ∙ stamps in
      λ i. record {
        server_state = record { domain = left.domain i; accounts = left.accounts i; archives = left.archives i; sessions = sessions i; next = left.next i; conns = conns i; moment = at i };
        framers = framers i;
      }

  pub restarts : (say : ItemOut → A) (w : Whole A) (outs : List (Out A)) (now later : ℕ) → IsStanding w → w.server_state.moment ≤ now → now + RESUMABLE_FOR ≤ later
      → after_events say (stopping now later w.server_state.conns) (run w outs) ≡ run (again later w.server_state) outs
  restarts say w outs now later is below le = stops say now later w.server_state.conns w outs ∙ ap (λ (u : Whole A). run u outs) (started w now later is below le)
