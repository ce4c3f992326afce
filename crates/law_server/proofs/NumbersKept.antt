-- Sessions keep numbers of their own.
use Rattle.std.proofs.Common.{◌≡◌, ℕ, ◌+◌, ◌≤◌, ◌==◌, Bool, true, false, not, cond, List, [], ◌∷◌, ◌++◌, Option, Some, None, map, refl, sym, ap, subst, arith, eq-eqb, ne_eqb, inl, inr}
use Rattle.std.proofs.lemmas.Bool.{cases_Bool}
use Rattle.std.proofs.lemmas.Option.{none-some, same_Some}
use Rattle.std.specs.List.{filter, find}
use Rattle.std.specs.Option.{option_map}
use Rattle.sm_acks.specs.declared.end.TheConstants.{MOST_UNACKNOWLEDGED}
use Rattle.mam_archive.specs.Entries.{EntryView}
use Rattle.srv_state.specs.Moments.{at_moment, gone_at}
use Rattle.srv_state.specs.State.{Kept, ServerState, Step, address_shown, archive_at, full_address, session_address, shown_of}
use Rattle.srv_state.specs.Steps as steps
use Rattle.srv_state.specs.Steps.{Act, act, acted, archived_in, ask_where, in_server_state, in_sessions, is_due, overflow, part, part_where, put, put_where, queue, send_by_info, shut}
use Rattle.sm_live.specs.Sessions.{Session, acknowledged, after_resume, asks, copies, enables, fresh, handles, info_of, is_at, is_expired, is_too_high, less, lost, parked, presents, resumes, session_at, session_named, session_of, session_resumed, waits, with_session, without}
use Rattle.sm_live.specs.declared.told.SessionInfo.{SessionInfo}
use Rattle.im_replies.specs.Streams.{error_item}
use Rattle.im_replies.specs.declared.conditions.StreamCondition.TheVariants.{ResourceConstraint}
use Rattle.law_server.specs.Numbers.{HaveNumbers, Rise}
use Rattle.xml_writer.specs.Items.{Closing, ItemOut}
use Rattle.law_server.proofs.SessionWalks.{number_either}

-- ---- lists of sessions

rise_lower : {A : Type 0} (low from next : ℕ) (ss : List (Session A)) → low ≤ from → Rise from next ss → Rise low next ss
rise_lower low from next [] less rise = omega (arith, less, rise)
rise_lower low from next (s ∷ ss) less rise = (let first = rise.0 in omega (arith, less, first), rise.1)

pub rise_some : {A : Type 0} (p : Session A → Bool) (from next : ℕ) (ss : List (Session A)) → Rise from next ss → Rise from next (filter p ss)
rise_some p from next [] rise = rise
rise_some p from next (s ∷ ss) rise =
    elim (cases_Bool (p s)) [
      | inl stays ↦ rw stays (rise.0, rise_some p (s.shown.number + 1) next ss rise.1)
      | inr goes ↦
          let first = rise.0 in
          rw goes (rise_lower from (s.shown.number + 1) next (filter p ss) (omega (arith, first)) (rise_some p (s.shown.number + 1) next ss rise.1))
    ]

pub rise_more : {A : Type 0} (from next account : ℕ) (resource : List ℕ) (k : ℕ) (ss : List (Session A)) → Rise from next ss → Rise from (next + 1) (ss ++ fresh next account resource k ∷ [])
rise_more from next account resource k [] rise = (rise, omega arith)
rise_more from next account resource k (s ∷ ss) rise = (rise.0, rise_more (s.shown.number + 1) next account resource k ss rise.1)

pub rise_same : {A : Type 0} (f : Session A → Session A) → ((s : Session A) → (f s).shown.number ≡ s.shown.number) → (from next : ℕ) (ss : List (Session A)) → Rise from next ss → Rise from next (map f ss)
rise_same f same from next [] rise = rise
rise_same f same from next (s ∷ ss) rise =
    (subst (λ n. from ≤ n) (sym (same s)) rise.0, subst (λ n. Rise (n + 1) next (map f ss)) (sym (same s)) (rise_same f same (s.shown.number + 1) next ss rise.1))

rise_changed : {A : Type 0} (n : ℕ) (f : Session A → Session A) → ((s : Session A) → (f s).shown.number ≡ s.shown.number) → (from next : ℕ) (ss : List (Session A)) → Rise from next ss → Rise from next (with_session n f ss)
rise_changed n f same from next ss rise = rise_same (λ s. cond (s.shown.number == n) (f s) s) (λ s. number_either (s.shown.number == n) s (f s) (same s)) from next ss rise

rise_less : {A : Type 0} (o : Option (Session A)) (from next : ℕ) (ss : List (Session A)) → Rise from next ss → Rise from next (less o ss)
rise_less None from next ss rise = rise
rise_less (Some s) from next ss rise = rise_some (λ t. not (t.shown.number == s.shown.number)) from next ss rise

rise_either : {A : Type 0} (b : Bool) (from next : ℕ) (ss ts : List (Session A)) → Rise from next ss → Rise from next ts → Rise from next (cond b ss ts)
rise_either true from next ss ts a b = a
rise_either false from next ss ts a b = b

rise_resumed : {A : Type 0} (h k : ℕ) (o : Option (Session A)) (from next : ℕ) (ss : List (Session A)) → Rise from next ss → Rise from next (after_resume h k o ss)
rise_resumed h k None from next ss rise = rise
rise_resumed h k (Some s) from next ss rise =
    rise_either (is_too_high h s) from next _ _ (rise_some (λ t. not (t.shown.number == s.shown.number)) from next ss rise)
    (rise_changed s.shown.number (resumes h k) (λ t. refl) from next ss rise)

rise_lost : {A : Type 0} (now : ℕ) (o : Option (Session A)) (from next : ℕ) (ss : List (Session A)) → Rise from next ss → Rise from next (lost now o ss)
rise_lost now None from next ss rise = rise
rise_lost now (Some s) from next ss rise =
    rise_either s.shown.resumable from next _ _ (rise_changed s.shown.number (parked now) (λ t. refl) from next ss rise)
    (rise_some (λ t. not (t.shown.number == s.shown.number)) from next ss rise)

-- ---- events

pub numbers_at_moment : {A : Type 0} (now : ℕ) (h : ServerState A) → HaveNumbers h → HaveNumbers (at_moment now h)
numbers_at_moment now h have = rise_some (λ s. not (is_expired _ s)) 1 h.next h.sessions have

pub numbers_gone : {A : Type 0} (k : ℕ) (h : ServerState A) → HaveNumbers h → HaveNumbers (gone_at k h)
numbers_gone k h have = rise_lost h.moment (session_at k h.sessions) 1 h.next h.sessions have

-- ---- acts

numbers_changed : {A : Type 0} (n : ℕ) (f : Session A → Session A) (s : Step A) → ((t : Session A) → (f t).shown.number ≡ t.shown.number) → HaveNumbers s.server_state → HaveNumbers (in_sessions (with_session n f) s).server_state
numbers_changed n f s same have = rise_changed n f same 1 s.server_state.next s.server_state.sessions have

numbers_shut : {A : Type 0} (k : ℕ) (s : Step A) → HaveNumbers s.server_state → HaveNumbers (shut k s).server_state
numbers_shut k s have = rise_some (λ t. not (is_at k t)) 1 s.server_state.next s.server_state.sessions have

numbers_put : {A : Type 0} (o : Option ℕ) (a : A) (s : Step A) → HaveNumbers s.server_state → HaveNumbers (put_where o a s).server_state
numbers_put None a s have = have
numbers_put (Some k) a s have = have

numbers_part : {A : Type 0} (say : ItemOut → A) (o : Option ℕ) (error : A) (s : Step A) → HaveNumbers s.server_state → HaveNumbers (part_where say o error s).server_state
numbers_part say None error s have = have
numbers_part say (Some k) error s have = numbers_shut k (put k (say Closing) (put k error s)) have

numbers_ask : {A : Type 0} (say : ItemOut → A) (n : ℕ) (o : Option ℕ) (due : Bool) (s : Step A) → HaveNumbers s.server_state → HaveNumbers (ask_where say n o due s).server_state
numbers_ask say n o false s have = have
numbers_ask say n None true s have = have
numbers_ask say n (Some k) true s have = numbers_changed n (asks true) s (λ t. refl) have

numbers_queue : {A : Type 0} (say : ItemOut → A) (n : ℕ) (a : A) (t : SessionInfo) (s : Step A) → HaveNumbers s.server_state → HaveNumbers (queue say n a t s).server_state
numbers_queue say n a t s have =
    let u = in_sessions (with_session n (waits a)) s in
    numbers_ask say n t.conn (is_due t) (put_where t.conn a u) (numbers_put t.conn a u (numbers_changed n (waits a) s (λ x. refl) have))

numbers_overflow : {A : Type 0} (say : ItemOut → A) (n : ℕ) (t : SessionInfo) (s : Step A) → HaveNumbers s.server_state → HaveNumbers (overflow say n t s).server_state
numbers_overflow say n t s have =
    numbers_part say t.conn (say (error_item ResourceConstraint)) (in_sessions (without n) s) (rise_some (λ x. not (x.shown.number == n)) 1 s.server_state.next s.server_state.sessions have)

numbers_either : {A : Type 0} (b : Bool) (s t : Step A) → HaveNumbers s.server_state → HaveNumbers t.server_state → HaveNumbers (cond b s t).server_state
numbers_either true s t a b = a
numbers_either false s t a b = b

numbers_sent : {A : Type 0} (say : ItemOut → A) (n : ℕ) (a : A) (o : Option SessionInfo) (s : Step A) → HaveNumbers s.server_state → HaveNumbers (send_by_info say n a o s).server_state
numbers_sent say n a None s have = have
numbers_sent say n a (Some t) s have =
    numbers_either (not t.counted) _ _ (numbers_put t.conn a s have)
    (numbers_either (t.waiting == MOST_UNACKNOWLEDGED) _ _ (numbers_overflow say n t s have) (numbers_queue say n a t s have))

numbers_archived : {A : Type 0} (e : EntryView) (account : ℕ) (o : Option Kept) (h : ServerState A) → HaveNumbers h → HaveNumbers (archived_in e account o h)
numbers_archived e account None h have = have
numbers_archived e account (Some kept) h have = have

numbers_act : {A : Type 0} (say : ItemOut → A) (a : Act A) (s : Step A) → HaveNumbers s.server_state → HaveNumbers (act say a s).server_state
numbers_act say (steps.Say k a) s have = have
numbers_act say (steps.Close k) s have = numbers_shut k s have
numbers_act say (steps.Enter k phase) s have = have
numbers_act say (steps.Fail k left) s have = have
numbers_act say (steps.Bind account resource k) s have =
    rise_more 1 s.server_state.next account resource k _ (rise_less (session_named account resource s.server_state.sessions) 1 s.server_state.next s.server_state.sessions have)
numbers_act say (steps.Resume previd account h k) s have = rise_resumed h k (session_resumed previd account s.server_state.sessions) 1 s.server_state.next s.server_state.sessions have
numbers_act say (steps.Enable n resume) s have = numbers_changed n (enables resume) s (λ t. refl) have
numbers_act say (steps.Acknowledge n h) s have = numbers_changed n (acknowledged h) s (λ t. refl) have
numbers_act say (steps.Ask n on) s have = numbers_changed n (asks on) s (λ t. refl) have
numbers_act say (steps.Handle n) s have = numbers_changed n handles s (λ t. refl) have
numbers_act say (steps.Present n available priority) s have = numbers_changed n (presents available priority) s (λ t. refl) have
numbers_act say (steps.Copy n on) s have = numbers_changed n (copies on) s (λ t. refl) have
numbers_act say (steps.Send n a) s have = numbers_sent say n a (info_of n s.server_state.sessions) s have
numbers_act say (steps.Archive account e) s have = numbers_archived e account (archive_at account s.server_state) s.server_state have
numbers_act say (steps.Tell from to origin) s have = have

pub numbers_acted : {A : Type 0} (say : ItemOut → A) (acts : List (Act A)) (s : Step A) → HaveNumbers s.server_state → HaveNumbers (acted say acts s).server_state
numbers_acted say [] s have = have
numbers_acted say (a ∷ acts) s have = numbers_acted say acts (act say a s) (numbers_act say a s have)

-- ---- a session is found by its number

found_above : {A : Type 0} (p : Session A → Bool) (from next : ℕ) (ss : List (Session A)) (t : Session A) → Rise from next ss → find p ss ≡ Some t → from ≤ t.shown.number
found_above p from next [] t rise found = absurd (none-some t found)
found_above {A = A} p from next (s ∷ ss) t rise found =
    elim (cases_Bool (p s)) [
      | inl here ↦ subst (λ (x : Session A). from ≤ x.shown.number) (same_Some s t (rw here at found)) rise.0
      | inr later ↦
          let above : s.shown.number + 1 ≤ t.shown.number = found_above p (s.shown.number + 1) next ss t rise.1 (rw later at found) in
          let first = rise.0 in
          omega (arith, first, above)
    ]

pub found_by_number : {A : Type 0} (p : Session A → Bool) (from next : ℕ) (ss : List (Session A)) (t : Session A) → Rise from next ss → find p ss ≡ Some t → session_of t.shown.number ss ≡ Some t
found_by_number p from next [] t rise found = absurd (none-some t found)
found_by_number {A = A} p from next (s ∷ ss) t rise found =
    elim (cases_Bool (p s)) [
      | inl here ↦
          let same : s ≡ t = same_Some s t (rw here at found) in
          let number : (s.shown.number == t.shown.number) ≡ true = eq-eqb s.shown.number t.shown.number (ap (λ (x : Session A). x.shown.number) same) in
          rw number (ap Some same)
      | inr later ↦
          let rest : find p ss ≡ Some t = rw later at found in
          let above : s.shown.number + 1 ≤ t.shown.number = found_above p (s.shown.number + 1) next ss t rise.1 rest in
          let apart : (s.shown.number == t.shown.number) ≡ false = ne_eqb s.shown.number t.shown.number (λ is. omega (arith, above, is)) in
          rw apart (found_by_number p (s.shown.number + 1) next ss t rise.1 rest)
    ]

-- and so its address is one of its account
pub address_is : {A : Type 0} (k : ℕ) (h : ServerState A) (t : Session A) → HaveNumbers h → session_at k h.sessions ≡ Some t → session_address t.shown.number h ≡ full_address t.shown.account t.shown.resource h
address_is k h t have found = ap (λ o. address_shown (option_map shown_of o) h) (found_by_number (is_at k) 1 h.next h.sessions t have found)
