-- What is sent to a session is put on its connection, and waits in it.
use Rattle.std.proofs.Common.{◌≡◌, ◌≢◌, ◌⊎◌, ℕ, ◌==◌, Bool, true, false, not, cond, List, [], ◌∷◌, ◌++◌, Option, Some, None, append-nil, append_assoc, length, ne_eqb, refl, sym, ap, subst, ◌∙◌, inl, inr}
use Rattle.std.proofs.lemmas.Bool.{cases_Bool, false≢true}
use Rattle.std.proofs.lemmas.List.Elements.{All-append, All-cons, All-nil}
use Rattle.std.proofs.lemmas.Option.{none-some, same_Some}
use Rattle.std.specs.List.{All}
use Rattle.std.specs.Option.{option_map}
use Rattle.im_replies.specs.Management.{request_item}
use Rattle.im_replies.specs.Streams.{error_item}
use Rattle.im_replies.specs.declared.conditions.StreamCondition.TheVariants.{ResourceConstraint}
use Rattle.law_server.proofs.Frames.{others_left}
use Rattle.law_server.specs.Live.{IsOn}
use Rattle.sm_acks.specs.declared.end.TheConstants.{MOST_UNACKNOWLEDGED}
use Rattle.sm_live.specs.Sessions.{Session, asks, session_of, told, waits, with_session, without}
use Rattle.sm_live.specs.declared.told.SessionInfo.{SessionInfo}
use Rattle.srv_state.specs.State.{Out, Put, Shut, Step}
use Rattle.srv_state.specs.Steps.{ask_where, in_sessions, is_due, overflow, part_where, put, put_where, queue, send, send_by_info, shut}
use Rattle.xml_writer.specs.Items.{Closing, ItemOut}

-- ---- outputs

put_out : {A : Type 0} (o : Option ℕ) (j : ℕ) (a : A) (s : Step A) → o ≡ Some j → (put_where o a s).outs ≡ s.outs ++ Put j a ∷ []
put_out None j a s is = absurd (none-some j is)
put_out {A = A} (Some i) j a s is = ap (λ (x : ℕ). s.outs ++ Put x a ∷ []) (same_Some i j is)

-- outputs on a connection are added
abbrev Adds : {A : Type 0} → Option ℕ → Step A → Step A → Type 0
Adds {A = A} conn s u = (more : List (Out A)) × (u.outs ≡ s.outs ++ more) × All (IsOn conn) more

adds_nothing : {A : Type 0} (conn : Option ℕ) (s u : Step A) → u.outs ≡ s.outs → Adds conn s u
adds_nothing conn s u same = ([], same ∙ sym (append-nil s.outs), All-nil (IsOn conn))

adds_both : {A : Type 0} (conn : Option ℕ) (s t u : Step A) → Adds conn s t → Adds conn t u → Adds conn s u
adds_both {A = A} conn s t u one other =
    (one.0 ++ other.0, other.1 ∙ ap (λ (outs : List (Out A)). outs ++ other.0) one.1 ∙ append_assoc s.outs one.0 other.0, All-append (IsOn conn) one.0 other.0 one.2 other.2)

adds_one : {A : Type 0} (conn : Option ℕ) (s u : Step A) (o : Out A) → u.outs ≡ s.outs ++ o ∷ [] → IsOn conn o → Adds conn s u
adds_one conn s u o is on = (o ∷ [], is, All-cons (IsOn conn) o [] on (All-nil (IsOn conn)))

adds_put : {A : Type 0} (o : Option ℕ) (a : A) (s : Step A) → Adds o s (put_where o a s)
adds_put None a s = adds_nothing None s s refl
adds_put (Some j) a s = adds_one (Some j) s (put j a s) (Put j a) refl refl

adds_part : {A : Type 0} (say : ItemOut → A) (o : Option ℕ) (error : A) (s : Step A) → Adds o s (part_where say o error s)
adds_part say None error s = adds_nothing None s s refl
adds_part say (Some j) error s =
    let t = put j error s in
    let u = put j (say Closing) t in
    adds_both (Some j) s u (shut j u) (adds_both (Some j) s t u (adds_one (Some j) s t (Put j error) refl refl) (adds_one (Some j) t u (Put j (say Closing)) refl refl)) (adds_one (Some j) u (shut j u) (Shut j) refl refl)

adds_ask : {A : Type 0} (say : ItemOut → A) (n : ℕ) (o : Option ℕ) (due : Bool) (s : Step A) → Adds o s (ask_where say n o due s)
adds_ask say n o false s = adds_nothing o s s refl
adds_ask say n None true s = adds_nothing None s s refl
adds_ask say n (Some j) true s = adds_one (Some j) s (ask_where say n (Some j) true s) (Put j (say request_item)) refl refl

adds_queue : {A : Type 0} (say : ItemOut → A) (n : ℕ) (a : A) (t : SessionInfo) (s : Step A) → Adds t.conn s (queue say n a t s)
adds_queue say n a t s =
    let u = in_sessions (with_session n (waits a)) s in
    let v = put_where t.conn a u in
    let first : Adds t.conn s v = adds_put t.conn a u in
    adds_both t.conn s v (queue say n a t s) first (adds_ask say n t.conn (is_due t) v)

adds_overflow : {A : Type 0} (say : ItemOut → A) (n : ℕ) (t : SessionInfo) (s : Step A) → Adds t.conn s (overflow say n t s)
adds_overflow say n t s = adds_part say t.conn (say (error_item ResourceConstraint)) (in_sessions (without n) s)

adds_either : {A : Type 0} (conn : Option ℕ) (b : Bool) (s t u : Step A) → Adds conn s t → Adds conn s u → Adds conn s (cond b t u)
adds_either conn true s t u here there = here
adds_either conn false s t u here there = there

adds_sent : {A : Type 0} (say : ItemOut → A) (n : ℕ) (a : A) (t : SessionInfo) (s : Step A) → Adds t.conn s (send_by_info say n a (Some t) s)
adds_sent say n a t s =
    adds_either t.conn (not t.counted) s _ _ (adds_put t.conn a s) (adds_either t.conn (t.waiting == MOST_UNACKNOWLEDGED) s _ _ (adds_overflow say n t s) (adds_queue say n a t s))

pub only_there : {A : Type 0} (say : ItemOut → A) (n : ℕ) (a : A) (t : Session A) (s : Step A) → session_of n s.server_state.sessions ≡ Some t
    → (more : List (Out A)) × ((send say n a s).outs ≡ s.outs ++ more) × All (IsOn t.shown.conn) more
only_there {A = A} say n a t s found =
    subst (λ (o : Option (Session A)). (more : List (Out A)) × ((send_by_info say n a (option_map told o) s).outs ≡ s.outs ++ more) × All (IsOn t.shown.conn) more) (sym found) (adds_sent say n a (told t) s)

-- ---- where there is room

-- the steps of a session that isn't counted, and of one that is
record IsRoomy {A : Type 0} (say : ItemOut → A) (n : ℕ) (a : A) (t : Session A) (s : Step A) (P : Step A → Type 0) : Type 0 where
  uncounted : P (put_where t.shown.conn a s)
  counted : P (queue say n a (told t) s)

by_room : {A : Type 0} (say : ItemOut → A) (n : ℕ) (a : A) (t : Session A) (s : Step A) (P : Step A → Type 0) → IsRoomy say n a t s P → (t.shown.counted ≡ false) ⊎ (length t.waiting ≢ MOST_UNACKNOWLEDGED) → P (send_by_info say n a (Some (told t)) s)
by_room say n a t s P room free =
    elim (cases_Bool t.shown.counted) [
      | inl counted ↦ rw counted (rw (unfull counted free) room.counted)
      | inr uncounted ↦ rw uncounted room.uncounted
    ]
  where
    unfull : t.shown.counted ≡ true → (t.shown.counted ≡ false) ⊎ (length t.waiting ≢ MOST_UNACKNOWLEDGED) → (length t.waiting == MOST_UNACKNOWLEDGED) ≡ false
    unfull counted (inl not_so) = absurd (false≢true (sym not_so ∙ counted))
    unfull counted (inr differ) = ne_eqb (length t.waiting) MOST_UNACKNOWLEDGED differ

abbrev Puts : {A : Type 0} → ℕ → A → Step A → Step A → Type 0
Puts {A = A} j a s u = (more : List (Out A)) × (u.outs ≡ s.outs ++ Put j a ∷ more)

puts_ask : {A : Type 0} (say : ItemOut → A) (n : ℕ) (o : Option ℕ) (j : ℕ) (a : A) (due : Bool) (s u : Step A) → u.outs ≡ s.outs ++ Put j a ∷ [] → Puts j a s (ask_where say n o due u)
puts_ask say n o j a false s u is = ([], is)
puts_ask say n None j a true s u is = ([], is)
puts_ask {A = A} say n (Some i) j a true s u is =
    (Put i (say request_item) ∷ [], ap (λ (outs : List (Out A)). outs ++ Put i (say request_item) ∷ []) is ∙ append_assoc s.outs (Put j a ∷ []) (Put i (say request_item) ∷ []))

pub puts_there : {A : Type 0} (say : ItemOut → A) (n j : ℕ) (a : A) (t : Session A) (s : Step A) → session_of n s.server_state.sessions ≡ Some t → t.shown.conn ≡ Some j → (t.shown.counted ≡ false) ⊎ (length t.waiting ≢ MOST_UNACKNOWLEDGED)
    → (more : List (Out A)) × ((send say n a s).outs ≡ s.outs ++ Put j a ∷ more)
puts_there {A = A} say n j a t s found conn room =
    subst (λ (o : Option (Session A)). Puts j a s (send_by_info say n a (option_map told o) s)) (sym found)
    (by_room say n a t s (Puts j a s)
    (record {
      uncounted = ([], put_out t.shown.conn j a s conn);
      counted = puts_ask say n t.shown.conn j a (is_due (told t)) s (put_where t.shown.conn a (in_sessions (with_session n (waits a)) s)) (put_out t.shown.conn j a (in_sessions (with_session n (waits a)) s) conn);
    }) room)

-- ---- what waits

found_changed : {A : Type 0} (n : ℕ) (f : Session A → Session A) → ((s : Session A) → (f s).shown.number ≡ s.shown.number) → (ss : List (Session A)) → session_of n (with_session n f ss) ≡ option_map f (session_of n ss)
found_changed n f same [] = refl
found_changed n f same (s ∷ ss) =
    elim (cases_Bool (s.shown.number == n)) [
      | inl here ↦ (let after : ((f s).shown.number == n) ≡ true = ap (λ x. x == n) (same s) ∙ here in rw (here, after) refl)
      | inr other ↦ rw (other, other) (found_changed n f same ss)
    ]

abbrev Waits : {A : Type 0} → ℕ → A → Session A → Step A → Type 0
Waits {A = A} n a t u = (v : Session A) × (session_of n u.server_state.sessions ≡ Some v) × (v.waiting ≡ t.waiting ++ a ∷ [])

waits_put : {A : Type 0} (o : Option ℕ) (n : ℕ) (a b : A) (t : Session A) (s : Step A) → Waits n a t s → Waits n a t (put_where o b s)
waits_put None n a b t s waits_so = waits_so
waits_put (Some j) n a b t s waits_so = waits_so

waits_ask : {A : Type 0} (say : ItemOut → A) (o : Option ℕ) (due : Bool) (n : ℕ) (a : A) (t : Session A) (s : Step A) → Waits n a t s → Waits n a t (ask_where say n o due s)
waits_ask say o false n a t s waits_so = waits_so
waits_ask say None true n a t s waits_so = waits_so
waits_ask say (Some j) true n a t s waits_so = (asks true waits_so.0, found_changed n (asks true) (λ x. refl) s.server_state.sessions ∙ ap (option_map (asks true)) waits_so.1, waits_so.2)

pub waits_there : {A : Type 0} (say : ItemOut → A) (n : ℕ) (a : A) (t : Session A) (s : Step A) → session_of n s.server_state.sessions ≡ Some t → t.shown.counted ≡ true → length t.waiting ≢ MOST_UNACKNOWLEDGED
    → (u : Session A) × (session_of n (send say n a s).server_state.sessions ≡ Some u) × (u.waiting ≡ t.waiting ++ a ∷ [])
waits_there {A = A} say n a t s found counted room =
    let u = in_sessions (with_session n (waits a)) s in
    let first : Waits n a t u = (waits a t, found_changed n (waits a) (λ x. refl) s.server_state.sessions ∙ ap (option_map (waits a)) found, refl) in
    let queued : Waits n a t (queue say n a (told t) s) = waits_ask say t.shown.conn (is_due (told t)) n a t (put_where t.shown.conn a u) (waits_put t.shown.conn n a a t u first) in
    let unfull : (length t.waiting == MOST_UNACKNOWLEDGED) ≡ false = ne_eqb (length t.waiting) MOST_UNACKNOWLEDGED room in
    subst (λ (o : Option (Session A)). Waits n a t (send_by_info say n a (option_map told o) s)) (sym found) (rw counted (rw unfull queued))

-- ---- other sessions

pub others_wait_on : {A : Type 0} (say : ItemOut → A) (m n : ℕ) (a : A) (t : Session A) (s : Step A) → session_of n s.server_state.sessions ≡ Some t → (m == n) ≡ false → (t.shown.counted ≡ false) ⊎ (length t.waiting ≢ MOST_UNACKNOWLEDGED)
    → session_of m (send say n a s).server_state.sessions ≡ session_of m s.server_state.sessions
others_wait_on {A = A} say m n a t s found apart room =
    subst (λ (o : Option (Session A)). session_of m (send_by_info say n a (option_map told o) s).server_state.sessions ≡ session_of m s.server_state.sessions) (sym found)
    (by_room say n a t s (λ (u : Step A). session_of m u.server_state.sessions ≡ session_of m s.server_state.sessions)
    (record {
      uncounted = same_put t.shown.conn a s;
      counted =
          same_ask t.shown.conn (is_due (told t)) (put_where t.shown.conn a (in_sessions (with_session n (waits a)) s))
          ∙ same_put t.shown.conn a (in_sessions (with_session n (waits a)) s)
          ∙ others_left m n (waits a) s.server_state.sessions (λ x. refl) apart;
    }) room)
  where
    same_put : (o : Option ℕ) (b : A) (u : Step A) → session_of m (put_where o b u).server_state.sessions ≡ session_of m u.server_state.sessions
    same_put None b u = refl
    same_put (Some j) b u = refl

    same_ask : (o : Option ℕ) (due : Bool) (u : Step A) → session_of m (ask_where say n o due u).server_state.sessions ≡ session_of m u.server_state.sessions
    same_ask o false u = refl
    same_ask None true u = refl
    same_ask (Some j) true u = others_left m n (asks true) u.server_state.sessions (λ x. refl) apart
