-- What an item puts goes to its own connection, or to sessions of the accounts that its message is to and from.
use Rattle.std.proofs.Common.{◌≡◌, ◌⊎◌, ℕ, ◌==◌, Bool, true, false, not, cond, List, [], ◌∷◌, ◌++◌, Option, Some, None, append-nil, append_assoc, refl, sym, ap, ◌∙◌, inl, inr}
use Rattle.std.proofs.lemmas.Bool.{cases_Bool, eqb-true}
use Rattle.std.proofs.lemmas.List.Elements.{All-from_recursion}
use Rattle.std.proofs.lemmas.Option.{same_Some}
use Rattle.std.specs.List.{All, AllByRecursion, filter}
use Rattle.std.specs.Option.{option_map}
use Rattle.base_lemmas.proofs.Lists.{AllByRecursion-weaker}
use Rattle.im_replies.specs.Management.{request_item}
use Rattle.im_replies.specs.Streams.{error_item}
use Rattle.im_replies.specs.declared.conditions.StreamCondition.TheVariants.{ResourceConstraint}
use Rattle.law_server.proofs.LiveRows.{Lives, all_live, found_has}
use Rattle.law_server.proofs.Rows.{AreCalm, IsRow}
use Rattle.law_server.proofs.RowsDue.{due_open, row_item}
use Rattle.law_server.proofs.Seats.{all_kept, all_mapped, conn_is}
use Rattle.law_server.specs.Live.{ArrivesWhereDue, GoesWhereDue, IsItsSession, IsLiveFor, IsPut, asking, constraint, footer, its_own, live, parting}
use Rattle.law_server.specs.Numbers.{HaveNumbers}
use Rattle.mam_archive.specs.Entries.{EntryView}
use Rattle.sm_acks.specs.declared.end.TheConstants.{MOST_UNACKNOWLEDGED}
use Rattle.sm_live.specs.Sessions.{Session, acknowledged, after_resume, asks, copies, enables, fresh, handles, info_of, is_at, is_numbered, is_too_high, less, presents, resumes, session_named, session_of, session_resumed, told, waits, with_session, without}
use Rattle.sm_live.specs.declared.told.SessionInfo.{SessionInfo}
use Rattle.srv_core.specs.Table.{after_item, at_item, at_open}
use Rattle.srv_state.specs.State.{Kept, Out, Put, ServerState, Shut, Step, Took, archive_at}
use Rattle.srv_state.specs.Steps as steps
use Rattle.srv_state.specs.Steps.{Act, act, acted, archived_in, ask_where, in_sessions, is_due, overflow, part_where, put, put_where, queue, send_by_info, shut}
use Rattle.srv_state.specs.Streams.{standing_at}
use Rattle.srv_state.specs.declared.connection.Standing.{Standing}
use Rattle.xml_framer.specs.declared.items.Item.{Item}
use Rattle.xml_writer.specs.Items.{Closing, ItemOut}

-- the session is on the connection k, or where it was
abbrev IsWhere : {A : Type 0} → ℕ → ServerState A → Session A → Type 0
IsWhere {A = A} k h s = (s.shown.conn ≡ Some k) ⊎ ((t : Session A) × (session_of s.shown.number h.sessions ≡ Some t) × (s.shown.conn ≡ t.shown.conn))

abbrev AreWhere : {A : Type 0} → ℕ → ServerState A → List (Session A) → Type 0
AreWhere k h ss = AllByRecursion (IsWhere k h) ss

-- these are added, each where it is due
abbrev Adds : {A : Type 0} → (ItemOut → A) → ℕ → Item → ServerState A → Step A → Step A → Type 0
Adds {A = A} say k i h s u = (more : List (Out A)) × (u.outs ≡ s.outs ++ more) × AllByRecursion (ArrivesWhereDue say k i h) more

all_joined : {T : Type 0} (P : T → Type 0) (xs ys : List T) → AllByRecursion P xs → AllByRecursion P ys → AllByRecursion P (xs ++ ys)
all_joined P [] ys a b = b
all_joined P (x ∷ xs) ys a b = (a.0, all_joined P xs ys a.1 b)

-- a session comes on the connection k alone
abbrev IsHere : {A : Type 0} → ℕ → Act A → Type 0
IsHere k (steps.Bind account resource j) = j ≡ k
IsHere k (steps.Resume previd account n j) = j ≡ k
IsHere k a = Unit {0}

-- it is due on the connection of a session
abbrev IsDueOn : {A : Type 0} → (ItemOut → A) → ℕ → Item → ServerState A → Option ℕ → A → Type 0
IsDueOn say k i h conn a = (j : ℕ) → conn ≡ Some j → IsPut say k i h j a

calm_here : {A : Type 0} (say : ItemOut → A) (k : ℕ) (i : Item) (st : Standing) (h : ServerState A) (acts : List (Act A)) → AreCalm say k i st h acts → AllByRecursion (IsHere k) acts
calm_here say k i st h [] all = tt
calm_here say k i st h (steps.Bind account resource j ∷ acts) all = absurd all.0.1
calm_here say k i st h (steps.Resume previd account n j ∷ acts) all = absurd all.0.1
calm_here say k i st h (a ∷ acts) all = (tt, calm_here say k i st h acts all.1)

row_here : {A : Type 0} (say : ItemOut → A) (k : ℕ) (i : Item) (st : Standing) (h : ServerState A) (acts : List (Act A)) → IsRow say k i st h acts → AllByRecursion (IsHere k) acts
row_here say k i st h [] row = tt
row_here say k i st h (steps.Bind account resource j ∷ acts) row = (row.0.0, calm_here say k i st h acts row.1)
row_here say k i st h (steps.Resume previd account n j ∷ acts) row = (row.0.0, calm_here say k i st h acts row.1)
row_here say k i st h (a ∷ acts) row = (tt, calm_here say k i st h acts row.1)

open_here : {A : Type 0} (say : ItemOut → A) (k : ℕ) (i : Item) (o : Option Standing) (h : ServerState A) → HaveNumbers h → AllByRecursion (IsHere k) (at_open say k i o h)
open_here say k i None h numbers = tt
open_here say k i (Some st) h numbers = row_here say k i st h (at_item say k i st h) (row_item say k i st h numbers)

module _ {A : Type 0} (say : ItemOut → A) (k : ℕ) (i : Item) (h : ServerState A) where
  adds_nothing : (s u : Step A) → u.outs ≡ s.outs → Adds say k i h s u
  adds_nothing s u same = ([], same ∙ sym (append-nil s.outs), tt)

  adds_one : (s u : Step A) (o : Out A) → u.outs ≡ s.outs ++ o ∷ [] → ArrivesWhereDue say k i h o → Adds say k i h s u
  adds_one s u o is due = (o ∷ [], is, (due, tt))

  adds_both : (s t u : Step A) → Adds say k i h s t → Adds say k i h t u → Adds say k i h s u
  adds_both s t u one other =
      (one.0 ++ other.0, other.1 ∙ ap (λ (outs : List (Out A)). outs ++ other.0) one.1 ∙ append_assoc s.outs one.0 other.0, all_joined (ArrivesWhereDue say k i h) one.0 other.0 one.2 other.2)

  -- ---- where sessions are

  where_changed : (n : ℕ) (f : Session A → Session A) → ((s : Session A) → (f s).shown.conn ≡ s.shown.conn) → ((s : Session A) → (f s).shown.number ≡ s.shown.number) → (ss : List (Session A)) → AreWhere k h ss → AreWhere k h (with_session n f ss)
  where_changed n f conn number ss all = all_mapped (IsWhere k h) (IsWhere k h) (λ (s : Session A). cond (s.shown.number == n) (f s) s) one ss all
    where
      changed_one : (s : Session A) → IsWhere k h s → IsWhere k h (f s)
      changed_one s (inl on) = inl (conn s ∙ on)
      changed_one s (inr there) = inr (there.0, ap (λ (x : ℕ). session_of x h.sessions) (number s) ∙ there.1, conn s ∙ there.2)

      one : (s : Session A) → IsWhere k h s → IsWhere k h (cond (s.shown.number == n) (f s) s)
      one s is = elim (cases_Bool (s.shown.number == n)) [ inl here ↦ rw here (changed_one s is) | inr other ↦ rw other is ]

  where_some : (p : Session A → Bool) (ss : List (Session A)) → AreWhere k h ss → AreWhere k h (filter p ss)
  where_some p ss all = all_kept (IsWhere k h) p ss all

  where_less : (o : Option (Session A)) (ss : List (Session A)) → AreWhere k h ss → AreWhere k h (less o ss)
  where_less None ss all = all
  where_less (Some s) ss all = where_some (λ t. not (t.shown.number == s.shown.number)) ss all

  where_resumed : (n j : ℕ) (o : Option (Session A)) (ss : List (Session A)) → j ≡ k → AreWhere k h ss → AreWhere k h (after_resume n j o ss)
  where_resumed n j None ss is all = all
  where_resumed n j (Some t) ss is all = either (is_too_high n t)
    where
      one : (s : Session A) → IsWhere k h s → IsWhere k h (cond (s.shown.number == t.shown.number) (resumes n j s) s)
      one s there = elim (cases_Bool (s.shown.number == t.shown.number)) [ inl here ↦ rw here (inl (ap (λ (x : ℕ). Some x) is)) | inr other ↦ rw other there ]

      either : (b : Bool) → AreWhere k h (cond b (without t.shown.number ss) (with_session t.shown.number (resumes n j) ss))
      either true = where_some (λ s. not (s.shown.number == t.shown.number)) ss all
      either false = all_mapped (IsWhere k h) (IsWhere k h) (λ (s : Session A). cond (s.shown.number == t.shown.number) (resumes n j s) s) one ss all

  where_either : (b : Bool) (s t : Step A) → AreWhere k h s.server_state.sessions → AreWhere k h t.server_state.sessions → AreWhere k h (cond b s t).server_state.sessions
  where_either true s t one other = one
  where_either false s t one other = other

  where_put : (o : Option ℕ) (a : A) (s : Step A) → AreWhere k h s.server_state.sessions → AreWhere k h (put_where o a s).server_state.sessions
  where_put None a s all = all
  where_put (Some j) a s all = all

  where_part : (o : Option ℕ) (error : A) (s : Step A) → AreWhere k h s.server_state.sessions → AreWhere k h (part_where say o error s).server_state.sessions
  where_part None error s all = all
  where_part (Some j) error s all = where_some (λ t. not (is_at j t)) s.server_state.sessions all

  where_ask : (n : ℕ) (o : Option ℕ) (due : Bool) (s : Step A) → AreWhere k h s.server_state.sessions → AreWhere k h (ask_where say n o due s).server_state.sessions
  where_ask n o false s all = all
  where_ask n None true s all = all
  where_ask n (Some j) true s all = where_changed n (asks true) (λ t. refl) (λ t. refl) s.server_state.sessions all

  where_queue : (n : ℕ) (a : A) (t : SessionInfo) (s : Step A) → AreWhere k h s.server_state.sessions → AreWhere k h (queue say n a t s).server_state.sessions
  where_queue n a t s all =
      let u = in_sessions (with_session n (waits a)) s in
      where_ask n t.conn (is_due t) (put_where t.conn a u) (where_put t.conn a u (where_changed n (waits a) (λ x. refl) (λ x. refl) s.server_state.sessions all))

  where_sent : (n : ℕ) (a : A) (o : Option SessionInfo) (s : Step A) → AreWhere k h s.server_state.sessions → AreWhere k h (send_by_info say n a o s).server_state.sessions
  where_sent n a None s all = all
  where_sent n a (Some t) s all =
      where_either (not t.counted) _ _ (where_put t.conn a s all)
      (where_either (t.waiting == MOST_UNACKNOWLEDGED) _ _
      (where_part t.conn (say (error_item ResourceConstraint)) (in_sessions (without n) s) (where_some (λ x. not (x.shown.number == n)) s.server_state.sessions all)) (where_queue n a t s all))

  where_archived : (e : EntryView) (account : ℕ) (o : Option Kept) (g : ServerState A) → AreWhere k h g.sessions → AreWhere k h (archived_in e account o g).sessions
  where_archived e account None g all = all
  where_archived e account (Some kept) g all = all

  where_act : (a : Act A) (s : Step A) → IsHere k a → AreWhere k h s.server_state.sessions → AreWhere k h (act say a s).server_state.sessions
  where_act (steps.Say j a) s here all = all
  where_act (steps.Close j) s here all = where_some (λ t. not (is_at j t)) s.server_state.sessions all
  where_act (steps.Enter j phase) s here all = all
  where_act (steps.Fail j left) s here all = all
  where_act (steps.Bind account resource j) s here all =
      all_joined (IsWhere k h) (less (session_named account resource s.server_state.sessions) s.server_state.sessions) (fresh s.server_state.next account resource j ∷ [])
      (where_less (session_named account resource s.server_state.sessions) s.server_state.sessions all) (inl (ap (λ (x : ℕ). Some x) here), tt)
  where_act (steps.Resume previd account n j) s here all = where_resumed n j (session_resumed previd account s.server_state.sessions) s.server_state.sessions here all
  where_act (steps.Enable n resume) s here all = where_changed n (enables resume) (λ t. refl) (λ t. refl) s.server_state.sessions all
  where_act (steps.Acknowledge n handled) s here all = where_changed n (acknowledged handled) (λ t. refl) (λ t. refl) s.server_state.sessions all
  where_act (steps.Ask n on) s here all = where_changed n (asks on) (λ t. refl) (λ t. refl) s.server_state.sessions all
  where_act (steps.Handle n) s here all = where_changed n handles (λ t. refl) (λ t. refl) s.server_state.sessions all
  where_act (steps.Present n available priority) s here all = where_changed n (presents available priority) (λ t. refl) (λ t. refl) s.server_state.sessions all
  where_act (steps.Copy n on) s here all = where_changed n (copies on) (λ t. refl) (λ t. refl) s.server_state.sessions all
  where_act (steps.Send n a) s here all = where_sent n a (info_of n s.server_state.sessions) s all
  where_act (steps.Archive account e) s here all = where_archived e account (archive_at account s.server_state) s.server_state all
  where_act (steps.Tell from to origin) s here all = all

  -- ---- what is put

  adds_put : (o : Option ℕ) (a : A) (s : Step A) → IsDueOn say k i h o a → Adds say k i h s (put_where o a s)
  adds_put None a s due = adds_nothing s s refl
  adds_put (Some j) a s due = adds_one s (put j a s) (Put j a) refl (due j refl)

  adds_part : (o : Option ℕ) (s : Step A) → Adds say k i h s (part_where say o (say (error_item ResourceConstraint)) s)
  adds_part None s = adds_nothing s s refl
  adds_part (Some j) s =
      let t = put j (say (error_item ResourceConstraint)) s in
      let u = put j (say Closing) t in
      adds_both s u (shut j u)
      (adds_both s t u (adds_one s t (Put j (say (error_item ResourceConstraint))) refl (parting (constraint refl))) (adds_one t u (Put j (say Closing)) refl (parting (footer refl))))
      (adds_one u (shut j u) (Shut j) refl tt)

  adds_ask : (n : ℕ) (o : Option ℕ) (due : Bool) (s : Step A) → Adds say k i h s (ask_where say n o due s)
  adds_ask n o false s = adds_nothing s s refl
  adds_ask n None true s = adds_nothing s s refl
  adds_ask n (Some j) true s = adds_one s (ask_where say n (Some j) true s) (Put j (say request_item)) refl (asking refl)

  adds_queue : (n : ℕ) (a : A) (t : SessionInfo) (s : Step A) → IsDueOn say k i h t.conn a → Adds say k i h s (queue say n a t s)
  adds_queue n a t s due =
      let u = in_sessions (with_session n (waits a)) s in
      let v = put_where t.conn a u in
      let first : Adds say k i h s v = adds_put t.conn a u due in
      adds_both s v (queue say n a t s) first (adds_ask n t.conn (is_due t) v)

  adds_overflow : (n : ℕ) (t : SessionInfo) (s : Step A) → Adds say k i h s (overflow say n t s)
  adds_overflow n t s = adds_part t.conn (in_sessions (without n) s)

  adds_either : (b : Bool) (s t u : Step A) → Adds say k i h s t → Adds say k i h s u → Adds say k i h s (cond b t u)
  adds_either true s t u one other = one
  adds_either false s t u one other = other

  adds_told : (n : ℕ) (a : A) (t : SessionInfo) (s : Step A) → IsDueOn say k i h t.conn a → Adds say k i h s (send_by_info say n a (Some t) s)
  adds_told n a t s due =
      adds_either (not t.counted) s _ _ (adds_put t.conn a s due) (adds_either (t.waiting == MOST_UNACKNOWLEDGED) s _ _ (adds_overflow n t s) (adds_queue n a t s due))

  -- what is sent to a session is due on its connection
  due_on : HaveNumbers h → (n : ℕ) (a : A) (t : Session A) → t.shown.number ≡ n → IsWhere k h t → IsItsSession k h n ⊎ IsLiveFor say k i h n a → IsDueOn say k i h t.shown.conn a
  due_on numbers n a t number (inl here) due j on = its_own (same_Some j k (sym on ∙ here))
  due_on numbers n a t number (inr there) (inl its) j on =
      let found = found_has (Lives h.sessions) (is_at k) h.sessions its.session (all_live h numbers) its.is_on in
      let known : session_of n h.sessions ≡ Some there.0 = ap (λ (x : ℕ). session_of x h.sessions) (sym number) ∙ there.1 in
      let same : there.0 ≡ its.session = same_Some there.0 its.session (sym known ∙ ap (λ (x : ℕ). session_of x h.sessions) its.number ∙ found.1) in
      let at : there.0.shown.conn ≡ Some k = ap (λ (x : Session A). x.shown.conn) same ∙ conn_is k its.session.shown.conn found.0 in
      its_own (same_Some j k (sym on ∙ there.2 ∙ at))
  due_on numbers n a t number (inr there) (inr gets) j on =
      let known : session_of n h.sessions ≡ Some there.0 = ap (λ (x : ℕ). session_of x h.sessions) (sym number) ∙ there.1 in
      let same : there.0 ≡ gets.recipient = same_Some there.0 gets.recipient (sym known ∙ gets.lives) in
      let found = found_has (Lives h.sessions) (is_numbered n) h.sessions gets.recipient (all_live h numbers) gets.lives in
      live gets.recipient found.1 (ap (λ (x : Session A). x.shown.conn) (sym same) ∙ sym there.2 ∙ on) gets.gets

  adds_sent : HaveNumbers h → (n : ℕ) (a : A) (o : Option (Session A)) (s : Step A) → session_of n s.server_state.sessions ≡ o → AreWhere k h s.server_state.sessions → IsItsSession k h n ⊎ IsLiveFor say k i h n a
      → Adds say k i h s (send_by_info say n a (option_map told o) s)
  adds_sent numbers n a None s is all due = adds_nothing s s refl
  adds_sent numbers n a (Some t) s is all due =
      let found = found_has (IsWhere k h) (is_numbered n) s.server_state.sessions t all is in
      adds_told n a (told t) s (due_on numbers n a t (eqb-true t.shown.number n found.0) found.1 due)

  adds_act : HaveNumbers h → (a : Act A) (s : Step A) → GoesWhereDue say k i h a → AreWhere k h s.server_state.sessions → Adds say k i h s (act say a s)
  adds_act numbers (steps.Say j a) s (inl own) all = adds_one s (put j a s) (Put j a) refl (its_own own)
  adds_act numbers (steps.Say j a) s (inr part) all = adds_one s (put j a s) (Put j a) refl (parting part)
  adds_act numbers (steps.Close j) s due all = adds_one s (shut j s) (Shut j) refl tt
  adds_act numbers (steps.Send n a) s due all = adds_sent numbers n a (session_of n s.server_state.sessions) s refl all due
  adds_act numbers (steps.Tell from to origin) s due all = adds_one s (act say (steps.Tell from to origin) s) (Took from to origin) refl tt
  adds_act numbers (steps.Archive account e) s due all = adds_nothing s (act say (steps.Archive account e) s) refl
  adds_act numbers (steps.Enter j phase) s due all = adds_nothing s (act say (steps.Enter j phase) s) refl
  adds_act numbers (steps.Fail j left) s due all = adds_nothing s (act say (steps.Fail j left) s) refl
  adds_act numbers (steps.Bind account resource j) s due all = adds_nothing s (act say (steps.Bind account resource j) s) refl
  adds_act numbers (steps.Resume previd account n j) s due all = adds_nothing s (act say (steps.Resume previd account n j) s) refl
  adds_act numbers (steps.Enable n resume) s due all = adds_nothing s (act say (steps.Enable n resume) s) refl
  adds_act numbers (steps.Acknowledge n handled) s due all = adds_nothing s (act say (steps.Acknowledge n handled) s) refl
  adds_act numbers (steps.Ask n on) s due all = adds_nothing s (act say (steps.Ask n on) s) refl
  adds_act numbers (steps.Handle n) s due all = adds_nothing s (act say (steps.Handle n) s) refl
  adds_act numbers (steps.Present n available priority) s due all = adds_nothing s (act say (steps.Present n available priority) s) refl
  adds_act numbers (steps.Copy n on) s due all = adds_nothing s (act say (steps.Copy n on) s) refl

  adds_acted : HaveNumbers h → (acts : List (Act A)) (s : Step A) → AllByRecursion (GoesWhereDue say k i h) acts → AllByRecursion (IsHere k) acts → AreWhere k h s.server_state.sessions → Adds say k i h s (acted say acts s)
  adds_acted numbers [] s due here all = adds_nothing s s refl
  adds_acted numbers (a ∷ acts) s due here all =
      adds_both s (act say a s) (acted say acts (act say a s)) (adds_act numbers a s due.0 all) (adds_acted numbers acts (act say a s) due.1 here.1 (where_act a s here.0 all))

-- ---- the law

pub puts_due : {A : Type 0} (say : ItemOut → A) (k : ℕ) (i : Item) (s : Step A) → HaveNumbers s.server_state → (more : List (Out A)) × ((after_item say k i s).outs ≡ s.outs ++ more) × All (ArrivesWhereDue say k i s.server_state) more
puts_due {A = A} say k i s numbers =
    let h = s.server_state in
    let o = standing_at k h in
    let there : AreWhere k h h.sessions = AllByRecursion-weaker (Lives h.sessions) (IsWhere k h) (λ (t : Session A) lives. inr (t, lives, refl)) h.sessions (all_live h numbers) in
    let adds = adds_acted say k i h numbers (at_open say k i o h) s (due_open say k i o h numbers) (open_here say k i o h numbers) there in
    (adds.0, adds.1, All-from_recursion (ArrivesWhereDue say k i h) adds.0 adds.2)
