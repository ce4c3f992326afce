-- What outputs tell, step by step, and so row by row.
use Rattle.std.proofs.Common.{◌≡◌, ℕ, Bool, true, false, ◌||◌, List, [], ◌∷◌, ◌++◌, Option, Some, None, append-nil, append_assoc, ap, cond, sym, refl, subst, ◌∙◌, inl, inr}
use Rattle.std.proofs.lemmas.Bool.{cases_Bool, false≢true}
use Rattle.std.proofs.lemmas.Map.Lookups.{exact_unsigned}
use Rattle.std.specs.Map.{lookup, remove_entry, set_value}
use Rattle.std.specs.Option.{is_some}
use Rattle.std.specs.Ordering.{is_eq, nat_cmp}
use Rattle.std.specs.declared.cmp.Ordering.{Ordering}
use Rattle.std.specs.declared.cmp.Ordering.TheVariants.{Equal, Greater, Less}
use Rattle.mam_archive.specs.Entries.{EntryView}
use Rattle.xml_framer.specs.declared.items.Item.{Item}
use Rattle.sm_live.specs.Sessions.{Session, asks, info_of, waits, with_session, without}
use Rattle.sm_live.specs.declared.told.SessionInfo.{SessionInfo}
use Rattle.im_replies.specs.Management.{request_item}
use Rattle.im_replies.specs.Streams.{error_item}
use Rattle.im_replies.specs.declared.conditions.StreamCondition.TheVariants.{ResourceConstraint}
use Rattle.srv_state.specs.State.{Kept, Out, Put, ServerState, Shut, Step, Took, archive_at, changed, conn_at, is_number, with_conn, with_sessions}
use Rattle.srv_state.specs.Steps as steps
use Rattle.srv_state.specs.Streams.{standing_at}
use Rattle.srv_state.specs.Steps.{Act, act, acted, after_failure, archived_in, ask_where, in_phase, in_server_state, in_sessions, is_due, overflow, part, part_where, put, put_where, queue, send, send_by_info, shut, told_out}
use Rattle.srv_core.specs.Table.{after_item, after_items, at_open}
use Rattle.srv_core.specs.Telling.{Tells, is_open, is_shut, is_told}
use Rattle.srv_state.specs.declared.connection.Connection.{Connection}
use Rattle.xml_writer.specs.Items.{Closing, ItemOut}

told_left : {A : Type 0} (k : ℕ) (a b : List (Out A)) → is_told k a ≡ true → is_told k (a ++ b) ≡ true
told_left k [] b told = absurd (false≢true told)
told_left k (o ∷ a) b told =
    elim (cases_Bool (is_shut k o)) [
      | inl here ↦ rw here refl
      | inr other ↦ rw other (told_left k a b (rw other at told))
    ]

told_right : {A : Type 0} (k : ℕ) (a b : List (Out A)) → is_told k b ≡ true → is_told k (a ++ b) ≡ true
told_right k [] b told = told
told_right k (o ∷ a) b told =
    elim (cases_Bool (is_shut k o)) [
      | inl here ↦ rw here refl
      | inr other ↦ rw other (told_right k a b told)
    ]

-- nothing happens; one after the other; either
pub tells_nothing : {A : Type 0} (k : ℕ) (s : Step A) → Tells k s s
tells_nothing k s = record { more = []; added = sym (append-nil s.outs); shut_is = λ there gone. absurd (false≢true (sym gone ∙ there)) }

pub tells_both : {A : Type 0} (k : ℕ) (s t u : Step A) → Tells k s t → Tells k t u → Tells k s u
tells_both k s t u a b = record {
  more = a.more ++ b.more;
  added = b.added ∙ ap (λ l. l ++ b.more) a.added ∙ append_assoc s.outs a.more b.more;
  shut_is = λ there gone. elim (cases_Bool (is_open k t)) [
    | inl still ↦ told_right k a.more b.more (b.shut_is still gone)
    | inr not_now ↦ told_left k a.more b.more (a.shut_is there not_now)
  ];
}

tells_if : {A : Type 0} (k : ℕ) (b : Bool) (s t u : Step A) → Tells k s t → Tells k s u → Tells k s (cond b t u)
tells_if k true s t u a b = a
tells_if k false s t u a b = b

-- ---- what leaves each connection open

tells_kept : {A : Type 0} (k : ℕ) (s u : Step A) (more : List (Out A)) → u.outs ≡ s.outs ++ more → is_open k u ≡ is_open k s → Tells k s u
tells_kept k s u more added same = record { more = more; added = added; shut_is = λ there gone. absurd (false≢true (sym gone ∙ same ∙ there)) }

-- the connections stay, and nothing is put out
tells_quiet : {A : Type 0} (k : ℕ) (s u : Step A) → u.outs ≡ s.outs → u.server_state.conns ≡ s.server_state.conns → Tells k s u
tells_quiet k s u outs conns = tells_kept k s u [] (outs ∙ sym (append-nil s.outs)) (ap (λ (c : List (ℕ × Connection)). is_some (lookup (is_number k) c)) conns)

tells_put : {A : Type 0} (k j : ℕ) (a : A) (s : Step A) → Tells k s (put j a s)
tells_put k j a s = tells_kept k s (put j a s) (Put j a ∷ []) refl refl

still_there : (k j : ℕ) (es : List (ℕ × Connection)) (w : Connection) → is_some (lookup (is_number k) (set_value (is_number j) es w)) ≡ is_some (lookup (is_number k) es)
still_there k j [] w = refl
still_there k j (e ∷ es) w =
    elim (cases_Bool (is_number j e.0)) [
      | inl here ↦ rw here (elim (cases_Bool (is_number k e.0)) [ inl found ↦ rw found refl | inr other ↦ rw other refl ])
      | inr apart ↦ rw apart (elim (cases_Bool (is_number k e.0)) [ inl found ↦ rw found refl | inr other ↦ rw other (still_there k j es w) ])
    ]

changed_open : (k j : ℕ) (f : Connection → Connection) (o : Option Connection) (es : List (ℕ × Connection)) → is_some (lookup (is_number k) (changed j f o es)) ≡ is_some (lookup (is_number k) es)
changed_open k j f None es = refl
changed_open k j f (Some c) es = still_there k j es (f c)

tells_conn : {A : Type 0} (k j : ℕ) (f : Connection → Connection) (s : Step A) → Tells k s (in_server_state (with_conn j f) s)
tells_conn k j f s = tells_kept k s (in_server_state (with_conn j f) s) [] (sym (append-nil s.outs)) (changed_open k j f (conn_at j s.server_state) s.server_state.conns)

-- ---- a connection that is shut

equal_is : (o : Ordering) → is_eq o ≡ true → o ≡ Equal
equal_is Less h = absurd (false≢true h)
equal_is Equal h = refl
equal_is Greater h = absurd (false≢true h)

number_is : (j n : ℕ) → is_number j n ≡ true → j ≡ n
number_is j n h = exact_unsigned j n (equal_is (nat_cmp j n) h)

other_stays : (k j : ℕ) (es : List (ℕ × Connection)) → is_number k j ≡ false → lookup (is_number k) (remove_entry (is_number j) es) ≡ lookup (is_number k) es
other_stays k j [] apart = refl
other_stays k j (e ∷ es) apart =
    elim (cases_Bool (is_number j e.0)) [
      | inl here ↦
          let not_k : is_number k e.0 ≡ false = subst (λ n. is_number k n ≡ false) (number_is j e.0 here) apart in
          rw (here, not_k) refl
      | inr elsewhere ↦ rw elsewhere (elim (cases_Bool (is_number k e.0)) [ inl found ↦ rw found refl | inr other ↦ rw other (other_stays k j es apart) ])
    ]

tells_shut : {A : Type 0} (k j : ℕ) (s : Step A) → Tells k s (shut j s)
tells_shut k j s = record {
  more = Shut j ∷ [];
  added = refl;
  shut_is = λ there gone. elim (cases_Bool (is_number k j)) [
    | inl same ↦ rw same refl
    | inr apart ↦ absurd (false≢true (sym gone ∙ ap is_some (other_stays k j s.server_state.conns apart) ∙ there))
  ];
}

-- ---- a stanza to a session

tells_put_where : {A : Type 0} (k : ℕ) (o : Option ℕ) (a : A) (s : Step A) → Tells k s (put_where o a s)
tells_put_where k None a s = tells_nothing k s
tells_put_where k (Some j) a s = tells_put k j a s

tells_part : {A : Type 0} (say : ItemOut → A) (k j : ℕ) (error : A) (s : Step A) → Tells k s (part say j error s)
tells_part say k j error s =
    let t = put j error s in
    let u = put j (say Closing) t in
    tells_both k s u (shut j u) (tells_both k s t u (tells_put k j error s) (tells_put k j (say Closing) t)) (tells_shut k j u)

tells_part_where : {A : Type 0} (say : ItemOut → A) (k : ℕ) (o : Option ℕ) (error : A) (s : Step A) → Tells k s (part_where say o error s)
tells_part_where say k None error s = tells_nothing k s
tells_part_where say k (Some j) error s = tells_part say k j error s

tells_sessions : {A : Type 0} (k : ℕ) (f : List (Session A) → List (Session A)) (s : Step A) → Tells k s (in_sessions f s)
tells_sessions k f s = tells_quiet k s (in_sessions f s) refl refl

tells_ask_where : {A : Type 0} (say : ItemOut → A) (k n : ℕ) (o : Option ℕ) (due : Bool) (s : Step A) → Tells k s (ask_where say n o due s)
tells_ask_where say k n o false s = tells_nothing k s
tells_ask_where say k n None true s = tells_nothing k s
tells_ask_where say k n (Some j) true s =
    let t = in_sessions (with_session n (asks true)) s in
    tells_both k s t (put j (say request_item) t) (tells_sessions k (with_session n (asks true)) s) (tells_put k j (say request_item) t)

tells_queue : {A : Type 0} (say : ItemOut → A) (k n : ℕ) (a : A) (told : SessionInfo) (s : Step A) → Tells k s (queue say n a told s)
tells_queue say k n a told s =
    let t = in_sessions (with_session n (waits a)) s in
    let u = put_where told.conn a t in
    tells_both k s u (ask_where say n told.conn (is_due told) u) (tells_both k s t u (tells_sessions k (with_session n (waits a)) s) (tells_put_where k told.conn a t))
    (tells_ask_where say k n told.conn (is_due told) u)

tells_overflow : {A : Type 0} (say : ItemOut → A) (k n : ℕ) (told : SessionInfo) (s : Step A) → Tells k s (overflow say n told s)
tells_overflow say k n told s =
    let t = in_sessions (without n) s in
    let error = say (error_item ResourceConstraint) in
    tells_both k s t (part_where say told.conn error t) (tells_sessions k (without n) s) (tells_part_where say k told.conn error t)

tells_send : {A : Type 0} (say : ItemOut → A) (k n : ℕ) (a : A) (o : Option SessionInfo) (s : Step A) → Tells k s (send_by_info say n a o s)
tells_send say k n a None s = tells_nothing k s
tells_send say k n a (Some told) s =
    tells_if k _ s (put_where told.conn a s) _ (tells_put_where k told.conn a s)
    (tells_if k _ s (overflow say n told s) (queue say n a told s) (tells_overflow say k n told s) (tells_queue say k n a told s))

-- ---- each step, and so each row

tells_archive : {A : Type 0} (k account : ℕ) (e : EntryView) (o : Option Kept) (s : Step A) → Tells k s (in_server_state (archived_in e account o) s)
tells_archive k account e None s = tells_nothing k s
tells_archive k account e (Some kept) s = tells_quiet k s (in_server_state (archived_in e account (Some kept)) s) refl refl

tells_act : {A : Type 0} (say : ItemOut → A) (k : ℕ) (a : Act A) (s : Step A) → Tells k s (act say a s)
tells_act say k (steps.Say j a) s = tells_put k j a s
tells_act say k (steps.Close j) s = tells_shut k j s
tells_act say k (steps.Enter j phase) s = tells_conn k j (in_phase phase) s
tells_act say k (steps.Fail j left) s = tells_conn k j (after_failure left) s
tells_act say k (steps.Bind account resource j) s = tells_quiet k s (act say (steps.Bind account resource j) s) refl refl
tells_act say k (steps.Resume previd account h j) s = tells_quiet k s (act say (steps.Resume previd account h j) s) refl refl
tells_act say k (steps.Enable n resume) s = tells_quiet k s (act say (steps.Enable n resume) s) refl refl
tells_act say k (steps.Acknowledge n h) s = tells_quiet k s (act say (steps.Acknowledge n h) s) refl refl
tells_act say k (steps.Ask n on) s = tells_quiet k s (act say (steps.Ask n on) s) refl refl
tells_act say k (steps.Handle n) s = tells_quiet k s (act say (steps.Handle n) s) refl refl
tells_act say k (steps.Present n available priority) s = tells_quiet k s (act say (steps.Present n available priority) s) refl refl
tells_act say k (steps.Copy n on) s = tells_quiet k s (act say (steps.Copy n on) s) refl refl
tells_act say k (steps.Send n a) s = tells_send say k n a (info_of n s.server_state.sessions) s
tells_act say k (steps.Archive account e) s = tells_archive k account e (archive_at account s.server_state) s
tells_act say k (steps.Tell from to origin) s = tells_kept k s (told_out from to origin s) (Took from to origin ∷ []) refl refl

pub acts_tell : {A : Type 0} (say : ItemOut → A) (k : ℕ) (acts : List (Act A)) (s : Step A) → Tells k s (acted say acts s)
acts_tell say k [] s = tells_nothing k s
acts_tell say k (a ∷ more) s = tells_both k s (act say a s) (acted say more (act say a s)) (tells_act say k a s) (acts_tell say k more (act say a s))

pub items_tell : {A : Type 0} (say : ItemOut → A) (k j : ℕ) (items : List Item) (s : Step A) → Tells k s (after_items say j items s)
items_tell say k j [] s = tells_nothing k s
items_tell say k j (i ∷ items) s =
    tells_both k s (after_item say j i s) (after_items say j items (after_item say j i s)) (acts_tell say k (at_open say j i (standing_at j s.server_state) s.server_state) s)
    (items_tell say k j items (after_item say j i s))
