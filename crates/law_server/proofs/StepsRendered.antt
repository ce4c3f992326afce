-- The small steps go through.
use Rattle.std.proofs.Common.{◌≡◌, ℕ, ◌+◌, ◌==◌, Bool, true, false, not, List, [], ◌∷◌, ◌++◌, Option, Some, None, cond, refl, sym, ap, ap₂, ◌∙◌}
use Rattle.std.proofs.lemmas.List.{map-append}
use Rattle.sm_acks.specs.declared.end.TheConstants.{MOST_UNACKNOWLEDGED}
use Rattle.mam_archive.specs.Entries.{EntryView}
use Rattle.sm_live.specs.Sessions.{Session, acknowledged, after_resume, asks, copies, enables, handles, info_of, presents, session_resumed, waits, with_session, without}
use Rattle.sm_live.specs.declared.told.SessionInfo.{SessionInfo}
use Rattle.im_replies.specs.Management.{request_item}
use Rattle.im_replies.specs.Streams.{error_item}
use Rattle.im_replies.specs.declared.conditions.StreamCondition.TheVariants.{ResourceConstraint}
use Rattle.srv_state.specs.State.{Kept, Out, Put, ServerState, Shut, Step, Took, archive_at, with_sessions, without_conn}
use Rattle.srv_state.specs.Steps as steps
use Rattle.srv_state.specs.Steps.{Act, act, acted, archived_in, ask_where, in_server_state, in_sessions, is_due, overflow, part, part_where, put, put_where, queue, send, send_by_info, shut, told_out}
use Rattle.law_server.proofs.SessionsRendered.{acknowledged_rendered, after_rendered, bound_rendered, changed_rendered, told_rendered, waits_rendered, without_at_rendered, without_rendered}
use Rattle.law_server.specs.Rendered.{act_rendered, acts_rendered, out_rendered, outs_rendered, rendered, server_state_rendered, session_rendered, sessions_rendered, step_rendered}
use Rattle.xml_writer.specs.Items.{Closing, ItemOut}

-- ---- what is put out

out_more : {A B : Type 0} (f : A → B) (o : Out A) (outs : List (Out A)) → outs_rendered f outs ++ out_rendered f o ∷ [] ≡ outs_rendered f (outs ++ o ∷ [])
out_more f o outs = sym (map-append (out_rendered f) outs (o ∷ []))

put_rendered : {A B : Type 0} (f : A → B) (k : ℕ) (a : A) (s : Step A) → put k (f a) (step_rendered f s) ≡ step_rendered f (put k a s)
put_rendered f k a s = ap (λ outs. record { server_state = server_state_rendered f s.server_state; outs = outs }) (out_more f (Put k a) s.outs)

tell_rendered : {A B : Type 0} (f : A → B) (from to origin : List ℕ) (s : Step A) → told_out from to origin (step_rendered f s) ≡ step_rendered f (told_out from to origin s)
tell_rendered f from to origin s = ap (λ outs. record { server_state = server_state_rendered f s.server_state; outs = outs }) (out_more f (Took from to origin) s.outs)

shut_rendered : {A B : Type 0} (f : A → B) (k : ℕ) (s : Step A) → shut k (step_rendered f s) ≡ step_rendered f (shut k s)
shut_rendered f k s = ap₂ (λ sessions outs. record { server_state = with_sessions sessions (without_conn k (server_state_rendered f s.server_state)); outs = outs }) (without_at_rendered f k s.server_state.sessions) (out_more f (Shut k) s.outs)

-- ---- sessions

sessions_step : {A B : Type 0} (f : A → B) (g : List (Session A) → List (Session A)) (g' : List (Session B) → List (Session B)) (s : Step A) → g' (sessions_rendered f s.server_state.sessions) ≡ sessions_rendered f (g s.server_state.sessions)
    → in_sessions g' (step_rendered f s) ≡ step_rendered f (in_sessions g s)
sessions_step f g g' s same = ap (λ sessions. record { server_state = with_sessions sessions (server_state_rendered f s.server_state); outs = outs_rendered f s.outs }) same

one_step : {A B : Type 0} (f : A → B) (n : ℕ) (g : Session A → Session A) (g' : Session B → Session B) (s : Step A) → ((t : Session A) → g' (session_rendered f t) ≡ session_rendered f (g t))
    → in_sessions (with_session n g') (step_rendered f s) ≡ step_rendered f (in_sessions (with_session n g) s)
one_step f n g g' s same = sessions_step f (with_session n g) (with_session n g') s (changed_rendered f n g g' s.server_state.sessions same)

-- ---- ends of streams

put_where_rendered : {A B : Type 0} (f : A → B) (o : Option ℕ) (a : A) (s : Step A) → put_where o (f a) (step_rendered f s) ≡ step_rendered f (put_where o a s)
put_where_rendered f None a s = refl
put_where_rendered f (Some k) a s = put_rendered f k a s

part_rendered : {A B : Type 0} (f : A → B) (say : ItemOut → A) (k : ℕ) (error : A) (s : Step A) → part (rendered f say) k (f error) (step_rendered f s) ≡ step_rendered f (part say k error s)
part_rendered f say k error s =
    ap (λ t. shut k (put k (f (say Closing)) t)) (put_rendered f k error s)
    ∙ ap (shut k) (put_rendered f k (say Closing) (put k error s))
    ∙ shut_rendered f k (put k (say Closing) (put k error s))

part_where_rendered : {A B : Type 0} (f : A → B) (say : ItemOut → A) (o : Option ℕ) (error : A) (s : Step A) → part_where (rendered f say) o (f error) (step_rendered f s) ≡ step_rendered f (part_where say o error s)
part_where_rendered f say None error s = refl
part_where_rendered f say (Some k) error s = part_rendered f say k error s

-- ---- a stanza to a session

ask_rendered : {A B : Type 0} (f : A → B) (say : ItemOut → A) (n : ℕ) (o : Option ℕ) (due : Bool) (s : Step A) → ask_where (rendered f say) n o due (step_rendered f s) ≡ step_rendered f (ask_where say n o due s)
ask_rendered f say n o false s = refl
ask_rendered f say n None true s = refl
ask_rendered f say n (Some k) true s =
    ap (put k (f (say request_item))) (one_step f n (asks true) (asks true) s (λ t. refl))
    ∙ put_rendered f k (say request_item) (in_sessions (with_session n (asks true)) s)

queue_rendered : {A B : Type 0} (f : A → B) (say : ItemOut → A) (n : ℕ) (a : A) (t : SessionInfo) (s : Step A) → queue (rendered f say) n (f a) t (step_rendered f s) ≡ step_rendered f (queue say n a t s)
queue_rendered f say n a t s =
    let waiting = in_sessions (with_session n (waits a)) s in
    ap (λ u. ask_where (rendered f say) n t.conn (is_due t) (put_where t.conn (f a) u)) (one_step f n (waits a) (waits (f a)) s (waits_rendered f a))
    ∙ ap (ask_where (rendered f say) n t.conn (is_due t)) (put_where_rendered f t.conn a waiting)
    ∙ ask_rendered f say n t.conn (is_due t) (put_where t.conn a waiting)

overflow_rendered : {A B : Type 0} (f : A → B) (say : ItemOut → A) (n : ℕ) (t : SessionInfo) (s : Step A) → overflow (rendered f say) n t (step_rendered f s) ≡ step_rendered f (overflow say n t s)
overflow_rendered f say n t s =
    let error = say (error_item ResourceConstraint) in
    ap (part_where (rendered f say) t.conn (f error)) (sessions_step f (without n) (without n) s (without_rendered f n s.server_state.sessions))
    ∙ part_where_rendered f say t.conn error (in_sessions (without n) s)

either : {A B : Type 0} (f : A → B) (b : Bool) (x y : Step B) (s t : Step A) → x ≡ step_rendered f s → y ≡ step_rendered f t → cond b x y ≡ step_rendered f (cond b s t)
either f true x y s t here there = here
either f false x y s t here there = there

send_rendered : {A B : Type 0} (f : A → B) (say : ItemOut → A) (n : ℕ) (a : A) (o : Option SessionInfo) (s : Step A) → send_by_info (rendered f say) n (f a) o (step_rendered f s) ≡ step_rendered f (send_by_info say n a o s)
send_rendered f say n a None s = refl
send_rendered f say n a (Some t) s =
    either f (not t.counted) _ _ _ _ (put_where_rendered f t.conn a s)
    (either f (t.waiting == MOST_UNACKNOWLEDGED) _ _ _ _ (overflow_rendered f say n t s) (queue_rendered f say n a t s))

-- ---- each step

archive_rendered : {A B : Type 0} (f : A → B) (account : ℕ) (e : EntryView) (o : Option Kept) (h : ServerState A) → archived_in e account o (server_state_rendered f h) ≡ server_state_rendered f (archived_in e account o h)
archive_rendered f account e None h = refl
archive_rendered f account e (Some kept) h = refl

in_server_state_rendered : {A B : Type 0} (f : A → B) (g : ServerState A) (g' : ServerState B) (s : Step A) → g' ≡ server_state_rendered f g → record (step_rendered f s) { server_state = g' } ≡ step_rendered f (record s { server_state = g })
in_server_state_rendered f g g' s same = ap (λ server_state. record { server_state = server_state; outs = outs_rendered f s.outs }) same

step_by : {A B : Type 0} (f : A → B) (say : ItemOut → A) (a : Act A) (s : Step A) → act (rendered f say) (act_rendered f a) (step_rendered f s) ≡ step_rendered f (act say a s)
step_by f say (steps.Say k a) s = put_rendered f k a s
step_by f say (steps.Close k) s = shut_rendered f k s
step_by f say (steps.Enter k phase) s = refl
step_by f say (steps.Fail k left) s = refl
step_by f say (steps.Bind account resource k) s =
    ap (λ sessions. record { server_state = record (server_state_rendered f s.server_state) { sessions = sessions; next = s.server_state.next + 1 }; outs = outs_rendered f s.outs }) (bound_rendered f s.server_state.next account resource k s.server_state.sessions)
step_by f say (steps.Resume previd account h k) s =
    sessions_step f (λ sessions. after_resume h k (session_resumed previd account sessions) sessions) (λ sessions. after_resume h k (session_resumed previd account sessions) sessions) s (after_rendered f h k previd account s.server_state.sessions)
step_by f say (steps.Enable n resume) s = one_step f n (enables resume) (enables resume) s (λ t. refl)
step_by f say (steps.Acknowledge n h) s = one_step f n (acknowledged h) (acknowledged h) s (acknowledged_rendered f h)
step_by f say (steps.Ask n on) s = one_step f n (asks on) (asks on) s (λ t. refl)
step_by f say (steps.Handle n) s = one_step f n handles handles s (λ t. refl)
step_by f say (steps.Present n available priority) s = one_step f n (presents available priority) (presents available priority) s (λ t. refl)
step_by f say (steps.Copy n on) s = one_step f n (copies on) (copies on) s (λ t. refl)
step_by f say (steps.Send n a) s =
    ap (λ o. send_by_info (rendered f say) n (f a) o (step_rendered f s)) (told_rendered f n s.server_state.sessions) ∙ send_rendered f say n a (info_of n s.server_state.sessions) s
step_by f say (steps.Archive account e) s = in_server_state_rendered f (archived_in e account (archive_at account s.server_state) s.server_state) _ s (archive_rendered f account e (archive_at account s.server_state) s.server_state)
step_by f say (steps.Tell from to origin) s = tell_rendered f from to origin s

pub steps_by : {A B : Type 0} (f : A → B) (say : ItemOut → A) (acts : List (Act A)) (s : Step A) → acted (rendered f say) (acts_rendered f acts) (step_rendered f s) ≡ step_rendered f (acted say acts s)
steps_by f say [] s = refl
steps_by f say (a ∷ acts) s = ap (acted (rendered f say) (acts_rendered f acts)) (step_by f say a s) ∙ steps_by f say acts (act say a s)
