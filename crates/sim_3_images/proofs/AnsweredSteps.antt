-- Each small step of a server keeps what waits such as can be answered, and puts no other out.
use Rattle.std.proofs.Common.{ℕ, ◌==◌, Bool, true, false, not, List, [], ◌∷◌, Option, Some, None, cond, refl}
use Rattle.std.specs.List.{AllByRecursion}
use Rattle.sm_acks.specs.Counters.{ahead}
use Rattle.sm_acks.specs.declared.end.TheConstants.{MOST_UNACKNOWLEDGED}
use Rattle.mam_archive.specs.Entries.{EntryView}
use Rattle.sim_3_images.specs.Relayable.{IsAnswered, ServerStateAnswers, SessionAnswers}
use Rattle.sim_3_images.proofs.AnsweredItems.{other_answers}
use Rattle.srv_state.specs.State.{Kept, Put, ServerState, Shut, Step, Took, archive_at}
use Rattle.srv_state.specs.Steps as steps
use Rattle.srv_state.specs.Steps.{Act, act, acted, archived_in, ask_where, binds, in_server_state, in_sessions, is_due, overflow, part, part_where, put, put_where, queue, send_by_info, shut}
use Rattle.sim_3_images.specs.Stands.{OutPuts}
use Rattle.sim_3_items.specs.ItemWorlds.{itself}
use Rattle.sm_live.specs.Sessions.{Session, acknowledged, after_resume, asks, bound, copies, enables, fresh, handles, info_of, is_too_high, less, presents, resumes, session_named, session_resumed, waits, with_session, without}
use Rattle.sm_live.specs.declared.told.SessionInfo.{SessionInfo}
use Rattle.im_replies.specs.Management.{request_item}
use Rattle.im_replies.specs.Streams.{error_item}
use Rattle.im_replies.specs.declared.conditions.StreamCondition.{StreamCondition}
use Rattle.im_replies.specs.declared.conditions.StreamCondition.TheVariants.{ResourceConstraint}
use Rattle.law_limits.proofs.Lists.{each_append, each_changed, each_drop, each_filter}
use Rattle.xml_writer.specs.Items.{Closing, ItemOut}
use Rattle.sim_3_images.proofs.Waiting.{either_sessions as either_answers}

-- ---- what is said

abbrev pub ActAnswers : Act ItemOut → Type 0
ActAnswers (steps.Say k i) = IsAnswered i
ActAnswers (steps.Send n i) = IsAnswered i
ActAnswers a = Unit {0}

abbrev pub ActsAnswer : List (Act ItemOut) → Type 0
ActsAnswer acts = AllByRecursion ActAnswers acts

pub record StepAnswers (s : Step ItemOut) : Type 0 where
  pub server_state : ServerStateAnswers s.server_state
  pub outs : AllByRecursion (OutPuts IsAnswered) s.outs

pub error_answers : (c : StreamCondition) → IsAnswered (error_item c)
error_answers c = other_answers _ refl refl refl refl

pub request_answers : IsAnswered request_item
request_answers = other_answers _ refl refl refl refl

-- ---- what is put out

put_answers : (k : ℕ) (i : ItemOut) (s : Step ItemOut) → StepAnswers s → IsAnswered i → StepAnswers (put k i s)
put_answers k i s h r = record { server_state = h.server_state; outs = each_append (OutPuts IsAnswered) s.outs (Put k i ∷ []) h.outs (r, tt) }

where_answers : (o : Option ℕ) (i : ItemOut) (s : Step ItemOut) → StepAnswers s → IsAnswered i → StepAnswers (put_where o i s)
where_answers None i s h r = h
where_answers (Some k) i s h r = put_answers k i s h r

sessions_answer : (g : List (Session ItemOut) → List (Session ItemOut)) (s : Step ItemOut) → StepAnswers s → AllByRecursion SessionAnswers (g s.server_state.sessions) → StepAnswers (in_sessions g s)
sessions_answer g s h each = record { server_state = each; outs = h.outs }

one_answers : (n : ℕ) (f : Session ItemOut → Session ItemOut) (s : Step ItemOut) → StepAnswers s → ((t : Session ItemOut) → SessionAnswers t → SessionAnswers (f t)) → StepAnswers (in_sessions (with_session n f) s)
one_answers n f s h keeps = sessions_answer (with_session n f) s h (each_changed SessionAnswers (λ t. t.shown.number == n) f s.server_state.sessions keeps h.server_state)

shut_answers : (k : ℕ) (s : Step ItemOut) → StepAnswers s → StepAnswers (shut k s)
shut_answers k s h = record { server_state = each_filter SessionAnswers _ s.server_state.sessions h.server_state; outs = each_append (OutPuts IsAnswered) s.outs (Shut k ∷ []) h.outs (tt, tt) }

part_answers : (k : ℕ) (i : ItemOut) (s : Step ItemOut) → StepAnswers s → IsAnswered i → StepAnswers (part itself k i s)
part_answers k i s h r = shut_answers k (put k Closing (put k i s)) (put_answers k Closing (put k i s) (put_answers k i s h r) tt)

part_where_answers : (o : Option ℕ) (i : ItemOut) (s : Step ItemOut) → StepAnswers s → IsAnswered i → StepAnswers (part_where itself o i s)
part_where_answers None i s h r = h
part_where_answers (Some k) i s h r = part_answers k i s h r

-- ---- a stanza to a session

ask_answers : (n : ℕ) (o : Option ℕ) (b : Bool) (s : Step ItemOut) → StepAnswers s → StepAnswers (ask_where itself n o b s)
ask_answers n o false s h = h
ask_answers n None true s h = h
ask_answers n (Some k) true s h = put_answers k request_item (in_sessions (with_session n (asks true)) s) (one_answers n (asks true) s h (λ t keeps. keeps)) request_answers

queue_answers : (n : ℕ) (i : ItemOut) (t : SessionInfo) (s : Step ItemOut) → StepAnswers s → IsAnswered i → StepAnswers (queue itself n i t s)
queue_answers n i t s h r =
    let waiting = in_sessions (with_session n (waits i)) s in
    ask_answers n t.conn (is_due t) (put_where t.conn i waiting)
    (where_answers t.conn i waiting (one_answers n (waits i) s h (λ u keeps. each_append IsAnswered u.waiting (i ∷ []) keeps (r, tt))) r)

overflow_answers : (n : ℕ) (t : SessionInfo) (s : Step ItemOut) → StepAnswers s → StepAnswers (overflow itself n t s)
overflow_answers n t s h =
    part_where_answers t.conn (error_item ResourceConstraint) (in_sessions (without n) s) (sessions_answer (without n) s h (each_filter SessionAnswers _ s.server_state.sessions h.server_state)) (error_answers ResourceConstraint)

chosen_answers : (b : Bool) (s t : Step ItemOut) → StepAnswers s → StepAnswers t → StepAnswers (cond b s t)
chosen_answers true s t h k = h
chosen_answers false s t h k = k

send_answers : (n : ℕ) (i : ItemOut) (o : Option SessionInfo) (s : Step ItemOut) → StepAnswers s → IsAnswered i → StepAnswers (send_by_info itself n i o s)
send_answers n i None s h r = h
send_answers n i (Some t) s h r =
    chosen_answers (not t.counted) (put_where t.conn i s) (cond (t.waiting == MOST_UNACKNOWLEDGED) (overflow itself n t s) (queue itself n i t s)) (where_answers t.conn i s h r)
    (chosen_answers (t.waiting == MOST_UNACKNOWLEDGED) (overflow itself n t s) (queue itself n i t s) (overflow_answers n t s h) (queue_answers n i t s h r))

-- ---- bindings, resumptions and archives

less_answers : (o : Option (Session ItemOut)) (ss : List (Session ItemOut)) → AllByRecursion SessionAnswers ss → AllByRecursion SessionAnswers (less o ss)
less_answers None ss h = h
less_answers (Some t) ss h = each_filter SessionAnswers _ ss h

bound_answers : (n account k : ℕ) (resource : List ℕ) (ss : List (Session ItemOut)) → AllByRecursion SessionAnswers ss → AllByRecursion SessionAnswers (bound n account resource k ss)
bound_answers n account k resource ss h =
    each_append SessionAnswers (less (session_named account resource ss) ss) (fresh n account resource k ∷ []) (less_answers (session_named account resource ss) ss h) (tt, tt)

resumed_answers : (n k : ℕ) (o : Option (Session ItemOut)) (ss : List (Session ItemOut)) → AllByRecursion SessionAnswers ss → AllByRecursion SessionAnswers (after_resume n k o ss)
resumed_answers n k None ss h = h
resumed_answers n k (Some t) ss h =
    either_answers (is_too_high n t) (without t.shown.number ss) (with_session t.shown.number (resumes n k) ss) (each_filter SessionAnswers _ ss h)
    (each_changed SessionAnswers _ (resumes n k) ss (λ u keeps. each_drop IsAnswered (ahead n u.acked) u.waiting keeps) h)

archived_answers : (e : EntryView) (account : ℕ) (o : Option Kept) (h : ServerState ItemOut) → ServerStateAnswers h → ServerStateAnswers (archived_in e account o h)
archived_answers e account None h keeps = keeps
archived_answers e account (Some a) h keeps = keeps

-- ---- one step, and all of a row

act_answers : (a : Act ItemOut) (s : Step ItemOut) → ActAnswers a → StepAnswers s → StepAnswers (act itself a s)
act_answers (steps.Say k i) s r h = put_answers k i s h r
act_answers (steps.Close k) s r h = shut_answers k s h
act_answers (steps.Enter k phase) s r h = record { server_state = h.server_state; outs = h.outs }
act_answers (steps.Fail k left) s r h = record { server_state = h.server_state; outs = h.outs }
act_answers (steps.Bind account resource k) s r h = record { server_state = bound_answers s.server_state.next account k resource s.server_state.sessions h.server_state; outs = h.outs }
act_answers (steps.Resume previd account n k) s r h =
    sessions_answer (λ sessions. after_resume n k (session_resumed previd account sessions) sessions) s h (resumed_answers n k (session_resumed previd account s.server_state.sessions) s.server_state.sessions h.server_state)
act_answers (steps.Enable n resume) s r h = one_answers n (enables resume) s h (λ t keeps. keeps)
act_answers (steps.Acknowledge n count) s r h = one_answers n (acknowledged count) s h (λ t keeps. each_drop IsAnswered (ahead count t.acked) t.waiting keeps)
act_answers (steps.Ask n on) s r h = one_answers n (asks on) s h (λ t keeps. keeps)
act_answers (steps.Handle n) s r h = one_answers n handles s h (λ t keeps. keeps)
act_answers (steps.Present n available priority) s r h = one_answers n (presents available priority) s h (λ t keeps. keeps)
act_answers (steps.Copy n on) s r h = one_answers n (copies on) s h (λ t keeps. keeps)
act_answers (steps.Send n i) s r h = send_answers n i (info_of n s.server_state.sessions) s h r
act_answers (steps.Archive account e) s r h = record { server_state = archived_answers e account (archive_at account s.server_state) s.server_state h.server_state; outs = h.outs }
act_answers (steps.Tell from to origin) s r h = record { server_state = h.server_state; outs = each_append (OutPuts IsAnswered) s.outs (Took from to origin ∷ []) h.outs (tt, tt) }

pub acts_answer : (acts : List (Act ItemOut)) (s : Step ItemOut) → ActsAnswer acts → StepAnswers s → StepAnswers (acted itself acts s)
acts_answer [] s r h = h
acts_answer (a ∷ acts) s r h = acts_answer acts (act itself a s) r.1 (act_answers a s r.0 h)
