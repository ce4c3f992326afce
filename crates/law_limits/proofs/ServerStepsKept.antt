-- Each small step keeps what a server keeps to.
use Rattle.std.proofs.Common.{◌≡◌, ℕ, ◌+◌, ◌-◌, ◌^◌, ◌<◌, ◌==◌, Bool, true, false, not, List, [], ◌∷◌, ◌++◌, Option, Some, None, IfSome, cond, length, refl, arith, length-drop}
use Rattle.std.specs.List.{AllByRecursion}
use Rattle.sm_acks.specs.Counters.{ahead}
use Rattle.sm_acks.specs.declared.end.TheConstants.{MOST_UNACKNOWLEDGED}
use Rattle.mam_archive.specs.Entries.{EntryView, numbered}
use Rattle.srv_state.specs.State.{Kept, Put, ServerState, Shut, Step, Took, archive_at, changed, conn_at, is_number, with_conn, with_sessions}
use Rattle.srv_state.specs.Steps as steps
use Rattle.srv_state.specs.Steps.{Act, act, acted, after_failure, appended, archived_in, ask_where, binds, in_phase, in_server_state, in_sessions, is_due, overflow, part, part_where, put, put_where, queue, send, send_by_info, shut, told_out}
use Rattle.srv_state.specs.declared.connection.Connection.{Connection}
use Rattle.sm_live.specs.Sessions.{Session, acknowledged, after_resume, asks, bound, copies, enables, fresh, handles, info_of, is_too_high, less, presents, resumes, session_named, session_resumed, waits, with_session, without}
use Rattle.sm_live.specs.declared.told.SessionInfo.{SessionInfo}
use Rattle.law_limits.proofs.Forwarding.{numbered_fits}
use Rattle.law_limits.proofs.PutReplies.{error_read, request_read}
use Rattle.law_limits.specs.Bounded.{ClientReads}
use Rattle.law_limits.specs.Messages.{EntryFits}
use Rattle.im_replies.specs.Management.{request_item}
use Rattle.im_replies.specs.Streams.{error_item}
use Rattle.im_replies.specs.declared.conditions.StreamCondition.{StreamCondition}
use Rattle.im_replies.specs.declared.conditions.StreamCondition.TheVariants.{ResourceConstraint}
use Rattle.law_limits.proofs.Lists.{Values, each_append, each_changed, each_drop, each_filter, each_got, each_set, value_found, values_left, values_set}
use Rattle.law_limits.specs.Keeps.{ActKeeps, ActsKeep, ArchiveKeeps, ConnectionKeeps, IsRead, OutIsRead, ServerKeeps, SessionKeeps, StepKeeps}
use Rattle.law_server.specs.Encodings.{itself}
use Rattle.law_limits.specs.Texts.{Said}
use Rattle.xml_trees.specs.Trees.{Elem}
use Rattle.xml_writer.specs.Items.{Closing, ItemOut, Whole}

-- ---- items

pub whole_read : (e : Elem) → ClientReads e → IsRead (Whole e)
whole_read e h = (h.tree, h.plain, h.fits)

pub error_item_read : (c : StreamCondition) → IsRead (error_item c)
error_item_read c = whole_read _ (error_read c)

pub request_item_read : IsRead request_item
request_item_read = whole_read _ request_read

pub closing_read : IsRead Closing
closing_read = tt

-- ---- what is put out

put_kept : (k : ℕ) (i : ItemOut) (s : Step ItemOut) → StepKeeps s → IsRead i → StepKeeps (put k i s)
put_kept k i s h r = record { server_state = h.server_state; outs = each_append OutIsRead s.outs (Put k i ∷ []) h.outs (r, tt) }

told_kept : (from to origin : List ℕ) (s : Step ItemOut) → StepKeeps s → StepKeeps (told_out from to origin s)
told_kept from to origin s h = record { server_state = h.server_state; outs = each_append OutIsRead s.outs (Took from to origin ∷ []) h.outs (tt, tt) }

put_where_kept : (o : Option ℕ) (i : ItemOut) (s : Step ItemOut) → StepKeeps s → IsRead i → StepKeeps (put_where o i s)
put_where_kept None i s h r = h
put_where_kept (Some k) i s h r = put_kept k i s h r

-- ---- sessions

pub server_state_of_sessions : (ss : List (Session ItemOut)) (h : ServerState ItemOut) → ServerKeeps h → AllByRecursion SessionKeeps ss → ServerKeeps (with_sessions ss h)
server_state_of_sessions ss h k each = record { domain = k.domain; accounts = k.accounts; archives = k.archives; sessions = each; conns = k.conns }

sessions_kept : (g : List (Session ItemOut) → List (Session ItemOut)) (s : Step ItemOut) → StepKeeps s → AllByRecursion SessionKeeps (g s.server_state.sessions) → StepKeeps (in_sessions g s)
sessions_kept g s h each = record { server_state = server_state_of_sessions (g s.server_state.sessions) s.server_state h.server_state each; outs = h.outs }

pub session_changed : (n : ℕ) (f : Session ItemOut → Session ItemOut) (ss : List (Session ItemOut)) → ((t : Session ItemOut) → SessionKeeps t → SessionKeeps (f t)) → AllByRecursion SessionKeeps ss → AllByRecursion SessionKeeps (with_session n f ss)
session_changed n f ss keeps h = each_changed SessionKeeps (λ t. t.shown.number == n) f ss keeps h

one_kept : (n : ℕ) (f : Session ItemOut → Session ItemOut) (s : Step ItemOut) → StepKeeps s → ((t : Session ItemOut) → SessionKeeps t → SessionKeeps (f t)) → StepKeeps (in_sessions (with_session n f) s)
one_kept n f s h keeps = sessions_kept (with_session n f) s h (session_changed n f s.server_state.sessions keeps h.server_state.sessions)

waits_kept : (i : ItemOut) (t : Session ItemOut) → IsRead i → SessionKeeps t → SessionKeeps (waits i t)
waits_kept i t r h = record { resource = h.resource; acked = h.acked; handled = h.handled; waiting = each_append IsRead t.waiting (i ∷ []) h.waiting (r, tt) }

handles_kept : (t : Session ItemOut) → SessionKeeps t → SessionKeeps (handles t)
handles_kept t h = record { resource = h.resource; acked = h.acked; handled = omega arith; waiting = h.waiting }

acknowledged_kept : (n : ℕ) (t : Session ItemOut) → n < 2 ^ 32 → SessionKeeps t → SessionKeeps (acknowledged n t)
acknowledged_kept n t small h = record { resource = h.resource; acked = small; handled = h.handled; waiting = each_drop IsRead (ahead n t.acked) t.waiting h.waiting }

resumes_kept : (n k : ℕ) (t : Session ItemOut) → n < 2 ^ 32 → SessionKeeps t → SessionKeeps (resumes n k t)
resumes_kept n k t small h = record { resource = h.resource; acked = small; handled = h.handled; waiting = each_drop IsRead (ahead n t.acked) t.waiting h.waiting }

-- only what is shown changes, and not the resource
pub shown_kept : (t u : Session ItemOut) → u.shown.resource ≡ t.shown.resource → u.acked ≡ t.acked → u.handled ≡ t.handled → u.waiting ≡ t.waiting → SessionKeeps t → SessionKeeps u
shown_kept t u a b c d h = record { resource = rw a h.resource; acked = rw b h.acked; handled = rw c h.handled; waiting = rw d h.waiting }

-- ---- ends

shut_kept : (k : ℕ) (s : Step ItemOut) → StepKeeps s → StepKeeps (shut k s)
shut_kept k s h = record {
  server_state = record {
    domain = h.server_state.domain;
    accounts = h.server_state.accounts;
    archives = h.server_state.archives;
    sessions = each_filter SessionKeeps _ s.server_state.sessions h.server_state.sessions;
    conns = values_left ConnectionKeeps (is_number k) s.server_state.conns h.server_state.conns;
  };
  outs = each_append OutIsRead s.outs (Shut k ∷ []) h.outs (tt, tt);
}

part_kept : (k : ℕ) (i : ItemOut) (s : Step ItemOut) → StepKeeps s → IsRead i → StepKeeps (part itself k i s)
part_kept k i s h r = shut_kept k (put k Closing (put k i s)) (put_kept k Closing (put k i s) (put_kept k i s h r) closing_read)

part_where_kept : (o : Option ℕ) (i : ItemOut) (s : Step ItemOut) → StepKeeps s → IsRead i → StepKeeps (part_where itself o i s)
part_where_kept None i s h r = h
part_where_kept (Some k) i s h r = part_kept k i s h r

-- ---- a stanza to a session

ask_kept : (n : ℕ) (o : Option ℕ) (b : Bool) (s : Step ItemOut) → StepKeeps s → StepKeeps (ask_where itself n o b s)
ask_kept n o false s h = h
ask_kept n None true s h = h
ask_kept n (Some k) true s h =
    put_kept k request_item (in_sessions (with_session n (asks true)) s) (one_kept n (asks true) s h (λ t keeps. shown_kept t (asks true t) refl refl refl refl keeps)) request_item_read

queue_kept : (n : ℕ) (i : ItemOut) (t : SessionInfo) (s : Step ItemOut) → StepKeeps s → IsRead i → StepKeeps (queue itself n i t s)
queue_kept n i t s h r =
    let waiting = in_sessions (with_session n (waits i)) s in
    ask_kept n t.conn (is_due t) (put_where t.conn i waiting) (put_where_kept t.conn i waiting (one_kept n (waits i) s h (λ u keeps. waits_kept i u r keeps)) r)

overflow_kept : (n : ℕ) (t : SessionInfo) (s : Step ItemOut) → StepKeeps s → StepKeeps (overflow itself n t s)
overflow_kept n t s h =
    part_where_kept t.conn (error_item ResourceConstraint) (in_sessions (without n) s) (sessions_kept (without n) s h (each_filter SessionKeeps _ s.server_state.sessions h.server_state.sessions)) (error_item_read ResourceConstraint)

chosen_kept : (b : Bool) (s t : Step ItemOut) → StepKeeps s → StepKeeps t → StepKeeps (cond b s t)
chosen_kept true s t h k = h
chosen_kept false s t h k = k

send_kept : (n : ℕ) (i : ItemOut) (o : Option SessionInfo) (s : Step ItemOut) → StepKeeps s → IsRead i → StepKeeps (send_by_info itself n i o s)
send_kept n i None s h r = h
send_kept n i (Some t) s h r =
    chosen_kept (not t.counted) (put_where t.conn i s) (cond (t.waiting == MOST_UNACKNOWLEDGED) (overflow itself n t s) (queue itself n i t s)) (put_where_kept t.conn i s h r)
    (chosen_kept (t.waiting == MOST_UNACKNOWLEDGED) (overflow itself n t s) (queue itself n i t s) (overflow_kept n t s h) (queue_kept n i t s h r))

-- ---- connections, bindings and archives

conns_kept : (k : ℕ) (f : Connection → Connection) (o : Option Connection) (conns : List (ℕ × Connection)) → ((c : Connection) → ConnectionKeeps c → ConnectionKeeps (f c)) → IfSome o ConnectionKeeps → Values ConnectionKeeps conns
    → Values ConnectionKeeps (changed k f o conns)
conns_kept k f None conns keeps o h = h
conns_kept k f (Some c) conns keeps o h = values_set ConnectionKeeps (is_number k) conns (f c) h (keeps c o)

conn_kept : (k : ℕ) (f : Connection → Connection) (s : Step ItemOut) → ((c : Connection) → ConnectionKeeps c → ConnectionKeeps (f c)) → StepKeeps s → StepKeeps (in_server_state (with_conn k f) s)
conn_kept k f s keeps h = record {
  server_state = record {
    domain = h.server_state.domain;
    accounts = h.server_state.accounts;
    archives = h.server_state.archives;
    sessions = h.server_state.sessions;
    conns = conns_kept k f (conn_at k s.server_state) s.server_state.conns keeps (value_found ConnectionKeeps (is_number k) s.server_state.conns h.server_state.conns) h.server_state.conns;
  };
  outs = h.outs;
}

less_kept : (o : Option (Session ItemOut)) (ss : List (Session ItemOut)) → AllByRecursion SessionKeeps ss → AllByRecursion SessionKeeps (less o ss)
less_kept None ss h = h
less_kept (Some t) ss h = each_filter SessionKeeps _ ss h

bound_kept : (n account k : ℕ) (resource : List ℕ) (ss : List (Session ItemOut)) → Said 6138 resource → AllByRecursion SessionKeeps ss → AllByRecursion SessionKeeps (bound n account resource k ss)
bound_kept n account k resource ss said h =
    each_append SessionKeeps (less (session_named account resource ss) ss) (fresh n account resource k ∷ []) (less_kept (session_named account resource ss) ss h)
    (record { resource = said; acked = omega arith; handled = omega arith; waiting = tt }, tt)

bind_kept : (account k : ℕ) (resource : List ℕ) (s : Step ItemOut) → Said 6138 resource → StepKeeps s → StepKeeps (in_server_state (binds account resource k) s)
bind_kept account k resource s said h = record {
  server_state = record {
    domain = h.server_state.domain;
    accounts = h.server_state.accounts;
    archives = h.server_state.archives;
    sessions = bound_kept s.server_state.next account k resource s.server_state.sessions said h.server_state.sessions;
    conns = h.server_state.conns;
  };
  outs = h.outs;
}

pub either_kept : (b : Bool) (ss ts : List (Session ItemOut)) → AllByRecursion SessionKeeps ss → AllByRecursion SessionKeeps ts → AllByRecursion SessionKeeps (cond b ss ts)
either_kept true ss ts h k = h
either_kept false ss ts h k = k

resumed_kept : (n k : ℕ) (o : Option (Session ItemOut)) (ss : List (Session ItemOut)) → n < 2 ^ 32 → AllByRecursion SessionKeeps ss → AllByRecursion SessionKeeps (after_resume n k o ss)
resumed_kept n k None ss small h = h
resumed_kept n k (Some t) ss small h =
    either_kept (is_too_high n t) (without t.shown.number ss) (with_session t.shown.number (resumes n k) ss) (each_filter SessionKeeps _ ss h) (session_changed t.shown.number (resumes n k) ss (λ u keeps. resumes_kept n k u small keeps) h)

appended_kept : (e : EntryView) (a : Kept) → EntryFits e → ArchiveKeeps a → ArchiveKeeps (appended e a)
appended_kept e a fits h =
    let all = a.entries ++ numbered (a.last + 1) e ∷ [] in
    let keep = h.keep in
    record {
      entries = each_drop EntryFits (length all - a.keep) all (each_append EntryFits a.entries (numbered (a.last + 1) e ∷ []) h.entries (numbered_fits (a.last + 1) e fits, tt));
      few = omega (arith, keep, length-drop (length all - a.keep) all);
      keep = h.keep;
    }

archived_kept : (e : EntryView) (account : ℕ) (o : Option Kept) (h : ServerState ItemOut) → EntryFits e → IfSome o ArchiveKeeps → ServerKeeps h → ServerKeeps (archived_in e account o h)
archived_kept e account None h fits o k = k
archived_kept e account (Some a) h fits o k =
    record { domain = k.domain; accounts = k.accounts; archives = each_set ArchiveKeeps h.archives account (appended e a) k.archives (appended_kept e a fits o); sessions = k.sessions; conns = k.conns }

-- ---- one step, and all of a row

act_kept : (a : Act ItemOut) (s : Step ItemOut) → ActKeeps a → StepKeeps s → StepKeeps (act itself a s)
act_kept (steps.Say k i) s a h = put_kept k i s h a
act_kept (steps.Close k) s a h = shut_kept k s h
act_kept (steps.Enter k phase) s a h = conn_kept k (in_phase phase) s (λ c keeps. keeps) h
act_kept (steps.Fail k left) s a h = conn_kept k (after_failure left) s (λ c keeps. keeps) h
act_kept (steps.Bind account resource k) s a h = bind_kept account k resource s a h
act_kept (steps.Resume previd account n k) s a h =
    sessions_kept (λ sessions. after_resume n k (session_resumed previd account sessions) sessions) s h (resumed_kept n k (session_resumed previd account s.server_state.sessions) s.server_state.sessions a h.server_state.sessions)
act_kept (steps.Enable n resume) s a h = one_kept n (enables resume) s h (λ t keeps. shown_kept t (enables resume t) refl refl refl refl keeps)
act_kept (steps.Acknowledge n m) s a h = one_kept n (acknowledged m) s h (λ t keeps. acknowledged_kept m t a keeps)
act_kept (steps.Ask n on) s a h = one_kept n (asks on) s h (λ t keeps. shown_kept t (asks on t) refl refl refl refl keeps)
act_kept (steps.Handle n) s a h = one_kept n handles s h handles_kept
act_kept (steps.Present n available priority) s a h = one_kept n (presents available priority) s h (λ t keeps. shown_kept t (presents available priority t) refl refl refl refl keeps)
act_kept (steps.Copy n on) s a h = one_kept n (copies on) s h (λ t keeps. shown_kept t (copies on t) refl refl refl refl keeps)
act_kept (steps.Send n i) s a h = send_kept n i (info_of n s.server_state.sessions) s h a
act_kept (steps.Archive account e) s a h =
    record { server_state = archived_kept e account (archive_at account s.server_state) s.server_state a (each_got ArchiveKeeps s.server_state.archives account h.server_state.archives) h.server_state; outs = h.outs }
act_kept (steps.Tell from to origin) s a h = told_kept from to origin s h

pub acts_kept : (acts : List (Act ItemOut)) (s : Step ItemOut) → ActsKeep acts → StepKeeps s → StepKeeps (acted itself acts s)
acts_kept [] s a h = h
acts_kept (x ∷ more) s a h = acts_kept more (act itself x s) a.1 (act_kept x s a.0 h)
