-- The small steps of a server: each row of the table is a list of them, made of the state before the first one.
use Rattle.std.specs.Prelude.{ℕ, ℤ, ◌+◌, ◌==◌, nat_le, not, ◌&&◌, Bool, true, false, if◌then◌else◌, List, [], ◌∷◌, ◌++◌, Option, Some, None, slice_set}
use Rattle.sm_acks.specs.declared.end.TheConstants.{MOST_UNACKNOWLEDGED}
use Rattle.mam_archive.specs.Entries.{EntryView, newest, numbered}
use Rattle.sm_live.specs.Sessions.{Session, acknowledged, after_resume, asks, bound, copies, enables, handles, info_of, presents, session_resumed, waits, with_session, without, without_at}
use Rattle.sm_live.specs.declared.told.SessionInfo.{SessionInfo}
use Rattle.im_replies.specs.Management.{request_item}
use Rattle.im_replies.specs.Streams.{error_item}
use Rattle.im_replies.specs.declared.conditions.StreamCondition.TheVariants.{ResourceConstraint}
use Rattle.srv_state.specs.State.{Kept, Out, Put, ServerState, Shut, Step, Took, archive_at, with_conn, with_sessions, without_conn}
use Rattle.srv_state.specs.declared.connection.Connection.{Connection}
use Rattle.srv_state.specs.declared.connection.Phase.{Phase}
use Rattle.srv_state.specs.declared.connection.Phase.TheVariants as phase
use Rattle.srv_state.specs.declared.connection.Tries.{Tries}
use Rattle.srv_state.specs.declared.limits.TheConstants.{ASKS_AT}
use Rattle.xml_writer.specs.Items.{Closing, ItemOut}

pub data Act (A : Type 0) : Type 0 where
  -- something goes to a connection
  Say : ℕ → A → Act A
  -- the connection is shut, and the session on it ends
  Close : ℕ → Act A
  -- the connection stands in another phase
  Enter : ℕ → Phase → Act A
  -- a login failed, and so many tries are left
  Fail : ℕ → Tries → Act A
  -- a session of the account with the resource is on the connection, and none before it has its name
  Bind : ℕ → List ℕ → ℕ → Act A
  -- the session that a `previd` names for the account, of which h stanzas were handled, is on the connection
  Resume : List ℕ → ℕ → ℕ → ℕ → Act A
  -- the stanzas of the session are counted, and whether it can be resumed
  Enable : ℕ → Bool → Act A
  -- the peer of the session has handled h stanzas
  Acknowledge : ℕ → ℕ → Act A
  -- whether the session was asked for that count
  Ask : ℕ → Bool → Act A
  -- a stanza of the session was handled
  Handle : ℕ → Act A
  -- whether the session is available, and its priority
  Present : ℕ → Bool → ℤ → Act A
  -- whether the session wants copies
  Copy : ℕ → Bool → Act A
  -- a stanza goes to the session
  Send : ℕ → A → Act A
  -- a message goes to an account's archive
  Archive : ℕ → EntryView → Act A
  -- it is told that a message was archived: its addresses and its id
  Tell : List ℕ → List ℕ → List ℕ → Act A

-- ---- the state alone

abbrev pub in_server_state : {A : Type 0} → (ServerState A → ServerState A) → Step A → Step A
in_server_state f s = record s { server_state = f s.server_state }

abbrev pub in_sessions : {A : Type 0} → (List (Session A) → List (Session A)) → Step A → Step A
in_sessions f s = record s { server_state = with_sessions (f s.server_state.sessions) s.server_state }

abbrev pub in_phase : Phase → Connection → Connection
in_phase phase c = record c { phase = phase }

abbrev pub after_failure : Tries → Connection → Connection
after_failure left c = record c { phase = phase.Login; tries = left }

abbrev pub binds : {A : Type 0} → ℕ → List ℕ → ℕ → ServerState A → ServerState A
binds account resource k h = record h { sessions = bound h.next account resource k h.sessions; next = h.next + 1 }

-- an entry more, of which the newest are kept
abbrev pub appended : EntryView → Kept → Kept
appended e a = record a { last = a.last + 1; entries = newest a.keep (a.entries ++ numbered (a.last + 1) e ∷ []) }

abbrev pub archived_in : {A : Type 0} → EntryView → ℕ → Option Kept → ServerState A → ServerState A
archived_in e account None h = h
archived_in e account (Some kept) h = record h { archives = slice_set h.archives account (appended e kept) }

-- ---- what is put out

abbrev pub put : {A : Type 0} → ℕ → A → Step A → Step A
put k a s = record s { outs = s.outs ++ Put k a ∷ [] }

abbrev pub put_where : {A : Type 0} → Option ℕ → A → Step A → Step A
put_where None a s = s
put_where (Some k) a s = put k a s

abbrev pub shut : {A : Type 0} → ℕ → Step A → Step A
shut k s = record {
  server_state = with_sessions (without_at k s.server_state.sessions) (without_conn k s.server_state);
  outs = s.outs ++ Shut k ∷ [];
}

abbrev pub told_out : {A : Type 0} → List ℕ → List ℕ → List ℕ → Step A → Step A
told_out from to origin s = record s { outs = s.outs ++ Took from to origin ∷ [] }

-- a stream error and the footer, and the connection is shut
abbrev pub part : {A : Type 0} → (ItemOut → A) → ℕ → A → Step A → Step A
part say k error s = shut k (put k (say Closing) (put k error s))

abbrev pub part_where : {A : Type 0} → (ItemOut → A) → Option ℕ → A → Step A → Step A
part_where say None error s = s
part_where say (Some k) error s = part say k error s

-- ---- a stanza to a session (XEP-0198, section 4)

-- an `r`, where as many stanzas wait and none is unanswered
abbrev pub is_due : SessionInfo → Bool
is_due t = nat_le ASKS_AT (t.waiting + 1) && not t.asked

abbrev pub ask_where : {A : Type 0} → (ItemOut → A) → ℕ → Option ℕ → Bool → Step A → Step A
ask_where say n conn false s = s
ask_where say n None true s = s
ask_where say n (Some k) true s = put k (say request_item) (in_sessions (with_session n (asks true)) s)

-- one stanza more waits, and goes out where the session is attached
abbrev pub queue : {A : Type 0} → (ItemOut → A) → ℕ → A → SessionInfo → Step A → Step A
queue say n a t s = ask_where say n t.conn (is_due t) (put_where t.conn a (in_sessions (with_session n (waits a)) s))

-- as many wait as may, and the session ends
abbrev pub overflow : {A : Type 0} → (ItemOut → A) → ℕ → SessionInfo → Step A → Step A
overflow say n t s = part_where say t.conn (say (error_item ResourceConstraint)) (in_sessions (without n) s)

abbrev pub send_by_info : {A : Type 0} → (ItemOut → A) → ℕ → A → Option SessionInfo → Step A → Step A
send_by_info say n a None s = s
send_by_info say n a (Some t) s =
    if not t.counted then put_where t.conn a s
    else (if t.waiting == MOST_UNACKNOWLEDGED then overflow say n t s else queue say n a t s)

-- to the session with a number, where it lives
abbrev pub send : {A : Type 0} → (ItemOut → A) → ℕ → A → Step A → Step A
send say n a s = send_by_info say n a (info_of n s.server_state.sessions) s

-- ---- one step, and all of a row

abbrev pub act : {A : Type 0} → (ItemOut → A) → Act A → Step A → Step A
act say (Say k a) s = put k a s
act say (Close k) s = shut k s
act say (Enter k phase) s = in_server_state (with_conn k (in_phase phase)) s
act say (Fail k left) s = in_server_state (with_conn k (after_failure left)) s
act say (Bind account resource k) s = in_server_state (binds account resource k) s
act say (Resume previd account h k) s = in_sessions (λ sessions. after_resume h k (session_resumed previd account sessions) sessions) s
act say (Enable n resume) s = in_sessions (with_session n (enables resume)) s
act say (Acknowledge n h) s = in_sessions (with_session n (acknowledged h)) s
act say (Ask n on) s = in_sessions (with_session n (asks on)) s
act say (Handle n) s = in_sessions (with_session n handles) s
act say (Present n available priority) s = in_sessions (with_session n (presents available priority)) s
act say (Copy n on) s = in_sessions (with_session n (copies on)) s
act say (Send n a) s = send say n a s
act say (Archive account e) s = in_server_state (λ h. archived_in e account (archive_at account h) h) s
act say (Tell from to origin) s = told_out from to origin s

abbrev pub acted : {A : Type 0} → (ItemOut → A) → List (Act A) → Step A → Step A
acted say [] s = s
acted say (a ∷ more) s = acted say more (act say a s)
