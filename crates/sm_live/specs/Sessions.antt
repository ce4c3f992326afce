-- Sessions that live, each with its stanzas that wait (RFC 6120 section 7, XEP-0198 sections 3 to 5), as plain lists, over any type of what is
-- put.
use Rattle.std.specs.Prelude.{ℕ, ◌+◌, ◌-◌, ◌%◌, ◌^◌, ◌==◌, nat_le, nat_lt, Bool, true, false, not, ◌&&◌, if◌then◌else◌, List, [], ◌∷◌, ◌++◌, Option, Some, None, Result, Ok, Err, find, filter, map, drop, length, is_none, ℤ, pos}
use Rattle.std.specs.Option.{option_map}
use Rattle.std.specs.Str.{bytes_eq}
use Rattle.sm_acks.specs.Counters.{ahead}
use Rattle.sm_acks.specs.declared.end.TooHigh.{TooHigh as TooHighCount}
use Rattle.sm_live.specs.declared.told.SessionInfo.{SessionInfo}
use Rattle.sm_resumption.specs.Previds.{previd_of}
use Rattle.sm_resumption.specs.Rows.{is_some_number}
use Rattle.sm_resumption.specs.declared.answers.Ended.{Ended}
use Rattle.sm_resumption.specs.declared.answers.Lost.{Lost}
use Rattle.sm_resumption.specs.declared.answers.Lost.TheVariants.{Parked, Ended as LostEnded}
use Rattle.sm_resumption.specs.declared.answers.ResumeFault.{ResumeFault}
use Rattle.sm_resumption.specs.declared.answers.ResumeFault.TheVariants.{TooHigh, UnknownPrevid}
use Rattle.sm_resumption.specs.declared.answers.ResumeOk.{ResumeOk}
use Rattle.sm_resumption.specs.declared.answers.TheConstants.{RESUMABLE_FOR}
use Rattle.sm_resumption.specs.declared.session.SessionView.{SessionView}

-- what is told of a session; how many of its stanzas are acknowledged, and how many of the peer's were handled, both
-- modulo 2 ^ 32; and its stanzas that are not acknowledged, the oldest first
pub record Session (A : Type 0) : Type 0 where
  pub shown : SessionView
  pub acked : ℕ
  pub handled : ℕ
  pub waiting : List A

-- ---- look-ups

abbrev pub number_of : {A : Type 0} → Session A → ℕ
number_of s = s.shown.number

abbrev pub is_numbered : {A : Type 0} → ℕ → Session A → Bool
is_numbered n s = s.shown.number == n

abbrev pub is_at : {A : Type 0} → ℕ → Session A → Bool
is_at conn s = is_some_number conn s.shown.conn

abbrev pub is_of : {A : Type 0} → ℕ → Session A → Bool
is_of account s = s.shown.account == account

abbrev pub is_named : {A : Type 0} → ℕ → List ℕ → Session A → Bool
is_named account resource s = (s.shown.account == account) && bytes_eq s.shown.resource resource

abbrev pub is_resumed_by : {A : Type 0} → List ℕ → ℕ → Session A → Bool
is_resumed_by previd account s = bytes_eq (previd_of s.shown.number) previd && (s.shown.account == account) && s.shown.resumable

-- the session with a number
abbrev pub session_of : {A : Type 0} → ℕ → List (Session A) → Option (Session A)
session_of n sessions = find (is_numbered n) sessions

-- the session on a connection
abbrev pub session_at : {A : Type 0} → ℕ → List (Session A) → Option (Session A)
session_at conn sessions = find (is_at conn) sessions

-- the session of an account with a resource
abbrev pub session_named : {A : Type 0} → ℕ → List ℕ → List (Session A) → Option (Session A)
session_named account resource sessions = find (is_named account resource) sessions

-- the session that a `previd` names for an account: it can be resumed
abbrev pub session_resumed : {A : Type 0} → List ℕ → ℕ → List (Session A) → Option (Session A)
session_resumed previd account sessions = find (is_resumed_by previd account) sessions

-- the sessions of an account, in their order
abbrev pub sessions_of : {A : Type 0} → ℕ → List (Session A) → List (Session A)
sessions_of account sessions = filter (is_of account) sessions

-- what is told of a session
abbrev pub told : {A : Type 0} → Session A → SessionInfo
told s = record {
  number = s.shown.number;
  account = s.shown.account;
  conn = s.shown.conn;
  available = s.shown.available;
  priority = s.shown.priority;
  carbons = s.shown.carbons;
  counted = s.shown.counted;
  asked = s.shown.asked;
  handled = s.handled;
  waiting = length s.waiting;
}

abbrev pub info_of : {A : Type 0} → ℕ → List (Session A) → Option SessionInfo
info_of n sessions = option_map told (session_of n sessions)

-- ---- what happens to one session

-- one stanza more waits
abbrev pub waits : {A : Type 0} → A → Session A → Session A
waits stanza s = record s { waiting = s.waiting ++ stanza ∷ [] }

-- one stanza more of the peer is handled
abbrev pub handles : {A : Type 0} → Session A → Session A
handles s = record s { handled = (s.handled + 1) % 2 ^ 32 }

-- the peer has handled h stanzas
abbrev pub acknowledged : {A : Type 0} → ℕ → Session A → Session A
acknowledged h s = record s { acked = h; waiting = drop (ahead h s.acked) s.waiting }

-- its stanzas are counted from now on, and it can be resumed where `resume` says so
abbrev pub enables : {A : Type 0} → Bool → Session A → Session A
enables resume s = record s { shown = record s.shown { counted = true; resumable = resume } }

abbrev pub presents : {A : Type 0} → Bool → ℤ → Session A → Session A
presents available priority s = record s { shown = record s.shown { available = available; priority = priority } }

-- whether it wants copies
abbrev pub copies : {A : Type 0} → Bool → Session A → Session A
copies on s = record s { shown = record s.shown { carbons = on } }

-- whether it was asked for its count, and has not answered
abbrev pub asks : {A : Type 0} → Bool → Session A → Session A
asks on s = record s { shown = record s.shown { asked = on } }

-- the connection is lost
abbrev pub parked : {A : Type 0} → ℕ → Session A → Session A
parked now s = record s { shown = record s.shown { conn = None; parked_at = now } }

-- it is on another connection, and the peer has handled h stanzas
abbrev pub resumes : {A : Type 0} → ℕ → ℕ → Session A → Session A
resumes h conn s = record { shown = record s.shown { conn = Some conn }; acked = h; handled = s.handled; waiting = drop (ahead h s.acked) s.waiting }

-- a session as a bind makes it
abbrev pub fresh : {A : Type 0} → ℕ → ℕ → List ℕ → ℕ → Session A
fresh number account resource conn = record {
  shown = record { number = number; account = account; resource = resource; conn = Some conn; parked_at = 0; available = false; priority = pos 0; carbons = false; counted = false; resumable = false; asked = false };
  acked = 0;
  handled = 0;
  waiting = [];
}

-- ---- what happens to the list

-- the sessions but that of a number
abbrev pub without : {A : Type 0} → ℕ → List (Session A) → List (Session A)
without n sessions = filter (λ s. not (s.shown.number == n)) sessions

-- the sessions but one, where there is one
abbrev pub less : {A : Type 0} → Option (Session A) → List (Session A) → List (Session A)
less None sessions = sessions
less (Some s) sessions = without s.shown.number sessions

-- no session is left on a connection
abbrev pub without_at : {A : Type 0} → ℕ → List (Session A) → List (Session A)
without_at conn sessions = filter (λ s. not (is_at conn s)) sessions

-- the session with a number is changed
abbrev pub with_session : {A : Type 0} → ℕ → (Session A → Session A) → List (Session A) → List (Session A)
with_session n f sessions = map (λ s. if s.shown.number == n then f s else s) sessions

-- the older session with this name ends, and the new one stands last
abbrev pub bound : {A : Type 0} → ℕ → ℕ → List ℕ → ℕ → List (Session A) → List (Session A)
bound number account resource conn sessions = less (session_named account resource sessions) sessions ++ fresh number account resource conn ∷ []

-- the connection of a session is lost: it is parked where it can be resumed, and ends where it can't
abbrev pub lost : {A : Type 0} → ℕ → Option (Session A) → List (Session A) → List (Session A)
lost now None sessions = sessions
lost now (Some s) sessions = if s.shown.resumable then with_session s.shown.number (parked now) sessions else without s.shown.number sessions

-- a parked session that can be resumed no more
abbrev pub is_expired : {A : Type 0} → ℕ → Session A → Bool
is_expired now s = is_none s.shown.conn && nat_le RESUMABLE_FOR (now - s.shown.parked_at)

abbrev pub unexpired : {A : Type 0} → ℕ → List (Session A) → List (Session A)
unexpired now sessions = filter (λ s. not (is_expired now s)) sessions

-- ---- counts that the peer states

-- the count is above what was sent
abbrev pub is_too_high : {A : Type 0} → ℕ → Session A → Bool
is_too_high h s = nat_lt (length s.waiting) (ahead h s.acked)

-- how many stanzas were sent, modulo 2 ^ 32
abbrev pub send_count : {A : Type 0} → Session A → ℕ
send_count s = (s.acked + length s.waiting) % 2 ^ 32

-- the answer to a count: how many stanzas more are acknowledged
abbrev pub ack_answer : {A : Type 0} → ℕ → Session A → Result ℕ TooHighCount
ack_answer h s = if is_too_high h s then Err (record { h = h; send_count = send_count s }) else Ok (ahead h s.acked)

-- what a resumption with the count h sends again
abbrev pub resent : {A : Type 0} → ℕ → Session A → List A
resent h s = drop (ahead h s.acked) s.waiting

-- a session is resumed on a connection, or ends where the count is too high
abbrev pub after_resume : {A : Type 0} → ℕ → ℕ → Option (Session A) → List (Session A) → List (Session A)
after_resume h conn None sessions = sessions
after_resume h conn (Some s) sessions =
    if is_too_high h s then without s.shown.number sessions else with_session s.shown.number (resumes h conn) sessions

-- ---- answers

abbrev pub ended_of : {A : Type 0} → Session A → Ended
ended_of s = record { number = s.shown.number; conn = s.shown.conn }

abbrev pub lost_as : {A : Type 0} → Session A → Lost
lost_as s = if s.shown.resumable then Parked s.shown.number else LostEnded s.shown.number

abbrev pub resume_ok : {A : Type 0} → Session A → ResumeOk
resume_ok s = record { number = s.shown.number; handled = s.handled; former = s.shown.conn }

abbrev pub resume_answer : {A : Type 0} → ℕ → Option (Session A) → Result ResumeOk ResumeFault
resume_answer h None = Err UnknownPrevid
resume_answer h (Some s) = if is_too_high h s then Err (TooHigh h (send_count s) s.shown.conn) else Ok (resume_ok s)
