-- What the steps of a client have in common.
use Rattle.std.specs.Prelude.{ℕ, Bool, true, false, List, [], ◌∷◌, ◌++◌, Option, Some, None, if◌then◌else◌}
use Rattle.cl_handlers.specs.Clients.{ClientStep, ClientView}
use Rattle.cl_handlers.specs.Speech.{Note, Speech, Put, Ended as SessionEnded, uttered}
use Rattle.cl_handlers.specs.declared.events.Event.{Event}
use Rattle.cl_handlers.specs.declared.events.Event.TheVariants.{Ended}
use Rattle.cl_handlers.specs.declared.events.PeerFault.{PeerFault}
use Rattle.cl_handlers.specs.declared.events.PeerFault.TheVariants.{Unacknowledged}
use Rattle.cl_handlers.specs.declared.phase.Phase.{Phase}
use Rattle.cl_handlers.specs.declared.phase.Phase.TheVariants as phase
use Rattle.mam_log.specs.Views.{LogView, without_page}
use Rattle.sm_outbox.specs.Sessions.{SessionView, with_waiting}
use Rattle.sm_outbox.specs.Submissions.{undecided}
use Rattle.sm_outbox.specs.Waiting.{Waiting, is_full, queued}
use Rattle.xml_writer.specs.Items.{Closing}

-- ---- what goes out

abbrev pub puts : {A X : Type 0} → ClientStep A X → List X → ClientStep A X
puts t more = record t { out = record t.out { put = t.out.put ++ more } }

abbrev pub has_put : {A X : Type 0} → ClientStep A X → List X → ClientStep A X
has_put t put = record t { out = record t.out { put = put } }

abbrev pub tells : {A X : Type 0} → ClientStep A X → Event → ClientStep A X
tells t event = record t { out = record t.out { events = t.out.events ++ event ∷ [] } }

abbrev pub notes : {A X : Type 0} → Speech A X → ClientStep A X → Note A → ClientStep A X
notes speech t one = record t { out = record t.out { notes = speech.note t.out.notes one } }

-- ---- connections

abbrev pub is_apart : Phase → Bool
is_apart phase.Apart = true
is_apart _ = false

abbrev pub is_online : Phase → Bool
is_online phase.Online = true
is_online _ = false

abbrev pub goes : {A X : Type 0} → ClientStep A X → Phase → ClientStep A X
goes t p = record t { client = record t.client { phase = p } }

-- No connection stands any more. The session stays, for a resumption (XEP-0198, section 5).
abbrev pub left : {A X : Type 0} → ClientStep A X → ClientStep A X
left t = goes t phase.Apart

-- the connection is left for a fault of the peer
abbrev pub ends : {A X : Type 0} → ClientStep A X → PeerFault → ClientStep A X
ends t fault = tells (left t) (Ended fault)

-- the footer goes out where a connection stands (RFC 6120, section 4.4)
abbrev pub puts_footer : {A X : Type 0} → Speech A X → ClientStep A X → ClientStep A X
puts_footer speech t = if is_apart t.client.phase then t else puts t (uttered speech Closing)

-- ---- sessions

-- The session ends: what became of its submissions that wait is not known, and its open page is broken off.
abbrev pub dropped : {A : Type 0} → ClientView A → ClientView A
dropped c = record c { session = None; said = undecided c.said; log = without_page c.log }

abbrev pub drops : {A X : Type 0} → Speech A X → ClientStep A X → ClientStep A X
drops speech t = notes speech (record t { client = dropped t.client }) SessionEnded

abbrev pub with_session : {A X : Type 0} → ClientStep A X → SessionView A → Waiting A → ClientStep A X
with_session t s w = record t { client = record t.client { session = Some (with_waiting s w) } }

abbrev pub with_log : {A X : Type 0} → ClientStep A X → LogView → ClientStep A X
with_log t log = record t { client = record t.client { log = log } }

-- a stanza waits in a session
abbrev pub queues : {A X : Type 0} → Speech A X → ClientStep A X → SessionView A → A → Bool → ClientStep A X
queues speech t s stanza is_submission = notes speech (with_session t s (queued s.waiting stanza is_submission)) (Put stanza)

-- a stanza is put in a session: where it is attached the stanza goes out at once
abbrev pub put_in : {A X : Type 0} → Speech A X → ClientStep A X → SessionView A → A → Bool → ClientStep A X
put_in speech t s stanza is_submission =
    has_put (queues speech t s stanza is_submission) (if is_online t.client.phase then t.out.put ++ speech.spread stanza else t.out.put)

-- A stanza that the client has to put of itself. Where as many wait as may, the connection is left.
abbrev pub has_to_put : {A X : Type 0} → Speech A X → ClientStep A X → Option (SessionView A) → A → ClientStep A X
has_to_put speech t None stanza = t
has_to_put speech t (Some s) stanza = if is_full s.waiting then ends t Unacknowledged else put_in speech t s stanza false
