-- Messages where the client is online: results of a page, live messages and copies of them, and bounces.
use Rattle.std.specs.Prelude.{ℕ, nat_le, Bool, true, false, ◌&&◌, List, [], ◌∷◌, Option, Some, None, Result, Ok, Err, codes, find, if◌then◌else◌, length, unwrap_or}
use Rattle.std.specs.Str.{bytes_eq}
use Rattle.mam_archive.specs.Ids.{number_read}
use Rattle.cl_handlers.specs.Clients.{ClientStep, ClientView}
use Rattle.cl_handlers.specs.ClientSteps.{tells, with_log}
use Rattle.cl_handlers.specs.declared.events.CatchUpFault.{CatchUpFault}
use Rattle.cl_handlers.specs.declared.events.CatchUpFault.TheVariants.{Overrun}
use Rattle.cl_handlers.specs.declared.events.Event.{Event}
use Rattle.cl_handlers.specs.declared.events.Event.TheVariants.{Bounced, CatchUpRefused}
use Rattle.im_extensions.specs.Carbons.{is_carbon}
use Rattle.im_extensions.specs.ForwardReadings.{carbon_read}
use Rattle.im_extensions.specs.Readings.{stanza_id_read}
use Rattle.im_extensions.specs.declared.carbons.Carbon.{Carbon}
use Rattle.im_extensions.specs.declared.forwarding.Forwarded.{Forwarded}
use Rattle.im_extensions.specs.declared.ids.StanzaId.{StanzaId}
use Rattle.mam_log.specs.LogCalls.{after_hold}
use Rattle.mam_log.specs.Views.{OpenPage, page_for, with_result, without_page}
use Rattle.mam_log.specs.declared.log_entry.LogEntry.{LogEntry}
use Rattle.im_mam.specs.Readings.{result_read}
use Rattle.im_mam.specs.declared.archive_answers.MamResult.{MamResult}
use Rattle.im_messages.specs.Entries.{entry_of}
use Rattle.sm_outbox.specs.Submissions.{is_submission}
use Rattle.im_payload.specs.Names.{archive}
use Rattle.im_payload.specs.declared.fault.ExtFault.{ExtFault}
use Rattle.im_stanza.specs.Errors.{error_in}
use Rattle.im_stanza.specs.Names.{client_ns}
use Rattle.im_stanza.specs.Views.{MessageView}
use Rattle.im_stanza.specs.declared.errors.StanzaError.{StanzaError}
use Rattle.im_stanza.specs.declared.fault.StanzaErrorFault.{StanzaErrorFault}
use Rattle.im_stanza.specs.declared.kinds.MessageKind.{MessageKind}
use Rattle.im_stanza.specs.declared.kinds.MessageKind.TheVariants.{Error}
use Rattle.xml_trees.specs.Readers.{elements_of, first_named}
use Rattle.xml_trees.specs.Trees.{Elem, Nodes}

-- ---- whose a stanza is (XEP-0280, section 11; XEP-0313, section 4.2)

-- from the account's own bare address
abbrev pub is_own : List ℕ → Option (List ℕ) → Bool
is_own bare None = false
is_own bare (Some from) = bytes_eq from bare

-- the same, or without an address
abbrev pub is_own_or_absent : List ℕ → Option (List ℕ) → Bool
is_own_or_absent bare None = true
is_own_or_absent bare (Some from) = bytes_eq from bare

-- ---- results of a page (XEP-0313, section 4.2)

-- the number that an archive id tells, or 0
abbrev pub entry_number : List ℕ → ℕ
entry_number id = unwrap_or (number_read id) 0

abbrev pub logged : List ℕ → ℕ → MessageView → LogEntry
logged id stamp m = record { id = id; entry = entry_of (entry_number id) stamp m }

-- the catch-up ends before its last page
abbrev pub refuses : {A X : Type 0} → ClientStep A X → CatchUpFault → ClientStep A X
refuses t fault = tells (with_log t (without_page t.client.log)) (CatchUpRefused fault)

-- The open page takes as many as were asked for, and one more ends the catch-up. A result of another query is dropped.
abbrev pub result_to : {A X : Type 0} → ClientStep A X → Option OpenPage → LogEntry → ClientStep A X
result_to t None entry = t
result_to t (Some page) entry = if nat_le page.max (length page.results) then refuses t Overrun else with_log t (with_result t.client.log entry)

abbrev pub result_row : {A X : Type 0} → ClientStep A X → Result MamResult ExtFault → ClientStep A X
result_row t (Ok r) = result_to t (page_for r.queryid t.client.log.page) (logged r.id r.forwarded.stamp r.forwarded.message)
result_row t (Err why) = t

-- ---- live messages, and copies of them (XEP-0280, XEP-0359)

-- of the first `stanza-id` that reads and was given by the account itself; else of another
abbrev pub id_given : List ℕ → Result StanzaId ExtFault → Option (List ℕ) → Option (List ℕ)
id_given bare (Ok v) other = if bytes_eq v.by bare then Some v.id else other
id_given bare (Err why) other = other

-- the id that the account's archive gave a message
abbrev pub own_id : List ℕ → List Elem → Option (List ℕ)
own_id bare [] = None
own_id bare (e ∷ rest) = id_given bare (stanza_id_read e) (own_id bare rest)

-- the message that came live: that which is copied, at its moment, or the message itself, whose moment isn't told
abbrev pub itself : MessageView → Forwarded
itself m = record { stamp = 0; message = m }

abbrev pub copied : MessageView → Result Carbon ExtFault → Forwarded
copied m (Ok carbon) = carbon.forwarded
copied m (Err why) = itself m

abbrev pub copied_in : MessageView → Option Elem → Forwarded
copied_in m None = itself m
copied_in m (Some e) = copied m (carbon_read e)

-- a copy is believed of the account's own bare address alone
abbrev pub live_in : List ℕ → MessageView → Forwarded
live_in bare m = if is_own bare m.from then copied_in m (find is_carbon (elements_of m.payload)) else itself m

-- the same, by the copy that was read
abbrev pub live_of : MessageView → Option Carbon → Forwarded
live_of m None = itself m
live_of m (Some carbon) = carbon.forwarded

abbrev pub held_by : {A : Type 0} → ClientView A → Forwarded → Option (List ℕ) → ClientView A
held_by c live None = c
held_by c live (Some id) = record c { log = after_hold c.log (logged id live.stamp live.message) }

abbrev pub held_in : {A : Type 0} → ClientView A → Forwarded → ClientView A
held_in c live = held_by c live (own_id c.account.bare (elements_of live.message.payload))

abbrev pub held_row : {A X : Type 0} → ClientStep A X → Forwarded → ClientStep A X
held_row t live = record t { client = held_in t.client live }

-- ---- bounces (RFC 6120, section 8.3.1)

abbrev pub is_error : MessageKind → Bool
is_error Error = true
is_error _ = false

abbrev pub bounced_by : List ℕ → Result StanzaError StanzaErrorFault → Option Event
bounced_by id (Ok error) = Some (Bounced id error.condition)
bounced_by id (Err why) = None

-- the error that a stanza contains (RFC 6120, section 8.3.2)
abbrev pub error_within : Nodes → Result StanzaError StanzaErrorFault
error_within payload = error_in (first_named client_ns (codes "error") payload)

-- a submission came back
abbrev pub is_bounce : {A : Type 0} → ClientView A → MessageView → Bool
is_bounce c m = is_error m.kind && is_submission c.account.resource m.id c.said

abbrev pub bounce_of : {A : Type 0} → ClientView A → MessageView → Option Event
bounce_of c m = if is_bounce c m then bounced_by m.id (error_within m.payload) else None

abbrev pub tells_where : {A X : Type 0} → ClientStep A X → Option Event → ClientStep A X
tells_where t None = t
tells_where t (Some event) = tells t event

-- ---- the rules of a message, whose stanza is counted: one may be held, and have bounced

abbrev pub other_message : {A X : Type 0} → ClientStep A X → MessageView → ClientStep A X
other_message t m = tells_where (held_row t (live_in t.client.account.bare m)) (bounce_of t.client m)

abbrev pub message_with : {A X : Type 0} → ClientStep A X → MessageView → Option Elem → ClientStep A X
message_with t m None = other_message t m
message_with t m (Some result) =
    if is_own_or_absent t.client.account.bare m.from then result_row t (result_read result) else other_message t m

abbrev pub message_row : {A X : Type 0} → ClientStep A X → MessageView → ClientStep A X
message_row t m = message_with t m (first_named archive (codes "result") m.payload)
