-- What an `iq` does where the client is online: the end of a page (XEP-0313, sections 4.2 and 4.3), and requests of the peer.
use Rattle.std.specs.Prelude.{ℕ, Bool, true, false, not, ◌&&◌, List, [], ◌∷◌, ◌++◌, Option, Some, None, Result, Ok, Err, codes, if◌then◌else◌, is_some}
use Rattle.std.specs.Result.{result_ok}
use Rattle.cl_handlers.specs.Clients.{ClientStep}
use Rattle.cl_handlers.specs.MessageRows.{error_within, is_own_or_absent, refuses}
use Rattle.cl_handlers.specs.Speech.{Speech, uttered}
use Rattle.cl_handlers.specs.ClientSteps.{ends, has_put, has_to_put, is_online, queues, tells, with_log}
use Rattle.cl_handlers.specs.declared.events.CatchUpFault.{CatchUpFault}
use Rattle.cl_handlers.specs.declared.events.CatchUpFault.TheVariants.{Mismatch, NoAdvance, Refused, Repeats}
use Rattle.cl_handlers.specs.declared.events.Event.TheVariants.{PageDone}
use Rattle.cl_handlers.specs.declared.events.PeerFault.TheVariants.{Unacknowledged}
use Rattle.mam_log.specs.LogCalls.{with_restart}
use Rattle.mam_log.specs.LogPages.{last_id}
use Rattle.mam_log.specs.Views.{OpenPage, after_fin, end_of, page_for, with_begun, without_page}
use Rattle.mam_log.specs.declared.fin.FinFault.{FinFault}
use Rattle.mam_log.specs.declared.fin.FinFault.TheVariants as fault
use Rattle.mam_log.specs.declared.fin.PageOutcome.{PageOutcome}
use Rattle.mam_log.specs.declared.fin.PageOutcome.TheVariants.{More, Complete}
use Rattle.im_mam.specs.Readings.{fin_read}
use Rattle.sm_outbox.specs.Sessions.{SessionView}
use Rattle.sm_outbox.specs.Submissions.{next_number}
use Rattle.sm_outbox.specs.Waiting.{is_full}
use Rattle.mam_pages.specs.declared.fin.Fin.{Fin}
use Rattle.im_payload.specs.Names.{pings}
use Rattle.im_replies.specs.Management.{request_item}
use Rattle.im_replies.specs.Requests.{EnvelopeView, iq_error_item, result_item}
use Rattle.im_requests.specs.Messages.{page_item, queryid_text}
use Rattle.im_stanza.specs.Views.{IqView}
use Rattle.im_stanza.specs.declared.conditions.Condition.{Condition}
use Rattle.im_stanza.specs.declared.conditions.Condition.TheVariants.{ItemNotFound, Other, ServiceUnavailable}
use Rattle.im_stanza.specs.declared.errors.ErrorKind.TheVariants.{Cancel}
use Rattle.im_stanza.specs.declared.errors.StanzaError.{StanzaError}
use Rattle.im_stanza.specs.declared.fault.StanzaErrorFault.{StanzaErrorFault}
use Rattle.im_stanza.specs.declared.kinds.IqKind.{IqKind}
use Rattle.im_stanza.specs.declared.kinds.IqKind.TheVariants as iq
use Rattle.xml_trees.specs.Readers.{elements_of, is_named}
use Rattle.xml_trees.specs.Trees.{Elem, no_nodes}
use Rattle.xml_writer.specs.Items.{ItemOut}

-- ---- page requests

abbrev pub numbered : {A X : Type 0} → ClientStep A X → ClientStep A X
numbered t = record t { client = record t.client { pages = next_number t.client.pages } }

-- the id of the next query
abbrev pub next_queryid : {A X : Type 0} → ClientStep A X → List ℕ
next_queryid t = queryid_text (next_number t.client.pages)

-- A stanza, and behind it a request for an acknowledgement, where the session is attached (XEP-0198, section 4).
abbrev pub requests : {A X : Type 0} → Speech A X → ClientStep A X → SessionView A → A → Bool → ClientStep A X
requests speech t s stanza is_submission =
    has_put (queues speech t s stanza is_submission)
    (if is_online t.client.phase then (t.out.put ++ speech.spread stanza) ++ uttered speech request_item else t.out.put)

-- the request for a page
abbrev pub page_stanza : {A X : Type 0} → Speech A X → ClientStep A X → Option (List ℕ) → ℕ → A
page_stanza speech t after max = speech.say (page_item (next_queryid t) after max)

-- a page behind the log's last entry, under the next number
abbrev pub begins_page : {A X : Type 0} → Speech A X → ClientStep A X → SessionView A → ℕ → ClientStep A X
begins_page speech t s max =
    requests speech (with_log (numbered t) (with_begun t.client.log (next_queryid t) max)) s (page_stanza speech t (last_id t.client.log.entries) max) false

-- a session stands whose queue has place
abbrev pub has_room : {A : Type 0} → Option (SessionView A) → Bool
has_room None = false
has_room (Some s) = not (is_full s.waiting)

-- Something has to be put, and as many stanzas wait as may: the connection is left, where a session stands.
abbrev pub leaves_full : {A X : Type 0} → ClientStep A X → Option (SessionView A) → ClientStep A X
leaves_full t None = t
leaves_full t (Some s) = ends t Unacknowledged

-- Where as many stanzas wait as may, the connection is left, and no page is open.
abbrev pub goes_on : {A X : Type 0} → Speech A X → ClientStep A X → Option (SessionView A) → ℕ → ClientStep A X
goes_on speech t None max = t
goes_on speech t (Some s) max = if is_full s.waiting then ends t Unacknowledged else begins_page speech t s max

-- ---- the end of a page

abbrev pub catch_up_fault : FinFault → CatchUpFault
catch_up_fault (fault.Mismatch last got) = Mismatch last got
catch_up_fault (fault.Repeats id) = Repeats id
catch_up_fault _ = NoAdvance

abbrev pub page_done : {A X : Type 0} → Speech A X → ClientStep A X → OpenPage → Fin → PageOutcome → ClientStep A X
page_done speech t page fin Complete = tells (with_log t (after_fin t.client.log fin)) (PageDone Complete)
page_done speech t page fin More = goes_on speech (tells (with_log t (after_fin t.client.log fin)) (PageDone More)) t.client.session page.max

abbrev pub page_ended : {A X : Type 0} → Speech A X → ClientStep A X → OpenPage → Fin → Result PageOutcome FinFault → ClientStep A X
page_ended speech t page fin (Ok outcome) = page_done speech t page fin outcome
page_ended speech t page fin (Err why) = refuses t (catch_up_fault why)

-- a result that tells no end of a page, and an error without a condition
abbrev pub nothing_told : CatchUpFault
nothing_told = Refused (Other (codes "undefined-condition"))

-- the end of a page, which is all that a payload has
abbrev pub only_fin : List Elem → Option Fin
only_fin (e ∷ []) = result_ok (fin_read e)
only_fin _ = None

abbrev pub result_of_page : {A X : Type 0} → Speech A X → ClientStep A X → OpenPage → Option Fin → ClientStep A X
result_of_page speech t page (Some fin) = page_ended speech t page fin (end_of t.client.log page fin)
result_of_page speech t page None = refuses t nothing_told

-- ---- an error to a page

abbrev pub is_not_found : Condition → Bool
is_not_found ItemNotFound = true
is_not_found _ = false

-- The archive doesn't keep the entry behind which the page was asked for: it is asked for anew, from the first one that is kept.
abbrev pub restarts : {A X : Type 0} → Speech A X → ClientStep A X → Option (SessionView A) → ℕ → ClientStep A X
restarts speech t None max = t
restarts speech t (Some s) max =
    if is_full s.waiting then ends (with_log t (without_page t.client.log)) Unacknowledged
    else requests speech (with_log (numbered t) (with_restart t.client.log (next_queryid t))) s (page_stanza speech t None max) false

abbrev pub error_of_page : {A X : Type 0} → Speech A X → ClientStep A X → OpenPage → Result StanzaError StanzaErrorFault → ClientStep A X
error_of_page speech t page (Ok error) =
    if is_not_found error.condition && is_some page.after then restarts speech t t.client.session page.max else refuses t (Refused error.condition)
error_of_page speech t page (Err why) = refuses t nothing_told

-- ---- requests of the peer (RFC 6120, section 8.2.3)

-- the payload is one `ping` (XEP-0199, section 4)
abbrev pub is_ping : List Elem → Bool
is_ping (e ∷ []) = is_named pings (codes "ping") e
is_ping _ = false

abbrev pub answer_envelope : IqView → EnvelopeView
answer_envelope q = record { from = None; to = q.from; id = q.id }

abbrev pub unavailable : StanzaError
unavailable = record { kind = Cancel; condition = ServiceUnavailable }

abbrev pub answer_to : IqView → Bool → ItemOut
answer_to q true = result_item (answer_envelope q) no_nodes
answer_to q false = iq_error_item (answer_envelope q) unavailable

-- ---- the rules of an `iq`, whose stanza is counted

abbrev pub answered_page : {A X : Type 0} → Speech A X → ClientStep A X → IqView → OpenPage → IqKind → ClientStep A X
answered_page speech t q page iq.Result = result_of_page speech t page (only_fin (elements_of q.payload))
answered_page speech t q page iq.Error = error_of_page speech t page (error_within q.payload)
answered_page speech t q page iq.Get = t
answered_page speech t q page iq.Set = t

abbrev pub page_answered : {A X : Type 0} → Speech A X → ClientStep A X → IqView → Option OpenPage → ClientStep A X
page_answered speech t q None = t
page_answered speech t q (Some page) = if is_own_or_absent t.client.account.bare q.from then answered_page speech t q page q.kind else t

abbrev pub iq_by : {A X : Type 0} → Speech A X → ClientStep A X → IqView → IqKind → ClientStep A X
iq_by speech t q iq.Get = has_to_put speech t t.client.session (speech.say (answer_to q (is_ping (elements_of q.payload))))
iq_by speech t q iq.Set = has_to_put speech t t.client.session (speech.say (answer_to q false))
iq_by speech t q iq.Result = page_answered speech t q (page_for q.id t.client.log.page)
iq_by speech t q iq.Error = page_answered speech t q (page_for q.id t.client.log.page)

abbrev pub iq_row : {A X : Type 0} → Speech A X → ClientStep A X → IqView → ClientStep A X
iq_row speech t q = iq_by speech t q q.kind
