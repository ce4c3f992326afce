-- A law of parts holds of the rows where a client is online.
use Rattle.std.proofs.Common.{◌≡◌, ℕ, Bool, true, false, ◌&&◌, List, Option, Some, None, Result, Ok, Err, codes, is_some, nat_le, length, if◌then◌else◌, refl}
use Rattle.std.specs.Str.{bytes_eq}
use Rattle.cl_core.specs.PageRows.{answer_to, answered_page, begins_page, error_of_page, goes_on, iq_by, is_not_found, is_ping, next_queryid, numbered, only_fin, page_answered, page_done, page_ended, page_stanza, requests, restarts, result_of_page}
use Rattle.cl_core.specs.Steps.{handles, online_in, stanza_row, told_row}
use Rattle.law_client.proofs.LoginWalk.{chosen, counted_too_high, ended, told}
use Rattle.law_client.proofs.LogParts.{LogPart, adds, asks_anew, breaks_off, holds, takes}
use Rattle.law_client.proofs.Parts.{IsLaw, acks, handled, logs, numbers, opens, outs, states, waits}
use Rattle.cl_handlers.specs.AckRows.{ack_row, acknowledges, counts_too_high, request_row}
use Rattle.cl_handlers.specs.Clients.{ClientStep}
use Rattle.cl_handlers.specs.MessageRows.{bounce_of, error_within, held_by, held_row, is_own_or_absent, live_in, logged, message_with, other_message, own_id, refuses, result_row, result_to, tells_where}
use Rattle.cl_handlers.specs.SessionRows.{is_stanza}
use Rattle.cl_handlers.specs.Speech.{Speech, Stated}
use Rattle.cl_handlers.specs.ClientSteps.{ends, has_to_put, notes, put_in, queues, tells, with_log}
use Rattle.cl_handlers.specs.declared.events.CatchUpFault.{CatchUpFault}
use Rattle.cl_handlers.specs.declared.events.CatchUpFault.TheVariants.{Overrun, Refused}
use Rattle.cl_handlers.specs.declared.events.Event.{Event}
use Rattle.cl_handlers.specs.declared.events.Event.TheVariants.{PageDone}
use Rattle.cl_handlers.specs.declared.events.PeerFault.TheVariants.{Unacknowledged}
use Rattle.im_extensions.specs.StreamManagement.{ack_read, is_management}
use Rattle.im_extensions.specs.declared.forwarding.Forwarded.{Forwarded}
use Rattle.im_extensions.specs.declared.stream_management.Ack.{Ack}
use Rattle.mam_log.specs.LogCalls.{after_hold, with_restart}
use Rattle.mam_log.specs.LogPages.{last_id}
use Rattle.mam_log.specs.Views.{LogView, OpenPage, after_fin, end_of, page_for, with_begun, with_result, without_page}
use Rattle.mam_log.specs.declared.fin.FinFault.{FinFault}
use Rattle.mam_log.specs.declared.fin.PageOutcome.{PageOutcome}
use Rattle.mam_log.specs.declared.fin.PageOutcome.TheVariants.{More, Complete}
use Rattle.mam_log.specs.declared.log_entry.LogEntry.{LogEntry}
use Rattle.im_mam.specs.Readings.{result_read}
use Rattle.im_mam.specs.declared.archive_answers.MamResult.{MamResult}
use Rattle.sm_outbox.specs.Sessions.{SessionView}
use Rattle.sm_outbox.specs.Submissions.{next_number}
use Rattle.sm_outbox.specs.Waiting.{is_full, is_too_high, too_high}
use Rattle.mam_pages.specs.declared.fin.Fin.{Fin}
use Rattle.im_payload.specs.Names.{archive}
use Rattle.im_payload.specs.declared.fault.ExtFault.{ExtFault}
use Rattle.im_stanza.specs.Readings.{stanza_of}
use Rattle.im_stanza.specs.Views.{IqView, MessageView}
use Rattle.im_stanza.specs.declared.errors.StanzaError.{StanzaError}
use Rattle.im_stanza.specs.declared.fault.StanzaErrorFault.{StanzaErrorFault}
use Rattle.im_stanza.specs.declared.fault.StanzaFault.{StanzaFault}
use Rattle.im_stanza.specs.declared.kinds.IqKind.{IqKind}
use Rattle.im_stanza.specs.declared.kinds.IqKind.TheVariants as iq
use Rattle.im_stanza.specs.declared.stanzas.Stanza.{Stanza}
use Rattle.im_stanza.specs.declared.stanzas.Stanza.TheVariants.{Message, Presence, Iq}
use Rattle.xml_trees.specs.Readers.{elements_of, first_named}
use Rattle.xml_trees.specs.Trees.{Elem}

-- ---- the open page

picked : (c : Bool) (p page : OpenPage) → (if c then Some p else None) ≡ Some page → Some p ≡ Some page
picked true p page is = is
picked false p page is = absurd (cc is)

-- a page with a query id is the one that is open
pub page_open : (queryid : List ℕ) (o : Option OpenPage) (page : OpenPage) → page_for queryid o ≡ Some page → o ≡ Some page
page_open queryid None page is = absurd (cc is)
page_open queryid (Some p) page is = picked (bytes_eq p.queryid queryid) p page is

pub logged_by : {A X : Type 0} {speech : Speech A X} {P : ClientStep A X → ClientStep A X → Type 0} → IsLaw speech P → (t : ClientStep A X) (log : LogView) → LogPart t.client.log log → P t (with_log t log)
logged_by law t log part = law.parts t (with_log t log) (logs log part refl)

-- ---- messages

refused : {A X : Type 0} {speech : Speech A X} {P : ClientStep A X → ClientStep A X → Type 0} → IsLaw speech P → (t : ClientStep A X) (fault : CatchUpFault) → P t (refuses t fault)
refused law t fault =
    let broken = with_log t (without_page t.client.log) in
    law.joins t broken (refuses t fault) (logged_by law t (without_page t.client.log) (breaks_off refl)) (law.parts broken (refuses t fault) (outs refl refl))

result_by : {A X : Type 0} {speech : Speech A X} {P : ClientStep A X → ClientStep A X → Type 0} → IsLaw speech P → (t : ClientStep A X) (queryid : List ℕ) (o : Option OpenPage) (entry : LogEntry) → page_for queryid t.client.log.page ≡ o → P t (result_to t o entry)
result_by law t queryid None entry is = law.stays t
result_by {P = P} law t queryid (Some page) entry is =
    chosen P (nat_le page.max (length page.results)) t (refuses t Overrun) (with_log t (with_result t.client.log entry)) (λ _. refused law t Overrun)
    (λ position. logged_by law t (with_result t.client.log entry) (adds page entry (page_open queryid t.client.log.page page is) position refl))

resulted : {A X : Type 0} {speech : Speech A X} {P : ClientStep A X → ClientStep A X → Type 0} → IsLaw speech P → (t : ClientStep A X) (read : Result MamResult ExtFault) → P t (result_row t read)
resulted law t (Ok r) = result_by law t r.queryid (page_for r.queryid t.client.log.page) (logged r.id r.forwarded.stamp r.forwarded.message) refl
resulted law t (Err why) = law.stays t

held_with : {A X : Type 0} {speech : Speech A X} {P : ClientStep A X → ClientStep A X → Type 0} → IsLaw speech P → (t : ClientStep A X) (live : Forwarded) (id : Option (List ℕ)) → P t (record t { client = held_by t.client live id })
held_with law t live None = law.stays t
held_with law t live (Some id) = logged_by law t (after_hold t.client.log (logged id live.stamp live.message)) (holds (logged id live.stamp live.message) refl)

told_where : {A X : Type 0} {speech : Speech A X} {P : ClientStep A X → ClientStep A X → Type 0} → IsLaw speech P → (t : ClientStep A X) (event : Option Event) → P t (tells_where t event)
told_where law t None = law.stays t
told_where law t (Some event) = told law t event

other_by : {A X : Type 0} {speech : Speech A X} {P : ClientStep A X → ClientStep A X → Type 0} → IsLaw speech P → (t : ClientStep A X) (m : MessageView) → P t (other_message t m)
other_by law t m =
    let live = live_in t.client.account.bare m in
    law.joins t (held_row t live) (other_message t m) (held_with law t live (own_id t.client.account.bare (elements_of live.message.payload))) (told_where law (held_row t live) (bounce_of t.client m))

message_by : {A X : Type 0} {speech : Speech A X} {P : ClientStep A X → ClientStep A X → Type 0} → IsLaw speech P → (t : ClientStep A X) (m : MessageView) (result : Option Elem) → P t (message_with t m result)
message_by law t m None = other_by law t m
message_by {P = P} law t m (Some result) =
    chosen P (is_own_or_absent t.client.account.bare m.from) t (result_row t (result_read result)) (other_message t m) (λ _. resulted law t (result_read result)) (λ _. other_by law t m)

-- ---- what is put

pub put_by : {A X : Type 0} {speech : Speech A X} {P : ClientStep A X → ClientStep A X → Type 0} → IsLaw speech P → (t : ClientStep A X) (o : Option (SessionView A)) (stanza : A) → t.client.session ≡ o → P t (has_to_put speech t o stanza)
put_by law t None stanza is = law.stays t
put_by {speech = speech} {P = P} law t (Some s) stanza is =
    chosen P (is_full s.waiting) t (ends t Unacknowledged) (put_in speech t s stanza false) (λ _. ended law t Unacknowledged)
    (λ position. law.joins t (queues speech t s stanza false) (put_in speech t s stanza false) (law.parts t (queues speech t s stanza false) (waits s stanza is position refl))
    (law.parts (queues speech t s stanza false) (put_in speech t s stanza false) (outs refl refl)))

pub requested : {A X : Type 0} {speech : Speech A X} {P : ClientStep A X → ClientStep A X → Type 0} → IsLaw speech P → (t : ClientStep A X) (s : SessionView A) (stanza : A) → t.client.session ≡ Some s → is_full s.waiting ≡ false → P t (requests speech t s stanza false)
requested {speech = speech} law t s stanza is position =
    law.joins t (queues speech t s stanza false) (requests speech t s stanza false) (law.parts t (queues speech t s stanza false) (waits s stanza is position refl))
    (law.parts (queues speech t s stanza false) (requests speech t s stanza false) (outs refl refl))

pub page_begun : {A X : Type 0} {speech : Speech A X} {P : ClientStep A X → ClientStep A X → Type 0} → IsLaw speech P → (t : ClientStep A X) (s : SessionView A) (max : ℕ) → t.client.session ≡ Some s → is_full s.waiting ≡ false → P t (begins_page speech t s max)
page_begun {speech = speech} law t s max is position =
    let counted = numbered t in
    let opened = with_log counted (with_begun t.client.log (next_queryid t) max) in
    law.joins t counted (begins_page speech t s max) (law.parts t counted (numbers (next_number t.client.pages) refl))
    (law.joins counted opened (begins_page speech t s max) (law.parts counted opened (opens s (next_queryid t) max is refl))
    (requested law opened s (page_stanza speech t (last_id t.client.log.entries) max) is position))

gone_on : {A X : Type 0} {speech : Speech A X} {P : ClientStep A X → ClientStep A X → Type 0} → IsLaw speech P → (t : ClientStep A X) (o : Option (SessionView A)) (max : ℕ) → t.client.session ≡ o → P t (goes_on speech t o max)
gone_on law t None max is = law.stays t
gone_on {speech = speech} {P = P} law t (Some s) max is =
    chosen P (is_full s.waiting) t (ends t Unacknowledged) (begins_page speech t s max) (λ _. ended law t Unacknowledged) (λ position. page_begun law t s max is position)

restarted_by : {A X : Type 0} {speech : Speech A X} {P : ClientStep A X → ClientStep A X → Type 0} → IsLaw speech P → (t : ClientStep A X) (o : Option (SessionView A)) (max : ℕ) → t.client.session ≡ o → P t (restarts speech t o max)
restarted_by law t None max is = law.stays t
restarted_by {speech = speech} {P = P} law t (Some s) max is =
    let broken = with_log t (without_page t.client.log) in
    let counted = numbered t in
    let anew = with_log counted (with_restart t.client.log (next_queryid t)) in
    chosen P (is_full s.waiting) t (ends broken Unacknowledged) (requests speech anew s (page_stanza speech t None max) false)
    (λ _. law.joins t broken (ends broken Unacknowledged) (logged_by law t (without_page t.client.log) (breaks_off refl)) (ended law broken Unacknowledged))
    (λ position. law.joins t counted (requests speech anew s (page_stanza speech t None max) false) (law.parts t counted (numbers (next_number t.client.pages) refl))
    (law.joins counted anew (requests speech anew s (page_stanza speech t None max) false) (logged_by law counted (with_restart t.client.log (next_queryid t)) (asks_anew (next_queryid t) refl))
    (requested law anew s (page_stanza speech t None max) is position)))

-- ---- pages

done_by : {A X : Type 0} {speech : Speech A X} {P : ClientStep A X → ClientStep A X → Type 0} → IsLaw speech P → (t : ClientStep A X) (page : OpenPage) (fin : Fin) (outcome : PageOutcome) → t.client.log.page ≡ Some page → end_of t.client.log page fin ≡ Ok outcome
    → P t (page_done speech t page fin outcome)
done_by {speech = speech} law t page fin Complete opened judged =
    let taken = with_log t (after_fin t.client.log fin) in
    law.joins t taken (page_done speech t page fin Complete) (logged_by law t (after_fin t.client.log fin) (takes page fin Complete opened judged refl)) (told law taken (PageDone Complete))
done_by {speech = speech} law t page fin More opened judged =
    let taken = with_log t (after_fin t.client.log fin) in
    let noted = tells taken (PageDone More) in
    law.joins t taken (page_done speech t page fin More) (logged_by law t (after_fin t.client.log fin) (takes page fin More opened judged refl))
    (law.joins taken noted (page_done speech t page fin More) (told law taken (PageDone More)) (gone_on law noted t.client.session page.max refl))

ended_page : {A X : Type 0} {speech : Speech A X} {P : ClientStep A X → ClientStep A X → Type 0} → IsLaw speech P → (t : ClientStep A X) (page : OpenPage) (fin : Fin) (end : Result PageOutcome FinFault) → t.client.log.page ≡ Some page → end_of t.client.log page fin ≡ end
    → P t (page_ended speech t page fin end)
ended_page law t page fin (Ok outcome) opened judged = done_by law t page fin outcome opened judged
ended_page law t page fin (Err why) opened judged = refused law t _

result_of : {A X : Type 0} {speech : Speech A X} {P : ClientStep A X → ClientStep A X → Type 0} → IsLaw speech P → (t : ClientStep A X) (page : OpenPage) (fin : Option Fin) → t.client.log.page ≡ Some page → P t (result_of_page speech t page fin)
result_of law t page (Some fin) opened = ended_page law t page fin (end_of t.client.log page fin) opened refl
result_of law t page None opened = refused law t _

error_of : {A X : Type 0} {speech : Speech A X} {P : ClientStep A X → ClientStep A X → Type 0} → IsLaw speech P → (t : ClientStep A X) (page : OpenPage) (read : Result StanzaError StanzaErrorFault) → P t (error_of_page speech t page read)
error_of {speech = speech} {P = P} law t page (Ok error) =
    chosen P (is_not_found error.condition && is_some page.after) t (restarts speech t t.client.session page.max) (refuses t (Refused error.condition))
    (λ _. restarted_by law t t.client.session page.max refl) (λ _. refused law t (Refused error.condition))
error_of law t page (Err why) = refused law t _

answered_by : {A X : Type 0} {speech : Speech A X} {P : ClientStep A X → ClientStep A X → Type 0} → IsLaw speech P → (t : ClientStep A X) (q : IqView) (page : OpenPage) (kind : IqKind) → t.client.log.page ≡ Some page → P t (answered_page speech t q page kind)
answered_by law t q page iq.Result opened = result_of law t page (only_fin (elements_of q.payload)) opened
answered_by law t q page iq.Error opened = error_of law t page (error_within q.payload)
answered_by law t q page iq.Get opened = law.stays t
answered_by law t q page iq.Set opened = law.stays t

page_by : {A X : Type 0} {speech : Speech A X} {P : ClientStep A X → ClientStep A X → Type 0} → IsLaw speech P → (t : ClientStep A X) (q : IqView) (o : Option OpenPage) → page_for q.id t.client.log.page ≡ o → P t (page_answered speech t q o)
page_by law t q None is = law.stays t
page_by {speech = speech} {P = P} law t q (Some page) is =
    chosen P (is_own_or_absent t.client.account.bare q.from) t (answered_page speech t q page q.kind) t
    (λ _. answered_by law t q page q.kind (page_open q.id t.client.log.page page is)) (λ _. law.stays t)

-- ---- stanzas

iq_kind : {A X : Type 0} {speech : Speech A X} {P : ClientStep A X → ClientStep A X → Type 0} → IsLaw speech P → (t : ClientStep A X) (q : IqView) (kind : IqKind) → P t (iq_by speech t q kind)
iq_kind {speech = speech} law t q iq.Get = put_by law t t.client.session (speech.say (answer_to q (is_ping (elements_of q.payload)))) refl
iq_kind {speech = speech} law t q iq.Set = put_by law t t.client.session (speech.say (answer_to q false)) refl
iq_kind law t q iq.Result = page_by law t q (page_for q.id t.client.log.page) refl
iq_kind law t q iq.Error = page_by law t q (page_for q.id t.client.log.page) refl

stanza_by : {A X : Type 0} {speech : Speech A X} {P : ClientStep A X → ClientStep A X → Type 0} → IsLaw speech P → (t : ClientStep A X) (read : Result Stanza StanzaFault) → P t (stanza_row speech t read)
stanza_by law t (Ok (Message m)) = message_by law t m (first_named archive (codes "result") m.payload)
stanza_by law t (Ok (Iq q)) = iq_kind law t q q.kind
stanza_by law t (Ok (Presence p)) = law.stays t
stanza_by law t (Err why) = law.stays t

-- ---- counts

ack_by : {A X : Type 0} {speech : Speech A X} {P : ClientStep A X → ClientStep A X → Type 0} → IsLaw speech P → (t : ClientStep A X) (s : SessionView A) (h : ℕ) → t.client.session ≡ Some s → P t (ack_row speech t s h)
ack_by {speech = speech} {P = P} law t s h is =
    chosen P (is_too_high s.waiting h) t (counts_too_high speech t (too_high s.waiting h)) (acknowledges speech t s h) (λ _. counted_too_high law t (too_high s.waiting h))
    (λ low. law.parts t (acknowledges speech t s h) (acks s h is low refl))

told_by : {A X : Type 0} {speech : Speech A X} {P : ClientStep A X → ClientStep A X → Type 0} → IsLaw speech P → (t : ClientStep A X) (s : SessionView A) (read : Result Ack ExtFault) → t.client.session ≡ Some s → P t (told_row speech t s read)
told_by law t s (Ok ack) is = ack_by law t s ack.h is
told_by law t s (Err why) is = law.stays t

request_by : {A X : Type 0} {speech : Speech A X} {P : ClientStep A X → ClientStep A X → Type 0} → IsLaw speech P → (t : ClientStep A X) (s : SessionView A) → t.client.session ≡ Some s → P t (request_row speech t s)
request_by {speech = speech} law t s is =
    let stated = notes speech t (Stated s.waiting.handled) in
    law.joins t stated (request_row speech t s) (law.parts t stated (states s is refl)) (law.parts stated (request_row speech t s) (outs refl refl))

-- ---- an element

pub online_by : {A X : Type 0} {speech : Speech A X} {P : ClientStep A X → ClientStep A X → Type 0} → IsLaw speech P → (t : ClientStep A X) (o : Option (SessionView A)) (e : Elem) → t.client.session ≡ o → P t (online_in speech t o e)
online_by law t None e is = law.stays t
online_by {speech = speech} {P = P} law t (Some s) e is =
    let counted = handles speech t s e in
    chosen P (is_stanza e) t (stanza_row speech counted (stanza_of e)) _
    (λ _. law.joins t counted (stanza_row speech counted (stanza_of e)) (law.parts t counted (handled s e is refl)) (stanza_by law counted (stanza_of e)))
    (λ _. chosen P (is_management (codes "r") e) t (request_row speech t s) (told_row speech t s (ack_read e)) (λ _. request_by law t s is) (λ _. told_by law t s (ack_read e) is))
