-- A stanza may be counted behind what it does: no rule looks at the count.
use Rattle.std.proofs.Common.{◌≡◌, ℕ, Bool, true, false, List, Option, Some, None, Result, Ok, Err, IsSome, ap, refl, sym, ◌∙◌, if◌then◌else◌, nat_le, length, codes, ◌&&◌, is_some}
use Rattle.std.specs.Option.{option_map}
use Rattle.cl_handlers.specs.AckRows.{request_row}
use Rattle.cl_handlers.specs.Clients.{ClientStep}
use Rattle.cl_core.specs.Counting.{counted, counted_session, management_in}
use Rattle.cl_handlers.specs.MessageRows.{bounce_of, error_within, held_by, held_row, is_own_or_absent, live_in, logged, message_with, other_message, own_id, refuses, result_row, result_to, tells_where}
use Rattle.cl_core.specs.PageRows.{answer_to, answered_page, begins_page, error_of_page, goes_on, iq_by, is_not_found, is_ping, next_queryid, numbered, only_fin, page_answered, page_done, page_ended, page_stanza, requests, restarts, result_of_page}
use Rattle.cl_handlers.specs.SessionRows.{is_stanza}
use Rattle.cl_handlers.specs.Speech.{in_bytes}
use Rattle.cl_core.specs.Steps.{handles, online_in, stanza_row, told_row}
use Rattle.cl_handlers.specs.ClientSteps.{ends, has_to_put, put_in, tells, with_log}
use Rattle.cl_handlers.specs.declared.events.CatchUpFault.TheVariants.{Overrun, Refused}
use Rattle.cl_handlers.specs.declared.events.Event.{Event}
use Rattle.cl_handlers.specs.declared.events.Event.TheVariants.{PageDone}
use Rattle.cl_handlers.specs.declared.events.PeerFault.TheVariants.{Unacknowledged}
use Rattle.im_extensions.specs.StreamManagement.{ack_read, is_management}
use Rattle.im_extensions.specs.declared.forwarding.Forwarded.{Forwarded}
use Rattle.mam_log.specs.LogCalls.{with_restart}
use Rattle.mam_log.specs.Views.{OpenPage, after_fin, end_of, page_for, with_result, without_page}
use Rattle.mam_log.specs.declared.fin.FinFault.{FinFault}
use Rattle.mam_log.specs.declared.fin.PageOutcome.{PageOutcome}
use Rattle.mam_log.specs.declared.fin.PageOutcome.TheVariants.{More, Complete}
use Rattle.mam_log.specs.declared.log_entry.LogEntry.{LogEntry}
use Rattle.im_mam.specs.Readings.{result_read}
use Rattle.im_mam.specs.declared.archive_answers.MamResult.{MamResult}
use Rattle.sm_outbox.specs.Sessions.{SessionView}
use Rattle.sm_outbox.specs.Waiting.{is_full}
use Rattle.mam_pages.specs.declared.fin.Fin.{Fin}
use Rattle.im_payload.specs.Names.{archive}
use Rattle.im_payload.specs.declared.fault.ExtFault.{ExtFault}
use Rattle.im_stanza.specs.Readings.{stanza_of}
use Rattle.im_stanza.specs.Views.{IqView, MessageView}
use Rattle.im_stanza.specs.declared.errors.StanzaError.{StanzaError}
use Rattle.im_stanza.specs.declared.fault.StanzaErrorFault.{StanzaErrorFault}
use Rattle.im_stanza.specs.declared.fault.StanzaFault.{StanzaFault}
use Rattle.im_stanza.specs.declared.kinds.IqKind.{IqKind}
use Rattle.im_stanza.specs.declared.kinds.IqKind.TheVariants as iq
use Rattle.im_stanza.specs.declared.stanzas.Stanza.{Stanza}
use Rattle.im_stanza.specs.declared.stanzas.Stanza.TheVariants.{Message, Presence, Iq}
use Rattle.xml_trees.specs.Readers.{elements_of, first_named}
use Rattle.xml_trees.specs.Trees.{Elem}
use Rattle.xml_writer.specs.Items.{written_item}

abbrev T : Type 0
T = ClientStep (List ℕ) ℕ

abbrev S : Type 0
S = SessionView (List ℕ)

-- ---- messages

either : (c : Bool) (a b x y : T) → a ≡ counted x → b ≡ counted y → (if c then a else b) ≡ counted (if c then x else y)
either true a b x y e f = e
either false a b x y e f = f

result_to_counted : (t : T) (page : Option OpenPage) (entry : LogEntry) → result_to (counted t) page entry ≡ counted (result_to t page entry)
result_to_counted t None entry = refl
result_to_counted t (Some page) entry =
    either (nat_le page.max (length page.results)) (refuses (counted t) Overrun) (with_log (counted t) (with_result t.client.log entry)) (refuses t Overrun) (with_log t (with_result t.client.log entry)) refl refl

result_row_counted : (t : T) (read : Result MamResult ExtFault) → result_row (counted t) read ≡ counted (result_row t read)
result_row_counted t (Ok r) = result_to_counted t (page_for r.queryid t.client.log.page) (logged r.id r.forwarded.stamp r.forwarded.message)
result_row_counted t (Err why) = refl

held_counted : (t : T) (live : Forwarded) (id : Option (List ℕ)) → record (counted t) { client = held_by (counted t).client live id } ≡ counted (record t { client = held_by t.client live id })
held_counted t live None = refl
held_counted t live (Some id) = refl

tells_counted : (t : T) (event : Option Event) → tells_where (counted t) event ≡ counted (tells_where t event)
tells_counted t None = refl
tells_counted t (Some event) = refl

other_counted : (t : T) (m : MessageView) → other_message (counted t) m ≡ counted (other_message t m)
other_counted t m =
    let live = live_in t.client.account.bare m in
    let bounce = bounce_of t.client m in
    ap (λ u. tells_where u bounce) (held_counted t live (own_id t.client.account.bare (elements_of live.message.payload))) ∙ tells_counted (held_row t live) bounce

message_with_counted : (t : T) (m : MessageView) (result : Option Elem) → message_with (counted t) m result ≡ counted (message_with t m result)
message_with_counted t m None = other_counted t m
message_with_counted t m (Some result) =
    either (is_own_or_absent t.client.account.bare m.from) (result_row (counted t) (result_read result)) (other_message (counted t) m) (result_row t (result_read result)) (other_message t m)
    (result_row_counted t (result_read result)) (other_counted t m)

-- ---- what is put

put_counted : (t : T) (o : Option S) (stanza : List ℕ) → has_to_put in_bytes (counted t) (option_map counted_session o) stanza ≡ counted (has_to_put in_bytes t o stanza)
put_counted t None stanza = refl
put_counted t (Some s) stanza =
    either (is_full s.waiting) (ends (counted t) Unacknowledged) (put_in in_bytes (counted t) (counted_session s) stanza false) (ends t Unacknowledged) (put_in in_bytes t s stanza false) refl refl

goes_on_counted : (t : T) (o : Option S) (max : ℕ) → goes_on in_bytes (counted t) (option_map counted_session o) max ≡ counted (goes_on in_bytes t o max)
goes_on_counted t None max = refl
goes_on_counted t (Some s) max =
    either (is_full s.waiting) (ends (counted t) Unacknowledged) (begins_page in_bytes (counted t) (counted_session s) max) (ends t Unacknowledged) (begins_page in_bytes t s max) refl refl

restarts_counted : (t : T) (o : Option S) (max : ℕ) → restarts in_bytes (counted t) (option_map counted_session o) max ≡ counted (restarts in_bytes t o max)
restarts_counted t None max = refl
restarts_counted t (Some s) max =
    let log = with_restart t.client.log (next_queryid t) in
    let stanza = page_stanza in_bytes t None max in
    either (is_full s.waiting) (ends (with_log (counted t) (without_page t.client.log)) Unacknowledged) (requests in_bytes (with_log (numbered (counted t)) log) (counted_session s) stanza false)
    (ends (with_log t (without_page t.client.log)) Unacknowledged) (requests in_bytes (with_log (numbered t) log) s stanza false) refl refl

-- ---- pages

page_done_counted : (t : T) (page : OpenPage) (fin : Fin) (outcome : PageOutcome) → page_done in_bytes (counted t) page fin outcome ≡ counted (page_done in_bytes t page fin outcome)
page_done_counted t page fin Complete = refl
page_done_counted t page fin More = goes_on_counted (tells (with_log t (after_fin t.client.log fin)) (PageDone More)) t.client.session page.max

page_ended_counted : (t : T) (page : OpenPage) (fin : Fin) (end : Result PageOutcome FinFault) → page_ended in_bytes (counted t) page fin end ≡ counted (page_ended in_bytes t page fin end)
page_ended_counted t page fin (Ok outcome) = page_done_counted t page fin outcome
page_ended_counted t page fin (Err why) = refl

result_of_page_counted : (t : T) (page : OpenPage) (told : Option Fin) → result_of_page in_bytes (counted t) page told ≡ counted (result_of_page in_bytes t page told)
result_of_page_counted t page (Some fin) = page_ended_counted t page fin (end_of t.client.log page fin)
result_of_page_counted t page None = refl

error_of_page_counted : (t : T) (page : OpenPage) (read : Result StanzaError StanzaErrorFault) → error_of_page in_bytes (counted t) page read ≡ counted (error_of_page in_bytes t page read)
error_of_page_counted t page (Ok error) =
    either (is_not_found error.condition && is_some page.after) (restarts in_bytes (counted t) (counted t).client.session page.max) (refuses (counted t) (Refused error.condition)) (restarts in_bytes t t.client.session page.max) (refuses t (Refused error.condition))
    (restarts_counted t t.client.session page.max) refl
error_of_page_counted t page (Err why) = refl

answered_counted : (t : T) (q : IqView) (page : OpenPage) (kind : IqKind) → answered_page in_bytes (counted t) q page kind ≡ counted (answered_page in_bytes t q page kind)
answered_counted t q page iq.Result = result_of_page_counted t page (only_fin (elements_of q.payload))
answered_counted t q page iq.Error = error_of_page_counted t page (error_within q.payload)
answered_counted t q page iq.Get = refl
answered_counted t q page iq.Set = refl

page_answered_counted : (t : T) (q : IqView) (page : Option OpenPage) → page_answered in_bytes (counted t) q page ≡ counted (page_answered in_bytes t q page)
page_answered_counted t q None = refl
page_answered_counted t q (Some page) =
    either (is_own_or_absent t.client.account.bare q.from) (answered_page in_bytes (counted t) q page q.kind) (counted t) (answered_page in_bytes t q page q.kind) t
    (answered_counted t q page q.kind) refl

iq_counted : (t : T) (q : IqView) (kind : IqKind) → iq_by in_bytes (counted t) q kind ≡ counted (iq_by in_bytes t q kind)
iq_counted t q iq.Get = put_counted t t.client.session (written_item (answer_to q (is_ping (elements_of q.payload))))
iq_counted t q iq.Set = put_counted t t.client.session (written_item (answer_to q false))
iq_counted t q iq.Result = page_answered_counted t q (page_for q.id t.client.log.page)
iq_counted t q iq.Error = page_answered_counted t q (page_for q.id t.client.log.page)

-- ---- stanzas

stanza_counted : (t : T) (read : Result Stanza StanzaFault) → stanza_row in_bytes (counted t) read ≡ counted (stanza_row in_bytes t read)
stanza_counted t (Ok (Message m)) = message_with_counted t m (first_named archive (codes "result") m.payload)
stanza_counted t (Ok (Iq q)) = iq_counted t q q.kind
stanza_counted t (Ok (Presence p)) = refl
stanza_counted t (Err why) = refl

handled_is : (t : T) (s : S) (e : Elem) → t.client.session ≡ Some s → handles in_bytes t s e ≡ counted t
handled_is t s e there = ap (λ (o : Option S). record t { client = record t.client { session = option_map counted_session o } }) (sym there)

-- what an element does that is no stanza
abbrev other_row : T → S → Elem → T
other_row t s e = if is_management (codes "r") e then request_row in_bytes t s else told_row in_bytes t s (ack_read e)

chosen : (c : Bool) (a b now : T) → c ≡ true → now ≡ a → now ≡ (if c then a else b)
chosen true a b now is done = done
chosen false a b now is done = absurd (cc is)

passed : (c : Bool) (a b now : T) → c ≡ false → now ≡ b → now ≡ (if c then a else b)
passed true a b now is done = absurd (cc is)
passed false a b now is done = done

-- a stanza, whose count comes last
pub online_stanza : (t now : T) (o : Option S) (e : Elem) (read : Result Stanza StanzaFault) → IsSome o → t.client.session ≡ o → is_stanza e ≡ true → stanza_of e ≡ read
    → now ≡ counted (stanza_row in_bytes t read) → now ≡ online_in in_bytes t o e
online_stanza t now None e read some there stanza is done = absurd (cc some)
online_stanza t now (Some s) e read some there stanza is done =
    let counts : now ≡ stanza_row in_bytes (handles in_bytes t s e) (stanza_of e) =
    done ∙ sym (stanza_counted t read) ∙ ap (λ u. stanza_row in_bytes u read) (sym (handled_is t s e there)) ∙ ap (stanza_row in_bytes (handles in_bytes t s e)) (sym is) in
    chosen (is_stanza e) (stanza_row in_bytes (handles in_bytes t s e) (stanza_of e)) (other_row t s e) now stanza counts

-- an element that is none
pub online_other : (t now : T) (o : Option S) (e : Elem) → is_stanza e ≡ false → now ≡ management_in in_bytes t o e → now ≡ online_in in_bytes t o e
online_other t now None e other done = done
online_other t now (Some s) e other done = passed (is_stanza e) (stanza_row in_bytes (handles in_bytes t s e) (stanza_of e)) (other_row t s e) now other done
