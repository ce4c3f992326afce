-- What a client puts, tells and notes down of an item comes behind what it did before, and doesn't hang on that.
use Rattle.std.proofs.Common.{◌≡◌, ℕ, Bool, true, false, ◌&&◌, cond, List, [], ◌∷◌, ◌++◌, Option, Some, None, Result, Ok, Err, codes, is_some, nat_le, length, refl, sym, ap, ap₂, ◌∙◌, append_assoc, append-nil}
use Rattle.sm_acks.specs.declared.end.TooHigh.{TooHigh}
use Rattle.cl_core.specs.PageRows.{answer_to, answered_page, begins_page, catch_up_fault, error_of_page, goes_on, iq_by, is_not_found, is_ping, next_queryid, nothing_told, numbered, only_fin, page_answered, page_done, page_ended, page_stanza, requests, restarts, result_of_page}
use Rattle.cl_core.specs.Steps.{connected_step, element_row, handles, item_step, online_in, stanza_row, stream_condition, told_row}
use Rattle.cl_login.specs.LoginRows as rows
use Rattle.cl_login.specs.Puts.{Row}
use Rattle.cl_login.specs.declared.answers.Next.{Next}
use Rattle.cl_login.specs.declared.answers.Next.TheVariants as next
use Rattle.cl_handlers.specs.AckRows.{ack_row, acknowledges, counts_too_high, request_row}
use Rattle.cl_handlers.specs.Clients.{ClientStep, OutView}
use Rattle.cl_handlers.specs.LoginSteps as login
use Rattle.cl_handlers.specs.LoginSteps.{follows, header_row, other_element, peer_fault}
use Rattle.cl_handlers.specs.MessageRows.{bounce_of, error_within, held_row, is_own_or_absent, live_in, logged, message_with, other_message, refuses, result_row, result_to, tells_where}
use Rattle.cl_handlers.specs.SessionRows.{asks, attaches, begins, begins_epoch, binding_row, binds, can_resume, enabling_with, failed_row, features2_with, first_stanzas, is_stanza, queue_in, resent, resumed_in, resumes_or_binds, resuming_with, tells_bound}
use Rattle.cl_handlers.specs.Speech.{Note, Acknowledged, Counted, Ended, Epoch, Handled, Put, Stated, in_items, uttered, uttered_where}
use Rattle.cl_handlers.specs.ClientSteps.{drops, dropped, ends, goes, has_put, has_to_put, is_apart, is_online, left, notes, put_in, puts, queues, tells, with_log, with_session}
use Rattle.cl_handlers.specs.declared.events.CatchUpFault.{CatchUpFault}
use Rattle.cl_handlers.specs.declared.events.CatchUpFault.TheVariants.{Overrun, Refused}
use Rattle.cl_handlers.specs.declared.events.Event.{Event}
use Rattle.cl_handlers.specs.declared.events.Event.TheVariants.{Acked, Bound, CatchUpRefused, Ended as EndedEvent, PageDone, ResumeFailed, Resumed}
use Rattle.cl_handlers.specs.declared.events.PeerFault.{PeerFault}
use Rattle.cl_handlers.specs.declared.events.PeerFault.TheVariants as peer
use Rattle.cl_handlers.specs.declared.phase.Phase.{Phase}
use Rattle.cl_handlers.specs.declared.phase.Phase.TheVariants as phase
use Rattle.im_extensions.specs.Readings.{enabled_read, resumption_read}
use Rattle.im_extensions.specs.StreamManagement.{ack_read, is_management}
use Rattle.im_extensions.specs.declared.stream_management.Ack.{Ack}
use Rattle.im_extensions.specs.declared.stream_management.Enabled.{Enabled}
use Rattle.im_login.specs.Features.{features_read}
use Rattle.im_login.specs.declared.features.Features.{Features}
use Rattle.xml_framer.specs.declared.items.Item.{Item}
use Rattle.xml_framer.specs.declared.items.Item.TheVariants.{Header, Element, Footer}
use Rattle.sim_3_images.specs.EncodingsCores.{Adds}
use Rattle.sim_3_items.specs.ItemWorlds.{silent_client_step}
use Rattle.mam_log.specs.LogCalls.{with_restart}
use Rattle.mam_log.specs.LogPages.{last_id}
use Rattle.mam_log.specs.Views.{OpenPage, after_fin, end_of, page_for, with_begun, with_result, without_page}
use Rattle.mam_log.specs.declared.fin.FinFault.{FinFault}
use Rattle.mam_log.specs.declared.fin.PageOutcome.{PageOutcome}
use Rattle.mam_log.specs.declared.fin.PageOutcome.TheVariants.{More, Complete}
use Rattle.mam_log.specs.declared.log_entry.LogEntry.{LogEntry}
use Rattle.im_mam.specs.Readings.{result_read}
use Rattle.im_mam.specs.declared.archive_answers.MamResult.{MamResult}
use Rattle.sm_outbox.specs.Sessions.{SessionView}
use Rattle.sm_outbox.specs.Submissions.{acknowledged, next_number}
use Rattle.sm_outbox.specs.Waiting.{acked, counted_in, is_full, is_too_high, submissions_to, too_high}
use Rattle.sm_acks.specs.Counters.{ahead}
use Rattle.mam_pages.specs.declared.fin.Fin.{Fin}
use Rattle.im_payload.specs.Names.{archive}
use Rattle.im_payload.specs.declared.fault.ExtFault.{ExtFault}
use Rattle.im_replies.specs.Management.{ack_item, request_item}
use Rattle.im_replies.specs.Streams.{too_high_item}
use Rattle.im_login.specs.Readings.{failure_read}
use Rattle.im_requests.specs.Sessions.{available_item, bind_item, carbons_item, enable_item, resume_item}
use Rattle.im_stanza.specs.Names.{streams_ns}
use Rattle.im_stanza.specs.Readings.{stanza_of}
use Rattle.im_stanza.specs.Views.{IqView, MessageView}
use Rattle.im_stanza.specs.declared.errors.StanzaError.{StanzaError}
use Rattle.im_stanza.specs.declared.fault.StanzaErrorFault.{StanzaErrorFault}
use Rattle.im_stanza.specs.declared.fault.StanzaFault.{StanzaFault}
use Rattle.im_stanza.specs.declared.kinds.IqKind.{IqKind}
use Rattle.im_stanza.specs.declared.kinds.IqKind.TheVariants as iq
use Rattle.im_stanza.specs.declared.stanzas.Stanza.{Stanza}
use Rattle.im_stanza.specs.declared.stanzas.Stanza.TheVariants.{Message, Presence, Iq}
use Rattle.xml_trees.specs.Readers.{elements_of, first_named, is_named}
use Rattle.xml_trees.specs.Trees.{Elem}
use Rattle.xml_writer.specs.Items.{Closing, ItemOut}

abbrev Rendered : Type 0
Rendered = ClientStep ItemOut ItemOut

abbrev Did : Type 0
Did = OutView ItemOut ItemOut

abbrev following : Did → Rendered → Rendered
following o t = record { client = t.client; out = record { put = o.put ++ t.out.put; events = o.events ++ t.out.events; notes = o.notes ++ t.out.notes } }

-- ---- what is done

puts_b : (o : Did) (t : Rendered) (more : List ItemOut) → puts (following o t) more ≡ following o (puts t more)
puts_b o t more = ap (λ l. record { client = t.client; out = record { put = l; events = o.events ++ t.out.events; notes = o.notes ++ t.out.notes } }) (append_assoc o.put t.out.put more)

tells_b : (o : Did) (t : Rendered) (e : Event) → tells (following o t) e ≡ following o (tells t e)
tells_b o t e = ap (λ l. record { client = t.client; out = record { put = o.put ++ t.out.put; events = l; notes = o.notes ++ t.out.notes } }) (append_assoc o.events t.out.events (e ∷ []))

notes_b : (o : Did) (t : Rendered) (n : Note ItemOut) → notes in_items (following o t) n ≡ following o (notes in_items t n)
notes_b o t n = ap (λ l. record { client = t.client; out = record { put = o.put ++ t.out.put; events = o.events ++ t.out.events; notes = l } }) (append_assoc o.notes t.out.notes (n ∷ []))

ends_b : (o : Did) (t : Rendered) (f : PeerFault) → ends (following o t) f ≡ following o (ends t f)
ends_b o t f = tells_b o (left t) (EndedEvent f)

either_b : (o : Did) (b : Bool) (x y u v : Rendered) → x ≡ following o u → y ≡ following o v → cond b x y ≡ following o (cond b u v)
either_b o true x y u v here there = here
either_b o false x y u v here there = there

drops_b : (o : Did) (t : Rendered) → drops in_items (following o t) ≡ following o (drops in_items t)
drops_b o t = notes_b o (record t { client = dropped t.client }) Ended

asks_b : (o : Did) (t : Rendered) (item : ItemOut) (p : Phase) → asks in_items (following o t) item p ≡ following o (asks in_items t item p)
asks_b o t item p = ap (λ u. goes u p) (puts_b o t (uttered in_items item))

-- ---- what is put in a session

put_as : (o : Did) (t : Rendered) (s : SessionView ItemOut) (stanza : ItemOut) (kind : Bool) (x y : List ItemOut) → x ≡ o.put ++ y → has_put (queues in_items (following o t) s stanza kind) x ≡ following o (has_put (queues in_items t s stanza kind) y)
put_as o t s stanza kind x y e =
    ap₂ (λ p n. record { client = (queues in_items t s stanza kind).client; out = record { put = p; events = o.events ++ t.out.events; notes = n } }) e (append_assoc o.notes t.out.notes (Put stanza ∷ []))

put_in_b : (o : Did) (t : Rendered) (s : SessionView ItemOut) (stanza : ItemOut) (kind : Bool) → put_in in_items (following o t) s stanza kind ≡ following o (put_in in_items t s stanza kind)
put_in_b o t s stanza kind =
    put_as o t s stanza kind (cond (is_online t.client.phase) ((o.put ++ t.out.put) ++ stanza ∷ []) (o.put ++ t.out.put)) (cond (is_online t.client.phase) (t.out.put ++ stanza ∷ []) t.out.put) (by (is_online t.client.phase))
  where
    by : (b : Bool) → cond b ((o.put ++ t.out.put) ++ stanza ∷ []) (o.put ++ t.out.put) ≡ o.put ++ cond b (t.out.put ++ stanza ∷ []) t.out.put
    by true = append_assoc o.put t.out.put (stanza ∷ [])
    by false = refl

has_to_put_b : (o : Did) (t : Rendered) (s : Option (SessionView ItemOut)) (stanza : ItemOut) → has_to_put in_items (following o t) s stanza ≡ following o (has_to_put in_items t s stanza)
has_to_put_b o t None stanza = refl
has_to_put_b o t (Some s) stanza =
    either_b o (is_full s.waiting) (ends (following o t) peer.Unacknowledged) (put_in in_items (following o t) s stanza false) (ends t peer.Unacknowledged) (put_in in_items t s stanza false) (ends_b o t peer.Unacknowledged) (put_in_b o t s stanza false)

requests_b : (o : Did) (t : Rendered) (s : SessionView ItemOut) (stanza : ItemOut) (kind : Bool) → requests in_items (following o t) s stanza kind ≡ following o (requests in_items t s stanza kind)
requests_b o t s stanza kind =
    put_as o t s stanza kind (cond (is_online t.client.phase) (((o.put ++ t.out.put) ++ stanza ∷ []) ++ request_item ∷ []) (o.put ++ t.out.put)) (cond (is_online t.client.phase) ((t.out.put ++ stanza ∷ []) ++ request_item ∷ []) t.out.put) (by (is_online t.client.phase))
  where
    by : (b : Bool) → cond b (((o.put ++ t.out.put) ++ stanza ∷ []) ++ request_item ∷ []) (o.put ++ t.out.put) ≡ o.put ++ cond b ((t.out.put ++ stanza ∷ []) ++ request_item ∷ []) t.out.put
    by true = ap (λ l. l ++ request_item ∷ []) (append_assoc o.put t.out.put (stanza ∷ [])) ∙ append_assoc o.put (t.out.put ++ stanza ∷ []) (request_item ∷ [])
    by false = refl

begins_page_b : (o : Did) (t : Rendered) (s : SessionView ItemOut) (max : ℕ) → begins_page in_items (following o t) s max ≡ following o (begins_page in_items t s max)
begins_page_b o t s max = requests_b o (with_log (numbered t) (with_begun t.client.log (next_queryid t) max)) s (page_stanza in_items t (last_id t.client.log.entries) max) false

-- ---- pages

goes_on_b : (o : Did) (t : Rendered) (s : Option (SessionView ItemOut)) (max : ℕ) → goes_on in_items (following o t) s max ≡ following o (goes_on in_items t s max)
goes_on_b o t None max = refl
goes_on_b o t (Some s) max =
    either_b o (is_full s.waiting) (ends (following o t) peer.Unacknowledged) (begins_page in_items (following o t) s max) (ends t peer.Unacknowledged) (begins_page in_items t s max) (ends_b o t peer.Unacknowledged) (begins_page_b o t s max)

refuses_b : (o : Did) (t : Rendered) (f : CatchUpFault) → refuses (following o t) f ≡ following o (refuses t f)
refuses_b o t f = tells_b o (with_log t (without_page t.client.log)) (CatchUpRefused f)

page_done_b : (o : Did) (t : Rendered) (page : OpenPage) (fin : Fin) (p : PageOutcome) → page_done in_items (following o t) page fin p ≡ following o (page_done in_items t page fin p)
page_done_b o t page fin Complete = tells_b o (with_log t (after_fin t.client.log fin)) (PageDone Complete)
page_done_b o t page fin More =
    let u = with_log t (after_fin t.client.log fin) in
    ap (λ x. goes_on in_items x t.client.session page.max) (tells_b o u (PageDone More)) ∙ goes_on_b o (tells u (PageDone More)) t.client.session page.max

page_ended_b : (o : Did) (t : Rendered) (page : OpenPage) (fin : Fin) (r : Result PageOutcome FinFault) → page_ended in_items (following o t) page fin r ≡ following o (page_ended in_items t page fin r)
page_ended_b o t page fin (Ok p) = page_done_b o t page fin p
page_ended_b o t page fin (Err why) = refuses_b o t (catch_up_fault why)

result_of_page_b : (o : Did) (t : Rendered) (page : OpenPage) (fin : Option Fin) → result_of_page in_items (following o t) page fin ≡ following o (result_of_page in_items t page fin)
result_of_page_b o t page (Some fin) = page_ended_b o t page fin (end_of t.client.log page fin)
result_of_page_b o t page None = refuses_b o t nothing_told

restarts_b : (o : Did) (t : Rendered) (s : Option (SessionView ItemOut)) (max : ℕ) → restarts in_items (following o t) s max ≡ following o (restarts in_items t s max)
restarts_b o t None max = refl
restarts_b o t (Some s) max =
    let u = with_log t (without_page t.client.log) in
    let x = with_log (numbered t) (with_restart t.client.log (next_queryid t)) in
    let stanza = page_stanza in_items t None max in
    either_b o (is_full s.waiting) (ends (following o u) peer.Unacknowledged) (requests in_items (following o x) s stanza false) (ends u peer.Unacknowledged) (requests in_items x s stanza false) (ends_b o u peer.Unacknowledged) (requests_b o x s stanza false)

error_of_page_b : (o : Did) (t : Rendered) (page : OpenPage) (r : Result StanzaError StanzaErrorFault) → error_of_page in_items (following o t) page r ≡ following o (error_of_page in_items t page r)
error_of_page_b o t page (Ok error) =
    either_b o (is_not_found error.condition && is_some page.after) (restarts in_items (following o t) t.client.session page.max) (refuses (following o t) (Refused error.condition)) (restarts in_items t t.client.session page.max) (refuses t (Refused error.condition))
    (restarts_b o t t.client.session page.max) (refuses_b o t (Refused error.condition))
error_of_page_b o t page (Err why) = refuses_b o t nothing_told

answered_b : (o : Did) (t : Rendered) (q : IqView) (page : OpenPage) (kind : IqKind) → answered_page in_items (following o t) q page kind ≡ following o (answered_page in_items t q page kind)
answered_b o t q page iq.Result = result_of_page_b o t page (only_fin (elements_of q.payload))
answered_b o t q page iq.Error = error_of_page_b o t page (error_within q.payload)
answered_b o t q page iq.Get = refl
answered_b o t q page iq.Set = refl

page_answered_b : (o : Did) (t : Rendered) (q : IqView) (page : Option OpenPage) → page_answered in_items (following o t) q page ≡ following o (page_answered in_items t q page)
page_answered_b o t q None = refl
page_answered_b o t q (Some page) =
    either_b o (is_own_or_absent t.client.account.bare q.from) (answered_page in_items (following o t) q page q.kind) (following o t) (answered_page in_items t q page q.kind) t (answered_b o t q page q.kind) refl

iq_b : (o : Did) (t : Rendered) (q : IqView) (kind : IqKind) → iq_by in_items (following o t) q kind ≡ following o (iq_by in_items t q kind)
iq_b o t q iq.Get = has_to_put_b o t t.client.session (in_items.say (answer_to q (is_ping (elements_of q.payload))))
iq_b o t q iq.Set = has_to_put_b o t t.client.session (in_items.say (answer_to q false))
iq_b o t q iq.Result = page_answered_b o t q (page_for q.id t.client.log.page)
iq_b o t q iq.Error = page_answered_b o t q (page_for q.id t.client.log.page)

-- ---- messages

result_to_b : (o : Did) (t : Rendered) (page : Option OpenPage) (entry : LogEntry) → result_to (following o t) page entry ≡ following o (result_to t page entry)
result_to_b o t None entry = refl
result_to_b o t (Some page) entry =
    either_b o (nat_le page.max (length page.results)) (refuses (following o t) Overrun) (following o (with_log t (with_result t.client.log entry))) (refuses t Overrun) (with_log t (with_result t.client.log entry)) (refuses_b o t Overrun) refl

result_b : (o : Did) (t : Rendered) (r : Result MamResult ExtFault) → result_row (following o t) r ≡ following o (result_row t r)
result_b o t (Ok r) = result_to_b o t (page_for r.queryid t.client.log.page) (logged r.id r.forwarded.stamp r.forwarded.message)
result_b o t (Err why) = refl

tells_where_b : (o : Did) (t : Rendered) (e : Option Event) → tells_where (following o t) e ≡ following o (tells_where t e)
tells_where_b o t None = refl
tells_where_b o t (Some e) = tells_b o t e

other_message_b : (o : Did) (t : Rendered) (m : MessageView) → other_message (following o t) m ≡ following o (other_message t m)
other_message_b o t m = tells_where_b o (held_row t (live_in t.client.account.bare m)) (bounce_of t.client m)

message_b : (o : Did) (t : Rendered) (m : MessageView) (result : Option Elem) → message_with (following o t) m result ≡ following o (message_with t m result)
message_b o t m None = other_message_b o t m
message_b o t m (Some result) =
    either_b o (is_own_or_absent t.client.account.bare m.from) (result_row (following o t) (result_read result)) (other_message (following o t) m) (result_row t (result_read result)) (other_message t m) (result_b o t (result_read result)) (other_message_b o t m)

stanza_b : (o : Did) (t : Rendered) (r : Result Stanza StanzaFault) → stanza_row in_items (following o t) r ≡ following o (stanza_row in_items t r)
stanza_b o t (Ok (Message m)) = message_b o t m (first_named archive (codes "result") m.payload)
stanza_b o t (Ok (Iq q)) = iq_b o t q q.kind
stanza_b o t (Ok (Presence p)) = refl
stanza_b o t (Err fault) = refl

-- ---- acknowledgements

acknowledges_b : (o : Did) (t : Rendered) (s : SessionView ItemOut) (h : ℕ) → acknowledges in_items (following o t) s h ≡ following o (acknowledges in_items t s h)
acknowledges_b o t s h =
    let u = with_session (record t { client = record t.client { said = acknowledged (submissions_to s.waiting h) t.client.said } }) s (acked s.waiting h) in
    let n = ahead h s.waiting.acked in
    ap (λ x. notes in_items x (Acknowledged n)) (tells_b o u (Acked n)) ∙ notes_b o (tells u (Acked n)) (Acknowledged n)

too_high_b : (o : Did) (t : Rendered) (f : TooHigh) → counts_too_high in_items (following o t) f ≡ following o (counts_too_high in_items t f)
too_high_b o t f =
    let error = uttered in_items (too_high_item f.h f.send_count) in
    let footer = uttered in_items Closing in
    ap (λ x. ends (drops in_items (puts x footer)) (peer.TooHigh f)) (puts_b o t error) ∙ ap (λ x. ends (drops in_items x) (peer.TooHigh f)) (puts_b o (puts t error) footer)
    ∙ ap (λ x. ends x (peer.TooHigh f)) (drops_b o (puts (puts t error) footer)) ∙ ends_b o (drops in_items (puts (puts t error) footer)) (peer.TooHigh f)

ack_b : (o : Did) (t : Rendered) (s : SessionView ItemOut) (h : ℕ) → ack_row in_items (following o t) s h ≡ following o (ack_row in_items t s h)
ack_b o t s h =
    either_b o (is_too_high s.waiting h) (counts_too_high in_items (following o t) (too_high s.waiting h)) (acknowledges in_items (following o t) s h) (counts_too_high in_items t (too_high s.waiting h)) (acknowledges in_items t s h) (too_high_b o t (too_high s.waiting h)) (acknowledges_b o t s h)

told_b : (o : Did) (t : Rendered) (s : SessionView ItemOut) (r : Result Ack ExtFault) → told_row in_items (following o t) s r ≡ following o (told_row in_items t s r)
told_b o t s (Ok ack) = ack_b o t s ack.h
told_b o t s (Err why) = refl

request_b : (o : Did) (t : Rendered) (s : SessionView ItemOut) → request_row in_items (following o t) s ≡ following o (request_row in_items t s)
request_b o t s =
    let more = uttered in_items (ack_item s.waiting.handled) in
    ap (λ x. notes in_items x (Stated s.waiting.handled)) (puts_b o t more) ∙ notes_b o (puts t more) (Stated s.waiting.handled)

online_b : (o : Did) (t : Rendered) (s : Option (SessionView ItemOut)) (e : Elem) → online_in in_items (following o t) s e ≡ following o (online_in in_items t s e)
online_b o t None e = refl
online_b o t (Some s) e =
    let handled = handles in_items t s e in
    either_b o (is_stanza e) (stanza_row in_items (handles in_items (following o t) s e) (stanza_of e)) (cond (is_management (codes "r") e) (request_row in_items (following o t) s) (told_row in_items (following o t) s (ack_read e)))
    (stanza_row in_items handled (stanza_of e)) (cond (is_management (codes "r") e) (request_row in_items t s) (told_row in_items t s (ack_read e)))
    (ap (λ x. stanza_row in_items x (stanza_of e)) (notes_b o (with_session t s (counted_in s.waiting)) (Handled e)) ∙ stanza_b o handled (stanza_of e))
    (either_b o (is_management (codes "r") e) (request_row in_items (following o t) s) (told_row in_items (following o t) s (ack_read e)) (request_row in_items t s) (told_row in_items t s (ack_read e)) (request_b o t s) (told_b o t s (ack_read e)))

-- ---- logins

login_b : (o : Did) (t : Rendered) (n : Next) → login.goes_on (following o t) n ≡ following o (login.goes_on t n)
login_b o t (next.Goes state) = refl
login_b o t next.LoggedIn = refl
login_b o t (next.Ends why) = ends_b o t (peer_fault why)

follows_b : (o : Did) (t : Rendered) (row : Row) → follows in_items (following o t) row ≡ following o (follows in_items t row)
follows_b o t row = ap (λ x. login.goes_on x row.next) (puts_b o t (uttered_where in_items row.put)) ∙ login_b o (puts t (uttered_where in_items row.put)) row.next

other_b : (o : Did) (t : Rendered) (e : Elem) → other_element (following o t) e ≡ following o (other_element t e)
other_b o t e = ends_b o t (peer_fault (rows.other_fault (failure_read e)))

header_b : (o : Did) (t : Rendered) (p : Phase) → header_row in_items (following o t) p ≡ following o (header_row in_items t p)
header_b o t phase.Apart = refl
header_b o t (phase.Login state) = follows_b o t (rows.header_row state)
header_b o t phase.Online = refl
header_b o t phase.Features2 = ends_b o t peer.Unexpected
header_b o t phase.Resuming = ends_b o t peer.Unexpected
header_b o t phase.Binding = ends_b o t peer.Unexpected
header_b o t phase.Enabling = ends_b o t peer.Unexpected

-- ---- sessions

resumes_or_binds_b : (o : Did) (t : Rendered) (s : Option (SessionView ItemOut)) → resumes_or_binds in_items (following o t) s ≡ following o (resumes_or_binds in_items t s)
resumes_or_binds_b o t None = asks_b o t (bind_item t.client.account.resource) phase.Binding
resumes_or_binds_b o t (Some s) =
    let item = resume_item s.previd s.waiting.handled in
    ap (λ x. asks in_items x item phase.Resuming) (notes_b o t (Stated s.waiting.handled)) ∙ asks_b o (notes in_items t (Stated s.waiting.handled)) item phase.Resuming

features_b : (o : Did) (t : Rendered) (e : Elem) (r : Result Features ExtFault) → features2_with in_items (following o t) e r ≡ following o (features2_with in_items t e r)
features_b o t e (Ok features) =
    either_b o features.bind (resumes_or_binds in_items (following o t) t.client.session) (ends (following o t) peer.NoFeature) (resumes_or_binds in_items t t.client.session) (ends t peer.NoFeature) (resumes_or_binds_b o t t.client.session) (ends_b o t peer.NoFeature)
features_b o t e (Err why) = other_b o t e

attaches_b : (o : Did) (t : Rendered) → attaches in_items (following o t) ≡ following o (attaches in_items t)
attaches_b o t =
    let more = resent in_items (queue_in t.client.session) in
    ap (λ x. tells x Resumed) (puts_b o (goes t phase.Online) more) ∙ tells_b o (puts (goes t phase.Online) more) Resumed

resumed_b : (o : Did) (t : Rendered) (s : Option (SessionView ItemOut)) (h : ℕ) → resumed_in in_items (following o t) s h ≡ following o (resumed_in in_items t s h)
resumed_b o t None h = refl
resumed_b o t (Some s) h =
    either_b o (is_too_high s.waiting h) (counts_too_high in_items (following o t) (too_high s.waiting h)) (attaches in_items (acknowledges in_items (following o t) s h)) (counts_too_high in_items t (too_high s.waiting h)) (attaches in_items (acknowledges in_items t s h))
    (too_high_b o t (too_high s.waiting h)) (ap (attaches in_items) (acknowledges_b o t s h) ∙ attaches_b o (acknowledges in_items t s h))

failed_b : (o : Did) (t : Rendered) → failed_row in_items (following o t) ≡ following o (failed_row in_items t)
failed_b o t =
    ap (λ x. binds in_items (tells x ResumeFailed)) (drops_b o t) ∙ ap (binds in_items) (tells_b o (drops in_items t) ResumeFailed)
    ∙ asks_b o (tells (drops in_items t) ResumeFailed) (bind_item t.client.account.resource) phase.Binding

resuming_b : (o : Did) (t : Rendered) (e : Elem) (r : Result (List ℕ × ℕ) ExtFault) → resuming_with in_items (following o t) e r ≡ following o (resuming_with in_items t e r)
resuming_b o t e (Ok told) = resumed_b o t t.client.session told.1
resuming_b o t e (Err why) =
    either_b o (is_management (codes "failed") e) (failed_row in_items (following o t)) (other_element (following o t) e) (failed_row in_items t) (other_element t e) (failed_b o t) (other_b o t e)

binding_b : (o : Did) (t : Rendered) (e : Elem) → binding_row in_items (following o t) e ≡ following o (binding_row in_items t e)
binding_b o t e =
    let u = record t { client = record t.client { epoch = next_number t.client.epoch; n = 0 } } in
    either_b o (tells_bound (stanza_of e)) (asks in_items (begins_epoch in_items (following o t)) enable_item phase.Enabling) (other_element (following o t) e) (asks in_items (begins_epoch in_items t) enable_item phase.Enabling) (other_element t e)
    (ap (λ x. asks in_items x enable_item phase.Enabling) (notes_b o u (Epoch (next_number t.client.epoch))) ∙ asks_b o (begins_epoch in_items t) enable_item phase.Enabling) (other_b o t e)

begins_b : (o : Did) (t : Rendered) (previd : List ℕ) → begins in_items (following o t) previd ≡ following o (begins in_items t previd)
begins_b o t previd =
    let t0 = record t { client = record t.client { session = Some (record { previd = previd; waiting = first_stanzas in_items }); phase = phase.Online } } in
    let t1 = notes in_items t0 Counted in
    let t2 = notes in_items t1 (Put carbons_item) in
    let t3 = notes in_items t2 (Put available_item) in
    let t4 = puts t3 (uttered in_items carbons_item) in
    let t5 = puts t4 (uttered in_items available_item) in
    ap (λ x. tells (puts (puts (notes in_items (notes in_items x (Put carbons_item)) (Put available_item)) (uttered in_items carbons_item)) (uttered in_items available_item)) (Bound t.client.epoch)) (notes_b o t0 Counted)
    ∙ ap (λ x. tells (puts (puts (notes in_items x (Put available_item)) (uttered in_items carbons_item)) (uttered in_items available_item)) (Bound t.client.epoch)) (notes_b o t1 (Put carbons_item))
    ∙ ap (λ x. tells (puts (puts x (uttered in_items carbons_item)) (uttered in_items available_item)) (Bound t.client.epoch)) (notes_b o t2 (Put available_item))
    ∙ ap (λ x. tells (puts x (uttered in_items available_item)) (Bound t.client.epoch)) (puts_b o t3 (uttered in_items carbons_item)) ∙ ap (λ x. tells x (Bound t.client.epoch)) (puts_b o t4 (uttered in_items available_item)) ∙ tells_b o t5 (Bound t.client.epoch)

enabling_b : (o : Did) (t : Rendered) (e : Elem) (r : Result Enabled ExtFault) → enabling_with in_items (following o t) e r ≡ following o (enabling_with in_items t e r)
enabling_b o t e (Ok enabled) = either_b o (can_resume enabled) (begins in_items (following o t) enabled.id) (other_element (following o t) e) (begins in_items t enabled.id) (other_element t e) (begins_b o t enabled.id) (other_b o t e)
enabling_b o t e (Err why) = either_b o (is_stanza e) (following o t) (other_element (following o t) e) t (other_element t e) refl (other_b o t e)

-- ---- items

element_b : (o : Did) (t : Rendered) (p : Phase) (e : Elem) → element_row in_items (following o t) p e ≡ following o (element_row in_items t p e)
element_b o t phase.Apart e = refl
element_b o t (phase.Login state) e = follows_b o t (rows.element_row t.client.account.login state e)
element_b o t phase.Features2 e = features_b o t e (features_read e)
element_b o t phase.Resuming e = resuming_b o t e (resumption_read (codes "resumed") e)
element_b o t phase.Binding e = binding_b o t e
element_b o t phase.Enabling e = enabling_b o t e (enabled_read e)
element_b o t phase.Online e = online_b o t t.client.session e

connected_b : (o : Did) (t : Rendered) (i : Item) → connected_step in_items (following o t) i ≡ following o (connected_step in_items t i)
connected_b o t (Header at header) = header_b o t t.client.phase
connected_b o t (Element e) =
    either_b o (is_named streams_ns (codes "error") e) (ends (following o t) (peer.Stream (stream_condition e))) (element_row in_items (following o t) t.client.phase e) (ends t (peer.Stream (stream_condition e))) (element_row in_items t t.client.phase e)
    (ends_b o t (peer.Stream (stream_condition e))) (element_b o t t.client.phase e)
connected_b o t Footer = ends_b o t peer.Closed

step_b : (o : Did) (t : Rendered) (i : Item) → item_step in_items (following o t) i ≡ following o (item_step in_items t i)
step_b o t i = either_b o (is_apart t.client.phase) (following o t) (connected_step in_items (following o t) i) t (connected_step in_items t i) refl (connected_b o t i)

-- a turn stands behind what it did
client_step_is : (t : Rendered) → t ≡ following t.out (silent_client_step t.client)
client_step_is t = ap₂ (λ p e. record { client = t.client; out = record { put = p; events = e; notes = t.out.notes } }) (sym (append-nil t.out.put)) (sym (append-nil t.out.events))
    ∙ ap (λ n. record { client = t.client; out = record { put = t.out.put ++ []; events = t.out.events ++ []; notes = n } }) (sym (append-nil t.out.notes))

pub step_adds : (i : Item) (t : Rendered) → Adds t (item_step in_items (silent_client_step t.client) i) (item_step in_items t i)
step_adds i t =
    let is = ap (λ u. item_step in_items u i) (client_step_is t) ∙ step_b t.out (silent_client_step t.client) i in
    record { client_is = ap (λ (u : Rendered). u.client) is; put_is = ap (λ (u : Rendered). u.out.put) is; notes_is = ap (λ (u : Rendered). u.out.notes) is }
