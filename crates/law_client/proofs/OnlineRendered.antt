-- The rows where a client is online go through.
use Rattle.std.proofs.Common.{◌≡◌, ℕ, Bool, true, false, ◌&&◌, List, [], ◌∷◌, ◌++◌, Option, Some, None, Result, Ok, Err, codes, is_some, nat_le, length, if◌then◌else◌, refl, sym, ap, ap₂, ◌∙◌}
use Rattle.std.proofs.lemmas.Grind.{flat_map-append}
use Rattle.std.proofs.lemmas.List.{map-append}
use Rattle.std.specs.List.{flat_map}
use Rattle.std.specs.Option.{option_map}
use Rattle.cl_core.specs.PageRows.{answer_to, answered_page, begins_page, error_of_page, goes_on, iq_by, is_not_found, is_ping, next_queryid, numbered, only_fin, page_answered, page_done, page_ended, page_stanza, requests, restarts, result_of_page}
use Rattle.cl_core.specs.Steps.{handles, online_in, stanza_row, told_row}
use Rattle.law_client.proofs.RowsRendered.{ack_either, acknowledged_rendered, full_rendered, noted_rendered, rendered_either, said_rendered, uttered_rendered}
use Rattle.law_client.specs.Rendered.{IsRendered, client_rendered, session_rendered, turn_rendered, waiting_rendered}
use Rattle.cl_handlers.specs.AckRows.{acknowledges, request_row}
use Rattle.cl_handlers.specs.Clients.{ClientStep}
use Rattle.cl_handlers.specs.MessageRows.{bounce_of, error_within, held_by, held_row, is_own_or_absent, live_in, logged, message_with, other_message, own_id, result_row, result_to, tells_where}
use Rattle.cl_handlers.specs.SessionRows.{is_stanza}
use Rattle.cl_handlers.specs.Speech.{Note, Speech, Handled, Put, Stated, uttered}
use Rattle.cl_handlers.specs.ClientSteps.{ends, has_put, has_to_put, is_online, notes, put_in, puts, queues, tells, with_log, with_session}
use Rattle.cl_handlers.specs.declared.events.Event.{Event}
use Rattle.cl_handlers.specs.declared.events.Event.TheVariants.{PageDone}
use Rattle.cl_handlers.specs.declared.events.PeerFault.TheVariants.{Unacknowledged}
use Rattle.im_extensions.specs.StreamManagement.{ack_read, is_management}
use Rattle.im_extensions.specs.declared.forwarding.Forwarded.{Forwarded}
use Rattle.im_extensions.specs.declared.stream_management.Ack.{Ack}
use Rattle.mam_log.specs.LogCalls.{with_restart}
use Rattle.mam_log.specs.LogPages.{last_id}
use Rattle.mam_log.specs.Views.{OpenPage, after_fin, end_of, page_for, with_begun, without_page}
use Rattle.mam_log.specs.declared.fin.FinFault.{FinFault}
use Rattle.mam_log.specs.declared.fin.PageOutcome.{PageOutcome}
use Rattle.mam_log.specs.declared.fin.PageOutcome.TheVariants.{More, Complete}
use Rattle.mam_log.specs.declared.log_entry.LogEntry.{LogEntry}
use Rattle.im_mam.specs.Readings.{result_read}
use Rattle.im_mam.specs.declared.archive_answers.MamResult.{MamResult}
use Rattle.sm_outbox.specs.Sessions.{SessionView}
use Rattle.sm_outbox.specs.Waiting.{Waiting, counted_in, is_full, queued}
use Rattle.mam_pages.specs.declared.fin.Fin.{Fin}
use Rattle.im_payload.specs.Names.{archive}
use Rattle.im_payload.specs.declared.fault.ExtFault.{ExtFault}
use Rattle.im_replies.specs.Management.{ack_item, request_item}
use Rattle.im_requests.specs.Messages.{page_item}
use Rattle.im_stanza.specs.Readings.{stanza_of}
use Rattle.im_stanza.specs.Views.{IqView, MessageView}
use Rattle.im_stanza.specs.declared.errors.StanzaError.{StanzaError}
use Rattle.im_stanza.specs.declared.fault.StanzaErrorFault.{StanzaErrorFault}
use Rattle.im_stanza.specs.declared.fault.StanzaFault.{StanzaFault}
use Rattle.im_stanza.specs.declared.kinds.IqKind.{IqKind}
use Rattle.im_stanza.specs.declared.kinds.IqKind.TheVariants as iq
use Rattle.im_stanza.specs.declared.stanzas.Stanza.{Stanza}
use Rattle.im_stanza.specs.declared.stanzas.Stanza.TheVariants.{Message, Presence, Iq}
use Rattle.xml_trees.specs.Readers.{elements_of, first_named}
use Rattle.xml_trees.specs.Trees.{Elem}

-- ---- messages, of which nothing is put

result_to_rendered : {A B X Y : Type 0} {p : Speech A X} {q : Speech B Y} {f : A → B} {g : X → List Y} {k : List (Note A) → List (Note B)} (h : IsRendered p q f g k) (t : ClientStep A X) (page : Option OpenPage) (entry : LogEntry) → result_to (turn_rendered f g k t) page entry ≡ turn_rendered f g k (result_to t page entry)
result_to_rendered h t None entry = refl
result_to_rendered {f = f} {g = g} {k = k} h t (Some page) entry = rendered_either f g k (nat_le page.max (length page.results)) _ _ _ _ refl refl

resulted_rendered : {A B X Y : Type 0} {p : Speech A X} {q : Speech B Y} {f : A → B} {g : X → List Y} {k : List (Note A) → List (Note B)} (h : IsRendered p q f g k) (t : ClientStep A X) (read : Result MamResult ExtFault) → result_row (turn_rendered f g k t) read ≡ turn_rendered f g k (result_row t read)
resulted_rendered h t (Ok r) = result_to_rendered h t (page_for r.queryid t.client.log.page) (logged r.id r.forwarded.stamp r.forwarded.message)
resulted_rendered h t (Err why) = refl

held_rendered : {A B X Y : Type 0} {p : Speech A X} {q : Speech B Y} {f : A → B} {g : X → List Y} {k : List (Note A) → List (Note B)} (h : IsRendered p q f g k) (t : ClientStep A X) (live : Forwarded) (id : Option (List ℕ)) → record (turn_rendered f g k t) { client = held_by (client_rendered f t.client) live id } ≡ turn_rendered f g k (record t { client = held_by t.client live id })
held_rendered h t live None = refl
held_rendered h t live (Some id) = refl

told_rendered : {A B X Y : Type 0} {p : Speech A X} {q : Speech B Y} {f : A → B} {g : X → List Y} {k : List (Note A) → List (Note B)} (h : IsRendered p q f g k) (t : ClientStep A X) (event : Option Event) → tells_where (turn_rendered f g k t) event ≡ turn_rendered f g k (tells_where t event)
told_rendered h t None = refl
told_rendered h t (Some event) = refl

other_rendered : {A B X Y : Type 0} {p : Speech A X} {q : Speech B Y} {f : A → B} {g : X → List Y} {k : List (Note A) → List (Note B)} (h : IsRendered p q f g k) (t : ClientStep A X) (m : MessageView) → other_message (turn_rendered f g k t) m ≡ turn_rendered f g k (other_message t m)
other_rendered h t m =
    let live = live_in t.client.account.bare m in
    let bounce = bounce_of t.client m in
    ap (λ u. tells_where u bounce) (held_rendered h t live (own_id t.client.account.bare (elements_of live.message.payload))) ∙ told_rendered h (held_row t live) bounce

message_rendered : {A B X Y : Type 0} {p : Speech A X} {q : Speech B Y} {f : A → B} {g : X → List Y} {k : List (Note A) → List (Note B)} (h : IsRendered p q f g k) (t : ClientStep A X) (m : MessageView) (result : Option Elem) → message_with (turn_rendered f g k t) m result ≡ turn_rendered f g k (message_with t m result)
message_rendered h t m None = other_rendered h t m
message_rendered {f = f} {g = g} {k = k} h t m (Some result) =
    rendered_either f g k (is_own_or_absent t.client.account.bare m.from) _ _ _ _ (resulted_rendered h t (result_read result)) (other_rendered h t m)

-- ---- what is put in a session

queued_rendered : {A B : Type 0} (f : A → B) (w : Waiting A) (stanza : A) (kind : Bool) → queued (waiting_rendered f w) (f stanza) kind ≡ waiting_rendered f (queued w stanza kind)
queued_rendered {B = B} f w stanza kind =
    ap (λ (queue : List B). record { acked = w.acked; handled = w.handled; queue = queue; submissions = w.submissions ++ kind ∷ [] }) (sym (map-append f w.queue (stanza ∷ [])))

queues_rendered : {A B X Y : Type 0} {p : Speech A X} {q : Speech B Y} {f : A → B} {g : X → List Y} {k : List (Note A) → List (Note B)} (h : IsRendered p q f g k) (t : ClientStep A X) (s : SessionView A) (stanza : A) (kind : Bool) → queues q (turn_rendered f g k t) (session_rendered f s) (f stanza) kind ≡ turn_rendered f g k (queues p t s stanza kind)
queues_rendered {q = q} {f = f} {g = g} {k = k} h t s stanza kind =
    ap (λ w. notes q (with_session (turn_rendered f g k t) (session_rendered f s) w) (Put (f stanza))) (queued_rendered f s.waiting stanza kind)
    ∙ noted_rendered h (with_session t s (queued s.waiting stanza kind)) (Put stanza)

put_either : {A B X Y : Type 0} {p : Speech A X} {q : Speech B Y} {f : A → B} {g : X → List Y} {k : List (Note A) → List (Note B)} (h : IsRendered p q f g k) (b : Bool) (put : List X) (stanza : A) → (if b then flat_map g put ++ q.spread (f stanza) else flat_map g put) ≡ flat_map g (if b then put ++ p.spread stanza else put)
put_either {p = p} {g = g} h true put stanza = ap (λ more. flat_map g put ++ more) (h.spread stanza) ∙ sym (flat_map-append g put (p.spread stanza))
put_either h false put stanza = refl

put_in_rendered : {A B X Y : Type 0} {p : Speech A X} {q : Speech B Y} {f : A → B} {g : X → List Y} {k : List (Note A) → List (Note B)} (h : IsRendered p q f g k) (t : ClientStep A X) (s : SessionView A) (stanza : A) (kind : Bool) → put_in q (turn_rendered f g k t) (session_rendered f s) (f stanza) kind ≡ turn_rendered f g k (put_in p t s stanza kind)
put_in_rendered {p = p} {q = q} {f = f} {g = g} {k = k} h t s stanza kind =
    ap₂ has_put (queues_rendered h t s stanza kind) (put_either h (is_online t.client.phase) t.out.put stanza)

pub put_rendered_to : {A B X Y : Type 0} {p : Speech A X} {q : Speech B Y} {f : A → B} {g : X → List Y} {k : List (Note A) → List (Note B)} (h : IsRendered p q f g k) (t : ClientStep A X) (o : Option (SessionView A)) (stanza : A) → has_to_put q (turn_rendered f g k t) (option_map (session_rendered f) o) (f stanza) ≡ turn_rendered f g k (has_to_put p t o stanza)
put_rendered_to h t None stanza = refl
put_rendered_to {q = q} {f = f} {g = g} {k = k} h t (Some s) stanza =
    ap (λ b. if b then ends (turn_rendered f g k t) Unacknowledged else put_in q (turn_rendered f g k t) (session_rendered f s) (f stanza) false) (full_rendered f s.waiting)
    ∙ rendered_either f g k (is_full s.waiting) _ _ _ _ refl (put_in_rendered h t s stanza false)

request_either : {A B X Y : Type 0} {p : Speech A X} {q : Speech B Y} {f : A → B} {g : X → List Y} {k : List (Note A) → List (Note B)} (h : IsRendered p q f g k) (b : Bool) (put : List X) (stanza : A) → (if b then (flat_map g put ++ q.spread (f stanza)) ++ uttered q request_item else flat_map g put) ≡ flat_map g (if b then (put ++ p.spread stanza) ++ uttered p request_item else put)
request_either {p = p} {q = q} {g = g} h true put stanza =
    ap₂ (λ x y. x ++ y) (put_either h true put stanza) (uttered_rendered h request_item) ∙ sym (flat_map-append g (put ++ p.spread stanza) (uttered p request_item))
request_either h false put stanza = refl

pub requested_rendered : {A B X Y : Type 0} {p : Speech A X} {q : Speech B Y} {f : A → B} {g : X → List Y} {k : List (Note A) → List (Note B)} (h : IsRendered p q f g k) (t : ClientStep A X) (s : SessionView A) (stanza : A) (kind : Bool) → requests q (turn_rendered f g k t) (session_rendered f s) (f stanza) kind ≡ turn_rendered f g k (requests p t s stanza kind)
requested_rendered h t s stanza kind = ap₂ has_put (queues_rendered h t s stanza kind) (request_either h (is_online t.client.phase) t.out.put stanza)

-- ---- page requests

page_requested_rendered : {A B X Y : Type 0} {p : Speech A X} {q : Speech B Y} {f : A → B} {g : X → List Y} {k : List (Note A) → List (Note B)} (h : IsRendered p q f g k) (t : ClientStep A X) (s : SessionView A) (item : _) → requests q (turn_rendered f g k t) (session_rendered f s) (q.say item) false ≡ turn_rendered f g k (requests p t s (p.say item) false)
page_requested_rendered {p = p} {q = q} {f = f} {g = g} {k = k} h t s item =
    ap (λ stanza. requests q (turn_rendered f g k t) (session_rendered f s) stanza false) (h.say item) ∙ requested_rendered h t s (p.say item) false

pub page_begun_rendered : {A B X Y : Type 0} {p : Speech A X} {q : Speech B Y} {f : A → B} {g : X → List Y} {k : List (Note A) → List (Note B)} (h : IsRendered p q f g k) (t : ClientStep A X) (s : SessionView A) (most : ℕ) → begins_page q (turn_rendered f g k t) (session_rendered f s) most ≡ turn_rendered f g k (begins_page p t s most)
page_begun_rendered h t s most =
    page_requested_rendered h (with_log (numbered t) (with_begun t.client.log (next_queryid t) most)) s (page_item (next_queryid t) (last_id t.client.log.entries) most)

gone_on_rendered : {A B X Y : Type 0} {p : Speech A X} {q : Speech B Y} {f : A → B} {g : X → List Y} {k : List (Note A) → List (Note B)} (h : IsRendered p q f g k) (t : ClientStep A X) (o : Option (SessionView A)) (most : ℕ) → goes_on q (turn_rendered f g k t) (option_map (session_rendered f) o) most ≡ turn_rendered f g k (goes_on p t o most)
gone_on_rendered h t None most = refl
gone_on_rendered {q = q} {f = f} {g = g} {k = k} h t (Some s) most =
    ap (λ b. if b then ends (turn_rendered f g k t) Unacknowledged else begins_page q (turn_rendered f g k t) (session_rendered f s) most) (full_rendered f s.waiting)
    ∙ rendered_either f g k (is_full s.waiting) _ _ _ _ refl (page_begun_rendered h t s most)

restarted_rendered : {A B X Y : Type 0} {p : Speech A X} {q : Speech B Y} {f : A → B} {g : X → List Y} {k : List (Note A) → List (Note B)} (h : IsRendered p q f g k) (t : ClientStep A X) (o : Option (SessionView A)) (most : ℕ) → restarts q (turn_rendered f g k t) (option_map (session_rendered f) o) most ≡ turn_rendered f g k (restarts p t o most)
restarted_rendered h t None most = refl
restarted_rendered {q = q} {f = f} {g = g} {k = k} h t (Some s) most =
    let anew = with_log (numbered t) (with_restart t.client.log (next_queryid t)) in
    ap (λ b. if b then ends (with_log (turn_rendered f g k t) (without_page t.client.log)) Unacknowledged else requests q (turn_rendered f g k anew) (session_rendered f s) (page_stanza q (turn_rendered f g k t) None most) false) (full_rendered f s.waiting)
    ∙ rendered_either f g k (is_full s.waiting) _ _ _ _ refl (page_requested_rendered h anew s (page_item (next_queryid t) None most))

-- ---- pages

done_rendered : {A B X Y : Type 0} {p : Speech A X} {q : Speech B Y} {f : A → B} {g : X → List Y} {k : List (Note A) → List (Note B)} (h : IsRendered p q f g k) (t : ClientStep A X) (page : OpenPage) (fin : Fin) (outcome : PageOutcome) → page_done q (turn_rendered f g k t) page fin outcome ≡ turn_rendered f g k (page_done p t page fin outcome)
done_rendered h t page fin Complete = refl
done_rendered h t page fin More = gone_on_rendered h (tells (with_log t (after_fin t.client.log fin)) (PageDone More)) t.client.session page.max

page_end_rendered : {A B X Y : Type 0} {p : Speech A X} {q : Speech B Y} {f : A → B} {g : X → List Y} {k : List (Note A) → List (Note B)} (h : IsRendered p q f g k) (t : ClientStep A X) (page : OpenPage) (fin : Fin) (end : Result PageOutcome FinFault) → page_ended q (turn_rendered f g k t) page fin end ≡ turn_rendered f g k (page_ended p t page fin end)
page_end_rendered h t page fin (Ok outcome) = done_rendered h t page fin outcome
page_end_rendered h t page fin (Err why) = refl

result_of_rendered : {A B X Y : Type 0} {p : Speech A X} {q : Speech B Y} {f : A → B} {g : X → List Y} {k : List (Note A) → List (Note B)} (h : IsRendered p q f g k) (t : ClientStep A X) (page : OpenPage) (fin : Option Fin) → result_of_page q (turn_rendered f g k t) page fin ≡ turn_rendered f g k (result_of_page p t page fin)
result_of_rendered h t page (Some fin) = page_end_rendered h t page fin (end_of t.client.log page fin)
result_of_rendered h t page None = refl

error_of_rendered : {A B X Y : Type 0} {p : Speech A X} {q : Speech B Y} {f : A → B} {g : X → List Y} {k : List (Note A) → List (Note B)} (h : IsRendered p q f g k) (t : ClientStep A X) (page : OpenPage) (read : Result StanzaError StanzaErrorFault) → error_of_page q (turn_rendered f g k t) page read ≡ turn_rendered f g k (error_of_page p t page read)
error_of_rendered {f = f} {g = g} {k = k} h t page (Ok error) =
    rendered_either f g k (is_not_found error.condition && is_some page.after) _ _ _ _ (restarted_rendered h t t.client.session page.max) refl
error_of_rendered h t page (Err why) = refl

answered_rendered : {A B X Y : Type 0} {p : Speech A X} {q : Speech B Y} {f : A → B} {g : X → List Y} {k : List (Note A) → List (Note B)} (h : IsRendered p q f g k) (t : ClientStep A X) (i : IqView) (page : OpenPage) (kind : IqKind) → answered_page q (turn_rendered f g k t) i page kind ≡ turn_rendered f g k (answered_page p t i page kind)
answered_rendered h t i page iq.Result = result_of_rendered h t page (only_fin (elements_of i.payload))
answered_rendered h t i page iq.Error = error_of_rendered h t page (error_within i.payload)
answered_rendered h t i page iq.Get = refl
answered_rendered h t i page iq.Set = refl

page_answer_rendered : {A B X Y : Type 0} {p : Speech A X} {q : Speech B Y} {f : A → B} {g : X → List Y} {k : List (Note A) → List (Note B)} (h : IsRendered p q f g k) (t : ClientStep A X) (i : IqView) (page : Option OpenPage) → page_answered q (turn_rendered f g k t) i page ≡ turn_rendered f g k (page_answered p t i page)
page_answer_rendered h t i None = refl
page_answer_rendered {f = f} {g = g} {k = k} h t i (Some page) =
    rendered_either f g k (is_own_or_absent t.client.account.bare i.from) _ _ _ _ (answered_rendered h t i page i.kind) refl

-- ---- stanzas

answer_rendered : {A B X Y : Type 0} {p : Speech A X} {q : Speech B Y} {f : A → B} {g : X → List Y} {k : List (Note A) → List (Note B)} (h : IsRendered p q f g k) (t : ClientStep A X) (item : _) → has_to_put q (turn_rendered f g k t) (option_map (session_rendered f) t.client.session) (q.say item) ≡ turn_rendered f g k (has_to_put p t t.client.session (p.say item))
answer_rendered {p = p} {q = q} {f = f} {g = g} {k = k} h t item =
    ap (has_to_put q (turn_rendered f g k t) (option_map (session_rendered f) t.client.session)) (h.say item) ∙ put_rendered_to h t t.client.session (p.say item)

iq_rendered : {A B X Y : Type 0} {p : Speech A X} {q : Speech B Y} {f : A → B} {g : X → List Y} {k : List (Note A) → List (Note B)} (h : IsRendered p q f g k) (t : ClientStep A X) (i : IqView) (kind : IqKind) → iq_by q (turn_rendered f g k t) i kind ≡ turn_rendered f g k (iq_by p t i kind)
iq_rendered h t i iq.Get = answer_rendered h t (answer_to i (is_ping (elements_of i.payload)))
iq_rendered h t i iq.Set = answer_rendered h t (answer_to i false)
iq_rendered h t i iq.Result = page_answer_rendered h t i (page_for i.id t.client.log.page)
iq_rendered h t i iq.Error = page_answer_rendered h t i (page_for i.id t.client.log.page)

stanza_rendered : {A B X Y : Type 0} {p : Speech A X} {q : Speech B Y} {f : A → B} {g : X → List Y} {k : List (Note A) → List (Note B)} (h : IsRendered p q f g k) (t : ClientStep A X) (read : Result Stanza StanzaFault) → stanza_row q (turn_rendered f g k t) read ≡ turn_rendered f g k (stanza_row p t read)
stanza_rendered h t (Ok (Message m)) = message_rendered h t m (first_named archive (codes "result") m.payload)
stanza_rendered h t (Ok (Iq i)) = iq_rendered h t i i.kind
stanza_rendered h t (Ok (Presence one)) = refl
stanza_rendered h t (Err why) = refl

-- ---- counts

counting_rendered : {A B X Y : Type 0} {p : Speech A X} {q : Speech B Y} {f : A → B} {g : X → List Y} {k : List (Note A) → List (Note B)} (h : IsRendered p q f g k) (t : ClientStep A X) (s : SessionView A) (e : Elem) → handles q (turn_rendered f g k t) (session_rendered f s) e ≡ turn_rendered f g k (handles p t s e)
counting_rendered h t s e = noted_rendered h (with_session t s (counted_in s.waiting)) (Handled e)

request_rendered : {A B X Y : Type 0} {p : Speech A X} {q : Speech B Y} {f : A → B} {g : X → List Y} {k : List (Note A) → List (Note B)} (h : IsRendered p q f g k) (t : ClientStep A X) (s : SessionView A) → request_row q (turn_rendered f g k t) (session_rendered f s) ≡ turn_rendered f g k (request_row p t s)
request_rendered {p = p} {q = q} h t s =
    ap (λ u. notes q u (Stated s.waiting.handled)) (said_rendered h t (ack_item s.waiting.handled)) ∙ noted_rendered h (puts t (uttered p (ack_item s.waiting.handled))) (Stated s.waiting.handled)

told_row_rendered : {A B X Y : Type 0} {p : Speech A X} {q : Speech B Y} {f : A → B} {g : X → List Y} {k : List (Note A) → List (Note B)} (h : IsRendered p q f g k) (t : ClientStep A X) (s : SessionView A) (read : Result Ack ExtFault) → told_row q (turn_rendered f g k t) (session_rendered f s) read ≡ turn_rendered f g k (told_row p t s read)
told_row_rendered {p = p} h t s (Ok ack) = ack_either h t s ack.h _ (acknowledges p t s ack.h) (acknowledged_rendered h t s ack.h)
told_row_rendered h t s (Err why) = refl

-- ---- an element

pub online_rendered : {A B X Y : Type 0} {p : Speech A X} {q : Speech B Y} {f : A → B} {g : X → List Y} {k : List (Note A) → List (Note B)} (h : IsRendered p q f g k) (t : ClientStep A X) (o : Option (SessionView A)) (e : Elem) → online_in q (turn_rendered f g k t) (option_map (session_rendered f) o) e ≡ turn_rendered f g k (online_in p t o e)
online_rendered h t None e = refl
online_rendered {p = p} {q = q} {f = f} {g = g} {k = k} h t (Some s) e =
    rendered_either f g k (is_stanza e) _ _ _ _
    (ap (λ u. stanza_row q u (stanza_of e)) (counting_rendered h t s e) ∙ stanza_rendered h (handles p t s e) (stanza_of e))
    (rendered_either f g k (is_management (codes "r") e) _ _ _ _ (request_rendered h t s) (told_row_rendered h t s (ack_read e)))
