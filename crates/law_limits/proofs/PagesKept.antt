-- The rows of pages and requests keep to the bounds.
use Rattle.std.proofs.Common.{◌≡◌, ℕ, ◌^◌, ◌<◌, ◌&&◌, Bool, true, false, List, [], ◌∷◌, ◌++◌, is_some, Option, Some, None, IfSome, Result, Ok, Err, refl, arith, if◌then◌else◌}
use Rattle.std.specs.List.{AllByRecursion}
use Rattle.std.specs.Option.{option_map}
use Rattle.std.specs.Str.{bytes_eq}
use Rattle.cl_core.specs.PageRows.{answer_to, answered_page, begins_page, error_of_page, goes_on, iq_by, iq_row, is_not_found, is_ping, next_queryid, numbered, only_fin, page_answered, page_done, page_ended, requests, restarts, result_of_page}
use Rattle.law_limits.proofs.ClientMessagesKept.{refused_within}
use Rattle.law_limits.proofs.TurnsKept.{all_put_within, ends_within, fit_either, has_to_put_within, logs_within, queues_within, tells_within, within_either}
use Rattle.law_limits.specs.Within.{IsClientStepWithin, IsEntryWithin, IsLogWithin, IsPageWithin, IsSessionWithin}
use Rattle.cl_handlers.specs.Clients.{ClientStep}
use Rattle.cl_handlers.specs.MessageRows.{error_within, is_own_or_absent}
use Rattle.cl_handlers.specs.Speech.{in_items}
use Rattle.cl_handlers.specs.ClientSteps.{is_online, queues, tells, with_log}
use Rattle.cl_handlers.specs.declared.events.Event.TheVariants.{PageDone}
use Rattle.xml_framer.specs.Limits.{server_limits}
use Rattle.law_xml.proofs.PlainElements.{append_each}
use Rattle.mam_log.specs.LogCalls.{restarted, with_restart}
use Rattle.mam_log.specs.LogPages.{last_id}
use Rattle.mam_log.specs.Views.{LogView, OpenPage, after_fin, end_of, page_for, with_begun, with_page, without_page}
use Rattle.mam_log.specs.declared.fin.FinFault.{FinFault}
use Rattle.mam_log.specs.declared.fin.PageOutcome.{PageOutcome}
use Rattle.mam_log.specs.declared.fin.PageOutcome.TheVariants.{More, Complete}
use Rattle.mam_log.specs.declared.log_entry.LogEntry.{LogEntry}
use Rattle.sm_outbox.specs.Sessions.{SessionView}
use Rattle.sm_outbox.specs.Submissions.{next_number}
use Rattle.sm_outbox.specs.Waiting.{is_full}
use Rattle.mam_pages.specs.declared.fin.Fin.{Fin}
use Rattle.im_replies.specs.Management.{request_item}
use Rattle.im_requests.specs.Messages.{page_item}
use Rattle.law_limits.proofs.Fitted as fitted
use Rattle.law_limits.specs.Bounds.{IsTextWithin, most_address, most_id}
use Rattle.im_stanza.specs.Kinds.{answers_iq}
use Rattle.im_stanza.specs.Views.{IqView}
use Rattle.im_stanza.specs.declared.errors.StanzaError.{StanzaError}
use Rattle.im_stanza.specs.declared.fault.StanzaErrorFault.{StanzaErrorFault}
use Rattle.im_stanza.specs.declared.kinds.IqKind.{IqKind}
use Rattle.im_stanza.specs.declared.kinds.IqKind.TheVariants as iq
use Rattle.xml_trees.specs.Readers.{elements_of}
use Rattle.xml_writer.specs.Items.{ItemOut}
use Rattle.law_xml.specs.Puts.{OutFits}

-- ---- page requests

pub requested_within : (t : ClientStep ItemOut ItemOut) (s : SessionView ItemOut) (item : ItemOut) (kind : Bool) → IsClientStepWithin t → IsSessionWithin s → OutFits server_limits item → IsClientStepWithin (requests in_items t s item kind)
requested_within t s item kind h within fit =
    let one = append_each (OutFits server_limits) t.out.put (item ∷ []) h.put (fit, tt) in
    all_put_within (queues in_items t s item kind) _ (queues_within t s item kind h within fit)
    (fit_either (is_online t.client.phase) ((t.out.put ++ item ∷ []) ++ request_item ∷ []) t.out.put (append_each (OutFits server_limits) (t.out.put ++ item ∷ []) (request_item ∷ []) one (fitted.request, tt)) h.put)

pub last_within : (entries : List LogEntry) → AllByRecursion IsEntryWithin entries → IfSome (last_id entries) (IsTextWithin most_id)
last_within [] h = tt
last_within (e ∷ []) h = h.0
last_within (e ∷ f ∷ es) h = last_within (f ∷ es) h.1

pub next_low : (n : ℕ) → next_number n < 2 ^ 64
next_low n = omega arith

numbered_within : (t : ClientStep ItemOut ItemOut) → IsClientStepWithin t → IsClientStepWithin (numbered t)
numbered_within t h =
    let c = h.client in
    record { client = record { account = c.account; log = c.log; epoch = c.epoch; session = c.session; phase = c.phase }; put = h.put }

page_fits : (t : ClientStep ItemOut ItemOut) (after : Option (List ℕ)) (max : ℕ) → IfSome after (IsTextWithin most_id) → max < 2 ^ 32 → OutFits server_limits (page_item (next_queryid t) after max)
page_fits t after max h low = fitted.page (next_number t.client.pages) max after (next_low t.client.pages) h low

pub begun_page_within : (t : ClientStep ItemOut ItemOut) (s : SessionView ItemOut) (max : ℕ) → IsClientStepWithin t → IsSessionWithin s → max < 2 ^ 32 → IsClientStepWithin (begins_page in_items t s max)
begun_page_within t s max h within low =
    let log = h.client.log in
    requested_within (with_log (numbered t) (with_begun t.client.log (next_queryid t) max)) s (page_item (next_queryid t) (last_id t.client.log.entries) max) false
    (logs_within (numbered t) (with_begun t.client.log (next_queryid t) max) (numbered_within t h) (record { entries = log.entries; page = record { results = tt; max = low } })) within
    (page_fits t (last_id t.client.log.entries) max (last_within t.client.log.entries log.entries) low)

gone_on_within : (t : ClientStep ItemOut ItemOut) (o : Option (SessionView ItemOut)) (max : ℕ) → IsClientStepWithin t → IfSome o IsSessionWithin → max < 2 ^ 32 → IsClientStepWithin (goes_on in_items t o max)
gone_on_within t None max h within low = h
gone_on_within t (Some s) max h within low = within_either (is_full s.waiting) _ _ (ends_within t _ h) (begun_page_within t s max h within low)

-- ---- the end of a page

pub after_within : (log : LogView) (fin : Fin) → IsLogWithin log → IsLogWithin (after_fin log fin)
after_within log fin h = by_case log.page h.page
  where
    by_case : (o : Option OpenPage) → IfSome o IsPageWithin → IsLogWithin (elim o as (λ _. LogView) [ None ↦ log | Some page ↦ with_page log page fin ])
    by_case None page = h
    by_case (Some p) page = record { entries = append_each IsEntryWithin log.entries p.results h.entries page.results; page = tt }

ended_log : (t : ClientStep ItemOut ItemOut) (fin : Fin) → IsClientStepWithin t → IsClientStepWithin (with_log t (after_fin t.client.log fin))
ended_log t fin h = logs_within t (after_fin t.client.log fin) h (after_within t.client.log fin h.client.log)

done_within : (t : ClientStep ItemOut ItemOut) (page : OpenPage) (fin : Fin) (outcome : PageOutcome) → IsClientStepWithin t → IsPageWithin page → IsClientStepWithin (page_done in_items t page fin outcome)
done_within t page fin Complete h of = tells_within _ _ (ended_log t fin h)
done_within t page fin More h of = gone_on_within (tells (with_log t (after_fin t.client.log fin)) (PageDone More)) t.client.session page.max (tells_within _ _ (ended_log t fin h)) h.client.session of.max

ended_within : (t : ClientStep ItemOut ItemOut) (page : OpenPage) (fin : Fin) (outcome : Result PageOutcome FinFault) → IsClientStepWithin t → IsPageWithin page → IsClientStepWithin (page_ended in_items t page fin outcome)
ended_within t page fin (Ok outcome) h of = done_within t page fin outcome h of
ended_within t page fin (Err why) h of = refused_within t _ h

result_of_within : (t : ClientStep ItemOut ItemOut) (page : OpenPage) (o : Option Fin) → IsClientStepWithin t → IsPageWithin page → IsClientStepWithin (result_of_page in_items t page o)
result_of_within t page (Some fin) h of = ended_within t page fin (end_of t.client.log page fin) h of
result_of_within t page None h of = refused_within t _ h

-- ---- an error to a page

restarted_within : (o : Option OpenPage) (fresh : List ℕ) → IfSome o IsPageWithin → IfSome (option_map (restarted fresh) o) IsPageWithin
restarted_within None fresh h = tt
restarted_within (Some page) fresh h = record { results = tt; max = h.max }

restart_within : (t : ClientStep ItemOut ItemOut) (o : Option (SessionView ItemOut)) (max : ℕ) → IsClientStepWithin t → IfSome o IsSessionWithin → max < 2 ^ 32 → IsClientStepWithin (restarts in_items t o max)
restart_within t None max h within low = h
restart_within t (Some s) max h within low =
    let log = h.client.log in
    let anew = with_restart t.client.log (next_queryid t) in
    within_either (is_full s.waiting) _ _
    (ends_within _ _ (logs_within t (without_page t.client.log) h (record { entries = log.entries; page = tt })))
    (requested_within (with_log (numbered t) anew) s (page_item (next_queryid t) None max) false
    (logs_within (numbered t) anew (numbered_within t h) (record { entries = log.entries; page = restarted_within t.client.log.page (next_queryid t) log.page })) within
    (page_fits t None max tt low))

error_of_within : (t : ClientStep ItemOut ItemOut) (page : OpenPage) (r : Result StanzaError StanzaErrorFault) → IsClientStepWithin t → IsPageWithin page → IsClientStepWithin (error_of_page in_items t page r)
error_of_within t page (Ok error) h of =
    within_either (is_not_found error.condition && is_some page.after) _ _ (restart_within t t.client.session page.max h h.client.session of.max) (refused_within t _ h)
error_of_within t page (Err why) h of = refused_within t _ h

-- ---- requests, and answers to pages

answered_within : (t : ClientStep ItemOut ItemOut) (q : IqView) (page : OpenPage) (kind : IqKind) → IsClientStepWithin t → IsPageWithin page → IsClientStepWithin (answered_page in_items t q page kind)
answered_within t q page iq.Result h of = result_of_within t page (only_fin (elements_of q.payload)) h of
answered_within t q page iq.Error h of = error_of_within t page (error_within q.payload) h of
answered_within t q page iq.Get h of = h
answered_within t q page iq.Set h of = h

pub page_for_within : (queryid : List ℕ) (o : Option OpenPage) → IfSome o IsPageWithin → IfSome (page_for queryid o) IsPageWithin
page_for_within queryid None h = tt
page_for_within queryid (Some page) h = by_case (bytes_eq page.queryid queryid)
  where
    by_case : (c : Bool) → IfSome (if c then Some page else None) IsPageWithin
    by_case true = h
    by_case false = tt

page_answered_within : (t : ClientStep ItemOut ItemOut) (q : IqView) (o : Option OpenPage) → IsClientStepWithin t → IfSome o IsPageWithin → IsClientStepWithin (page_answered in_items t q o)
page_answered_within t q None h of = h
page_answered_within t q (Some page) h of = within_either (is_own_or_absent t.client.account.bare q.from) _ _ (answered_within t q page q.kind h of) h

answer_fits : (q : IqView) (ping : Bool) → IfSome q.from (IsTextWithin most_address) → IsTextWithin most_id q.id → OutFits server_limits (answer_to q ping)
answer_fits q true from id = fitted.answer q.from q.id from id
answer_fits q false from id = fitted.refusal q.from q.id from id

by_within : (t : ClientStep ItemOut ItemOut) (q : IqView) (kind : IqKind) → IsClientStepWithin t → (answers_iq kind ≡ true → IfSome q.from (IsTextWithin most_address) × IsTextWithin most_id q.id) → IsClientStepWithin (iq_by in_items t q kind)
by_within t q iq.Get h short =
    let b = short refl in
    has_to_put_within t t.client.session (answer_to q (is_ping (elements_of q.payload))) h h.client.session (answer_fits q (is_ping (elements_of q.payload)) b.0 b.1)
by_within t q iq.Set h short =
    let b = short refl in
    has_to_put_within t t.client.session (answer_to q false) h h.client.session (answer_fits q false b.0 b.1)
by_within t q iq.Result h short = page_answered_within t q (page_for q.id t.client.log.page) h (page_for_within q.id t.client.log.page h.client.log.page)
by_within t q iq.Error h short = page_answered_within t q (page_for q.id t.client.log.page) h (page_for_within q.id t.client.log.page h.client.log.page)

pub iq_within : (t : ClientStep ItemOut ItemOut) (q : IqView) → IsClientStepWithin t → (answers_iq q.kind ≡ true → IfSome q.from (IsTextWithin most_address) × IsTextWithin most_id q.id) → IsClientStepWithin (iq_row in_items t q)
iq_within t q h short = by_within t q q.kind h short
