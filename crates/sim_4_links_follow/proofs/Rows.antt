-- The rows of stanzas, and the calls of the user, have such outcomes.
use Rattle.std.proofs.Common.{◌≡◌, ℕ, ◌^◌, ◌<◌, ◌==◌, ◌&&◌, Bool, true, false, List, [], ◌∷◌, ◌++◌, codes, is_some, Option, Some, None, IfSome, Result, Ok, Err, refl, sym, ap, ◌∙◌, arith, length, if◌then◌else◌}
use Rattle.std.proofs.lemmas.Bool.Decides.{nat_tests}
use Rattle.std.specs.List.{AllByRecursion}
use Rattle.std.specs.Prelude.{nat_le}
use Rattle.cl_core.specs.PageRows.{answer_to, answered_page, begins_page, error_of_page, goes_on, iq_by, is_not_found, is_ping, next_queryid, only_fin, page_answered, page_done, page_ended, restarts, result_of_page}
use Rattle.cl_core.specs.Steps.{stanza_row}
use Rattle.cl_core.specs.UserCalls.{catch_up_answer, catch_up_in, catches_up, catches_up_in, is_bad_text, outbox_bound, say_answer, say_in, says as says_client_step, submission_of, submits}
use Rattle.cl_core.specs.declared.faults.CatchUpStart.TheVariants as start
use Rattle.cl_core.specs.declared.faults.SayFault.TheVariants as say
use Rattle.law_limits.specs.Within.{IsEntryWithin, IsLogWithin, IsPageWithin}
use Rattle.cl_handlers.specs.MessageRows.{bounce_of, error_within, held_by, held_row, is_own_or_absent, live_in, logged, message_row, message_with, other_message, own_id, refuses, result_row, result_to, tells_where}
use Rattle.cl_handlers.specs.Speech.{Put, in_items}
use Rattle.cl_handlers.specs.ClientSteps.{ends, has_to_put, is_online, put_in, tells, with_log}
use Rattle.cl_handlers.specs.declared.events.CatchUpFault.{CatchUpFault}
use Rattle.cl_handlers.specs.declared.events.Event.{Event}
use Rattle.cl_handlers.specs.declared.events.Event.TheVariants.{PageDone}
use Rattle.cl_handlers.specs.declared.events.PeerFault.TheVariants.{Unacknowledged}
use Rattle.sim_4_links_follow.proofs.Fair.{answer_for_server, answer_other, page_for_server}
use Rattle.sim_4_links_follow.proofs.Outcomes.{IsQuiet, IsSaid, Outcome, T, leaves, outcome_either, quiet_either, quiet_same, said_put, says, stays}
use Rattle.sim_3_items.specs.Counted.{IsForServer}
use Rattle.sim_3_items.specs.Labels.{awaits}
use Rattle.sim_3_items.proofs.SaidTexts.{may_say}
use Rattle.im_extensions.specs.declared.forwarding.Forwarded.{Forwarded}
use Rattle.mam_log.specs.LogPages.{last_id}
use Rattle.mam_log.specs.Views.{OpenPage, after_fin, end_of, page_for}
use Rattle.mam_log.specs.declared.fin.FinFault.{FinFault}
use Rattle.mam_log.specs.declared.fin.PageOutcome.{PageOutcome}
use Rattle.mam_log.specs.declared.fin.PageOutcome.TheVariants.{Complete, More}
use Rattle.mam_log.specs.declared.log_entry.LogEntry.{LogEntry}
use Rattle.im_mam.specs.Readings.{result_read}
use Rattle.im_mam.specs.declared.archive_answers.MamResult.{MamResult}
use Rattle.sm_outbox.specs.Sessions.{SessionView}
use Rattle.sm_outbox.specs.Submissions.{next_number, said_of}
use Rattle.sm_outbox.specs.Waiting.{is_full}
use Rattle.sm_outbox.specs.declared.said.Said.{Said}
use Rattle.mam_pages.specs.declared.fin.Fin.{Fin}
use Rattle.im_payload.specs.Names.{archive}
use Rattle.im_payload.specs.declared.fault.ExtFault.{ExtFault}
use Rattle.im_requests.specs.Messages.{page_item}
use Rattle.law_limits.specs.Bounds.{IsTextWithin, most_address, most_id}
use Rattle.im_stanza.specs.Kinds.{answers_iq}
use Rattle.im_stanza.specs.Views.{IqView, MessageView}
use Rattle.im_stanza.specs.declared.errors.StanzaError.{StanzaError}
use Rattle.im_stanza.specs.declared.fault.StanzaErrorFault.{StanzaErrorFault}
use Rattle.im_stanza.specs.declared.fault.StanzaFault.{StanzaFault}
use Rattle.im_stanza.specs.declared.kinds.IqKind.{IqKind}
use Rattle.im_stanza.specs.declared.kinds.IqKind.TheVariants as iq
use Rattle.im_stanza.specs.declared.stanzas.Stanza.{Stanza}
use Rattle.im_stanza.specs.declared.stanzas.Stanza.TheVariants.{Iq, Message, Presence}
use Rattle.xml_trees.specs.Readers.{elements_of, first_named}
use Rattle.xml_trees.specs.Trees.{Elem}
use Rattle.xml_writer.specs.Items.{ItemOut}
use Rattle.law_limits.proofs.PagesKept.{last_within, next_low, after_within, page_for_within}

-- ---- messages change nothing that the links have

refused : (t : T) (fault : CatchUpFault) → IsQuiet t (refuses t fault)
refused t fault = record { account = refl; epoch = refl; session = refl; phase = refl; put = refl; notes = refl }

result_quiet : (t : T) (o : Option OpenPage) (entry : LogEntry) → IsQuiet t (result_to t o entry)
result_quiet t None entry = quiet_same t
result_quiet t (Some page) entry =
    quiet_either (nat_le page.max (length page.results)) t _ _ (refused t _) (record { account = refl; epoch = refl; session = refl; phase = refl; put = refl; notes = refl })

read_quiet : (t : T) (read : Result MamResult ExtFault) → IsQuiet t (result_row t read)
read_quiet t (Ok r) = result_quiet t (page_for r.queryid t.client.log.page) (logged r.id r.forwarded.stamp r.forwarded.message)
read_quiet t (Err why) = quiet_same t

held_quiet : (t : T) (live : Forwarded) (o : Option (List ℕ)) → IsQuiet t (record t { client = held_by t.client live o })
held_quiet t live None = quiet_same t
held_quiet t live (Some id) = record { account = refl; epoch = refl; session = refl; phase = refl; put = refl; notes = refl }

told_quiet : (t u : T) (event : Option Event) → IsQuiet t u → IsQuiet t (tells_where u event)
told_quiet t u None q = q
told_quiet t u (Some event) q = record { account = q.account; epoch = q.epoch; session = q.session; phase = q.phase; put = q.put; notes = q.notes }

other_quiet : (t : T) (m : MessageView) → IsQuiet t (other_message t m)
other_quiet t m =
    let live = live_in t.client.account.bare m in
    told_quiet t (held_row t live) (bounce_of t.client m) (held_quiet t live (own_id t.client.account.bare (elements_of live.message.payload)))

with_quiet : (t : T) (m : MessageView) (o : Option Elem) → IsQuiet t (message_with t m o)
with_quiet t m None = other_quiet t m
with_quiet t m (Some given) = quiet_either (is_own_or_absent t.client.account.bare m.from) t _ _ (read_quiet t (result_read given)) (other_quiet t m)

message_quiet : (t : T) (m : MessageView) → IsQuiet t (message_row t m)
message_quiet t m = with_quiet t m (first_named archive (codes "result") m.payload)

-- ---- what is put

put_outcome : (t : T) (o : Option (SessionView ItemOut)) (z : ItemOut) → t.client.session ≡ o → IsForServer z → awaits z ≡ false → Outcome t (has_to_put in_items t o z)
put_outcome t None z is good other = stays (quiet_same t)
put_outcome t (Some s) z is good other =
    outcome_either (is_full s.waiting) t (ends t Unacknowledged) (put_in in_items t s z false)
    (leaves (record { account = refl; epoch = refl; session = refl; phase = refl; put = refl; notes = refl }))
    (λ position. says (record { session = s; stands = is; position = position; stanza = z; good = good; asks = false; other = λ e. other; queued = record { account = refl; epoch = refl; phase = refl; session = _; is = refl; previd = refl; acked = refl; handled = refl; queue = refl; notes = refl }; put = refl }))

begun_said : (t : T) (s : SessionView ItemOut) (max : ℕ) → t.client.session ≡ Some s → is_full s.waiting ≡ false → AllByRecursion IsEntryWithin t.client.log.entries → max < 2 ^ 32 → IsSaid t (begins_page in_items t s max)
begun_said t s max is position within small = record {
  session = s;
  stands = is;
  position = position;
  stanza = page_item (next_queryid t) (last_id t.client.log.entries) max;
  good = page_for_server (next_number t.client.pages) max (last_id t.client.log.entries) (next_low t.client.pages) (last_within t.client.log.entries within) small;
  asks = true;
  other = λ e. absurd (let no_way : ⊥ = cc in no_way);
  queued = record { account = refl; epoch = refl; phase = refl; session = _; is = refl; previd = refl; acked = refl; handled = refl; queue = refl; notes = refl };
  put = refl;
}

-- ---- pages

-- a turn that changed nothing that the links have, and what comes of it
following : (t m u : T) → IsQuiet t m → Outcome m u → Outcome t u
following t m u q (stays r) = stays (record {
  account = r.account ∙ q.account;
  epoch = r.epoch ∙ q.epoch;
  session = r.session ∙ q.session;
  phase = r.phase ∙ q.phase;
  put = r.put ∙ q.put;
  notes = r.notes ∙ q.notes;
})
following t m u q (leaves r) = leaves (record {
  account = r.account ∙ q.account;
  epoch = r.epoch ∙ q.epoch;
  session = r.session ∙ q.session;
  phase = r.phase;
  put = r.put ∙ q.put;
  notes = r.notes ∙ q.notes;
})
following t m u q (says r) = says (record {
  session = r.session;
  stands = sym q.session ∙ r.stands;
  position = r.position;
  stanza = r.stanza;
  good = r.good;
  asks = r.asks;
  other = r.other;
  queued = record {
    account = r.queued.account ∙ q.account;
    epoch = r.queued.epoch ∙ q.epoch;
    phase = r.queued.phase ∙ q.phase;
    session = r.queued.session;
    is = r.queued.is;
    previd = r.queued.previd;
    acked = r.queued.acked;
    handled = r.queued.handled;
    queue = r.queued.queue;
    notes = r.queued.notes ∙ ap (λ ns. ns ++ Put r.stanza ∷ []) q.notes;
  };
  put = r.put ∙ (λ i. if is_online (q.phase i) then said_put r.asks (q.put i) r.stanza else q.put i);
})

on_outcome : (t : T) (o : Option (SessionView ItemOut)) (max : ℕ) → t.client.session ≡ o → AllByRecursion IsEntryWithin t.client.log.entries → max < 2 ^ 32 → Outcome t (goes_on in_items t o max)
on_outcome t None max is within small = stays (quiet_same t)
on_outcome t (Some s) max is within small =
    outcome_either (is_full s.waiting) t (ends t Unacknowledged) (begins_page in_items t s max)
    (leaves (record { account = refl; epoch = refl; session = refl; phase = refl; put = refl; notes = refl }))
    (λ position. says (begun_said t s max is position within small))

done_outcome : (t : T) (page : OpenPage) (fin : Fin) (outcome : PageOutcome) → IsLogWithin t.client.log → IsPageWithin page → Outcome t (page_done in_items t page fin outcome)
done_outcome t page fin Complete h of = stays (record { account = refl; epoch = refl; session = refl; phase = refl; put = refl; notes = refl })
done_outcome t page fin More h of =
    let m = tells (with_log t (after_fin t.client.log fin)) (PageDone More) in
    following t m (page_done in_items t page fin More) (record { account = refl; epoch = refl; session = refl; phase = refl; put = refl; notes = refl })
    (on_outcome m t.client.session page.max refl (after_within t.client.log fin h).entries of.max)

ended_outcome : (t : T) (page : OpenPage) (fin : Fin) (outcome : Result PageOutcome FinFault) → IsLogWithin t.client.log → IsPageWithin page → Outcome t (page_ended in_items t page fin outcome)
ended_outcome t page fin (Ok outcome) h of = done_outcome t page fin outcome h of
ended_outcome t page fin (Err why) h of = stays (refused t _)

result_outcome : (t : T) (page : OpenPage) (o : Option Fin) → IsLogWithin t.client.log → IsPageWithin page → Outcome t (result_of_page in_items t page o)
result_outcome t page (Some fin) h of = ended_outcome t page fin (end_of t.client.log page fin) h of
result_outcome t page None h of = stays (refused t _)

-- ---- an error to a page

restart_outcome : (t : T) (o : Option (SessionView ItemOut)) (max : ℕ) → t.client.session ≡ o → max < 2 ^ 32 → Outcome t (restarts in_items t o max)
restart_outcome t None max is small = stays (quiet_same t)
restart_outcome t (Some s) max is small =
    outcome_either (is_full s.waiting) t _ _
    (leaves (record { account = refl; epoch = refl; session = refl; phase = refl; put = refl; notes = refl }))
    (λ position. says (record {
      session = s;
      stands = is;
      position = position;
      stanza = page_item (next_queryid t) None max;
      good = page_for_server (next_number t.client.pages) max None (next_low t.client.pages) tt small;
      asks = true;
      other = λ e. absurd (let no_way : ⊥ = cc in no_way);
      queued = record { account = refl; epoch = refl; phase = refl; session = _; is = refl; previd = refl; acked = refl; handled = refl; queue = refl; notes = refl };
      put = refl;
    }))

error_outcome : (t : T) (page : OpenPage) (r : Result StanzaError StanzaErrorFault) → IsPageWithin page → Outcome t (error_of_page in_items t page r)
error_outcome t page (Ok error) of =
    outcome_either (is_not_found error.condition && is_some page.after) t _ _ (restart_outcome t t.client.session page.max refl of.max) (λ other. stays (refused t _))
error_outcome t page (Err why) of = stays (refused t _)

-- ---- requests, and answers to pages

answered_outcome : (t : T) (q : IqView) (page : OpenPage) (kind : IqKind) → IsLogWithin t.client.log → IsPageWithin page → Outcome t (answered_page in_items t q page kind)
answered_outcome t q page iq.Result h of = result_outcome t page (only_fin (elements_of q.payload)) h of
answered_outcome t q page iq.Error h of = error_outcome t page (error_within q.payload) of
answered_outcome t q page iq.Get h of = stays (quiet_same t)
answered_outcome t q page iq.Set h of = stays (quiet_same t)

page_outcome : (t : T) (q : IqView) (o : Option OpenPage) → IsLogWithin t.client.log → IfSome o IsPageWithin → Outcome t (page_answered in_items t q o)
page_outcome t q None h of = stays (quiet_same t)
page_outcome t q (Some page) h of =
    outcome_either (is_own_or_absent t.client.account.bare q.from) t _ _ (answered_outcome t q page q.kind h of) (λ other. stays (quiet_same t))

-- of a request the address and the id are short
abbrev pub CanAnswer : IqView → IqKind → Type 0
CanAnswer q kind = answers_iq kind ≡ true → IfSome q.from (IsTextWithin most_address) × IsTextWithin most_id q.id

iq_outcome : (t : T) (q : IqView) (kind : IqKind) → IsLogWithin t.client.log → CanAnswer q kind → Outcome t (iq_by in_items t q kind)
iq_outcome t q iq.Get h short =
    let b = short refl in
    put_outcome t t.client.session (answer_to q (is_ping (elements_of q.payload))) refl (answer_for_server q (is_ping (elements_of q.payload)) b.0 b.1) (answer_other q (is_ping (elements_of q.payload)))
iq_outcome t q iq.Set h short =
    let b = short refl in
    put_outcome t t.client.session (answer_to q false) refl (answer_for_server q false b.0 b.1) (answer_other q false)
iq_outcome t q iq.Result h short = page_outcome t q (page_for q.id t.client.log.page) h (page_for_within q.id t.client.log.page h.page)
iq_outcome t q iq.Error h short = page_outcome t q (page_for q.id t.client.log.page) h (page_for_within q.id t.client.log.page h.page)

-- ---- stanzas

pub stanza_outcome : (t : T) (read : Result Stanza StanzaFault) → IsLogWithin t.client.log → ((q : IqView) → read ≡ Ok (Iq q) → CanAnswer q q.kind) → Outcome t (stanza_row in_items t read)
stanza_outcome t (Ok (Message m)) h short = stays (message_quiet t m)
stanza_outcome t (Ok (Iq q)) h short = iq_outcome t q q.kind h (short q refl)
stanza_outcome t (Ok (Presence p)) h short = stays (quiet_same t)
stanza_outcome t (Err fault) h short = stays (quiet_same t)

-- ---- what the user asks for

-- where fewer wait than the user may add to, the queue isn't full
not_full : (n : ℕ) → nat_le 1000 n ≡ false → (n == 10000) ≡ false
not_full n few = grind (arith, nat_tests)

submits_said : (t : T) (o : Option (SessionView ItemOut)) (z : ItemOut) (said : Said) (n : ℕ) → t.client.session ≡ o → say_in t.client o ≡ Ok n → IsForServer z → IsSaid t (submits in_items t o z said)
submits_said t None z said n is answer good = absurd (let no_way : ⊥ = cc in no_way)
submits_said t (Some s) z said n is answer good = record {
  session = s;
  stands = is;
  position = not_full (length s.waiting.queue) (few (nat_le outbox_bound (length s.waiting.queue)) answer);
  stanza = z;
  good = good;
  asks = true;
  other = λ e. absurd (let no_way : ⊥ = cc in no_way);
  queued = record { account = refl; epoch = refl; phase = refl; session = _; is = refl; previd = refl; acked = refl; handled = refl; queue = refl; notes = refl };
  put = refl;
}
  where
    few : (b : Bool) → (if b then Err say.OutboxFull else Ok (next_number t.client.n)) ≡ Ok n → b ≡ false
    few true e = absurd (let no_way : ⊥ = cc in no_way)
    few false e = refl

pub says_said : (t : T) (to text : List ℕ) (private : Bool) (n : ℕ) → say_answer t.client text ≡ Ok n → IsForServer (submission_of t.client to text private) → IsSaid t (says_client_step in_items t to text private)
says_said t to text private n answer good =
    submits_said t t.client.session (submission_of t.client to text private) (said_of t.client.epoch t.client.n to text private) n refl (may_say t.client (is_bad_text text) n answer) good

asks_said : (t : T) (o : Option (SessionView ItemOut)) (max : ℕ) → t.client.session ≡ o → catch_up_in t.client o ≡ Ok tt → AllByRecursion IsEntryWithin t.client.log.entries → max < 2 ^ 32 → IsSaid t (catches_up_in in_items t o max)
asks_said t None max is answer within small = absurd (let no_way : ⊥ = cc in no_way)
asks_said t (Some s) max is answer within small =
    begun_said t s max is (not_full (length s.waiting.queue) (few (nat_le outbox_bound (length s.waiting.queue)) (is_some t.client.log.page) tt answer)) within small
  where
    few : (b c : Bool) (done : Unit {0}) → (if b then Err start.OutboxFull else (if c then Err start.Underway else Ok done)) ≡ Ok done → b ≡ false
    few true c done e = absurd (let no_way : ⊥ = cc in no_way)
    few false c done e = refl

pub catches_up_said : (t : T) (max : ℕ) → catch_up_answer t.client ≡ Ok tt → AllByRecursion IsEntryWithin t.client.log.entries → max < 2 ^ 32 → IsSaid t (catches_up in_items t max)
catches_up_said t max answer within small = asks_said t t.client.session max refl answer within small
