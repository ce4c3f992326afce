-- What a client tells of an item is no fault of a catch-up, unless it drops the open page; and no stream error but the item's.
use Rattle.std.proofs.Common.{◌≡◌, ◌⊎◌, ℕ, Bool, true, false, ◌&&◌, cond, List, [], ◌∷◌, Option, Some, None, Result, Ok, Err, codes, is_some, nat_le, length, refl, subst, sym, inl, inr}
use Rattle.std.specs.List.{AllByRecursion}
use Rattle.std.specs.Option.{IfSome}
use Rattle.sm_acks.specs.Counters.{ahead}
use Rattle.cl_core.specs.PageRows.{answer_to, answered_page, begins_page, catch_up_fault, error_of_page, goes_on, iq_by, is_not_found, is_ping, next_queryid, nothing_told, numbered, only_fin, page_answered, page_done, page_ended, page_stanza, requests, restarts, result_of_page}
use Rattle.cl_core.specs.Steps.{connected_step, element_row, handles, item_step, online_in, stanza_row, stream_condition, told_row}
use Rattle.law_client.proofs.OnlineWalk.{page_open}
use Rattle.cl_login.specs.LoginRows as rows
use Rattle.cl_login.specs.Puts.{Row}
use Rattle.cl_login.specs.declared.answers.Next.{Next}
use Rattle.cl_login.specs.declared.answers.Next.TheVariants as next
use Rattle.cl_login.specs.declared.login_fault.LoginFault.{LoginFault}
use Rattle.cl_login.specs.declared.login_fault.LoginFault.TheVariants as fault
use Rattle.cl_handlers.specs.AckRows.{acknowledges, counts_too_high, request_row}
use Rattle.cl_handlers.specs.Clients.{ClientStep, ClientView}
use Rattle.cl_handlers.specs.LoginSteps as login
use Rattle.cl_handlers.specs.LoginSteps.{follows, header_row, other_element, peer_fault}
use Rattle.cl_handlers.specs.MessageRows.{bounce_of, bounced_by, error_within, held_row, is_bounce, is_own_or_absent, live_in, logged, message_with, other_message, refuses, result_row, result_to, tells_where}
use Rattle.cl_handlers.specs.SessionRows.{asks, attaches, begins, begins_epoch, binding_row, can_resume, enabling_with, failed_row, features2_with, is_stanza, queue_in, resent, resumed_in, resumes_or_binds, resuming_with, tells_bound}
use Rattle.cl_handlers.specs.Speech.{in_items, uttered_where}
use Rattle.cl_handlers.specs.ClientSteps.{drops, ends, has_to_put, is_apart, left, put_in, puts, tells, with_log, with_session}
use Rattle.cl_handlers.specs.declared.events.CatchUpFault.{CatchUpFault}
use Rattle.cl_handlers.specs.declared.events.CatchUpFault.TheVariants.{Overrun, Refused}
use Rattle.cl_handlers.specs.declared.events.Event.{Event}
use Rattle.cl_handlers.specs.declared.events.Event.TheVariants.{Acked, Bound, Ended, PageDone, ResumeFailed, Resumed}
use Rattle.cl_handlers.specs.declared.events.PeerFault.{PeerFault}
use Rattle.cl_handlers.specs.declared.events.PeerFault.TheVariants as peer
use Rattle.cl_handlers.specs.declared.phase.Phase.{Phase}
use Rattle.cl_handlers.specs.declared.phase.Phase.TheVariants as phase
use Rattle.im_extensions.specs.Readings.{enabled_read, resumption_read}
use Rattle.im_extensions.specs.StreamManagement.{ack_read, is_management}
use Rattle.im_extensions.specs.declared.stream_management.Ack.{Ack}
use Rattle.im_extensions.specs.declared.stream_management.Enabled.{Enabled}
use Rattle.im_login.specs.Features.{features_read}
use Rattle.im_login.specs.declared.features.Features.{Features}
use Rattle.xml_framer.specs.declared.items.Item.{Item}
use Rattle.xml_framer.specs.declared.items.Item.TheVariants.{Element, Footer, Header}
use Rattle.mam_log.specs.LogCalls.{with_restart}
use Rattle.mam_log.specs.Views.{OpenPage, after_fin, end_of, page_for, with_result, without_page}
use Rattle.mam_log.specs.declared.fin.FinFault.{FinFault}
use Rattle.mam_log.specs.declared.fin.PageOutcome.{PageOutcome}
use Rattle.mam_log.specs.declared.fin.PageOutcome.TheVariants.{Complete, More}
use Rattle.mam_log.specs.declared.log_entry.LogEntry.{LogEntry}
use Rattle.im_mam.specs.Readings.{result_read}
use Rattle.im_mam.specs.declared.archive_answers.MamResult.{MamResult}
use Rattle.sm_outbox.specs.Sessions.{SessionView}
use Rattle.sm_outbox.specs.Submissions.{acknowledged}
use Rattle.sm_outbox.specs.Waiting.{acked, is_full, is_too_high, submissions_to, too_high}
use Rattle.mam_pages.specs.declared.fin.Fin.{Fin}
use Rattle.im_payload.specs.Names.{archive}
use Rattle.im_payload.specs.declared.fault.ExtFault.{ExtFault}
use Rattle.im_requests.specs.Sessions.{enable_item}
use Rattle.im_login.specs.Readings.{failure_read}
use Rattle.cmd_schedule.proofs.Lists.{all_append}
use Rattle.im_stanza.specs.Names.{streams_ns}
use Rattle.im_stanza.specs.Readings.{stanza_of}
use Rattle.im_stanza.specs.Views.{IqView, MessageView}
use Rattle.im_stanza.specs.declared.errors.StanzaError.{StanzaError}
use Rattle.im_stanza.specs.declared.fault.StanzaErrorFault.{StanzaErrorFault}
use Rattle.im_stanza.specs.declared.fault.StanzaFault.{StanzaFault}
use Rattle.im_stanza.specs.declared.kinds.IqKind.{IqKind}
use Rattle.im_stanza.specs.declared.kinds.IqKind.TheVariants as iq
use Rattle.im_stanza.specs.declared.stanzas.Stanza.{Stanza}
use Rattle.im_stanza.specs.declared.stanzas.Stanza.TheVariants.{Iq, Message, Presence}
use Rattle.xml_trees.specs.Readers.{elements_of, first_named, is_named}
use Rattle.xml_trees.specs.Trees.{Elem}
use Rattle.sim_7_schedules.specs.Faults.{EndsForFew, IsFewEnd, IsNoPageFault}
use Rattle.xml_writer.specs.Items.{ItemOut}

abbrev Rendered : Type 0
Rendered = ClientStep ItemOut ItemOut

abbrev pub IsFair : Event → Type 0
IsFair event = IsNoPageFault event × EndsForFew event

abbrev pub IsBounded : ClientStep ItemOut ItemOut → Type 0
IsBounded t = AllByRecursion IsFair t.out.events

-- the open page is dropped
abbrev pub IsDropped : ClientStep ItemOut ItemOut → ClientStep ItemOut ItemOut → Type 0
IsDropped t u = (page : OpenPage) × (t.client.log.page ≡ Some page) × (u.client.log ≡ without_page t.client.log)

-- the connection is left
abbrev pub IsLeft : ClientStep ItemOut ItemOut → Type 0
IsLeft u = u.client.phase ≡ phase.Apart

abbrev Kept : Rendered → Type 0
Kept u = IsBounded u ⊎ IsLeft u

abbrev Out : Rendered → Rendered → Type 0
Out t u = Kept u ⊎ IsDropped t u

bounded_if : (b : Bool) (u v : Rendered) → IsBounded u → IsBounded v → IsBounded (cond b u v)
bounded_if true u v here there = here
bounded_if false u v here there = there

kept_if : (b : Bool) (u v : Rendered) → Kept u → Kept v → Kept (cond b u v)
kept_if true u v here there = here
kept_if false u v here there = there

out_if : (t : Rendered) (b : Bool) (u v : Rendered) → Out t u → Out t v → Out t (cond b u v)
out_if t true u v here there = here
out_if t false u v here there = there

tells_bounded : (t : Rendered) (e : Event) → IsFair e → IsBounded t → IsBounded (tells t e)
tells_bounded t e fair bounded = all_append IsFair t.out.events (e ∷ []) bounded (fair, tt)

ends_bounded : (t : Rendered) (f : PeerFault) → IsFewEnd f → IsBounded t → IsBounded (ends t f)
ends_bounded t f few bounded = tells_bounded (left t) (Ended f) (tt, few) bounded

-- ---- logins

no_stream : (f : LoginFault) → IsFewEnd (peer_fault f)
no_stream (fault.Sasl condition) = tt
no_stream fault.BadVerifier = tt
no_stream fault.Scram = tt
no_stream fault.NoFeature = tt
no_stream fault.Unexpected = tt

login_bounded : (t : Rendered) (n : Next) → IsBounded t → IsBounded (login.goes_on t n)
login_bounded t (next.Goes state) bounded = bounded
login_bounded t next.LoggedIn bounded = bounded
login_bounded t (next.Ends why) bounded = ends_bounded t (peer_fault why) (no_stream why) bounded

follows_bounded : (t : Rendered) (row : Row) → IsBounded t → IsBounded (follows in_items t row)
follows_bounded t row bounded = login_bounded (puts t (uttered_where in_items row.put)) row.next bounded

other_bounded : (t : Rendered) (e : Elem) → IsBounded t → IsBounded (other_element t e)
other_bounded t e bounded = ends_bounded t (peer_fault (rows.other_fault (failure_read e))) (no_stream (rows.other_fault (failure_read e))) bounded

header_bounded : (t : Rendered) (p : Phase) → IsBounded t → IsBounded (header_row in_items t p)
header_bounded t phase.Apart bounded = bounded
header_bounded t (phase.Login state) bounded = follows_bounded t (rows.header_row state) bounded
header_bounded t phase.Online bounded = bounded
header_bounded t phase.Features2 bounded = ends_bounded t peer.Unexpected tt bounded
header_bounded t phase.Resuming bounded = ends_bounded t peer.Unexpected tt bounded
header_bounded t phase.Binding bounded = ends_bounded t peer.Unexpected tt bounded
header_bounded t phase.Enabling bounded = ends_bounded t peer.Unexpected tt bounded

-- ---- acknowledgements

acknowledges_bounded : (t : Rendered) (s : SessionView ItemOut) (h : ℕ) → IsBounded t → IsBounded (acknowledges in_items t s h)
acknowledges_bounded t s h bounded =
    tells_bounded (with_session (record t { client = record t.client { said = acknowledged (submissions_to s.waiting h) t.client.said } }) s (acked s.waiting h)) (Acked (ahead h s.waiting.acked)) (tt, tt) bounded

-- a count is too high: the client ends the stream, and leaves
abbrev IsHigh : SessionView ItemOut → ℕ → Rendered → Type 0
IsHigh s h u = (is_too_high s.waiting h ≡ true) × IsLeft u

high_or : (s : SessionView ItemOut) (h : ℕ) (u v : Rendered) → IsLeft u → IsBounded v → IsBounded (cond (is_too_high s.waiting h) u v) ⊎ IsHigh s h (cond (is_too_high s.waiting h) u v)
high_or s h u v gone bounded = by (is_too_high s.waiting h) refl
  where
    by : (b : Bool) → is_too_high s.waiting h ≡ b → IsBounded (cond b u v) ⊎ ((is_too_high s.waiting h ≡ true) × IsLeft (cond b u v))
    by true high = inr (high, gone)
    by false low = inl bounded

-- which counts an element tells a client
abbrev pub IsCountAt : Phase → Elem → ℕ → Type 0
IsCountAt phase.Resuming e h = (told : List ℕ × ℕ) × (resumption_read (codes "resumed") e ≡ Ok told) × (told.1 ≡ h)
IsCountAt phase.Online e h = (ack : Ack) × (is_management (codes "r") e ≡ false) × (ack_read e ≡ Ok ack) × (ack.h ≡ h)
IsCountAt _ e h = ⊥

-- one that is too high comes to a client, and no stream error does
abbrev pub IsHighAt : ClientView ItemOut → Item → Type 0
IsHighAt c (Element e) = (s : SessionView ItemOut) × (h : ℕ) × (c.session ≡ Some s) × IsCountAt c.phase e h × (is_named streams_ns (codes "error") e ≡ false) × (is_too_high s.waiting h ≡ true)
IsHighAt c _ = ⊥

abbrev IsHighTold : SessionView ItemOut → Result Ack ExtFault → Rendered → Type 0
IsHighTold s r u = (ack : Ack) × (r ≡ Ok ack) × IsHigh s ack.h u

told_out : (t : Rendered) (s : SessionView ItemOut) (r : Result Ack ExtFault) → IsBounded t → IsBounded (told_row in_items t s r) ⊎ IsHighTold s r (told_row in_items t s r)
told_out t s (Ok ack) bounded = by (high_or s ack.h (counts_too_high in_items t (too_high s.waiting ack.h)) (acknowledges in_items t s ack.h) refl (acknowledges_bounded t s ack.h bounded))
  where
    by : IsBounded (told_row in_items t s (Ok ack)) ⊎ IsHigh s ack.h (told_row in_items t s (Ok ack)) → IsBounded (told_row in_items t s (Ok ack)) ⊎ IsHighTold s (Ok ack) (told_row in_items t s (Ok ack))
    by (inl done) = inl done
    by (inr high) = inr (ack, refl, high)
told_out t s (Err why) bounded = inl bounded

-- ---- sessions

asked_bounded : (t : Rendered) (s : Option (SessionView ItemOut)) → IsBounded t → IsBounded (resumes_or_binds in_items t s)
asked_bounded t None bounded = bounded
asked_bounded t (Some s) bounded = bounded

features_bounded : (t : Rendered) (e : Elem) (r : Result Features ExtFault) → IsBounded t → IsBounded (features2_with in_items t e r)
features_bounded t e (Ok features) bounded = bounded_if features.bind (resumes_or_binds in_items t t.client.session) (ends t peer.NoFeature) (asked_bounded t t.client.session bounded) (ends_bounded t peer.NoFeature tt bounded)
features_bounded t e (Err why) bounded = other_bounded t e bounded

attaches_bounded : (t : Rendered) → IsBounded t → IsBounded (attaches in_items t)
attaches_bounded t bounded = tells_bounded (puts (record t { client = record t.client { phase = phase.Online } }) (resent in_items (queue_in t.client.session))) Resumed (tt, tt) bounded

resumed_out : (t : Rendered) (o : Option (SessionView ItemOut)) (h : ℕ) → IsBounded t → IsBounded (resumed_in in_items t o h) ⊎ ((s : SessionView ItemOut) × (o ≡ Some s) × IsHigh s h (resumed_in in_items t o h))
resumed_out t None h bounded = inl bounded
resumed_out t (Some s) h bounded =
    by (high_or s h (counts_too_high in_items t (too_high s.waiting h)) (attaches in_items (acknowledges in_items t s h)) refl (attaches_bounded (acknowledges in_items t s h) (acknowledges_bounded t s h bounded)))
  where
    by : IsBounded (resumed_in in_items t (Some s) h) ⊎ IsHigh s h (resumed_in in_items t (Some s) h)
        → IsBounded (resumed_in in_items t (Some s) h) ⊎ ((q : SessionView ItemOut) × (Some s ≡ Some q) × IsHigh q h (resumed_in in_items t (Some s) h))
    by (inl done) = inl done
    by (inr high) = inr (s, refl, high)

failed_bounded : (t : Rendered) → IsBounded t → IsBounded (failed_row in_items t)
failed_bounded t bounded = tells_bounded (drops in_items t) ResumeFailed (tt, tt) bounded

-- the session is resumed by a count that is too high
abbrev IsHighResumed : Rendered → Result (List ℕ × ℕ) ExtFault → Rendered → Type 0
IsHighResumed t r u = (s : SessionView ItemOut) × (told : List ℕ × ℕ) × (t.client.session ≡ Some s) × (r ≡ Ok told) × IsHigh s told.1 u

resuming_out : (t : Rendered) (e : Elem) (r : Result (List ℕ × ℕ) ExtFault) → IsBounded t → IsBounded (resuming_with in_items t e r) ⊎ IsHighResumed t r (resuming_with in_items t e r)
resuming_out t e (Ok told) bounded = by (resumed_out t t.client.session told.1 bounded)
  where
    by : IsBounded (resumed_in in_items t t.client.session told.1) ⊎ ((s : SessionView ItemOut) × (t.client.session ≡ Some s) × IsHigh s told.1 (resumed_in in_items t t.client.session told.1))
        → IsBounded (resumed_in in_items t t.client.session told.1) ⊎ IsHighResumed t (Ok told) (resumed_in in_items t t.client.session told.1)
    by (inl done) = inl done
    by (inr (s, has, high)) = inr (s, told, has, refl, high)
resuming_out t e (Err why) bounded = inl (bounded_if (is_management (codes "failed") e) (failed_row in_items t) (other_element t e) (failed_bounded t bounded) (other_bounded t e bounded))

binding_bounded : (t : Rendered) (e : Elem) → IsBounded t → IsBounded (binding_row in_items t e)
binding_bounded t e bounded = bounded_if (tells_bound (stanza_of e)) (asks in_items (begins_epoch in_items t) enable_item phase.Enabling) (other_element t e) bounded (other_bounded t e bounded)

begins_bounded : (t : Rendered) (previd : List ℕ) → IsBounded t → IsBounded (begins in_items t previd)
begins_bounded t previd bounded = all_append IsFair t.out.events (Bound t.client.epoch ∷ []) bounded ((tt, tt), tt)

enabling_bounded : (t : Rendered) (e : Elem) (r : Result Enabled ExtFault) → IsBounded t → IsBounded (enabling_with in_items t e r)
enabling_bounded t e (Ok enabled) bounded = bounded_if (can_resume enabled) (begins in_items t enabled.id) (other_element t e) (begins_bounded t enabled.id bounded) (other_bounded t e bounded)
enabling_bounded t e (Err why) bounded = bounded_if (is_stanza e) t (other_element t e) bounded (other_bounded t e bounded)

-- ---- messages

where_bounded : (t : Rendered) (o : Option Event) → IfSome o IsFair → IsBounded t → IsBounded (tells_where t o)
where_bounded t None fair bounded = bounded
where_bounded t (Some event) fair bounded = tells_bounded t event fair bounded

bounced_fair : (id : List ℕ) (r : Result StanzaError StanzaErrorFault) → IfSome (bounced_by id r) IsFair
bounced_fair id (Ok error) = (tt, tt)
bounced_fair id (Err why) = tt

bounce_fair : (c : ClientView ItemOut) (m : MessageView) → IfSome (bounce_of c m) IsFair
bounce_fair c m = by (is_bounce c m)
  where
    by : (b : Bool) → IfSome (cond b (bounced_by m.id (error_within m.payload)) None) IsFair
    by true = bounced_fair m.id (error_within m.payload)
    by false = tt

other_message_bounded : (t : Rendered) (m : MessageView) → IsBounded t → IsBounded (other_message t m)
other_message_bounded t m bounded = where_bounded (held_row t (live_in t.client.account.bare m)) (bounce_of t.client m) (bounce_fair t.client m) bounded

result_out : (t : Rendered) (o : Option OpenPage) (entry : LogEntry) → ((page : OpenPage) → o ≡ Some page → t.client.log.page ≡ Some page) → IsBounded t → Out t (result_to t o entry)
result_out t None entry there bounded = inl (inl bounded)
result_out t (Some page) entry there bounded =
    out_if t (nat_le page.max (length page.results)) (refuses t Overrun) (with_log t (with_result t.client.log entry)) (inr (page, there page refl, refl)) (inl (inl bounded))

result_row_out : (t : Rendered) (r : Result MamResult ExtFault) → IsBounded t → Out t (result_row t r)
result_row_out t (Ok r) bounded = result_out t (page_for r.queryid t.client.log.page) (logged r.id r.forwarded.stamp r.forwarded.message) (page_open r.queryid t.client.log.page) bounded
result_row_out t (Err why) bounded = inl (inl bounded)

message_out : (t : Rendered) (m : MessageView) (result : Option Elem) → IsBounded t → Out t (message_with t m result)
message_out t m None bounded = inl (inl (other_message_bounded t m bounded))
message_out t m (Some result) bounded =
    out_if t (is_own_or_absent t.client.account.bare m.from) (result_row t (result_read result)) (other_message t m) (result_row_out t (result_read result) bounded) (inl (inl (other_message_bounded t m bounded)))

-- ---- the ends of pages

put_kept : (t : Rendered) (s : Option (SessionView ItemOut)) (stanza : ItemOut) → IsBounded t → Kept (has_to_put in_items t s stanza)
put_kept t None stanza bounded = inl bounded
put_kept t (Some s) stanza bounded = kept_if (is_full s.waiting) (ends t peer.Unacknowledged) (put_in in_items t s stanza false) (inr refl) (inl bounded)

goes_on_kept : (t : Rendered) (s : Option (SessionView ItemOut)) (max : ℕ) → IsBounded t → Kept (goes_on in_items t s max)
goes_on_kept t None max bounded = inl bounded
goes_on_kept t (Some s) max bounded = kept_if (is_full s.waiting) (ends t peer.Unacknowledged) (begins_page in_items t s max) (inr refl) (inl bounded)

done_kept : (t : Rendered) (page : OpenPage) (fin : Fin) (p : PageOutcome) → IsBounded t → Kept (page_done in_items t page fin p)
done_kept t page fin Complete bounded = inl (tells_bounded (with_log t (after_fin t.client.log fin)) (PageDone Complete) (tt, tt) bounded)
done_kept t page fin More bounded =
    let u = with_log t (after_fin t.client.log fin) in
    goes_on_kept (tells u (PageDone More)) t.client.session page.max (tells_bounded u (PageDone More) (tt, tt) bounded)

module _ (t : Rendered) (page : OpenPage) (there : t.client.log.page ≡ Some page) (bounded : IsBounded t) where
  dropped : (f : CatchUpFault) → Out t (refuses t f)
  dropped f = inr (page, there, refl)

  ended_out : (fin : Fin) (r : Result PageOutcome FinFault) → Out t (page_ended in_items t page fin r)
  ended_out fin (Ok p) = inl (done_kept t page fin p bounded)
  ended_out fin (Err why) = dropped (catch_up_fault why)

  end_out : (fin : Option Fin) → Out t (result_of_page in_items t page fin)
  end_out (Some fin) = ended_out fin (end_of t.client.log page fin)
  end_out None = dropped nothing_told

  restarts_kept : (s : Option (SessionView ItemOut)) (max : ℕ) → Kept (restarts in_items t s max)
  restarts_kept None max = inl bounded
  restarts_kept (Some s) max =
      kept_if (is_full s.waiting) (ends (with_log t (without_page t.client.log)) peer.Unacknowledged)
      (requests in_items (with_log (numbered t) (with_restart t.client.log (next_queryid t))) s (page_stanza in_items t None max) false) (inr refl) (inl bounded)

  error_out : (r : Result StanzaError StanzaErrorFault) → Out t (error_of_page in_items t page r)
  error_out (Ok error) =
      out_if t (is_not_found error.condition && is_some page.after) (restarts in_items t t.client.session page.max) (refuses t (Refused error.condition)) (inl (restarts_kept t.client.session page.max)) (dropped (Refused error.condition))
  error_out (Err why) = dropped nothing_told

  answered_out : (q : IqView) (kind : IqKind) → Out t (answered_page in_items t q page kind)
  answered_out q iq.Result = end_out (only_fin (elements_of q.payload))
  answered_out q iq.Error = error_out (error_within q.payload)
  answered_out q iq.Get = inl (inl bounded)
  answered_out q iq.Set = inl (inl bounded)

page_out : (t : Rendered) (q : IqView) (o : Option OpenPage) → ((page : OpenPage) → o ≡ Some page → t.client.log.page ≡ Some page) → IsBounded t → Out t (page_answered in_items t q o)
page_out t q None there bounded = inl (inl bounded)
page_out t q (Some page) there bounded =
    out_if t (is_own_or_absent t.client.account.bare q.from) (answered_page in_items t q page q.kind) t (answered_out t page (there page refl) bounded q q.kind) (inl (inl bounded))

iq_out : (t : Rendered) (q : IqView) (kind : IqKind) → IsBounded t → Out t (iq_by in_items t q kind)
iq_out t q iq.Get bounded = inl (put_kept t t.client.session (answer_to q (is_ping (elements_of q.payload))) bounded)
iq_out t q iq.Set bounded = inl (put_kept t t.client.session (answer_to q false) bounded)
iq_out t q iq.Result bounded = page_out t q (page_for q.id t.client.log.page) (page_open q.id t.client.log.page) bounded
iq_out t q iq.Error bounded = page_out t q (page_for q.id t.client.log.page) (page_open q.id t.client.log.page) bounded

stanza_out : (t : Rendered) (r : Result Stanza StanzaFault) → IsBounded t → Out t (stanza_row in_items t r)
stanza_out t (Ok (Message m)) bounded = message_out t m (first_named archive (codes "result") m.payload) bounded
stanza_out t (Ok (Iq q)) bounded = iq_out t q q.kind bounded
stanza_out t (Ok (Presence p)) bounded = inl (inl bounded)
stanza_out t (Err fault) bounded = inl (inl bounded)

-- ---- items

-- a stanza comes to a client that is online
abbrev pub IsStanzaAt : ClientView ItemOut → Item → Type 0
IsStanzaAt c (Element e) = (c.phase ≡ phase.Online) × (is_stanza e ≡ true)
IsStanzaAt c _ = ⊥

-- it is no stream error but one of these
abbrev pub IsFairItem : Item → Type 0
IsFairItem (Element e) = is_named streams_ns (codes "error") e ≡ true → IsFewEnd (peer.Stream (stream_condition e))
IsFairItem _ = Unit {0}

abbrev pub StepOut : ClientStep ItemOut ItemOut → Item → ClientStep ItemOut ItemOut → Type 0
StepOut t i u = IsBounded u ⊎ ((IsStanzaAt t.client i × (IsDropped t u ⊎ IsLeft u)) ⊎ (IsHighAt t.client i × IsLeft u))

module _ (t : Rendered) (e : Elem) (plain : is_named streams_ns (codes "error") e ≡ false) (bounded : IsBounded t) where
  abbrev Outcome : Rendered → Type 0
  Outcome u = StepOut t (Element e) u

  online_out : (o : Option (SessionView ItemOut)) → t.client.session ≡ o → t.client.phase ≡ phase.Online → Outcome (online_in in_items t o e)
  online_out None has at = inl bounded
  online_out (Some s) has at = by (is_stanza e) refl
    where
      of_stanza : is_stanza e ≡ true → Out (handles in_items t s e) (stanza_row in_items (handles in_items t s e) (stanza_of e)) → Outcome (stanza_row in_items (handles in_items t s e) (stanza_of e))
      of_stanza stanza (inl (inl done)) = inl done
      of_stanza stanza (inl (inr gone)) = inr (inl ((at, stanza), inr gone))
      of_stanza stanza (inr lost) = inr (inl ((at, stanza), inl lost))

      of_count : is_management (codes "r") e ≡ false → IsBounded (told_row in_items t s (ack_read e)) ⊎ IsHighTold s (ack_read e) (told_row in_items t s (ack_read e))
          → Outcome (told_row in_items t s (ack_read e))
      of_count other (inl done) = inl done
      of_count other (inr (ack, reads, (high, gone))) = inr (inr ((s, ack.h, has, subst (λ p. IsCountAt p e ack.h) (sym at) (ack, other, reads, refl), plain, high), gone))

      no_stanza : (b : Bool) → is_management (codes "r") e ≡ b → Outcome (cond b (request_row in_items t s) (told_row in_items t s (ack_read e)))
      no_stanza true is = inl bounded
      no_stanza false is = of_count is (told_out t s (ack_read e) bounded)

      by : (b : Bool) → is_stanza e ≡ b
          → Outcome (cond b (stanza_row in_items (handles in_items t s e) (stanza_of e)) (cond (is_management (codes "r") e) (request_row in_items t s) (told_row in_items t s (ack_read e))))
      by true is = of_stanza is (stanza_out (handles in_items t s e) (stanza_of e) bounded)
      by false is = no_stanza (is_management (codes "r") e) refl

  of_resumed : t.client.phase ≡ phase.Resuming → IsBounded (resuming_with in_items t e (resumption_read (codes "resumed") e)) ⊎ IsHighResumed t (resumption_read (codes "resumed") e) (resuming_with in_items t e (resumption_read (codes "resumed") e))
      → Outcome (resuming_with in_items t e (resumption_read (codes "resumed") e))
  of_resumed at (inl done) = inl done
  of_resumed at (inr (s, told, has, reads, (high, gone))) = inr (inr ((s, told.1, has, subst (λ p. IsCountAt p e told.1) (sym at) (told, reads, refl), plain, high), gone))

  element_out : (p : Phase) → t.client.phase ≡ p → Outcome (element_row in_items t p e)
  element_out phase.Apart at = inl bounded
  element_out (phase.Login state) at = inl (follows_bounded t (rows.element_row t.client.account.login state e) bounded)
  element_out phase.Features2 at = inl (features_bounded t e (features_read e) bounded)
  element_out phase.Resuming at = of_resumed at (resuming_out t e (resumption_read (codes "resumed") e) bounded)
  element_out phase.Binding at = inl (binding_bounded t e bounded)
  element_out phase.Enabling at = inl (enabling_bounded t e (enabled_read e) bounded)
  element_out phase.Online at = online_out t.client.session refl at

connected_out : (t : Rendered) (i : Item) → IsFairItem i → IsBounded t → StepOut t i (connected_step in_items t i)
connected_out t (Header at header) fair bounded = inl (header_bounded t t.client.phase bounded)
connected_out t (Element e) fair bounded = by (is_named streams_ns (codes "error") e) refl
  where
    by : (b : Bool) → is_named streams_ns (codes "error") e ≡ b → StepOut t (Element e) (cond b (ends t (peer.Stream (stream_condition e))) (element_row in_items t t.client.phase e))
    by true is = inl (ends_bounded t (peer.Stream (stream_condition e)) (fair is) bounded)
    by false is = element_out t e is bounded t.client.phase refl
connected_out t Footer fair bounded = inl (ends_bounded t peer.Closed tt bounded)

pub step_out : (t : ClientStep ItemOut ItemOut) (i : Item) → IsFairItem i → IsBounded t → StepOut t i (item_step in_items t i)
step_out t i fair bounded = by (is_apart t.client.phase)
  where
    by : (b : Bool) → StepOut t i (cond b t (connected_step in_items t i))
    by true = inl bounded
    by false = connected_out t i fair bounded
