-- What the steps of a client have in common keeps to the bounds.
use Rattle.std.proofs.Common.{ℕ, Bool, true, false, List, [], ◌∷◌, ◌++◌, drop, suc, zero, Option, Some, None, IfSome, if◌then◌else◌}
use Rattle.std.specs.List.{AllByRecursion}
use Rattle.law_limits.specs.Within.{AllFit, IsClientStepWithin, IsLogWithin, IsPhaseWithin, IsSessionWithin}
use Rattle.cl_handlers.specs.Clients.{ClientStep}
use Rattle.cl_handlers.specs.Speech.{Note, in_items}
use Rattle.cl_handlers.specs.ClientSteps.{drops, ends, goes, has_put, has_to_put, is_apart, is_online, left, notes, put_in, puts, puts_footer, queues, tells, with_log, with_session}
use Rattle.cl_handlers.specs.declared.events.Event.{Event}
use Rattle.cl_handlers.specs.declared.events.PeerFault.{PeerFault}
use Rattle.cl_handlers.specs.declared.phase.Phase.{Phase}
use Rattle.cl_handlers.specs.declared.phase.Phase.TheVariants as phase
use Rattle.xml_framer.specs.Limits.{server_limits}
use Rattle.law_xml.proofs.PlainElements.{append_each}
use Rattle.mam_log.specs.Views.{LogView}
use Rattle.sm_outbox.specs.Sessions.{SessionView}
use Rattle.sm_outbox.specs.Waiting.{Waiting, is_full, queued}
use Rattle.xml_writer.specs.Items.{ItemOut}
use Rattle.law_xml.specs.Puts.{OutFits}

-- ---- lists

pub All-drop : {A : Type 0} (P : A → Type 0) (n : ℕ) (xs : List A) → AllByRecursion P xs → AllByRecursion P (drop n xs)
All-drop P zero xs h = h
All-drop P (suc n) [] h = tt
All-drop P (suc n) (x ∷ xs) h = All-drop P n xs h.1

-- ---- choices

pub within_either : (c : Bool) (t u : ClientStep ItemOut ItemOut) → IsClientStepWithin t → IsClientStepWithin u → IsClientStepWithin (if c then t else u)
within_either true t u here there = here
within_either false t u here there = there

-- ---- what goes out, and what is told

pub puts_within : (t : ClientStep ItemOut ItemOut) (more : List ItemOut) → IsClientStepWithin t → AllFit more → IsClientStepWithin (puts t more)
puts_within t more h fit = record { client = h.client; put = append_each (OutFits server_limits) t.out.put more h.put fit }

pub put_within : (t : ClientStep ItemOut ItemOut) (item : ItemOut) → IsClientStepWithin t → OutFits server_limits item → IsClientStepWithin (puts t (item ∷ []))
put_within t item h fit = puts_within t (item ∷ []) h (fit, tt)

pub tells_within : (t : ClientStep ItemOut ItemOut) (event : Event) → IsClientStepWithin t → IsClientStepWithin (tells t event)
tells_within t event h = record { client = h.client; put = h.put }

pub notes_within : (t : ClientStep ItemOut ItemOut) (one : Note ItemOut) → IsClientStepWithin t → IsClientStepWithin (notes in_items t one)
notes_within t one h = record { client = h.client; put = h.put }

-- ---- connections

pub goes_within : (t : ClientStep ItemOut ItemOut) (p : Phase) → IsClientStepWithin t → IsPhaseWithin p → IsClientStepWithin (goes t p)
goes_within t p h at =
    let c = h.client in
    record { client = record { account = c.account; log = c.log; epoch = c.epoch; session = c.session; phase = at }; put = h.put }

pub left_within : (t : ClientStep ItemOut ItemOut) → IsClientStepWithin t → IsClientStepWithin (left t)
left_within t h = goes_within t phase.Apart h tt

pub ends_within : (t : ClientStep ItemOut ItemOut) (fault : PeerFault) → IsClientStepWithin t → IsClientStepWithin (ends t fault)
ends_within t fault h = tells_within (left t) _ (left_within t h)

pub footer_within : (t : ClientStep ItemOut ItemOut) → IsClientStepWithin t → IsClientStepWithin (puts_footer in_items t)
footer_within t h = within_either (is_apart t.client.phase) t _ h (put_within t _ h tt)

-- ---- sessions

pub drops_within : (t : ClientStep ItemOut ItemOut) → IsClientStepWithin t → IsClientStepWithin (drops in_items t)
drops_within t h =
    let c = h.client in
    record { client = record { account = c.account; log = record { entries = c.log.entries; page = tt }; epoch = c.epoch; session = tt; phase = c.phase }; put = h.put }

pub logs_within : (t : ClientStep ItemOut ItemOut) (log : LogView) → IsClientStepWithin t → IsLogWithin log → IsClientStepWithin (with_log t log)
logs_within t log h within =
    let c = h.client in
    record { client = record { account = c.account; log = within; epoch = c.epoch; session = c.session; phase = c.phase }; put = h.put }

pub session_within : (t : ClientStep ItemOut ItemOut) (s : SessionView ItemOut) (w : Waiting ItemOut) → IsClientStepWithin t → IsSessionWithin (record s { waiting = w }) → IsClientStepWithin (with_session t s w)
session_within t s w h within =
    let c = h.client in
    record { client = record { account = c.account; log = c.log; epoch = c.epoch; session = within; phase = c.phase }; put = h.put }

queued_within : (s : SessionView ItemOut) (item : ItemOut) (kind : Bool) → IsSessionWithin s → OutFits server_limits item → IsSessionWithin (record s { waiting = queued s.waiting item kind })
queued_within s item kind h fit = record { previd = h.previd; handled = h.handled; queue = append_each (OutFits server_limits) s.waiting.queue (item ∷ []) h.queue (fit, tt) }

pub queues_within : (t : ClientStep ItemOut ItemOut) (s : SessionView ItemOut) (item : ItemOut) (kind : Bool) → IsClientStepWithin t → IsSessionWithin s → OutFits server_limits item → IsClientStepWithin (queues in_items t s item kind)
queues_within t s item kind h within fit =
    notes_within (with_session t s (queued s.waiting item kind)) _ (session_within t s (queued s.waiting item kind) h (queued_within s item kind within fit))

pub all_put_within : (t : ClientStep ItemOut ItemOut) (put : List ItemOut) → IsClientStepWithin t → AllFit put → IsClientStepWithin (has_put t put)
all_put_within t put h fit = record { client = h.client; put = fit }

pub fit_either : (c : Bool) (xs ys : List ItemOut) → AllFit xs → AllFit ys → AllFit (if c then xs else ys)
fit_either true xs ys here there = here
fit_either false xs ys here there = there

pub put_in_within : (t : ClientStep ItemOut ItemOut) (s : SessionView ItemOut) (item : ItemOut) (kind : Bool) → IsClientStepWithin t → IsSessionWithin s → OutFits server_limits item → IsClientStepWithin (put_in in_items t s item kind)
put_in_within t s item kind h within fit =
    all_put_within (queues in_items t s item kind) _ (queues_within t s item kind h within fit)
    (fit_either (is_online t.client.phase) (t.out.put ++ item ∷ []) t.out.put (append_each (OutFits server_limits) t.out.put (item ∷ []) h.put (fit, tt)) h.put)

pub has_to_put_within : (t : ClientStep ItemOut ItemOut) (o : Option (SessionView ItemOut)) (item : ItemOut) → IsClientStepWithin t → IfSome o IsSessionWithin → OutFits server_limits item → IsClientStepWithin (has_to_put in_items t o item)
has_to_put_within t None item h within fit = h
has_to_put_within t (Some s) item h within fit = within_either (is_full s.waiting) _ _ (ends_within t _ h) (put_in_within t s item false h within fit)
