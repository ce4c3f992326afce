-- The rows from the second features to the session keep to the bounds, and those of acknowledgements.
use Rattle.std.proofs.Common.{◌≡◌, ℕ, ◌^◌, ◌<◌, Bool, true, false, ◌&&◌, List, [], ◌∷◌, ◌++◌, codes, Option, Some, None, IfSome, Result, Ok, Err, refl, arith, if◌then◌else◌}
use Rattle.std.proofs.lemmas.Bool.{and_parts, ltb-true}
use Rattle.std.specs.Prelude.{nat_lt, length}
use Rattle.std.specs.Str.{all_ascii_digits}
use Rattle.std.specs.Str.Parse.{digits_value}
use Rattle.sm_acks.specs.Counters.{ahead}
use Rattle.sm_acks.specs.declared.end.TooHigh.{TooHigh as TooHighCount}
use Rattle.law_limits.proofs.ClientLoginsKept.{other_element_within}
use Rattle.law_limits.proofs.TurnsKept.{All-drop, drops_within, ends_within, goes_within, notes_within, put_within, puts_within, tells_within, within_either}
use Rattle.law_limits.specs.Answerable.{IsAnswerable}
use Rattle.law_limits.specs.Within.{AllFit, IsClientStepWithin, IsPhaseWithin, IsSessionWithin}
use Rattle.cl_handlers.specs.AckRows.{ack_row, acknowledges, counts_too_high, request_row}
use Rattle.cl_handlers.specs.Clients.{ClientStep}
use Rattle.cl_handlers.specs.SessionRows.{asks, attaches, begins, begins_epoch, binding_row, binds, can_resume, enabling_row, enabling_with, failed_row, features2_row, features2_with, is_stanza, queue_in, resent, resumed_in, resumed_row, resumes_or_binds, resuming_row, resuming_with, tells_bound}
use Rattle.cl_handlers.specs.Speech.{in_items, spread_all}
use Rattle.cl_handlers.specs.ClientSteps.{goes, notes, puts}
use Rattle.cl_handlers.specs.declared.phase.Phase.{Phase}
use Rattle.cl_handlers.specs.declared.phase.Phase.TheVariants as phase
use Rattle.im_extensions.specs.Readings.{enabled_read, resumption_read, resumption_with}
use Rattle.im_extensions.specs.StreamManagement.{ack_read, ack_with, count_of, is_management}
use Rattle.im_extensions.specs.declared.stream_management.Ack.{Ack}
use Rattle.im_extensions.specs.declared.stream_management.Enabled.{Enabled}
use Rattle.im_login.specs.Features.{features_read}
use Rattle.im_login.specs.declared.features.Features.{Features}
use Rattle.xml_framer.specs.Limits.{server_limits}
use Rattle.law_xml.proofs.PlainElements.{append_each}
use Rattle.sm_outbox.specs.Sessions.{SessionView}
use Rattle.sm_outbox.specs.Waiting.{acked, is_too_high, too_high}
use Rattle.im_payload.specs.Readings.{where_this}
use Rattle.im_payload.specs.Shapes.{is_number, number_below, required_number}
use Rattle.im_payload.specs.declared.fault.ExtFault.{ExtFault}
use Rattle.im_payload.specs.declared.fault.ExtFault.TheVariants.{NotThis}
use Rattle.im_replies.specs.Management.{request_item}
use Rattle.im_replies.specs.Streams.{too_high_item}
use Rattle.im_requests.specs.Sessions.{available_item, bind_item, carbons_item, enable_item, resume_item}
use Rattle.law_limits.proofs.Fitted as fitted
use Rattle.law_limits.specs.Bounds.{IsTextWithin, most_id}
use Rattle.im_stanza.specs.Readings.{stanza_of}
use Rattle.im_stanza.specs.Stanzas.{attr_named}
use Rattle.xml_trees.specs.Trees.{Elem}
use Rattle.xml_writer.specs.Items.{Closing, ItemOut}
use Rattle.law_xml.specs.Puts.{OutFits}

-- ---- counts are numbers of 32 bits

abbrev IsLow : Option ℕ → Type 0
IsLow o = IfSome o (λ n. n < 2 ^ 32)

number_low : (t : List ℕ) → IsLow (number_below (2 ^ 32) t)
number_low t = by_case (is_number (2 ^ 32) t) refl
  where
    by_case : (c : Bool) → is_number (2 ^ 32) t ≡ c → IsLow (if c then Some (digits_value 10 t) else None)
    by_case true is = ltb-true (digits_value 10 t) (2 ^ 32) (and_parts (nat_lt 0 (length t) && all_ascii_digits t) (nat_lt (digits_value 10 t) (2 ^ 32)) is).1
    by_case false is = tt

required_low : (o : Option (List ℕ)) → IsLow (required_number (2 ^ 32) o)
required_low None = tt
required_low (Some t) = number_low t

count_low : (e : Elem) → IsLow (count_of e)
count_low e = required_low (attr_named (codes "h") e)

-- ---- acknowledgements

pub request_within : (t : ClientStep ItemOut ItemOut) (s : SessionView ItemOut) → IsClientStepWithin t → IsSessionWithin s → IsClientStepWithin (request_row in_items t s)
request_within t s h within = notes_within (puts t _) _ (put_within t _ h (fitted.count s.waiting.handled within.handled))

acked_within : (s : SessionView ItemOut) (count : ℕ) → IsSessionWithin s → IsSessionWithin (record s { waiting = acked s.waiting count })
acked_within s count h = record { previd = h.previd; handled = h.handled; queue = All-drop (OutFits server_limits) (ahead count s.waiting.acked) s.waiting.queue h.queue }

acknowledged_within : (t : ClientStep ItemOut ItemOut) (s : SessionView ItemOut) (count : ℕ) → IsClientStepWithin t → IsSessionWithin s → IsClientStepWithin (acknowledges in_items t s count)
acknowledged_within t s count h within =
    let c = h.client in
    record { client = record { account = c.account; log = c.log; epoch = c.epoch; session = acked_within s count within; phase = c.phase }; put = h.put }

too_high_within : (t : ClientStep ItemOut ItemOut) (fault : TooHighCount) → IsClientStepWithin t → fault.h < 2 ^ 32 → fault.send_count < 2 ^ 32 → IsClientStepWithin (counts_too_high in_items t fault)
too_high_within t fault h low sent_low =
    let told = put_within t (too_high_item fault.h fault.send_count) h (fitted.too_high fault.h fault.send_count low sent_low) in
    let closed = put_within _ Closing told tt in
    ends_within _ _ (drops_within _ closed)

pub acks_within : (t : ClientStep ItemOut ItemOut) (s : SessionView ItemOut) (count : ℕ) → IsClientStepWithin t → IsSessionWithin s → count < 2 ^ 32 → IsClientStepWithin (ack_row in_items t s count)
acks_within t s count h within low =
    within_either (is_too_high s.waiting count) _ _ (too_high_within t (too_high s.waiting count) h low (omega arith)) (acknowledged_within t s count h within)

-- ---- Features2

asked_within : (t : ClientStep ItemOut ItemOut) (item : ItemOut) (p : Phase) → IsClientStepWithin t → OutFits server_limits item → IsPhaseWithin p → IsClientStepWithin (asks in_items t item p)
asked_within t item p h fit at = goes_within (puts t (item ∷ [])) p (put_within t item h fit) at

bound_within : (t : ClientStep ItemOut ItemOut) → IsClientStepWithin t → IsClientStepWithin (binds in_items t)
bound_within t h = asked_within t (bind_item t.client.account.resource) phase.Binding h (fitted.bind t.client.account.resource h.client.account.resource) tt

resumed_or_bound : (t : ClientStep ItemOut ItemOut) (o : Option (SessionView ItemOut)) → IsClientStepWithin t → IfSome o IsSessionWithin → IsClientStepWithin (resumes_or_binds in_items t o)
resumed_or_bound t None h within = bound_within t h
resumed_or_bound t (Some s) h within =
    asked_within (notes in_items t _) (resume_item s.previd s.waiting.handled) phase.Resuming (notes_within t _ h) (fitted.resume s.previd s.waiting.handled within.previd within.handled) tt

featured_within : (t : ClientStep ItemOut ItemOut) (e : Elem) (read : Result Features ExtFault) → IsClientStepWithin t → IsClientStepWithin (features2_with in_items t e read)
featured_within t e (Ok features) h = within_either features.bind _ _ (resumed_or_bound t t.client.session h h.client.session) (ends_within t _ h)
featured_within t e (Err why) h = other_element_within t e h

pub features2_within : (t : ClientStep ItemOut ItemOut) (e : Elem) → IsClientStepWithin t → IsClientStepWithin (features2_row in_items t e)
features2_within t e h = featured_within t e (features_read e) h

-- ---- Resuming

spread_within : (queue : List ItemOut) → AllFit queue → AllFit (spread_all in_items queue)
spread_within [] fit = tt
spread_within (item ∷ queue) fit = (fit.0, spread_within queue fit.1)

resent_within : (queue : List ItemOut) → AllFit queue → AllFit (resent in_items queue)
resent_within [] fit = tt
resent_within (item ∷ queue) fit = append_each (OutFits server_limits) (spread_all in_items (item ∷ queue)) (request_item ∷ []) (spread_within (item ∷ queue) fit) (fitted.request, tt)

queue_within : (o : Option (SessionView ItemOut)) → IfSome o IsSessionWithin → AllFit (queue_in o)
queue_within None within = tt
queue_within (Some s) within = within.queue

attached_within : (t : ClientStep ItemOut ItemOut) → IsClientStepWithin t → IsClientStepWithin (attaches in_items t)
attached_within t h =
    tells_within _ _ (puts_within (goes t phase.Online) (resent in_items (queue_in t.client.session)) (goes_within t phase.Online h tt) (resent_within (queue_in t.client.session) (queue_within t.client.session h.client.session)))

resumed_within : (t : ClientStep ItemOut ItemOut) (s : SessionView ItemOut) (count : ℕ) → IsClientStepWithin t → IsSessionWithin s → count < 2 ^ 32 → IsClientStepWithin (resumed_row in_items t s count)
resumed_within t s count h within low =
    within_either (is_too_high s.waiting count) _ _ (too_high_within t (too_high s.waiting count) h low (omega arith)) (attached_within _ (acknowledged_within t s count h within))

resumed_in_within : (t : ClientStep ItemOut ItemOut) (o : Option (SessionView ItemOut)) (count : ℕ) → IsClientStepWithin t → IfSome o IsSessionWithin → count < 2 ^ 32 → IsClientStepWithin (resumed_in in_items t o count)
resumed_in_within t None count h within low = h
resumed_in_within t (Some s) count h within low = resumed_within t s count h within low

failed_within : (t : ClientStep ItemOut ItemOut) → IsClientStepWithin t → IsClientStepWithin (failed_row in_items t)
failed_within t h = bound_within _ (tells_within _ _ (drops_within t h))

abbrev IsLowResumption : Result (List ℕ × ℕ) ExtFault → Type 0
IsLowResumption (Ok told) = told.1 < 2 ^ 32
IsLowResumption (Err why) = Unit {0}

with_low : (previd : Option (List ℕ)) (h : Option ℕ) → IsLow h → IsLowResumption (resumption_with previd h)
with_low None h low = tt
with_low (Some previd) None low = tt
with_low (Some previd) (Some h) low = low

this_low : (b : Bool) (read : Result (List ℕ × ℕ) ExtFault) → IsLowResumption read → IsLowResumption (where_this b read)
this_low true read low = low
this_low false read low = tt

resuming_with_within : (t : ClientStep ItemOut ItemOut) (e : Elem) (read : Result (List ℕ × ℕ) ExtFault) → IsClientStepWithin t → IsLowResumption read → IsClientStepWithin (resuming_with in_items t e read)
resuming_with_within t e (Ok told) h low = resumed_in_within t t.client.session told.1 h h.client.session low
resuming_with_within t e (Err why) h low = within_either (is_management (codes "failed") e) _ _ (failed_within t h) (other_element_within t e h)

pub resuming_within : (t : ClientStep ItemOut ItemOut) (e : Elem) → IsClientStepWithin t → IsClientStepWithin (resuming_row in_items t e)
resuming_within t e h =
    resuming_with_within t e (resumption_read (codes "resumed") e) h
    (this_low (is_management (codes "resumed") e) (resumption_with (attr_named (codes "previd") e) (count_of e)) (with_low (attr_named (codes "previd") e) (count_of e) (count_low e)))

-- ---- Binding

epoch_within : (t : ClientStep ItemOut ItemOut) → IsClientStepWithin t → IsClientStepWithin (begins_epoch in_items t)
epoch_within t h =
    let c = h.client in
    record { client = record { account = c.account; log = c.log; epoch = omega arith; session = c.session; phase = c.phase }; put = h.put }

pub binding_within : (t : ClientStep ItemOut ItemOut) (e : Elem) → IsClientStepWithin t → IsClientStepWithin (binding_row in_items t e)
binding_within t e h =
    within_either (tells_bound (stanza_of e)) _ _ (asked_within (begins_epoch in_items t) enable_item phase.Enabling (epoch_within t h) fitted.enable tt) (other_element_within t e h)

-- ---- Enabling

begun_within : (t : ClientStep ItemOut ItemOut) (previd : List ℕ) → IsClientStepWithin t → IsTextWithin most_id previd → IsClientStepWithin (begins in_items t previd)
begun_within t previd h short =
    let c = h.client in
    let put = append_each (OutFits server_limits) t.out.put (carbons_item ∷ []) h.put (fitted.carbons, tt) in
    record {
      client = record {
        account = c.account;
        log = c.log;
        epoch = c.epoch;
        session = record { previd = short; handled = omega arith; queue = (fitted.carbons, (fitted.available, tt)) };
        phase = tt;
      };
      put = append_each (OutFits server_limits) (t.out.put ++ carbons_item ∷ []) (available_item ∷ []) put (fitted.available, tt);
    }

enabled_within : (t : ClientStep ItemOut ItemOut) (e : Elem) (read : Result Enabled ExtFault) → IsClientStepWithin t → ((v : Enabled) → read ≡ Ok v → IsTextWithin most_id v.id) → IsClientStepWithin (enabling_with in_items t e read)
enabled_within t e (Ok enabled) h short = within_either (can_resume enabled) _ _ (begun_within t enabled.id h (short enabled refl)) (other_element_within t e h)
enabled_within t e (Err why) h short = within_either (is_stanza e) _ _ h (other_element_within t e h)

pub enabling_within : (t : ClientStep ItemOut ItemOut) (e : Elem) → IsClientStepWithin t → IsAnswerable e → IsClientStepWithin (enabling_row in_items t e)
enabling_within t e h answerable = enabled_within t e (enabled_read e) h answerable.session

-- ---- counts that are told

abbrev pub IsLowAck : Result Ack ExtFault → Type 0
IsLowAck (Ok ack) = ack.h < 2 ^ 32
IsLowAck (Err why) = Unit {0}

ack_with_low : (o : Option ℕ) → IsLow o → IsLowAck (ack_with o)
ack_with_low None low = tt
ack_with_low (Some h) low = low

pub ack_low : (e : Elem) → IsLowAck (ack_read e)
ack_low e = by_case (is_management (codes "a") e)
  where
    by_case : (b : Bool) → IsLowAck (if b then ack_with (count_of e) else Err NotThis)
    by_case true = ack_with_low (count_of e) (count_low e)
    by_case false = tt
