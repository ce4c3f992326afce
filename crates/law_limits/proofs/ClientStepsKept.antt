-- Items, pieces of bytes and calls keep to the bounds.
use Rattle.std.proofs.Common.{◌≡◌, ℕ, ◌^◌, ◌<◌, Bool, true, List, [], ◌∷◌, codes, Option, Some, None, IfSome, Result, Ok, Err, refl, arith}
use Rattle.cl_core.specs.Feeds.{Fed, bytes_in, bytes_step, read, with_fault}
use Rattle.cl_core.specs.Steps.{connected_step, element_row, handles, item_step, items_run, online_in, stanza_row, told_row}
use Rattle.cl_core.specs.UserCalls.{catches_up, catches_up_in, closes, dials, forgets, leaves, says, submission_of, submits}
use Rattle.law_limits.proofs.ClientLoginsKept.{dialed_within, header_within, login_within}
use Rattle.law_limits.proofs.ClientMessagesKept.{message_within}
use Rattle.law_limits.proofs.PagesKept.{begun_page_within, iq_within, next_low, requested_within}
use Rattle.law_limits.proofs.SessionsKept.{IsLowAck, ack_low, acks_within, binding_within, enabling_within, features2_within, request_within, resuming_within}
use Rattle.law_limits.proofs.TurnsKept.{drops_within, ends_within, footer_within, left_within, notes_within, session_within, within_either}
use Rattle.law_limits.specs.Answerable.{AreAnswerable, IsAnswerable, IsItemAnswerable, IsPieceAnswerable}
use Rattle.law_limits.specs.Within.{IsClientStepWithin, IsSessionWithin}
use Rattle.cl_handlers.specs.Clients.{ClientStep}
use Rattle.cl_handlers.specs.SessionRows.{is_stanza}
use Rattle.cl_handlers.specs.Speech.{in_items}
use Rattle.cl_handlers.specs.ClientSteps.{is_apart, left, puts_footer, with_session}
use Rattle.cl_handlers.specs.declared.phase.Phase.{Phase}
use Rattle.cl_handlers.specs.declared.phase.Phase.TheVariants as phase
use Rattle.law_limits.specs.Within.{IsPhaseWithin}
use Rattle.im_extensions.specs.StreamManagement.{ack_read, is_management}
use Rattle.im_extensions.specs.declared.stream_management.Ack.{Ack}
use Rattle.xml_framer.specs.States.{State}
use Rattle.xml_framer.specs.declared.fault.Fault.{Fault}
use Rattle.xml_framer.specs.declared.items.Item.{Item}
use Rattle.xml_framer.specs.declared.items.Item.TheVariants.{Header, Element, Footer}
use Rattle.sm_outbox.specs.Sessions.{SessionView}
use Rattle.sm_outbox.specs.Submissions.{next_number, said_of, with_said}
use Rattle.sm_outbox.specs.Waiting.{counted_in}
use Rattle.sm_outbox.specs.declared.said.Said.{Said}
use Rattle.im_payload.specs.declared.fault.ExtFault.{ExtFault}
use Rattle.law_limits.proofs.Fitted as fitted
use Rattle.law_limits.specs.Bounds.{IsTextWithin, most_address, most_text}
use Rattle.im_stanza.specs.Names.{streams_ns}
use Rattle.im_stanza.specs.Readings.{stanza_of}
use Rattle.im_stanza.specs.declared.fault.StanzaFault.{StanzaFault}
use Rattle.im_stanza.specs.declared.stanzas.Stanza.{Stanza}
use Rattle.im_stanza.specs.declared.stanzas.Stanza.TheVariants.{Message, Presence, Iq}
use Rattle.xml_trees.specs.Readers.{is_named}
use Rattle.xml_trees.specs.Trees.{Elem}
use Rattle.xml_framer.specs.Limits.{server_limits}
use Rattle.xml_writer.specs.Items.{ItemOut}
use Rattle.law_xml.specs.Puts.{OutFits}

-- ---- online

handled_within : (t : ClientStep ItemOut ItemOut) (s : SessionView ItemOut) (e : Elem) → IsClientStepWithin t → IsSessionWithin s → IsClientStepWithin (handles in_items t s e)
handled_within t s e h within =
    notes_within (with_session t s (counted_in s.waiting)) _ (session_within t s (counted_in s.waiting) h (record { previd = within.previd; handled = omega arith; queue = within.queue }))

stanza_within : (t : ClientStep ItemOut ItemOut) (e : Elem) (r : Result Stanza StanzaFault) → stanza_of e ≡ r → IsClientStepWithin t → IsAnswerable e → IsClientStepWithin (stanza_row in_items t r)
stanza_within t e (Ok (Message m)) is h answerable = message_within t m h (λ given r. answerable.result m given r is)
stanza_within t e (Ok (Iq q)) is h answerable = iq_within t q h (answerable.request q is)
stanza_within t e (Ok (Presence p)) is h answerable = h
stanza_within t e (Err fault) is h answerable = h

told_within : (t : ClientStep ItemOut ItemOut) (s : SessionView ItemOut) (r : Result Ack ExtFault) → IsClientStepWithin t → IsSessionWithin s → IsLowAck r → IsClientStepWithin (told_row in_items t s r)
told_within t s (Ok ack) h within low = acks_within t s ack.h h within low
told_within t s (Err why) h within low = h

online_within : (t : ClientStep ItemOut ItemOut) (o : Option (SessionView ItemOut)) (e : Elem) → IsClientStepWithin t → IfSome o IsSessionWithin → IsAnswerable e → IsClientStepWithin (online_in in_items t o e)
online_within t None e h within answerable = h
online_within t (Some s) e h within answerable =
    within_either (is_stanza e) _ _ (stanza_within (handles in_items t s e) e (stanza_of e) refl (handled_within t s e h within) answerable)
    (within_either (is_management (codes "r") e) _ _ (request_within t s h within) (told_within t s (ack_read e) h within (ack_low e)))

-- ---- items

element_row_within : (t : ClientStep ItemOut ItemOut) (p : Phase) (e : Elem) → IsClientStepWithin t → IsPhaseWithin p → IsAnswerable e → IsClientStepWithin (element_row in_items t p e)
element_row_within t phase.Apart e h at answerable = h
element_row_within t (phase.Login s) e h at answerable = login_within t s e h at answerable
element_row_within t phase.Features2 e h at answerable = features2_within t e h
element_row_within t phase.Resuming e h at answerable = resuming_within t e h
element_row_within t phase.Binding e h at answerable = binding_within t e h
element_row_within t phase.Enabling e h at answerable = enabling_within t e h answerable
element_row_within t phase.Online e h at answerable = online_within t t.client.session e h h.client.session answerable

connected_within : (t : ClientStep ItemOut ItemOut) (item : Item) → IsClientStepWithin t → IsItemAnswerable item → IsClientStepWithin (connected_step in_items t item)
connected_within t (Header at header) h answerable = header_within t t.client.phase h h.client.phase
connected_within t (Element e) h answerable = within_either (is_named streams_ns (codes "error") e) _ _ (ends_within t _ h) (element_row_within t t.client.phase e h h.client.phase answerable)
connected_within t Footer h answerable = ends_within t _ h

item_within : (t : ClientStep ItemOut ItemOut) (item : Item) → IsClientStepWithin t → IsItemAnswerable item → IsClientStepWithin (item_step in_items t item)
item_within t item h answerable = within_either (is_apart t.client.phase) _ _ h (connected_within t item h answerable)

pub items_within : (items : List Item) (t : ClientStep ItemOut ItemOut) → AreAnswerable items → IsClientStepWithin t → IsClientStepWithin (items_run in_items t items)
items_within [] t answerable h = h
items_within (item ∷ items) t answerable h = items_within items (item_step in_items t item) answerable.1 (item_within t item h answerable.0)

-- ---- pieces of bytes

faulted_within : (t : ClientStep ItemOut ItemOut) (o : Option Fault) → IsClientStepWithin t → IsClientStepWithin (with_fault t o)
faulted_within t None h = h
faulted_within t (Some fault) h = within_either (is_apart t.client.phase) _ _ h (ends_within t _ h)

piece_within : (t : ClientStep ItemOut ItemOut) (o : Option State) (piece : List ℕ) → IsPieceAnswerable o piece → IsClientStepWithin t → IsClientStepWithin (bytes_in in_items t o piece).turn
piece_within t None piece answerable h = h
piece_within t (Some state) piece answerable h =
    let run = read state piece in
    faulted_within (items_run in_items t run.items) run.state.fault (items_within run.items t answerable h)

pub bytes_within : (f : Fed ItemOut ItemOut) (piece : List ℕ) → IsPieceAnswerable f.framer piece → IsClientStepWithin f.turn → IsClientStepWithin (bytes_step in_items f piece).turn
bytes_within f piece answerable h = piece_within f.turn f.framer piece answerable h

-- ---- what the user calls

pub dials_within : (f : Fed ItemOut ItemOut) (entropy : List ℕ) → IsClientStepWithin f.turn → IsClientStepWithin (dials in_items entropy f).turn
dials_within f entropy h = dialed_within (left f.turn) entropy (left_within f.turn h)

pub leaves_within : (f : Fed ItemOut ItemOut) → IsClientStepWithin f.turn → IsClientStepWithin (leaves f).turn
leaves_within f h = left_within f.turn h

pub forgets_within : (f : Fed ItemOut ItemOut) → IsClientStepWithin f.turn → IsClientStepWithin (forgets in_items f).turn
forgets_within f h = drops_within (left f.turn) (left_within f.turn h)

pub closes_within : (f : Fed ItemOut ItemOut) → IsClientStepWithin f.turn → IsClientStepWithin (closes in_items f).turn
closes_within f h = forgets_within (record f { turn = puts_footer in_items f.turn }) (footer_within f.turn h)

submitted_within : (t : ClientStep ItemOut ItemOut) (o : Option (SessionView ItemOut)) (item : ItemOut) (said : Said) → IsClientStepWithin t → IfSome o IsSessionWithin → OutFits server_limits item → IsClientStepWithin (submits in_items t o item said)
submitted_within t None item said h within fit = h
submitted_within t (Some s) item said h within fit =
    let c = h.client in
    let kept : IsClientStepWithin (record t { client = record t.client { n = said.n; said = with_said t.client.said said } }) =
    record { client = record { account = c.account; log = c.log; epoch = c.epoch; session = c.session; phase = c.phase }; put = h.put } in
    requested_within _ s item true kept within fit

pub says_within : (t : ClientStep ItemOut ItemOut) (to text : List ℕ) (private : Bool) → IsTextWithin most_address to → IsTextWithin most_text text → IsClientStepWithin t → IsClientStepWithin (says in_items t to text private)
says_within t to text private to_short text_short h =
    let c = h.client in
    submitted_within t t.client.session (submission_of t.client to text private) (said_of t.client.epoch t.client.n to text private) h c.session
    (fitted.submission t.client.account.resource to text t.client.epoch (next_number t.client.n) private c.account.resource c.epoch (next_low t.client.n) to_short text_short)

asked_within : (t : ClientStep ItemOut ItemOut) (o : Option (SessionView ItemOut)) (max : ℕ) → IsClientStepWithin t → IfSome o IsSessionWithin → max < 2 ^ 32 → IsClientStepWithin (catches_up_in in_items t o max)
asked_within t None max h within low = h
asked_within t (Some s) max h within low = begun_page_within t s max h within low

pub catches_up_within : (t : ClientStep ItemOut ItemOut) (max : ℕ) → max < 2 ^ 32 → IsClientStepWithin t → IsClientStepWithin (catches_up in_items t max)
catches_up_within t max low h = asked_within t t.client.session max h h.client.session low
