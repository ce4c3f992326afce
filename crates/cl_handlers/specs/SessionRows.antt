-- The states from the second features to the session (RFC 6120, section 7; XEP-0198, sections 3 and 5).
use Rattle.std.specs.Prelude.{ℕ, Bool, true, false, ◌&&◌, ◌||◌, not, List, [], ◌∷◌, ◌++◌, Option, Some, None, Result, Ok, Err, codes, if◌then◌else◌, is_ok}
use Rattle.std.specs.Str.{bytes_eq}
use Rattle.cl_handlers.specs.AckRows.{acknowledges, counts_too_high}
use Rattle.cl_handlers.specs.Clients.{ClientStep}
use Rattle.cl_handlers.specs.LoginSteps.{other_element}
use Rattle.cl_handlers.specs.Speech.{Speech, Counted, Epoch, Put, Stated, spread_all, uttered}
use Rattle.cl_handlers.specs.ClientSteps.{drops, ends, goes, notes, puts, tells}
use Rattle.cl_handlers.specs.declared.events.Event.TheVariants.{Bound, ResumeFailed, Resumed}
use Rattle.cl_handlers.specs.declared.events.PeerFault.TheVariants.{NoFeature}
use Rattle.cl_handlers.specs.declared.phase.Phase.{Phase}
use Rattle.cl_handlers.specs.declared.phase.Phase.TheVariants as phase
use Rattle.im_extensions.specs.Readings.{bind_result_read, enabled_read, resumption_read}
use Rattle.im_extensions.specs.StreamManagement.{is_management}
use Rattle.im_extensions.specs.declared.stream_management.Enabled.{Enabled}
use Rattle.im_login.specs.Features.{features_read}
use Rattle.im_login.specs.declared.features.Features.{Features}
use Rattle.sm_outbox.specs.Sessions.{SessionView}
use Rattle.sm_outbox.specs.Submissions.{next_number}
use Rattle.sm_outbox.specs.Waiting.{Waiting, is_too_high, nothing_waits, queued, too_high}
use Rattle.im_payload.specs.Names.{binding}
use Rattle.im_payload.specs.declared.fault.ExtFault.{ExtFault}
use Rattle.im_replies.specs.Management.{request_item}
use Rattle.im_requests.specs.Sessions.{available_item, bind_item, carbons_item, enable_item, resume_item}
use Rattle.im_stanza.specs.Names.{client_ns}
use Rattle.im_stanza.specs.Readings.{stanza_of}
use Rattle.im_stanza.specs.Views.{IqView}
use Rattle.im_stanza.specs.declared.fault.StanzaFault.{StanzaFault}
use Rattle.im_stanza.specs.declared.kinds.IqKind.{IqKind}
use Rattle.im_stanza.specs.declared.kinds.IqKind.TheVariants as iq
use Rattle.im_stanza.specs.declared.stanzas.Stanza.{Stanza}
use Rattle.im_stanza.specs.declared.stanzas.Stanza.TheVariants.{Message, Presence, Iq}
use Rattle.xml_trees.specs.Readers.{first_named, is_named}
use Rattle.xml_trees.specs.Trees.{Elem}
use Rattle.xml_writer.specs.Items.{ItemOut}

-- an item is put, and the answer is awaited in a phase
abbrev pub asks : {A X : Type 0} → Speech A X → ClientStep A X → ItemOut → Phase → ClientStep A X
asks speech t item p = goes (puts t (uttered speech item)) p

abbrev pub binds : {A X : Type 0} → Speech A X → ClientStep A X → ClientStep A X
binds speech t = asks speech t (bind_item t.client.account.resource) phase.Binding

-- ---- Features2: a session is resumed; without one a resource is bound

abbrev pub resumes_or_binds : {A X : Type 0} → Speech A X → ClientStep A X → Option (SessionView A) → ClientStep A X
resumes_or_binds speech t None = binds speech t
resumes_or_binds speech t (Some s) = asks speech (notes speech t (Stated s.waiting.handled)) (resume_item s.previd s.waiting.handled) phase.Resuming

abbrev pub features2_with : {A X : Type 0} → Speech A X → ClientStep A X → Elem → Result Features ExtFault → ClientStep A X
features2_with speech t e (Ok features) = if features.bind then resumes_or_binds speech t t.client.session else ends t NoFeature
features2_with speech t e (Err why) = other_element t e

abbrev pub features2_row : {A X : Type 0} → Speech A X → ClientStep A X → Elem → ClientStep A X
features2_row speech t e = features2_with speech t e (features_read e)

-- ---- Resuming

-- what waits is put again, in order, and a request for its acknowledgement behind it
abbrev pub resent : {A X : Type 0} → Speech A X → List A → List X
resent speech [] = []
resent speech (stanza ∷ queue) = spread_all speech (stanza ∷ queue) ++ uttered speech request_item

abbrev pub queue_in : {A : Type 0} → Option (SessionView A) → List A
queue_in None = []
queue_in (Some s) = s.waiting.queue

-- the session is attached
abbrev pub attaches : {A X : Type 0} → Speech A X → ClientStep A X → ClientStep A X
attaches speech t = tells (puts (goes t phase.Online) (resent speech (queue_in t.client.session))) Resumed

abbrev pub resumed_row : {A X : Type 0} → Speech A X → ClientStep A X → SessionView A → ℕ → ClientStep A X
resumed_row speech t s h =
    if is_too_high s.waiting h then counts_too_high speech t (too_high s.waiting h) else attaches speech (acknowledges speech t s h)

abbrev pub resumed_in : {A X : Type 0} → Speech A X → ClientStep A X → Option (SessionView A) → ℕ → ClientStep A X
resumed_in speech t None h = t
resumed_in speech t (Some s) h = resumed_row speech t s h

-- the session can't be resumed: it ends, and a resource is bound
abbrev pub failed_row : {A X : Type 0} → Speech A X → ClientStep A X → ClientStep A X
failed_row speech t = binds speech (tells (drops speech t) ResumeFailed)

-- A `failed` needs no condition here.
abbrev pub resuming_with : {A X : Type 0} → Speech A X → ClientStep A X → Elem → Result (List ℕ × ℕ) ExtFault → ClientStep A X
resuming_with speech t e (Ok told) = resumed_in speech t t.client.session told.1
resuming_with speech t e (Err why) = if is_management (codes "failed") e then failed_row speech t else other_element t e

abbrev pub resuming_row : {A X : Type 0} → Speech A X → ClientStep A X → Elem → ClientStep A X
resuming_row speech t e = resuming_with speech t e (resumption_read (codes "resumed") e)

-- ---- Binding

abbrev pub is_result : IqKind → Bool
is_result iq.Result = true
is_result _ = false

abbrev pub is_bound : Option Elem → Bool
is_bound None = false
is_bound (Some e) = is_ok (bind_result_read e)

-- the result of the binding, whose id is `bind`
abbrev pub is_bind_result : IqView → Bool
is_bind_result q = is_result q.kind && (bytes_eq q.id (codes "bind") && is_bound (first_named binding (codes "bind") q.payload))

abbrev pub tells_bound : Result Stanza StanzaFault → Bool
tells_bound (Ok (Iq q)) = is_bind_result q
tells_bound (Ok (Message m)) = false
tells_bound (Ok (Presence p)) = false
tells_bound (Err fault) = false

-- a resource is bound: its epoch begins, and its submissions are numbered anew
abbrev pub begins_epoch : {A X : Type 0} → Speech A X → ClientStep A X → ClientStep A X
begins_epoch speech t = notes speech (record t { client = record t.client { epoch = next_number t.client.epoch; n = 0 } }) (Epoch (next_number t.client.epoch))

abbrev pub binding_row : {A X : Type 0} → Speech A X → ClientStep A X → Elem → ClientStep A X
binding_row speech t e = if tells_bound (stanza_of e) then asks speech (begins_epoch speech t) enable_item phase.Enabling else other_element t e

-- ---- Enabling

-- a stanza by its name, though it may have no valid form (RFC 6120, section 8)
abbrev pub is_stanza : Elem → Bool
is_stanza e = is_named client_ns (codes "message") e || (is_named client_ns (codes "presence") e || is_named client_ns (codes "iq") e)

-- the session begins with the switch of carbons and the presence
abbrev pub first_stanzas : {A X : Type 0} → Speech A X → Waiting A
first_stanzas speech = queued (queued nothing_waits (speech.say carbons_item) false) (speech.say available_item) false

abbrev pub begins : {A X : Type 0} → Speech A X → ClientStep A X → List ℕ → ClientStep A X
begins speech t previd =
    tells
    (puts
    (puts
    (notes speech
    (notes speech
    (notes speech
    (record t { client = record t.client { session = Some (record { previd = previd; waiting = first_stanzas speech }); phase = phase.Online } })
    Counted)
    (Put (speech.say carbons_item)))
    (Put (speech.say available_item)))
    (uttered speech carbons_item))
    (uttered speech available_item))
    (Bound t.client.epoch)

abbrev pub is_empty : List ℕ → Bool
is_empty [] = true
is_empty (b ∷ bs) = false

-- the session that is enabled can be resumed
abbrev pub can_resume : Enabled → Bool
can_resume enabled = enabled.resume && not (is_empty enabled.id)

-- A session that can be resumed begins. A stanza is dropped, and isn't counted.
abbrev pub enabling_with : {A X : Type 0} → Speech A X → ClientStep A X → Elem → Result Enabled ExtFault → ClientStep A X
enabling_with speech t e (Ok enabled) = if can_resume enabled then begins speech t enabled.id else other_element t e
enabling_with speech t e (Err why) = if is_stanza e then t else other_element t e

abbrev pub enabling_row : {A X : Type 0} → Speech A X → ClientStep A X → Elem → ClientStep A X
enabling_row speech t e = enabling_with speech t e (enabled_read e)
