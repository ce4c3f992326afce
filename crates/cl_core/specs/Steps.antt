-- The client's step over whole items: the rows of its states.
use Rattle.std.specs.Prelude.{ℕ, List, [], ◌∷◌, Option, Some, None, Result, Ok, Err, codes, if◌then◌else◌, unwrap_or}
use Rattle.cl_handlers.specs.AckRows.{ack_row, request_row}
use Rattle.cl_handlers.specs.Clients.{ClientStep}
use Rattle.cl_handlers.specs.LoginSteps.{header_row, login_row}
use Rattle.cl_handlers.specs.MessageRows.{message_row}
use Rattle.cl_core.specs.PageRows.{iq_row}
use Rattle.cl_handlers.specs.SessionRows.{binding_row, enabling_row, features2_row, is_stanza, resuming_row}
use Rattle.cl_handlers.specs.Speech.{Speech, Handled}
use Rattle.cl_handlers.specs.ClientSteps.{ends, is_apart, notes, with_session}
use Rattle.cl_handlers.specs.declared.events.PeerFault.TheVariants.{Closed, Stream}
use Rattle.cl_handlers.specs.declared.phase.Phase.{Phase}
use Rattle.cl_handlers.specs.declared.phase.Phase.TheVariants as phase
use Rattle.im_extensions.specs.StreamManagement.{ack_read, is_management}
use Rattle.im_extensions.specs.declared.stream_management.Ack.{Ack}
use Rattle.xml_framer.specs.declared.items.Item.{Item}
use Rattle.xml_framer.specs.declared.items.Item.TheVariants.{Header, Element, Footer}
use Rattle.sm_outbox.specs.Sessions.{SessionView}
use Rattle.sm_outbox.specs.Waiting.{counted_in}
use Rattle.im_payload.specs.declared.fault.ExtFault.{ExtFault}
use Rattle.im_stanza.specs.Conditions.{condition_in}
use Rattle.im_stanza.specs.Names.{stream_errors_ns, streams_ns}
use Rattle.im_stanza.specs.Readings.{stanza_of}
use Rattle.im_stanza.specs.declared.fault.StanzaFault.{StanzaFault}
use Rattle.im_stanza.specs.declared.stanzas.Stanza.{Stanza}
use Rattle.im_stanza.specs.declared.stanzas.Stanza.TheVariants.{Message, Presence, Iq}
use Rattle.xml_trees.specs.Readers.{is_named}
use Rattle.xml_trees.specs.Trees.{Elem, nodes_of}

-- ---- online

-- a stanza of the server is handled
abbrev pub handles : {A X : Type 0} → Speech A X → ClientStep A X → SessionView A → Elem → ClientStep A X
handles speech t s e = notes speech (with_session t s (counted_in s.waiting)) (Handled e)

-- One that can't be read is counted, and dropped.
abbrev pub stanza_row : {A X : Type 0} → Speech A X → ClientStep A X → Result Stanza StanzaFault → ClientStep A X
stanza_row speech t (Ok (Message m)) = message_row t m
stanza_row speech t (Ok (Iq q)) = iq_row speech t q
stanza_row speech t (Ok (Presence p)) = t
stanza_row speech t (Err fault) = t

abbrev pub told_row : {A X : Type 0} → Speech A X → ClientStep A X → SessionView A → Result Ack ExtFault → ClientStep A X
told_row speech t s (Ok ack) = ack_row speech t s ack.h
told_row speech t s (Err why) = t

abbrev pub online_in : {A X : Type 0} → Speech A X → ClientStep A X → Option (SessionView A) → Elem → ClientStep A X
online_in speech t None e = t
online_in speech t (Some s) e =
    if is_stanza e then stanza_row speech (handles speech t s e) (stanza_of e)
    else (if is_management (codes "r") e then request_row speech t s else told_row speech t s (ack_read e))

-- ---- elements

abbrev pub element_row : {A X : Type 0} → Speech A X → ClientStep A X → Phase → Elem → ClientStep A X
element_row speech t phase.Apart e = t
element_row speech t (phase.Login state) e = login_row speech t state e
element_row speech t phase.Features2 e = features2_row speech t e
element_row speech t phase.Resuming e = resuming_row speech t e
element_row speech t phase.Binding e = binding_row speech t e
element_row speech t phase.Enabling e = enabling_row speech t e
element_row speech t phase.Online e = online_in speech t t.client.session e

-- the condition of a stream error (RFC 6120, section 4.9)
abbrev pub stream_condition : Elem → List ℕ
stream_condition e = unwrap_or (condition_in stream_errors_ns (nodes_of e)) (codes "undefined-condition")

abbrev pub element_step : {A X : Type 0} → Speech A X → ClientStep A X → Elem → ClientStep A X
element_step speech t e =
    if is_named streams_ns (codes "error") e then ends t (Stream (stream_condition e)) else element_row speech t t.client.phase e

-- ---- items

abbrev pub connected_step : {A X : Type 0} → Speech A X → ClientStep A X → Item → ClientStep A X
connected_step speech t (Header at header) = header_row speech t t.client.phase
connected_step speech t (Element e) = element_step speech t e
connected_step speech t Footer = ends t Closed

-- an item that comes where no connection stands does nothing
abbrev pub item_step : {A X : Type 0} → Speech A X → ClientStep A X → Item → ClientStep A X
item_step speech t item = if is_apart t.client.phase then t else connected_step speech t item

abbrev pub items_run : {A X : Type 0} → Speech A X → ClientStep A X → List Item → ClientStep A X
items_run speech t [] = t
items_run speech t (item ∷ items) = items_run speech (item_step speech t item) items
