-- The definitions, evaluated at values that were worked out beforehand.
use Rattle.std.proofs.Common.{◌≡◌, ℕ, true, false, [], ◌∷◌, List, Some, None, Ok, Err, codes, pos, negsuc, refl}
use Rattle.xml_trees.specs.Attributes.{Attribute}
use Rattle.xml_trees.specs.Trees.{element, Nodes, no_nodes, child, text}
use Rattle.im_stanza.specs.Errors.{stanza_error_of, error_elem, stream_error_elem}
use Rattle.im_stanza.specs.Names.{client_ns, stanza_errors_ns, stream_errors_ns, streams_ns, xml_ns}
use Rattle.im_stanza.specs.Priority.{priority_of, presence_priority}
use Rattle.im_stanza.specs.Readings.{stanza_of}
use Rattle.im_stanza.specs.Written.{message_elem, presence_elem}
use Rattle.im_stanza.specs.declared.conditions.Condition.TheVariants.{ItemNotFound, Other}
use Rattle.im_stanza.specs.declared.errors.ErrorKind.TheVariants as error
use Rattle.im_stanza.specs.declared.fault.StanzaErrorFault.TheVariants.{NoError}
use Rattle.im_stanza.specs.declared.kinds.MessageKind.TheVariants.{Normal}
use Rattle.im_stanza.specs.declared.kinds.PresenceKind.TheVariants as presence
use Rattle.im_stanza.specs.declared.stanzas.Stanza.TheVariants.{Message, Presence}
use Rattle.im_stanza.specs.declared.fault.StanzaFault.TheVariants.{NotAStanza, BadFormat, BadFrom, BadTo}

abbrev attr : List ℕ → List ℕ → Attribute
attr name value = record { ns = []; name = name; value = value }

abbrev hello : Nodes
hello = child (element client_ns (codes "body") [] (text (codes "hi") no_nodes)) no_nodes

unknown_type : stanza_of (element client_ns (codes "message") (attr (codes "id") (codes "7") ∷ attr (codes "type") (codes "shout") ∷ []) hello)
    ≡ Ok (Message (record { from = None; to = None; id = codes "7"; kind = Normal; lang = []; payload = hello }))
unknown_type = refl

foreign_message : stanza_of (element (codes "jabber:server") (codes "message") [] hello) ≡ Err NotAStanza
foreign_message = refl

iq_without_id : stanza_of (element client_ns (codes "iq") (attr (codes "from") [] ∷ attr (codes "type") (codes "get") ∷ []) hello) ≡ Err BadFormat
iq_without_id = refl

iq_without_type : stanza_of (element client_ns (codes "iq") (attr (codes "id") [] ∷ []) hello) ≡ Err BadFormat
iq_without_type = refl

-- the empty text is no address
both_bad : stanza_of (element client_ns (codes "message") (attr (codes "from") [] ∷ attr (codes "to") [] ∷ []) hello) ≡ Err BadFrom
both_bad = refl

bad_to_of_an_error : stanza_of (element client_ns (codes "message") (attr (codes "to") [] ∷ attr (codes "type") (codes "error") ∷ []) hello) ≡ Err (BadTo true false None [] [])
bad_to_of_an_error = refl

bad_to_of_a_request : stanza_of (element client_ns (codes "iq") (attr (codes "id") (codes "7") ∷ attr (codes "to") [] ∷ attr (codes "type") (codes "set") ∷ []) no_nodes) ≡ Err (BadTo false true None (codes "7") [])
bad_to_of_a_request = refl

lowest_priority : priority_of (codes "-128") ≡ negsuc 127
lowest_priority = refl

priority_with_zeros : priority_of (codes "007") ≡ pos 7
priority_with_zeros = refl

priority_too_high : priority_of (codes "128") ≡ pos 0
priority_too_high = refl

priority_with_plus : priority_of (codes "+1") ≡ pos 0
priority_with_plus = refl

no_priority : priority_of [] ≡ pos 0
no_priority = refl

-- the texts directly in the element are one number
parted_priority : presence_priority (element client_ns (codes "presence") [] (child (element client_ns (codes "priority") [] (text (codes "1") (child (element client_ns (codes "x") [] no_nodes) (text (codes "2") no_nodes)))) no_nodes)) ≡ pos 12
parted_priority = refl

normal_is_written : message_elem (record { from = None; to = Some (codes "a.example"); id = []; kind = Normal; lang = codes "en"; payload = hello })
    ≡ element client_ns (codes "message") (attr (codes "to") (codes "a.example") ∷ attr (codes "type") (codes "normal") ∷ record { ns = xml_ns; name = codes "lang"; value = codes "en" } ∷ []) hello
normal_is_written = refl

-- types are compared as text (RFC 6121 section 4.7.1)
presence_error : stanza_of (element client_ns (codes "presence") (attr (codes "id") (codes "7") ∷ attr (codes "type") (codes "error") ∷ []) no_nodes)
    ≡ Ok (Presence (record { from = None; to = None; id = codes "7"; kind = presence.Error; priority = pos 0 }))
presence_error = refl

presence_capital_error : stanza_of (element client_ns (codes "presence") (attr (codes "type") (codes "Error") ∷ []) no_nodes)
    ≡ Ok (Presence (record { from = None; to = None; id = []; kind = presence.Other; priority = pos 0 }))
presence_capital_error = refl

first_presence : presence_elem (record { from = None; to = None; id = []; kind = presence.Available; priority = pos 0 }) ≡ element client_ns (codes "presence") [] no_nodes
first_presence = refl

abbrev condition : List ℕ → Nodes → Nodes
condition name rest = child (element stanza_errors_ns name [] no_nodes) rest

-- the text is no condition, and the first error counts
error_with_text : stanza_error_of (element client_ns (codes "message") [] (child (element client_ns (codes "error") (attr (codes "type") (codes "retry") ∷ []) (condition (codes "text") (condition (codes "item-not-found") no_nodes))) no_nodes))
    ≡ Ok (record { kind = error.Cancel; condition = ItemNotFound })
error_with_text = refl

second_error : stanza_error_of (element client_ns (codes "message") [] (child (element client_ns (codes "error") [] no_nodes) (child (error_elem (record { kind = error.Wait; condition = Other (codes "gone") })) no_nodes))) ≡ Err NoError
second_error = refl

bare_stream_error : stream_error_elem (codes "conflict") None ≡ element streams_ns (codes "error") [] (child (element stream_errors_ns (codes "conflict") [] no_nodes) no_nodes)
bare_stream_error = refl
