-- The stanza that a tree is, or why it is none, as one value. The laws tie it to the relations of `Stanzas`.
use Rattle.std.specs.Prelude.{◌≡◌, ℕ, Bool, true, false, List, [], Option, Some, None, Result, Ok, Err, unwrap_or, codes, if◌then◌else◌}
use Rattle.xml_trees.specs.Readers.{attr_of, is_named}
use Rattle.xml_trees.specs.Trees.{Elem, nodes_of}
use Rattle.im_jid.specs.Normal.{normal}
use Rattle.im_jid.specs.declared.fault.JidFault.{JidFault}
use Rattle.im_jid.specs.declared.fault.JidFault.TheVariants as jid
use Rattle.im_stanza.specs.Kinds.{message_kind, answers_message, presence_kind, iq_kind, answers_iq}
use Rattle.im_stanza.specs.Names.{client_ns, xml_ns}
use Rattle.im_stanza.specs.Priority.{presence_priority}
use Rattle.im_stanza.specs.Stanzas.{attr_named, id_or_empty}
use Rattle.im_stanza.specs.declared.kinds.IqKind.{IqKind}
use Rattle.im_stanza.specs.declared.stanzas.Stanza.{Stanza}
use Rattle.im_stanza.specs.declared.stanzas.Stanza.TheVariants.{Message, Presence, Iq}
use Rattle.im_stanza.specs.declared.fault.StanzaFault.{StanzaFault}
use Rattle.im_stanza.specs.declared.fault.StanzaFault.TheVariants.{NotAStanza, BadFormat, BadFrom, BadTo, NoMemory}

-- the addresses of a stanza: its `from` and its `to`
abbrev pub Addresses : Type 0
Addresses = Option (List ℕ) × Option (List ℕ)

abbrev pub given_address : Result (List ℕ) JidFault → Result (Option (List ℕ)) JidFault
given_address (Ok form) = Ok (Some form)
given_address (Err e) = Err e

-- the address in an attribute
abbrev pub address_of : Option (List ℕ) → Result (Option (List ℕ)) JidFault
address_of None = Ok None
address_of (Some value) = given_address (normal value)

-- `from` is judged before `to`
abbrev pub both_addresses : Result (Option (List ℕ)) JidFault → Result (Option (List ℕ)) JidFault → (Option (List ℕ) → StanzaFault) → Result Addresses StanzaFault
both_addresses (Err e) to bad_to = Err BadFrom
both_addresses (Ok from) (Err e) bad_to = Err (bad_to from)
both_addresses (Ok from) (Ok to) bad_to = Ok (from, to)

abbrev pub addresses_of : Bool → Bool → Elem → Result Addresses StanzaFault
addresses_of message reply e =
    both_addresses (address_of (attr_named (codes "from") e)) (address_of (attr_named (codes "to") e))
    (λ from. BadTo message reply from (id_or_empty e) (unwrap_or (attr_named (codes "to") e) []))

abbrev pub with_addresses : (Addresses → Stanza) → Result Addresses StanzaFault → Result Stanza StanzaFault
with_addresses stanza (Ok both) = Ok (stanza both)
with_addresses stanza (Err e) = Err e

abbrev pub message_of : Elem → Result Stanza StanzaFault
message_of e =
    let kind = message_kind (attr_named (codes "type") e) in
    with_addresses
    (λ both. Message (record { from = both.0; to = both.1; id = id_or_empty e; kind = kind; lang = unwrap_or (attr_of xml_ns (codes "lang") e) []; payload = nodes_of e }))
    (addresses_of true (answers_message kind) e)

abbrev pub presence_of : Elem → Result Stanza StanzaFault
presence_of e =
    with_addresses
    (λ both. Presence (record { from = both.0; to = both.1; id = id_or_empty e; kind = presence_kind (attr_named (codes "type") e); priority = presence_priority e }))
    (addresses_of false false e)

abbrev pub iq_with : Option (List ℕ) → Option IqKind → Elem → Result Stanza StanzaFault
iq_with None kind e = Err BadFormat
iq_with (Some id) None e = Err BadFormat
iq_with (Some id) (Some kind) e =
    with_addresses (λ both. Iq (record { from = both.0; to = both.1; id = id; kind = kind; payload = nodes_of e })) (addresses_of false (answers_iq kind) e)

abbrev pub iq_of : Elem → Result Stanza StanzaFault
iq_of e = iq_with (attr_named (codes "id") e) (iq_kind (attr_named (codes "type") e)) e

abbrev pub stanza_of : Elem → Result Stanza StanzaFault
stanza_of e =
    if is_named client_ns (codes "message") e then message_of e
    else (if is_named client_ns (codes "presence") e then presence_of e
    else (if is_named client_ns (codes "iq") e then iq_of e
    else Err NotAStanza))

-- unless memory ran out, the result is the answer
abbrev pub Answers : {T : Type 0} → Result T StanzaFault → Result T StanzaFault → Type 0
Answers (Ok value) answer = answer ≡ Ok value
Answers (Err NoMemory) answer = Unit {0}
Answers (Err e) answer = answer ≡ Err e

abbrev pub AnswersAddress : Result (Option (List ℕ)) JidFault → Result (Option (List ℕ)) JidFault → Type 0
AnswersAddress (Ok address) answer = answer ≡ Ok address
AnswersAddress (Err jid.NoMemory) answer = Unit {0}
AnswersAddress (Err e) answer = answer ≡ Err e
