-- The reading as one value answers by the relations of trees and stanzas.
use Rattle.std.proofs.Common.{◌≡◌, ◌≢◌, ◌↔◌, ℕ, Bool, true, false, List, [], Option, Some, Result, Ok, Err, refl, sym, ◌∙◌, ap, ◌⊎◌, inl, inr, codes, unwrap_or}
use Rattle.std.proofs.lemmas.Bool.Decides.{same_from_decides}
use Rattle.xml_trees.specs.Readers.{attr_of}
use Rattle.xml_trees.specs.Trees.{Elem, nodes_of}
use Rattle.im_stanza.proofs.AddressLemmas.{address_is, address_read, bad_is, bad_read, both_ok, both_err, with_ok, with_err}
use Rattle.im_stanza.proofs.Judged.{Formed, judged, iq_cases, which, at_message, at_presence, at_none, at_formed_iq}
use Rattle.im_stanza.proofs.KindLemmas.{message_kind_is, message_kind_unique, presence_kind_is, presence_kind_unique, iq_kind_is, iq_kind_read}
use Rattle.im_stanza.specs.Kinds.{message_kind, presence_kind, iq_type}
use Rattle.im_stanza.specs.Names.{xml_ns}
use Rattle.im_stanza.specs.Priority.{presence_priority}
use Rattle.im_stanza.specs.Readings.{Addresses, address_of, addresses_of, both_addresses, with_addresses, stanza_of}
use Rattle.im_stanza.specs.Stanzas.{IsNamed, attr_named, id_or_empty, IsAddressOf, IsBadAddress, IsMessage, IsPresence, IsIq, IsNoStanza, IsBadFormat, IsBadFrom, IsBadTo}
use Rattle.im_stanza.specs.Views.{MessageView, IqView}
use Rattle.im_stanza.specs.declared.kinds.IqKind.{IqKind}
use Rattle.im_stanza.specs.declared.stanzas.Presence.{Presence as PresenceView}
use Rattle.im_stanza.specs.declared.stanzas.Stanza.{Stanza}
use Rattle.im_stanza.specs.declared.stanzas.Stanza.TheVariants.{Message, Presence, Iq}
use Rattle.im_stanza.specs.declared.fault.StanzaFault.{StanzaFault}
use Rattle.im_stanza.specs.declared.fault.StanzaFault.TheVariants.{BadFormat, BadFrom, BadTo}

abbrev from_attr : Elem → Option (List ℕ)
from_attr e = attr_named (codes "from") e

abbrev to_attr : Elem → Option (List ℕ)
to_attr e = attr_named (codes "to") e

abbrev type_attr : Elem → Option (List ℕ)
type_attr e = attr_named (codes "type") e

-- the addresses are read exactly where both attributes have one
addresses_are : (message reply : Bool) (e : Elem) (both : Addresses) → addresses_of message reply e ≡ Ok both → IsAddressOf (from_attr e) both.0 × IsAddressOf (to_attr e) both.1
addresses_are message reply e both is =
    let parts = both_ok (address_of (from_attr e)) (address_of (to_attr e)) _ both is in
    (address_is (from_attr e) both.0 parts.0, address_is (to_attr e) both.1 parts.1)

addresses_read : (message reply : Bool) (e : Elem) (from to : Option (List ℕ)) → IsAddressOf (from_attr e) from → IsAddressOf (to_attr e) to → addresses_of message reply e ≡ Ok (from, to)
addresses_read message reply e from to f t =
    λ i. both_addresses (address_read (from_attr e) from f i) (address_read (to_attr e) to t i) (λ given. BadTo message reply given (id_or_empty e) (unwrap_or (to_attr e) []))

no_stanza_so : (e : Elem) (make : Addresses → Stanza) (r : Result Addresses StanzaFault) (s : Stanza) → stanza_of e ≡ with_addresses make r → ((both : Addresses) → make both ≢ s) → stanza_of e ≢ Ok s
no_stanza_so e make r s is other p = let w = with_ok make r s (sym is ∙ p) in other w.0 w.2

not_iq : (e : Elem) (s : Stanza) → IsNamed (codes "iq") e → ((q : IqView) → Iq q ≢ s) → stanza_of e ≢ Ok s
not_iq e s h other p =
    elim (iq_cases e h) [
      | inl bad ↦ let x = sym bad.1 ∙ p in cc
      | inr q ↦ no_stanza_so e _ _ s (at_formed_iq e q.0 q.1 h q.2 q.3) (λ both. other _) p
    ]

not_none : (e : Elem) (s : Stanza) → IsNoStanza e → stanza_of e ≢ Ok s
not_none e s none p = let x = sym (at_none e none) ∙ p in cc

-- which stanza is read tells which of the three the element is
message_named : (e : Elem) (m : MessageView) → stanza_of e ≡ Ok (Message m) → IsNamed (codes "message") e
message_named e m p =
    elim (which e) [
      | inl named ↦ named
      | inr other ↦ elim other [
        | inl q ↦ absurd (no_stanza_so e _ _ (Message m) (at_presence e q) (λ both x. cc) p)
        | inr rest ↦ elim rest [ inl q ↦ absurd (not_iq e (Message m) q (λ v x. cc) p) | inr none ↦ absurd (not_none e (Message m) none p) ]
      ]
    ]

presence_named : (e : Elem) (v : PresenceView) → stanza_of e ≡ Ok (Presence v) → IsNamed (codes "presence") e
presence_named e v p =
    elim (which e) [
      | inl q ↦ absurd (no_stanza_so e _ _ (Presence v) (at_message e q) (λ both x. cc) p)
      | inr other ↦ elim other [
        | inl named ↦ named
        | inr rest ↦ elim rest [ inl q ↦ absurd (not_iq e (Presence v) q (λ w x. cc) p) | inr none ↦ absurd (not_none e (Presence v) none p) ]
      ]
    ]

iq_named : (e : Elem) (v : IqView) → stanza_of e ≡ Ok (Iq v) → IsNamed (codes "iq") e
iq_named e v p =
    elim (which e) [
      | inl q ↦ absurd (no_stanza_so e _ _ (Iq v) (at_message e q) (λ both x. cc) p)
      | inr other ↦ elim other [
        | inl q ↦ absurd (no_stanza_so e _ _ (Iq v) (at_presence e q) (λ both x. cc) p)
        | inr rest ↦ elim rest [ inl named ↦ named | inr none ↦ absurd (not_none e (Iq v) none p) ]
      ]
    ]

message_built : (e : Elem) (both : Addresses) (m : MessageView) → IsNamed (codes "message") e → IsAddressOf (from_attr e) both.0 → IsAddressOf (to_attr e) both.1
    → record { from = both.0; to = both.1; id = id_or_empty e; kind = message_kind (type_attr e); lang = unwrap_or (attr_of xml_ns (codes "lang") e) []; payload = nodes_of e } ≡ m
    → IsMessage e m
message_built e both m named from to is = rw (← is) (record { named = named; from = from; to = to; id = refl; kind = message_kind_is (type_attr e); lang = refl; payload = refl })

message_from : (e : Elem) (m : MessageView) → stanza_of e ≡ Ok (Message m) → IsMessage e m
message_from e m p =
    let named = message_named e m p in
    let w = with_ok _ _ (Message m) (sym (at_message e named) ∙ p) in
    let are = addresses_are true _ e w.0 w.1 in
    let is = w.2 in
    message_built e w.0 m named are.0 are.1 cc

message_to : (e : Elem) (m : MessageView) → IsMessage e m → stanza_of e ≡ Ok (Message m)
message_to e m is =
    at_message e is.named ∙ ap (with_addresses _) (addresses_read true _ e m.from m.to is.from is.to)
    ∙ (λ i. Ok (Message (record { from = m.from; to = m.to; id = sym is.id i; kind = sym (message_kind_unique (type_attr e) m.kind is.kind) i; lang = sym is.lang i; payload = sym is.payload i })))

pub message_law : (e : Elem) (m : MessageView) → (stanza_of e ≡ Ok (Message m)) ↔ IsMessage e m
message_law e m = (message_from e m, message_to e m)

presence_built : (e : Elem) (both : Addresses) (v : PresenceView) → IsNamed (codes "presence") e → IsAddressOf (from_attr e) both.0 → IsAddressOf (to_attr e) both.1
    → record { from = both.0; to = both.1; id = id_or_empty e; kind = presence_kind (type_attr e); priority = presence_priority e } ≡ v → IsPresence e v
presence_built e both v named from to is = rw (← is) (record { named = named; from = from; to = to; id = refl; kind = presence_kind_is (type_attr e); priority = refl })

presence_from : (e : Elem) (v : PresenceView) → stanza_of e ≡ Ok (Presence v) → IsPresence e v
presence_from e v p =
    let named = presence_named e v p in
    let w = with_ok _ _ (Presence v) (sym (at_presence e named) ∙ p) in
    let are = addresses_are false false e w.0 w.1 in
    let is = w.2 in
    presence_built e w.0 v named are.0 are.1 cc

presence_to : (e : Elem) (v : PresenceView) → IsPresence e v → stanza_of e ≡ Ok (Presence v)
presence_to e v is =
    at_presence e is.named ∙ ap (with_addresses _) (addresses_read false false e v.from v.to is.from is.to)
    ∙ (λ i. Ok (Presence (record { from = v.from; to = v.to; id = sym is.id i; kind = sym (presence_kind_unique (type_attr e) v.kind is.kind) i; priority = sym is.priority i })))

pub presence_law : (e : Elem) (v : PresenceView) → (stanza_of e ≡ Ok (Presence v)) ↔ IsPresence e v
presence_law e v = (presence_from e v, presence_to e v)

iq_built : (e : Elem) (both : Addresses) (id : List ℕ) (kind : IqKind) (v : IqView) → IsNamed (codes "iq") e → IsAddressOf (from_attr e) both.0 → IsAddressOf (to_attr e) both.1
    → attr_named (codes "id") e ≡ Some id → type_attr e ≡ Some (iq_type kind) → record { from = both.0; to = both.1; id = id; kind = kind; payload = nodes_of e } ≡ v → IsIq e v
iq_built e both id kind v named from to has_id has_type is = rw (← is) (record { named = named; from = from; to = to; id = has_id; kind = has_type; payload = refl })

iq_from : (e : Elem) (v : IqView) → stanza_of e ≡ Ok (Iq v) → IsIq e v
iq_from e v p =
    let named = iq_named e v p in
    elim (iq_cases e named) [
      | inl bad ↦ absurd (let x = sym bad.1 ∙ p in cc)
      | inr q ↦
          let w = with_ok _ _ (Iq v) (sym (at_formed_iq e q.0 q.1 named q.2 q.3) ∙ p) in
          let are = addresses_are false _ e w.0 w.1 in
          let is = w.2 in
          iq_built e w.0 q.0 q.1 v named are.0 are.1 q.2 (iq_kind_is (type_attr e) q.1 q.3) cc
    ]

iq_to : (e : Elem) (v : IqView) → IsIq e v → stanza_of e ≡ Ok (Iq v)
iq_to e v is =
    at_formed_iq e v.id v.kind is.named is.id (iq_kind_read (type_attr e) v.kind is.kind) ∙ ap (with_addresses _) (addresses_read false _ e v.from v.to is.from is.to)
    ∙ (λ i. Ok (Iq (record { from = v.from; to = v.to; id = v.id; kind = v.kind; payload = sym is.payload i })))

pub iq_law : (e : Elem) (v : IqView) → (stanza_of e ≡ Ok (Iq v)) ↔ IsIq e v
iq_law e v = (iq_from e v, iq_to e v)

-- what a formed stanza is refused for is one of its addresses
refused_formed : (e : Elem) (f : Formed e) (why : StanzaFault) → stanza_of e ≡ Err why
    → (IsBadAddress (from_attr e) × (why ≡ BadFrom)) ⊎ (¬ (IsBadAddress (from_attr e)) × IsBadAddress (to_attr e) × (from : Option (List ℕ)) × (address_of (from_attr e) ≡ Ok from) × (why ≡ BadTo f.is_message f.reply from (id_or_empty e) (unwrap_or (to_attr e) [])))
refused_formed e f why p =
    elim (both_err (address_of (from_attr e)) (address_of (to_attr e)) _ why (with_err f.stanza _ why (sym f.is ∙ p))) [
      | inl bad ↦ inl (bad_is (from_attr e) bad.0 bad.1, bad.2)
      | inr bad ↦ inr ((λ b. let x = sym bad.2 ∙ bad_read (from_attr e) b in cc), bad_is (to_attr e) bad.1 bad.3, bad.0, bad.2, bad.4)
    ]

bad_format_from : (e : Elem) → stanza_of e ≡ Err BadFormat → IsBadFormat e
bad_format_from e p =
    elim (judged e) [
      | inl none ↦ absurd (let x = sym (at_none e none) ∙ p in cc)
      | inr other ↦ elim other [
        | inl bad ↦ bad.0
        | inr f ↦ absurd (elim (refused_formed e f BadFormat p) [ inl x ↦ let y = x.1 in cc | inr x ↦ let y = x.4 in cc ])
      ]
    ]

bad_format_to : (e : Elem) → IsBadFormat e → stanza_of e ≡ Err BadFormat
bad_format_to e bad =
    elim (judged e) [
      | inl none ↦ absurd (none.iq bad.named)
      | inr other ↦ elim other [ inl is ↦ is.1 | inr f ↦ absurd (f.format bad) ]
    ]

pub bad_format_law : (e : Elem) → (stanza_of e ≡ Err BadFormat) ↔ IsBadFormat e
bad_format_law e = (bad_format_from e, bad_format_to e)

bad_from_from : (e : Elem) → stanza_of e ≡ Err BadFrom → IsBadFrom e
bad_from_from e p =
    elim (judged e) [
      | inl none ↦ absurd (let x = sym (at_none e none) ∙ p in cc)
      | inr other ↦ elim other [
        | inl bad ↦ absurd (let x = sym bad.1 ∙ p in cc)
        | inr f ↦ elim (refused_formed e f BadFrom p) [
          | inl x ↦ record { stanza = f.some; format = f.format; bad = x.0 }
          | inr x ↦ absurd (let y = x.4 in cc)
        ]
      ]
    ]

bad_from_to : (e : Elem) → IsBadFrom e → stanza_of e ≡ Err BadFrom
bad_from_to e is =
    elim (judged e) [
      | inl none ↦ absurd (is.stanza none)
      | inr other ↦ elim other [
        | inl bad ↦ absurd (is.format bad.0)
        | inr f ↦ f.is ∙ ap (λ from. with_addresses f.stanza (both_addresses from (address_of (to_attr e)) (λ given. BadTo f.is_message f.reply given (id_or_empty e) (unwrap_or (to_attr e) [])))) (bad_read (from_attr e) is.bad)
      ]
    ]

pub bad_from_law : (e : Elem) → (stanza_of e ≡ Err BadFrom) ↔ IsBadFrom e
bad_from_law e = (bad_from_from e, bad_from_to e)

written_as : (attribute : Option (List ℕ)) (bad : IsBadAddress attribute) → attribute ≡ Some (unwrap_or attribute [])
written_as attribute bad = bad.there ∙ ap (λ a. Some (unwrap_or a [])) (sym bad.there)

bad_to_formed : (e : Elem) (f : Formed e) (sender : Option (List ℕ)) → IsAddressOf (from_attr e) sender → ¬ (IsBadAddress (from_attr e)) → IsBadAddress (to_attr e)
    → IsBadTo e f.is_message f.reply sender (id_or_empty e) (unwrap_or (to_attr e) [])
bad_to_formed e f sender is from bad = record {
  stanza = f.some;
  format = f.format;
  from = from;
  bad = bad;
  message = f.message;
  answered = f.answered;
  the_sender = is;
  the_id = refl;
  written = written_as (to_attr e) bad;
}

bad_to_from : (e : Elem) (message reply : Bool) (from : Option (List ℕ)) (id to : List ℕ) → stanza_of e ≡ Err (BadTo message reply from id to) → IsBadTo e message reply from id to
bad_to_from e message reply from id to p =
    elim (judged e) [
      | inl none ↦ absurd (let x = sym (at_none e none) ∙ p in cc)
      | inr other ↦ elim other [
        | inl bad ↦ absurd (let x = sym bad.1 ∙ p in cc)
        | inr f ↦ elim (refused_formed e f (BadTo message reply from id to) p) [
          | inl x ↦ absurd (let y = x.1 in cc)
          | inr x ↦
              let y = x.4 in
              let a : message ≡ f.is_message = cc in
              let b : reply ≡ f.reply = cc in
              let h : from ≡ x.2 = cc in
              let d : id ≡ id_or_empty e = cc in
              let g : to ≡ unwrap_or (to_attr e) [] = cc in
              rw (a, b, h, d, g) (bad_to_formed e f x.2 (address_is (from_attr e) x.2 x.3) x.0 x.1)
        ]
      ]
    ]

bad_to_to : (e : Elem) (message reply : Bool) (from : Option (List ℕ)) (id to : List ℕ) → IsBadTo e message reply from id to → stanza_of e ≡ Err (BadTo message reply from id to)
bad_to_to e message reply from id to is =
    elim (judged e) [
      | inl none ↦ absurd (is.stanza none)
      | inr other ↦ elim other [
        | inl bad ↦ absurd (is.format bad.0)
        | inr f ↦
            let read = address_read (from_attr e) from is.the_sender in
            let a : f.is_message ≡ message = same_from_decides f.is_message message f.message is.message in
            let b : f.reply ≡ reply = same_from_decides f.reply reply f.answered is.answered in
            let g : unwrap_or (to_attr e) [] ≡ to = ap (λ t. unwrap_or t []) is.written in
            f.is ∙ (λ i. with_addresses f.stanza (both_addresses (read i) (bad_read (to_attr e) is.bad i) (λ given. BadTo (a i) (b i) given (sym is.the_id i) (g i))))
      ]
    ]

pub bad_to_law : (e : Elem) (message reply : Bool) (from : Option (List ℕ)) (id to : List ℕ) → (stanza_of e ≡ Err (BadTo message reply from id to)) ↔ IsBadTo e message reply from id to
bad_to_law e message reply from id to = (bad_to_from e message reply from id to, bad_to_to e message reply from id to)
