-- Which trees are which stanza: the relations of a tree and a value (RFC 6120 section 8).
use Rattle.std.specs.Prelude.{◌≡◌, ◌≢◌, ℕ, ◌⊎◌, ◌↔◌, Bool, true, List, [], Option, Some, None, Ok, Err, unwrap_or, codes}
use Rattle.xml_trees.specs.Readers.{attr_of}
use Rattle.xml_trees.specs.Trees.{Elem, namespace_of, name_of, nodes_of}
use Rattle.im_jid.specs.Normal.{normal}
use Rattle.im_jid.specs.declared.fault.JidFault.{JidFault}
use Rattle.im_stanza.specs.Kinds.{message_type, IsMessageKind, IsPresenceKind, iq_type}
use Rattle.im_stanza.specs.Names.{client_ns, xml_ns}
use Rattle.im_stanza.specs.Priority.{presence_priority}
use Rattle.im_stanza.specs.Views.{MessageView, IqView}
use Rattle.im_stanza.specs.declared.kinds.MessageKind.TheVariants as message
use Rattle.im_stanza.specs.declared.kinds.IqKind.{IqKind}
use Rattle.im_stanza.specs.declared.kinds.IqKind.TheVariants as iq
use Rattle.im_stanza.specs.declared.stanzas.Presence.{Presence}

-- an element of this name in the namespace of stanzas
abbrev pub IsNamed : List ℕ → Elem → Type 0
IsNamed name tree = (namespace_of tree ≡ client_ns) × (name_of tree ≡ name)

-- the value of an attribute without a namespace
abbrev pub attr_named : List ℕ → Elem → Option (List ℕ)
attr_named name tree = attr_of [] name tree

-- the id, which is empty where there is none
abbrev pub id_or_empty : Elem → List ℕ
id_or_empty tree = unwrap_or (attr_named (codes "id") tree) []

-- An address attribute (RFC 6120 sections 8.1.1 and 8.1.2): no address where it is absent, and else the normal form of
-- its value.
abbrev pub IsAddressOf : Option (List ℕ) → Option (List ℕ) → Type 0
IsAddressOf None address = address ≡ None
IsAddressOf (Some value) address = (form : List ℕ) × (normal value ≡ Ok form) × (address ≡ Some form)

-- one that is there and is no address
pub record IsBadAddress (attribute : Option (List ℕ)) : Type 0 where
  pub value : List ℕ
  pub why : JidFault
  pub there : attribute ≡ Some value
  pub refused : normal value ≡ Err why

-- A message (RFC 6120 section 8.2.1; RFC 6121 section 5.2).
pub record IsMessage (tree : Elem) (m : MessageView) : Type 0 where
  pub named : IsNamed (codes "message") tree
  pub from : IsAddressOf (attr_named (codes "from") tree) m.from
  pub to : IsAddressOf (attr_named (codes "to") tree) m.to
  pub id : m.id ≡ id_or_empty tree
  pub kind : IsMessageKind (attr_named (codes "type") tree) m.kind
  pub lang : m.lang ≡ unwrap_or (attr_of xml_ns (codes "lang") tree) []
  pub payload : m.payload ≡ nodes_of tree

-- A presence (RFC 6120 section 8.2.2; RFC 6121 section 4.7).
pub record IsPresence (tree : Elem) (p : Presence) : Type 0 where
  pub named : IsNamed (codes "presence") tree
  pub from : IsAddressOf (attr_named (codes "from") tree) p.from
  pub to : IsAddressOf (attr_named (codes "to") tree) p.to
  pub id : p.id ≡ id_or_empty tree
  pub kind : IsPresenceKind (attr_named (codes "type") tree) p.kind
  pub priority : p.priority ≡ presence_priority tree

-- A request or its answer (RFC 6120 section 8.2.3), with an id, which may be empty, and one of the four types.
pub record IsIq (tree : Elem) (q : IqView) : Type 0 where
  pub named : IsNamed (codes "iq") tree
  pub from : IsAddressOf (attr_named (codes "from") tree) q.from
  pub to : IsAddressOf (attr_named (codes "to") tree) q.to
  pub id : attr_named (codes "id") tree ≡ Some q.id
  pub kind : attr_named (codes "type") tree ≡ Some (iq_type q.kind)
  pub payload : q.payload ≡ nodes_of tree

-- What is no stanza, and why; the first that fits is the answer.

-- the element is none of the three
pub record IsNoStanza (tree : Elem) : Type 0 where
  pub message : ¬ (IsNamed (codes "message") tree)
  pub presence : ¬ (IsNamed (codes "presence") tree)
  pub iq : ¬ (IsNamed (codes "iq") tree)

-- an `iq` without an id, or whose `type` is none of the four
pub record IsBadFormat (tree : Elem) : Type 0 where
  pub named : IsNamed (codes "iq") tree
  pub lacks : (attr_named (codes "id") tree ≡ None) ⊎ ((k : IqKind) → attr_named (codes "type") tree ≢ Some (iq_type k))

-- the `from` of a stanza is there and is no address
pub record IsBadFrom (tree : Elem) : Type 0 where
  pub stanza : ¬ (IsNoStanza tree)
  pub format : ¬ (IsBadFormat tree)
  pub bad : IsBadAddress (attr_named (codes "from") tree)

-- An error is due to a message that is no error itself, and to an `iq` that asks or sets; never to a presence (RFC 6120
-- sections 8.2.3 and 8.3.1).
abbrev pub IsAnswered : Elem → Type 0
IsAnswered tree =
    (IsNamed (codes "message") tree × (attr_named (codes "type") tree ≢ Some (message_type message.Error)))
    ⊎ (IsNamed (codes "iq") tree × ((attr_named (codes "type") tree ≡ Some (iq_type iq.Get)) ⊎ (attr_named (codes "type") tree ≡ Some (iq_type iq.Set))))

-- The `to` of a stanza is there and is no address: whether the stanza is a message, whether an error is due, the sender,
-- the id, and the attribute as it was written.
pub record IsBadTo (tree : Elem) (is_message reply : Bool) (sender : Option (List ℕ)) (id to : List ℕ) : Type 0 where
  pub stanza : ¬ (IsNoStanza tree)
  pub format : ¬ (IsBadFormat tree)
  pub from : ¬ (IsBadAddress (attr_named (codes "from") tree))
  pub bad : IsBadAddress (attr_named (codes "to") tree)
  pub message : (is_message ≡ true) ↔ IsNamed (codes "message") tree
  pub answered : (reply ≡ true) ↔ IsAnswered tree
  pub the_sender : IsAddressOf (attr_named (codes "from") tree) sender
  pub the_id : id ≡ id_or_empty tree
  pub written : attr_named (codes "to") tree ≡ Some to
