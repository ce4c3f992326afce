-- The trees that stanzas are written as (RFC 6120 section 8.1).
use Rattle.std.specs.Prelude.{◌≡◌, ℕ, List, [], ◌∷◌, ◌++◌, ℤ, pos, Option, Some, None, Ok, IfSome, codes, if◌then◌else◌}
use Rattle.std.specs.Fmt.{signed_decimal}
use Rattle.std.specs.Ordering.{int_eq}
use Rattle.xml_trees.specs.Attributes.{Attribute}
use Rattle.xml_trees.specs.Trees.{Elem, element, Nodes, no_nodes, child, text}
use Rattle.im_jid.specs.Normal.{normal}
use Rattle.im_stanza.specs.Kinds.{message_type, presence_type, iq_type}
use Rattle.im_stanza.specs.Names.{client_ns, xml_ns}
use Rattle.im_stanza.specs.Views.{MessageView, IqView}
use Rattle.im_stanza.specs.declared.stanzas.Presence.{Presence}

-- an attribute where it has a value
abbrev pub attr_where : List ℕ → List ℕ → Option (List ℕ) → List Attribute
attr_where ns name None = []
attr_where ns name (Some given) = record { ns = ns; name = name; value = given } ∷ []

-- a value where it isn't empty
abbrev pub unless_empty : List ℕ → Option (List ℕ)
unless_empty [] = None
unless_empty (c ∷ cs) = Some (c ∷ cs)

-- The attributes of a stanza in the order of a tree, each where it has a value.
abbrev pub attrs_written : Option (List ℕ) → Option (List ℕ) → Option (List ℕ) → Option (List ℕ) → Option (List ℕ) → List Attribute
attrs_written from id to kind lang =
    attr_where [] (codes "from") from ++ attr_where [] (codes "id") id ++ attr_where [] (codes "to") to ++ attr_where [] (codes "type") kind
    ++ attr_where xml_ns (codes "lang") lang

-- A message, with its `type` always, and its id and language where they aren't empty.
abbrev pub message_elem : MessageView → Elem
message_elem m = element client_ns (codes "message") (attrs_written m.from (unless_empty m.id) m.to (Some (message_type m.kind)) (unless_empty m.lang)) m.payload

-- the child `priority`, where the priority isn't 0, which is what its absence means
abbrev pub priority_nodes : ℤ → Nodes
priority_nodes n =
    if int_eq n (pos 0) then no_nodes
    else child (element client_ns (codes "priority") [] (text (signed_decimal n) no_nodes)) no_nodes

-- A presence, with its id where it isn't empty.
abbrev pub presence_elem : Presence → Elem
presence_elem p = element client_ns (codes "presence") (attrs_written p.from (unless_empty p.id) p.to (presence_type p.kind) None) (priority_nodes p.priority)

-- An `iq`, with its id and `type` always.
abbrev pub iq_elem : IqView → Elem
iq_elem q = element client_ns (codes "iq") (attrs_written q.from (Some q.id) q.to (Some (iq_type q.kind)) None) q.payload

-- Where there is an address, it is in normal form, as a `Jid` always is.
abbrev pub IsNormal : Option (List ℕ) → Type 0
IsNormal address = IfSome address (λ form. normal form ≡ Ok form)
