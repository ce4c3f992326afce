-- Unique and stable ids of stanzas (XEP-0359, section 3).
use Rattle.std.specs.Prelude.{◌≡◌, Bool, true, [], ◌∷◌, Some, None, IsSome, codes}
use Rattle.im_payload.specs.Names.{stanza_ids}
use Rattle.im_stanza.specs.Stanzas.{attr_named}
use Rattle.im_payload.specs.declared.fault.Field.{Field}
use Rattle.im_payload.specs.declared.fault.Field.TheVariants.{Id, Jid}
use Rattle.im_extensions.specs.declared.ids.OriginId.{OriginId}
use Rattle.im_extensions.specs.declared.ids.StanzaId.{StanzaId}
use Rattle.xml_trees.specs.Attributes.{attribute}
use Rattle.xml_trees.specs.Readers.{is_named}
use Rattle.xml_trees.specs.Trees.{Elem, element, no_nodes}

abbrev pub is_stanza_id : Elem → Bool
is_stanza_id e = is_named stanza_ids (codes "stanza-id") e

-- `stanza-id` (section 3.1): the id, and the address of the one who gave it, as it is written
pub record IsStanzaId (e : Elem) (v : StanzaId) : Type 0 where
  pub named : is_stanza_id e ≡ true
  pub id : attr_named (codes "id") e ≡ Some v.id
  pub by : attr_named (codes "by") e ≡ Some v.by

-- the id is judged first
abbrev pub StanzaIdLacks : Elem → Field → Type 0
StanzaIdLacks e Id = attr_named (codes "id") e ≡ None
StanzaIdLacks e Jid = IsSome (attr_named (codes "id") e) × (attr_named (codes "by") e ≡ None)
StanzaIdLacks e _ = ⊥

abbrev pub stanza_id_elem : StanzaId → Elem
stanza_id_elem v = element stanza_ids (codes "stanza-id") (attribute [] (codes "by") v.by ∷ attribute [] (codes "id") v.id ∷ []) no_nodes

abbrev pub is_origin_id : Elem → Bool
is_origin_id e = is_named stanza_ids (codes "origin-id") e

-- `origin-id` (section 3.2): the id that the sender gave
pub record IsOriginId (e : Elem) (v : OriginId) : Type 0 where
  pub named : is_origin_id e ≡ true
  pub id : attr_named (codes "id") e ≡ Some v.id

abbrev pub OriginIdLacks : Elem → Field → Type 0
OriginIdLacks e Id = attr_named (codes "id") e ≡ None
OriginIdLacks e _ = ⊥

abbrev pub origin_id_elem : OriginId → Elem
origin_id_elem v = element stanza_ids (codes "origin-id") (attribute [] (codes "id") v.id ∷ []) no_nodes
