-- Ids of stanzas are read as the grammar says.
use Rattle.std.proofs.Common.{◌≡◌, ℕ, Bool, true, false, List, Option, Some, None, codes, refl}
use Rattle.im_extensions.proofs.IdLaws.{origin_id_exact, stanza_id_exact}
use Rattle.im_extensions.specs.Ids.{IsOriginId, IsStanzaId, OriginIdLacks, StanzaIdLacks, is_origin_id, is_stanza_id}
use Rattle.im_extensions.specs.Readings.{origin_id_read, origin_id_with, stanza_id_read, stanza_id_with}
use Rattle.im_payload.specs.Readings.{where_this}
use Rattle.law_payloads.proofs.Judged.{Fits, by_exact, there}
use Rattle.law_payloads.specs.Answers.{IsAnswer}
use Rattle.im_stanza.specs.Stanzas.{attr_named}
use Rattle.xml_trees.specs.Trees.{Elem}

stanza_id_fits : (e : Elem) (b : Bool) (id by : Option (List ℕ)) → is_stanza_id e ≡ b → attr_named (codes "id") e ≡ id → attr_named (codes "by") e ≡ by
    → Fits b (StanzaIdLacks e) (IsStanzaId e) (where_this b (stanza_id_with id by))
stanza_id_fits e false id by named is_id is_by = refl
stanza_id_fits e true None by named is_id is_by = (refl, is_id)
stanza_id_fits e true (Some id) None named is_id is_by = (refl, (there (attr_named (codes "id") e) id is_id, is_by))
stanza_id_fits e true (Some id) (Some by) named is_id is_by = record { named = named; id = is_id; by = is_by }

pub stanza_id_answers : (e : Elem) → IsAnswer (stanza_id_read e) (is_stanza_id e) (StanzaIdLacks e) (IsStanzaId e)
stanza_id_answers e = by_exact stanza_id_exact e (stanza_id_read e) (stanza_id_fits e (is_stanza_id e) (attr_named (codes "id") e) (attr_named (codes "by") e) refl refl refl)

origin_id_fits : (e : Elem) (b : Bool) (id : Option (List ℕ)) → is_origin_id e ≡ b → attr_named (codes "id") e ≡ id → Fits b (OriginIdLacks e) (IsOriginId e) (where_this b (origin_id_with id))
origin_id_fits e false id named is_id = refl
origin_id_fits e true None named is_id = (refl, is_id)
origin_id_fits e true (Some id) named is_id = record { named = named; id = is_id }

pub origin_id_answers : (e : Elem) → IsAnswer (origin_id_read e) (is_origin_id e) (OriginIdLacks e) (IsOriginId e)
origin_id_answers e = by_exact origin_id_exact e (origin_id_read e) (origin_id_fits e (is_origin_id e) (attr_named (codes "id") e) refl refl)
