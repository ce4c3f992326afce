-- Ids of stanzas: what is read is exact, and what is written is read back.
use Rattle.std.proofs.Common.{◌≡◌, refl, sym, ◌∙◌}
use Rattle.im_payload.proofs.FaultLemmas.{for_memory, one_field, same_inside, some_is_there}
use Rattle.im_payload.specs.Faults.{IsExact}
use Rattle.im_extensions.specs.Ids.{IsOriginId, IsStanzaId, OriginIdLacks, StanzaIdLacks, is_origin_id, is_stanza_id, origin_id_elem, stanza_id_elem}
use Rattle.im_payload.specs.declared.fault.Field.{Field}
use Rattle.im_payload.specs.declared.fault.Field.TheVariants.{Id, Jid}
use Rattle.im_extensions.specs.declared.ids.OriginId.{OriginId}
use Rattle.im_extensions.specs.declared.ids.StanzaId.{StanzaId}
use Rattle.xml_trees.specs.Trees.{Elem}

stanza_id_right : (e : Elem) (v : StanzaId) (f : Field) → IsStanzaId e v → StanzaIdLacks e f → ⊥
stanza_id_right e v Id is lacks = let both = sym is.id ∙ lacks in cc both
stanza_id_right e v Jid is lacks = let both = sym is.by ∙ lacks.1 in cc both
stanza_id_right e v _ is lacks = lacks

stanza_id_first : (e : Elem) (f g : Field) → StanzaIdLacks e f → StanzaIdLacks e g → f ≡ g
stanza_id_first e Id Id a b = refl
stanza_id_first e Id Jid a b = absurd (some_is_there _ b.0 a)
stanza_id_first e Id _ a b = absurd b
stanza_id_first e Jid Id a b = absurd (some_is_there _ a.0 b)
stanza_id_first e Jid Jid a b = refl
stanza_id_first e Jid _ a b = absurd b
stanza_id_first e _ _ a b = absurd a

pub stanza_id_exact : IsExact is_stanza_id StanzaIdLacks IsStanzaId stanza_id_elem
stanza_id_exact = record {
  one = λ e v w a b i. record { id = same_inside v.id w.id (sym a.id ∙ b.id) i; by = same_inside v.by w.by (sym a.by ∙ b.by) i };
  refused = λ e v fault is. for_memory _ _ fault is.named (λ f. stanza_id_right e v f is);
  first = stanza_id_first;
  read_back = λ e v is. record { named = refl; id = refl; by = refl };
}

origin_id_right : (e : Elem) (v : OriginId) (f : Field) → IsOriginId e v → OriginIdLacks e f → ⊥
origin_id_right e v Id is lacks = let both = sym is.id ∙ lacks in cc both
origin_id_right e v _ is lacks = lacks

id_alone : (e : Elem) (f : Field) → OriginIdLacks e f → f ≡ Id
id_alone e Id lacks = refl
id_alone e _ lacks = absurd lacks

pub origin_id_exact : IsExact is_origin_id OriginIdLacks IsOriginId origin_id_elem
origin_id_exact = record {
  one = λ e v w a b i. record { id = same_inside v.id w.id (sym a.id ∙ b.id) i };
  refused = λ e v fault is. for_memory _ _ fault is.named (λ f. origin_id_right e v f is);
  first = λ e. one_field _ Id (id_alone e);
  read_back = λ e v is. record { named = refl; id = refl };
}
