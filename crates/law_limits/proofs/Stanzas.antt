-- Stanzas: what surrounds their payload.
use Rattle.std.proofs.Common.{ℕ, ◌+◌, ◌*◌, List, [], ◌∷◌, Option, Some, None, IfSome, codes, refl, arith}
use Rattle.im_stanza.proofs.WrittenAttrs.{attrs_stay}
use Rattle.im_stanza.specs.Errors.{error_elem}
use Rattle.im_stanza.specs.Kinds.{iq_type}
use Rattle.im_stanza.specs.Names.{client_ns, stanza_errors_ns, xml_ns}
use Rattle.im_stanza.specs.Written.{attrs_written}
use Rattle.im_stanza.specs.declared.conditions.Condition.TheVariants.{ServiceUnavailable}
use Rattle.im_stanza.specs.declared.errors.ErrorKind.TheVariants.{Cancel}
use Rattle.im_stanza.specs.declared.kinds.IqKind.{IqKind}
use Rattle.im_stanza.specs.declared.kinds.IqKind.TheVariants as iq
use Rattle.xml_trees.specs.Attributes.{attribute}
use Rattle.xml_trees.specs.Trees.{Nodes, element, no_nodes}
use Rattle.law_limits.specs.Bounds.{IsTextWithin}
use Rattle.law_limits.proofs.RequestParts.{AreSmall, AreSmallAttributes, IsSmall, attribute_where, bare_small, element_small, fewer, more_attributes, none_small, one_attribute, only_child, wider}
use Rattle.law_limits.proofs.Texts.{literal}

-- the attributes of a stanza
pub stanza_attributes : (from id to kind lang : Option (List ℕ)) (a i t k l : ℕ) → IfSome from (IsTextWithin a) → IfSome id (IsTextWithin i) → IfSome to (IsTextWithin t) → IfSome kind (IsTextWithin k) → IfSome lang (IsTextWithin l)
    → AreSmallAttributes (attrs_written from id to kind lang) (60 + 6 * a + 6 * i + 6 * t + 6 * k + 6 * l) 16
stanza_attributes from id to kind lang a i t k l from_short id_short to_short kind_short lang_short =
    let one = attribute_where [] (codes "from") from a refl from_short in
    let two = more_attributes _ _ _ _ _ _ one (attribute_where [] (codes "id") id i refl id_short) in
    let three = more_attributes _ _ _ _ _ _ two (attribute_where [] (codes "to") to t refl to_short) in
    let four = more_attributes _ _ _ _ _ _ three (attribute_where [] (codes "type") kind k refl kind_short) in
    fewer _ _ _ _ _ (omega arith) (omega arith) (more_attributes _ _ _ _ _ _ four (attribute_where xml_ns (codes "lang") lang l refl lang_short))

-- ---- iq

iq_type_within : (kind : IqKind) → IsTextWithin 6 (iq_type kind)
iq_type_within iq.Get = literal (codes "get") 6 refl refl
iq_type_within iq.Set = literal (codes "set") 6 refl refl
iq_type_within iq.Result = literal (codes "result") 6 refl refl
iq_type_within iq.Error = literal (codes "error") 6 refl refl

pub iq_small : (from to : Option (List ℕ)) (id : List ℕ) (kind : IqKind) (payload : Nodes) (a i t most deep : ℕ) → IfSome from (IsTextWithin a) → IfSome to (IsTextWithin t) → IsTextWithin i id → AreSmall payload most deep
    → IsSmall (element client_ns (codes "iq") (attrs_written from (Some id) to (Some (iq_type kind)) None) payload) (300 + 6 * a + 6 * i + 6 * t + most) (deep + 1)
iq_small from to id kind payload a i t most deep from_short to_short id_short inside =
    wider _ _ _ _ _ (omega arith) (omega arith)
    (element_small client_ns (codes "iq") _ payload _ most deep refl (attrs_stay from (Some id) to (Some (iq_type kind)) None)
    (stanza_attributes from (Some id) to (Some (iq_type kind)) None a i t 6 0 from_short id_short to_short (iq_type_within kind) tt) inside)

-- ---- an error

condition_small : IsSmall (element stanza_errors_ns (codes "service-unavailable") [] no_nodes) 300 1
condition_small = wider _ _ _ _ _ (omega arith) (omega arith) (bare_small stanza_errors_ns (codes "service-unavailable") no_nodes 0 0 refl (none_small 0))

pub unavailable_small : IsSmall (error_elem (record { kind = Cancel; condition = ServiceUnavailable })) 600 2
unavailable_small =
    wider _ _ _ _ _ (omega arith) (omega arith)
    (element_small client_ns (codes "error") (attribute [] (codes "type") (codes "cancel") ∷ []) _ 60 300 1 refl refl
    (fewer _ _ 60 _ 16 (omega arith) (omega arith) (one_attribute [] (codes "type") (codes "cancel") 6 refl (literal (codes "cancel") 6 refl refl)))
    (only_child _ 300 1 condition_small))
