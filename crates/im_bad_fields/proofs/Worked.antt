-- The definition, evaluated at elements of XEP-0198, sections 3 to 5: a right one and a wrong one of each kind.
use Rattle.std.proofs.Common.{◌≡◌, ℕ, true, false, List, [], ◌∷◌, codes, refl}
use Rattle.im_bad_fields.specs.BadFields.{has_bad_management_field}
use Rattle.im_payload.specs.Names.{management}
use Rattle.im_stanza.specs.Names.{stanza_errors_ns}
use Rattle.xml_trees.specs.Attributes.{Attribute, attribute}
use Rattle.xml_trees.specs.Trees.{Elem, Nodes, child, element, no_nodes}

abbrev told : List ℕ → List ℕ → Attribute
told name value = attribute [] name value

abbrev named : List ℕ → List Attribute → Nodes → Elem
named name told inside = element management name told inside

enabled : has_bad_management_field (named (codes "enabled") (told (codes "max") (codes "600") ∷ []) no_nodes) ≡ false
enabled = refl

enabled_without_max : has_bad_management_field (named (codes "enabled") [] no_nodes) ≡ false
enabled_without_max = refl

bad_max : has_bad_management_field (named (codes "enabled") (told (codes "max") (codes "4294967296") ∷ []) no_nodes) ≡ true
bad_max = refl

ack : has_bad_management_field (named (codes "a") (told (codes "h") (codes "1") ∷ []) no_nodes) ≡ false
ack = refl

ack_without_count : has_bad_management_field (named (codes "a") [] no_nodes) ≡ true
ack_without_count = refl

resume : has_bad_management_field (named (codes "resume") (told (codes "h") (codes "1") ∷ told (codes "previd") (codes "x") ∷ []) no_nodes) ≡ false
resume = refl

resume_without_id : has_bad_management_field (named (codes "resume") (told (codes "h") (codes "1") ∷ []) no_nodes) ≡ true
resume_without_id = refl

resumed : has_bad_management_field (named (codes "resumed") (told (codes "h") (codes "1") ∷ told (codes "previd") (codes "x") ∷ []) no_nodes) ≡ false
resumed = refl

resumed_with_bad_count : has_bad_management_field (named (codes "resumed") (told (codes "h") (codes "-1") ∷ told (codes "previd") (codes "x") ∷ []) no_nodes) ≡ true
resumed_with_bad_count = refl

failed : has_bad_management_field (named (codes "failed") [] (child (element stanza_errors_ns (codes "item-not-found") [] no_nodes) no_nodes)) ≡ false
failed = refl

failed_without_condition : has_bad_management_field (named (codes "failed") [] no_nodes) ≡ true
failed_without_condition = refl

-- an element of another namespace has no field that is bad
other_namespace : has_bad_management_field (element (codes "jabber:client") (codes "a") [] no_nodes) ≡ false
other_namespace = refl
