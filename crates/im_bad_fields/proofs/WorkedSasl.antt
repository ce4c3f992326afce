-- The definition, evaluated at SASL's elements (RFC 6120, section 6.4): right ones and wrong ones of each kind.
use Rattle.std.proofs.Common.{◌≡◌, ℕ, true, false, List, [], ◌∷◌, codes, refl}
use Rattle.base64.proofs.OnLiterals.{base64_on_literals}
use Rattle.im_bad_fields.specs.BadFields.{has_bad_field, has_bad_sasl_field}
use Rattle.im_payload.specs.Names.{management, sasl}
use Rattle.im_login.specs.Readings.{payload_read}
use Rattle.xml_trees.specs.Attributes.{attribute}
use Rattle.xml_trees.specs.Trees.{Elem, Nodes, child, element, no_nodes, text}

abbrev named : List ℕ → Nodes → Elem
named name inside = element sasl name [] inside

abbrev auth : List ℕ → Elem
auth payload = element sasl (codes "auth") (attribute [] (codes "mechanism") (codes "PLAIN") ∷ []) (text payload no_nodes)

right_auth : has_bad_sasl_field (auth (codes "AGp1bGlldAByMG0zMG15cjBtMzA=")) ≡ false
unfolding payload_read sasl base64_on_literals
right_auth = refl

-- a lone `=` stands for no bytes
lone_equals : has_bad_sasl_field (auth (codes "=")) ≡ false
unfolding payload_read sasl base64_on_literals
lone_equals = refl

auth_without_text : has_bad_sasl_field (element sasl (codes "auth") (attribute [] (codes "mechanism") (codes "PLAIN") ∷ []) no_nodes) ≡ false
unfolding payload_read sasl base64_on_literals
auth_without_text = refl

auth_without_mechanism : has_bad_sasl_field (named (codes "auth") (text (codes "AA==") no_nodes)) ≡ true
unfolding payload_read sasl base64_on_literals
auth_without_mechanism = refl

two_equals : has_bad_sasl_field (auth (codes "==")) ≡ true
unfolding payload_read sasl base64_on_literals
two_equals = refl

no_padding : has_bad_sasl_field (auth (codes "AGp1bGlldAByMG0zMG15cjBtMzA")) ≡ true
unfolding payload_read sasl base64_on_literals
no_padding = refl

bits_left : has_bad_sasl_field (named (codes "challenge") (text (codes "AB==") no_nodes)) ≡ true
unfolding payload_read sasl base64_on_literals
bits_left = refl

-- the text lies in two pieces, with an element between
in_pieces : has_bad_sasl_field (named (codes "challenge") (text (codes "A") (child (named (codes "other") (text (codes "!") no_nodes)) (text (codes "A==") no_nodes)))) ≡ false
unfolding payload_read sasl base64_on_literals
in_pieces = refl

equals_in_pieces : has_bad_sasl_field (named (codes "response") (text (codes "=") (text (codes "=") no_nodes))) ≡ true
unfolding payload_read sasl base64_on_literals
equals_in_pieces = refl

response : has_bad_sasl_field (named (codes "response") (text (codes "=") no_nodes)) ≡ false
unfolding payload_read sasl base64_on_literals
response = refl

success : has_bad_sasl_field (named (codes "success") no_nodes) ≡ false
unfolding payload_read sasl base64_on_literals
success = refl

bad_success : has_bad_sasl_field (named (codes "success") (text (codes "AA= =") no_nodes)) ≡ true
unfolding payload_read sasl base64_on_literals
bad_success = refl

failure : has_bad_sasl_field (named (codes "failure") (child (named (codes "not-authorized") no_nodes) no_nodes)) ≡ false
unfolding payload_read sasl base64_on_literals
failure = refl

failure_without_condition : has_bad_sasl_field (named (codes "failure") no_nodes) ≡ true
unfolding payload_read sasl base64_on_literals
failure_without_condition = refl

-- an element of another namespace has no field that is bad
other_namespace : has_bad_field (element (codes "jabber:client") (codes "auth") [] no_nodes) ≡ false
unfolding payload_read sasl base64_on_literals
other_namespace = refl

-- one kind or the other
bad_count : has_bad_field (element management (codes "a") [] no_nodes) ≡ true
bad_count = refl

bad_auth : has_bad_field (named (codes "auth") no_nodes) ≡ true
unfolding payload_read sasl base64_on_literals
bad_auth = refl
