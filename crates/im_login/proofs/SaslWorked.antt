-- The definitions, evaluated at the elements of RFC 6120, sections 6.4 and 9.1.
use Rattle.std.proofs.Common.{◌≡◌, ℕ, false, List, [], ◌∷◌, codes, Some, None, refl, inr}
use Rattle.base64.proofs.OnLiterals.{base64_on_literals}
use Rattle.im_login.specs.Payloads.{IsPayload, base64_of}
use Rattle.im_login.specs.Sasl.{auth_of, carrier, failure_of, is_sasl, mechanism_of}
use Rattle.im_payload.specs.Names.{sasl}
use Rattle.xml_trees.specs.Attributes.{attribute}
use Rattle.xml_trees.specs.Trees.{Elem, element, Nodes, no_nodes, child, text, nodes_of}
use Rattle.im_stanza.specs.Conditions.{condition_in}

abbrev named : List ℕ → Nodes → Elem
named name inside = element sasl name [] inside

-- <auth mechanism='PLAIN'>AGp1bGlldAByMG0zMG15cjBtMzA=</auth>
plain : auth_of (codes "PLAIN") (0 ∷ 106 ∷ 117 ∷ 108 ∷ 105 ∷ 101 ∷ 116 ∷ 0 ∷ 114 ∷ 48 ∷ 109 ∷ 51 ∷ 48 ∷ 109 ∷ 121 ∷ 114 ∷ 48 ∷ 109 ∷ 51 ∷ 48 ∷ [])
    ≡ element sasl (codes "auth") (attribute [] (codes "mechanism") (codes "PLAIN") ∷ []) (text (codes "AGp1bGlldAByMG0zMG15cjBtMzA=") no_nodes)
unfolding base64_of base64_on_literals
plain = refl

-- <success/>
no_payload : carrier (codes "success") [] ≡ named (codes "success") no_nodes
unfolding base64_of base64_on_literals
no_payload = refl

alone : IsPayload (codes "=") []
alone = inr (refl, refl)

-- the mechanism is an attribute of no namespace
other_mechanism : mechanism_of (element sasl (codes "auth") (attribute sasl (codes "mechanism") (codes "PLAIN") ∷ []) no_nodes) ≡ None
unfolding sasl
other_mechanism = refl

other_namespace : is_sasl (codes "auth") (element (codes "jabber:client") (codes "auth") [] no_nodes) ≡ false
unfolding sasl
other_namespace = refl

-- <failure><other xmlns='jabber:client'/><text/>.<not-authorized/><aborted/></failure>
first_condition : condition_in sasl (child (element (codes "jabber:client") (codes "other") [] no_nodes) (child (named (codes "text") no_nodes) (text (codes ".") (child (named (codes "not-authorized") no_nodes) (child (named (codes "aborted") no_nodes) no_nodes)))))
    ≡ Some (codes "not-authorized")
unfolding sasl
first_condition = refl

only_text : condition_in sasl (child (named (codes "text") no_nodes) no_nodes) ≡ None
unfolding sasl
only_text = refl

written_failure : condition_in sasl (nodes_of (failure_of (codes "not-authorized"))) ≡ Some (codes "not-authorized")
unfolding sasl
written_failure = refl
