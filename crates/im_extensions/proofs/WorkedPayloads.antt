-- The definitions of payloads, evaluated at the examples of XEP-0198, XEP-0359 and RFC 6120, section 7.
use Rattle.std.proofs.Common.{◌≡◌, ℕ, ◌^◌, true, false, List, [], ◌∷◌, codes, Some, None, refl}
use Rattle.std.specs.Fmt.{decimal}
use Rattle.im_extensions.specs.Bind.{bind_request_elem}
use Rattle.im_extensions.specs.Ids.{stanza_id_elem}
use Rattle.im_payload.specs.Names.{binding, management}
use Rattle.im_extensions.specs.Requests.{is_switch}
use Rattle.im_payload.specs.Shapes.{child_text, child_text_or_empty, flag, number_below, optional_number, required_number}
use Rattle.im_stanza.specs.Stanzas.{attr_named}
use Rattle.im_extensions.specs.StreamManagement.{count_of, enable_elem, enabled_elem, failed_condition, is_management}
use Rattle.xml_trees.specs.Attributes.{attribute}
use Rattle.xml_trees.specs.Trees.{element, Nodes, no_nodes, child, text}
use Rattle.im_stanza.specs.Names.{stanza_errors_ns}

-- booleans
yes_true : flag (Some (codes "true")) ≡ true
yes_true = refl

yes_one : flag (Some (codes "1")) ≡ true
yes_one = refl

not_capital : flag (Some (codes "True")) ≡ false
not_capital = refl

not_there : flag None ≡ false
not_there = refl

-- numbers
leading_zeros : number_below (2 ^ 32) (codes "005") ≡ Some 5
leading_zeros = refl

most : number_below (2 ^ 32) (codes "4294967295") ≡ Some 4294967295
most = refl

past_most : number_below (2 ^ 32) (codes "4294967296") ≡ None
past_most = refl

below_2_64 : number_below (2 ^ 64) (codes "4294967296") ≡ Some 4294967296
below_2_64 = refl

signed : number_below (2 ^ 32) (codes "+5") ≡ None
signed = refl

empty : optional_number (2 ^ 32) (Some []) ≡ None
empty = refl

absent : optional_number (2 ^ 32) None ≡ Some None
absent = refl

required : required_number (2 ^ 32) None ≡ None
required = refl

-- <enable xmlns='urn:xmpp:sm:3' resume='true'/>
wants_to_resume : enable_elem (record { resume = true }) ≡ element (codes "urn:xmpp:sm:3") (codes "enable") (attribute [] (codes "resume") (codes "true") ∷ []) no_nodes
wants_to_resume = refl

-- <enabled xmlns='urn:xmpp:sm:3' id='some-long-sm-id' max='300' resume='true'/>
can_resume : enabled_elem (record { id = codes "some-long-sm-id"; resume = true; max = Some 300 })
    ≡ element management (codes "enabled") (attribute [] (codes "id") (codes "some-long-sm-id") ∷ attribute [] (codes "max") (decimal 300) ∷ attribute [] (codes "resume") (codes "true") ∷ []) no_nodes
can_resume = refl

-- <a xmlns='urn:xmpp:sm:3' h='1'/>
one_handled : count_of (element management (codes "a") (attribute [] (codes "h") (codes "1") ∷ []) no_nodes) ≡ Some 1
one_handled = refl

other_version : is_management (codes "a") (element (codes "urn:xmpp:sm:2") (codes "a") [] no_nodes) ≡ false
other_version = refl

-- <failed xmlns='urn:xmpp:sm:3'><text xmlns='urn:ietf:params:xml:ns:xmpp-stanzas'/><item-not-found xmlns='urn:ietf:params:xml:ns:xmpp-stanzas'/></failed>
not_found : failed_condition (element management (codes "failed") [] (child (element stanza_errors_ns (codes "text") [] no_nodes) (child (element stanza_errors_ns (codes "item-not-found") [] no_nodes) no_nodes)))
    ≡ Some (codes "item-not-found")
not_found = refl

-- <bind xmlns='urn:ietf:params:xml:ns:xmpp-bind'><resource>a</resource><resource>b</resource></bind>
abbrev named : List ℕ → Nodes → Nodes
named t rest = child (element binding (codes "resource") [] (text t no_nodes)) rest

first_counts : child_text binding (codes "resource") (element binding (codes "bind") [] (named (codes "a") (named (codes "b") no_nodes))) ≡ Some (codes "a")
first_counts = refl

no_wish : bind_request_elem (record { resource = [] }) ≡ element binding (codes "bind") [] no_nodes
no_wish = refl

no_child : child_text_or_empty binding (codes "resource") (element binding (codes "bind") [] no_nodes) ≡ []
no_child = refl

-- <stanza-id xmlns='urn:xmpp:sid:0' by='room@muc.example.org' id='5f3dbc5e'/>
given_by : attr_named (codes "by") (stanza_id_elem (record { id = codes "5f3dbc5e"; by = codes "room@muc.example.org" })) ≡ Some (codes "room@muc.example.org")
given_by = refl

-- <disable xmlns='urn:xmpp:carbons:2'/>
switched_off : is_switch (element (codes "urn:xmpp:carbons:2") (codes "disable") [] no_nodes) ≡ true
switched_off = refl

other_element : is_switch (element (codes "urn:xmpp:carbons:2") (codes "private") [] no_nodes) ≡ false
other_element = refl
