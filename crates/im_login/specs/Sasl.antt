-- The elements of SASL (RFC 6120, section 6).
use Rattle.std.specs.Prelude.{◌≡◌, ℕ, Bool, true, List, [], ◌∷◌, Option, Some, None, IsSome, Result, Ok, Err, codes, if◌then◌else◌}
use Rattle.im_login.specs.Payloads.{HasNoPayload, IsPayload, base64_of}
use Rattle.im_payload.specs.Names.{sasl}
use Rattle.im_payload.specs.declared.fault.ExtFault.{ExtFault}
use Rattle.im_payload.specs.declared.fault.ExtFault.TheVariants.{NotThis}
use Rattle.im_payload.specs.declared.fault.Field.{Field}
use Rattle.im_payload.specs.declared.fault.Field.TheVariants.{Mechanism, Payload, Condition}
use Rattle.im_login.specs.declared.sasl.Abort.{Abort}
use Rattle.xml_trees.specs.Attributes.{attribute}
use Rattle.xml_trees.specs.Readers.{attr_of, is_named, text_of}
use Rattle.xml_trees.specs.Tidied.{text_node}
use Rattle.xml_trees.specs.Trees.{Elem, element, no_nodes, child, nodes_of}
use Rattle.im_stanza.specs.Conditions.{condition_in}

-- the element of this name in that namespace
abbrev pub is_sasl : List ℕ → Elem → Bool
is_sasl name e = is_named sasl name e

-- `challenge`, `response` and `success` (sections 6.4.3, 6.4.4 and 6.4.6): the text directly in the element of this name
-- stands for the bytes
pub record IsCarrier (name : List ℕ) (e : Elem) (payload : List ℕ) : Type 0 where
  pub named : is_sasl name e ≡ true
  pub spelled : IsPayload (text_of (nodes_of e)) payload

abbrev pub CarrierLacks : Elem → Field → Type 0
CarrierLacks e field = HasNoPayload (text_of (nodes_of e)) field

-- the attribute that names the mechanism
abbrev pub mechanism_of : Elem → Option (List ℕ)
mechanism_of e = attr_of [] (codes "mechanism") e

-- that of an `auth`, whatever its payload is
abbrev pub auth_mechanism : Elem → Option (List ℕ)
auth_mechanism e = if is_sasl (codes "auth") e then mechanism_of e else None

-- `auth` (section 6.4.2)
pub record IsAuth (e : Elem) (mechanism payload : List ℕ) : Type 0 where
  pub named : is_sasl (codes "auth") e ≡ true
  pub chosen : mechanism_of e ≡ Some mechanism
  pub spelled : IsPayload (text_of (nodes_of e)) payload

-- the mechanism is judged first
abbrev pub AuthLacks : Elem → Field → Type 0
AuthLacks e Mechanism = mechanism_of e ≡ None
AuthLacks e Payload = IsSome (mechanism_of e) × CarrierLacks e Payload
AuthLacks e _ = ⊥

-- `failure` (section 6.4.5)
pub record IsFailure (e : Elem) (condition : List ℕ) : Type 0 where
  pub named : is_sasl (codes "failure") e ≡ true
  pub first : condition_in sasl (nodes_of e) ≡ Some condition

abbrev pub FailureLacks : Elem → Field → Type 0
FailureLacks e Condition = condition_in sasl (nodes_of e) ≡ None
FailureLacks e _ = ⊥

-- What is written. An empty payload is written as no text.
abbrev pub carrier : List ℕ → List ℕ → Elem
carrier name payload = element sasl name [] (text_node (base64_of payload))

abbrev pub auth_of : List ℕ → List ℕ → Elem
auth_of mechanism payload = element sasl (codes "auth") (attribute [] (codes "mechanism") mechanism ∷ []) (text_node (base64_of payload))

abbrev pub failure_of : List ℕ → Elem
failure_of condition = element sasl (codes "failure") [] (child (element sasl condition [] no_nodes) no_nodes)

abbrev pub abort_of : Elem
abort_of = element sasl (codes "abort") [] no_nodes

-- what is read of an `abort`, which is its name
abbrev pub abort_read : Elem → Result Abort ExtFault
abort_read e = if is_sasl (codes "abort") e then Ok (record {}) else Err NotThis
