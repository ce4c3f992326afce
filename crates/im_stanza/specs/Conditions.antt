-- The conditions of errors (RFC 6120 sections 4.9.2, 4.9.3, 8.3.2 and 8.3.3).
use Rattle.std.specs.Prelude.{◌≡◌, ℕ, Bool, not, ◌&&◌, List, Option, find, codes, if◌then◌else◌}
use Rattle.std.specs.Option.{option_map}
use Rattle.std.specs.Str.{bytes_eq}
use Rattle.xml_trees.specs.Readers.{elements_of}
use Rattle.xml_trees.specs.Trees.{Elem, Nodes, namespace_of, name_of}
use Rattle.im_stanza.specs.declared.conditions.Condition.{Condition}
use Rattle.im_stanza.specs.declared.conditions.Condition.TheVariants.{BadRequest, FeatureNotImplemented, ItemNotFound, JidMalformed, RemoteServerNotFound, ResourceConstraint, ServiceUnavailable, UnexpectedRequest, Other}

-- the name of a condition's element (RFC 6120 section 8.3.3)
abbrev pub condition_name : Condition → List ℕ
condition_name BadRequest = codes "bad-request"
condition_name FeatureNotImplemented = codes "feature-not-implemented"
condition_name ItemNotFound = codes "item-not-found"
condition_name JidMalformed = codes "jid-malformed"
condition_name RemoteServerNotFound = codes "remote-server-not-found"
condition_name ResourceConstraint = codes "resource-constraint"
condition_name ServiceUnavailable = codes "service-unavailable"
condition_name UnexpectedRequest = codes "unexpected-request"
condition_name (Other name) = name

-- a condition with a variant of its own
abbrev pub IsKnown : Condition → Type 0
IsKnown (Other name) = ⊥
IsKnown _ = Unit {0}

-- A condition that has a variant of its own is given as that variant, and not as `Other`.
abbrev pub IsPlain : Condition → Type 0
IsPlain c = (known : Condition) → IsKnown known → condition_name known ≡ condition_name c → c ≡ known

-- the condition with this name
abbrev pub condition_named : List ℕ → Condition
condition_named name =
    if bytes_eq name (codes "bad-request") then BadRequest
    else (if bytes_eq name (codes "feature-not-implemented") then FeatureNotImplemented
    else (if bytes_eq name (codes "item-not-found") then ItemNotFound
    else (if bytes_eq name (codes "jid-malformed") then JidMalformed
    else (if bytes_eq name (codes "remote-server-not-found") then RemoteServerNotFound
    else (if bytes_eq name (codes "resource-constraint") then ResourceConstraint
    else (if bytes_eq name (codes "service-unavailable") then ServiceUnavailable
    else (if bytes_eq name (codes "unexpected-request") then UnexpectedRequest
    else Other name)))))))

-- An element of the namespace of an error's conditions names the condition, unless it is the text that describes the
-- error.
abbrev pub is_condition : List ℕ → Elem → Bool
is_condition ns e = bytes_eq (namespace_of e) ns && not (bytes_eq (name_of e) (codes "text"))

-- the name of the first such element
abbrev pub condition_in : List ℕ → Nodes → Option (List ℕ)
condition_in ns nodes = option_map name_of (find (is_condition ns) (elements_of nodes))
