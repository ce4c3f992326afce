-- What a server says of a stream, of stream management and of requests.
use Rattle.std.proofs.Common.{ℕ, ◌+◌, ◌<◌, ◌≤◌, ◌^◌, true, false, List, [], ◌∷◌, Some, None, codes, refl, arith}
use Rattle.std.specs.Fmt.{decimal}
use Rattle.base_lemmas.specs.Hexadecimal.{hex16_of}
use Rattle.im_extensions.specs.Counts.{too_high_elem}
use Rattle.im_extensions.specs.StreamManagement.{ack_elem, enabled_elem, resumed_elem, sm_failed_elem}
use Rattle.im_login.specs.Features.{features_elem, mechanisms_elem}
use Rattle.im_payload.specs.Bare.{bare}
use Rattle.im_payload.specs.Names.{binding, management, sasl}
use Rattle.law_limits.proofs.PutParts.{attributes_joined, bounded_bare, bounded_element, bounded_more, child_bounded, no_attributes, no_nodes_bounded, one_attribute, only_child, other_name, other_space, reads, said_bounded, space, word}
use Rattle.law_limits.specs.Bounded.{BoundedAttributes, ClientReads, IsBounded, IsSpace, IsWord}
use Rattle.im_replies.specs.Streams.{stream_condition_name}
use Rattle.im_replies.specs.declared.conditions.StreamCondition.{StreamCondition}
use Rattle.im_replies.specs.declared.conditions.StreamCondition.TheVariants as stream
use Rattle.law_limits.proofs.Characters.{said_word}
use Rattle.law_limits.proofs.Numerals.{said_decimal, said_hex}
use Rattle.law_limits.specs.Texts.{Said}
use Rattle.im_stanza.specs.Conditions.{IsKnown, condition_name}
use Rattle.im_stanza.specs.Errors.{stream_error_elem}
use Rattle.im_stanza.specs.Names.{client_ns, stanza_errors_ns, stream_errors_ns, streams_ns}
use Rattle.im_stanza.specs.declared.conditions.Condition.{Condition}
use Rattle.im_stanza.specs.declared.conditions.Condition.TheVariants as condition
use Rattle.xml_trees.proofs.TidyLaws.{tidied_IsTree}
use Rattle.xml_trees.specs.Attributes.{Attribute, attribute}
use Rattle.xml_trees.specs.Tidied.{text_node}
use Rattle.xml_trees.specs.Trees.{Elem, IsTree, element, no_nodes, child}
use Rattle.xml_writer.specs.Canon.{default_inside}

-- ---- names of conditions

pub known_word : (c : Condition) → IsKnown c → IsWord (condition_name c)
known_word condition.BadRequest h = word (codes "bad-request") refl
known_word condition.FeatureNotImplemented h = word (codes "feature-not-implemented") refl
known_word condition.ItemNotFound h = word (codes "item-not-found") refl
known_word condition.JidMalformed h = word (codes "jid-malformed") refl
known_word condition.RemoteServerNotFound h = word (codes "remote-server-not-found") refl
known_word condition.ResourceConstraint h = word (codes "resource-constraint") refl
known_word condition.ServiceUnavailable h = word (codes "service-unavailable") refl
known_word condition.UnexpectedRequest h = word (codes "unexpected-request") refl
known_word (condition.Other name) h = absurd h

stream_word : (c : StreamCondition) → IsWord (stream_condition_name c)
stream_word stream.BadFormat = word (codes "bad-format") refl
stream_word stream.Conflict = word (codes "conflict") refl
stream_word stream.HostUnknown = word (codes "host-unknown") refl
stream_word stream.InvalidFrom = word (codes "invalid-from") refl
stream_word stream.InvalidNamespace = word (codes "invalid-namespace") refl
stream_word stream.NotAuthorized = word (codes "not-authorized") refl
stream_word stream.NotWellFormed = word (codes "not-well-formed") refl
stream_word stream.PolicyViolation = word (codes "policy-violation") refl
stream_word stream.ResourceConstraint = word (codes "resource-constraint") refl
stream_word stream.RestrictedXml = word (codes "restricted-xml") refl
stream_word stream.UnsupportedEncoding = word (codes "unsupported-encoding") refl
stream_word stream.UnsupportedStanzaType = word (codes "unsupported-stanza-type") refl
stream_word stream.UnsupportedVersion = word (codes "unsupported-version") refl

-- ---- elements with at most two attributes and nothing inside

pub with_none : (default ns name : List ℕ) (attrs : List Attribute) (many m : ℕ) → IsSpace ns → IsWord name → BoundedAttributes many m attrs → many ≤ 100 → IsBounded default 1 (m + 400) (element ns name attrs no_nodes)
with_none default ns name attrs many m h k l few =
    bounded_more default 1 1 (m + 0 + 400) (m + 400) (element ns name attrs no_nodes) (bounded_element default ns name attrs no_nodes many m 0 0 h k l few (no_nodes_bounded (default_inside default ns))) (omega arith) (omega arith)

pub two_attributes : (m n : ℕ) (a v b w : List ℕ) → IsWord a → Said m v → IsWord b → Said n w → BoundedAttributes 2 (m + 48 + (n + 48)) (attribute [] a v ∷ attribute [] b w ∷ [])
two_attributes m n a v b w h k l o = attributes_joined 1 1 (m + 48) (n + 48) (attribute [] a v ∷ []) (attribute [] b w ∷ []) (one_attribute m a v h k) (one_attribute n b w l o)

-- ---- stream management (XEP-0198)

managed : (name : List ℕ) (attrs : List Attribute) (many m : ℕ) → IsTree (element management name attrs no_nodes) → IsWord name → BoundedAttributes many m attrs → many ≤ 100 → m ≤ 1000000
    → ClientReads (element management name attrs no_nodes)
managed name attrs many m tree k l few short =
    reads (element management name attrs no_nodes) 1 (m + 400) tree (with_none client_ns management name attrs many m (space management refl) k l few) (other_space management name refl) (omega arith) (omega (arith, short))

pub request_read : ClientReads (bare management (codes "r"))
request_read = managed (codes "r") [] 0 0 (tidied_IsTree (bare management (codes "r"))) (word (codes "r") refl) no_attributes (omega arith) (omega arith)

pub ack_read : (h : ℕ) → h < 2 ^ 64 → ClientReads (ack_elem (record { h = h }))
ack_read h small =
    managed (codes "a") (attribute [] (codes "h") (decimal h) ∷ []) 1 168 (tidied_IsTree (ack_elem (record { h = h }))) (word (codes "a") refl) (one_attribute 120 (codes "h") (decimal h) (word (codes "h") refl) (said_decimal h small))
    (omega arith) (omega arith)

pub enabled_read : ClientReads (enabled_elem (record { id = []; resume = false; max = None }))
enabled_read = managed (codes "enabled") [] 0 0 (tidied_IsTree (enabled_elem (record { id = []; resume = false; max = None }))) (word (codes "enabled") refl) no_attributes (omega arith) (omega arith)

pub resumed_read : (n h : ℕ) → h < 2 ^ 64 → ClientReads (resumed_elem (record { previd = hex16_of n; h = h }))
resumed_read n h small =
    managed (codes "resumed") (attribute [] (codes "h") (decimal h) ∷ attribute [] (codes "previd") (hex16_of n) ∷ []) 2 312 (tidied_IsTree (resumed_elem (record { previd = hex16_of n; h = h }))) (word (codes "resumed") refl)
    (two_attributes 120 96 (codes "h") (decimal h) (codes "previd") (hex16_of n) (word (codes "h") refl) (said_decimal h small) (word (codes "previd") refl) (said_hex n)) (omega arith) (omega arith)

-- an element without attributes that holds one
pub bounded_around : (default ns name : List ℕ) (levels m : ℕ) (e : Elem) → IsSpace ns → IsWord name → IsBounded (default_inside default ns) levels m e → IsBounded default (levels + 1) (m + 400) (element ns name [] (child e no_nodes))
bounded_around default ns name levels m e h k inside =
    bounded_more default (levels + 1) (levels + 1) (0 + m + 400) (m + 400) (element ns name [] (child e no_nodes))
    (bounded_element default ns name [] (child e no_nodes) 0 0 levels m h k no_attributes (omega arith) (only_child (default_inside default ns) levels m e inside)) (omega arith) (omega arith)

pub refused_read : (c : Condition) → IsKnown c → ClientReads (sm_failed_elem (record { condition = c }))
refused_read c known =
    let inside = bounded_bare (default_inside client_ns management) stanza_errors_ns (condition_name c) (space stanza_errors_ns refl) (known_word c known) in
    reads (sm_failed_elem (record { condition = c })) 2 800 (tidied_IsTree (sm_failed_elem (record { condition = c })))
    (bounded_around client_ns management (codes "failed") 1 400 (element stanza_errors_ns (condition_name c) [] no_nodes) (space management refl) (word (codes "failed") refl) inside) (other_space management (codes "failed") refl)
    (omega arith) (omega arith)

-- ---- stream errors (RFC 6120, section 4.9)

stream_error_bounded : (c : StreamCondition) → IsBounded client_ns 2 800 (stream_error_elem (stream_condition_name c) None)
stream_error_bounded c =
    bounded_around client_ns streams_ns (codes "error") 1 400 (element stream_errors_ns (stream_condition_name c) [] no_nodes) (space streams_ns refl) (word (codes "error") refl)
    (bounded_bare (default_inside client_ns streams_ns) stream_errors_ns (stream_condition_name c) (space stream_errors_ns refl) (stream_word c))

pub error_read : (c : StreamCondition) → ClientReads (stream_error_elem (stream_condition_name c) None)
error_read c =
    reads (stream_error_elem (stream_condition_name c) None) 2 800 (tidied_IsTree (stream_error_elem (stream_condition_name c) None)) (stream_error_bounded c) (other_name streams_ns (codes "error") refl) (omega arith) (omega arith)

pub too_high_read : (h count : ℕ) → h < 2 ^ 64 → count < 2 ^ 64 → ClientReads (stream_error_elem (codes "undefined-condition") (Some (too_high_elem h count)))
too_high_read h count small few =
    let default = default_inside client_ns streams_ns in
    let counts =
    with_none default management (codes "handled-count-too-high") (attribute [] (codes "h") (decimal h) ∷ attribute [] (codes "send-count") (decimal count) ∷ []) 2 336 (space management refl)
    (word (codes "handled-count-too-high") refl)
    (two_attributes 120 120 (codes "h") (decimal h) (codes "send-count") (decimal count) (word (codes "h") refl) (said_decimal h small) (word (codes "send-count") refl) (said_decimal count few)) (omega arith) in
    let name = bounded_bare default stream_errors_ns (codes "undefined-condition") (space stream_errors_ns refl) (word (codes "undefined-condition") refl) in
    let inside =
    child_bounded default 1 400 736 (element stream_errors_ns (codes "undefined-condition") [] no_nodes) (child (too_high_elem h count) no_nodes) name
    (only_child default 1 736 (too_high_elem h count) counts) in
    reads (stream_error_elem (codes "undefined-condition") (Some (too_high_elem h count))) 2 (0 + (400 + 736) + 400)
    (tidied_IsTree (stream_error_elem (codes "undefined-condition") (Some (too_high_elem h count))))
    (bounded_element client_ns streams_ns (codes "error") [] (child (element stream_errors_ns (codes "undefined-condition") [] no_nodes) (child (too_high_elem h count) no_nodes)) 0 0 1 (400 + 736) (space streams_ns refl)
    (word (codes "error") refl) no_attributes (omega arith) inside)
    (other_name streams_ns (codes "error") refl) (omega arith) (omega arith)

-- ---- features (RFC 6120, section 4.3.2)

pub login_features_read : ClientReads (features_elem (record { scram_sha_256 = true; bind = false; stream_management = false }))
unfolding sasl
login_features_read =
    let default = default_inside client_ns streams_ns in
    let inner = default_inside default sasl in
    let innermost = default_inside inner sasl in
    let called = text_node (codes "SCRAM-SHA-256") in
    let mechanism =
    bounded_element inner sasl (codes "mechanism") [] called 0 0 0 90 (space sasl refl) (word (codes "mechanism") refl) no_attributes (omega arith) (said_bounded innermost (codes "SCRAM-SHA-256") 90 (said_word 90 (codes "SCRAM-SHA-256") refl refl)) in
    let mechanisms = bounded_around default sasl (codes "mechanisms") 1 490 (element sasl (codes "mechanism") [] called) (space sasl refl) (word (codes "mechanisms") refl) mechanism in
    reads (features_elem (record { scram_sha_256 = true; bind = false; stream_management = false })) 3 1290 (tidied_IsTree (features_elem (record { scram_sha_256 = true; bind = false; stream_management = false })))
    (bounded_around client_ns streams_ns (codes "features") 2 890 mechanisms_elem (space streams_ns refl) (word (codes "features") refl) mechanisms) (other_name streams_ns (codes "features") refl) (omega arith) (omega arith)

pub session_features_read : ClientReads (features_elem (record { scram_sha_256 = false; bind = true; stream_management = true }))
session_features_read =
    let default = default_inside client_ns streams_ns in
    let bind = bounded_bare default binding (codes "bind") (space binding refl) (word (codes "bind") refl) in
    let sm = only_child default 1 400 (bare management (codes "sm")) (bounded_bare default management (codes "sm") (space management refl) (word (codes "sm") refl)) in
    let kids = child (bare binding (codes "bind")) (child (bare management (codes "sm")) no_nodes) in
    reads (features_elem (record { scram_sha_256 = false; bind = true; stream_management = true })) 2 1200 (tidied_IsTree (features_elem (record { scram_sha_256 = false; bind = true; stream_management = true })))
    (bounded_element client_ns streams_ns (codes "features") [] kids 0 0 1 800 (space streams_ns refl) (word (codes "features") refl) no_attributes (omega arith) (child_bounded default 1 400 400 (bare binding (codes "bind")) (child (bare management (codes "sm")) no_nodes) bind sm))
    (other_name streams_ns (codes "features") refl) (omega arith) (omega arith)
