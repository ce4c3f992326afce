-- The features of a stream (RFC 6120, section 4.3.2), of those that both ends know.
use Rattle.std.specs.Prelude.{Bool, true, false, ◌&&◌, [], Option, Some, None, is_some, Result, Ok, codes}
use Rattle.std.specs.List.{list_any}
use Rattle.std.specs.Str.{bytes_eq}
use Rattle.im_login.specs.declared.features.Features.{Features}
use Rattle.im_payload.specs.Bare.{bare}
use Rattle.im_payload.specs.Names.{binding, management, sasl}
use Rattle.im_payload.specs.Readings.{where_this}
use Rattle.im_payload.specs.declared.fault.ExtFault.{ExtFault}
use Rattle.im_stanza.specs.Names.{streams_ns}
use Rattle.xml_trees.specs.Readers.{child_of, elements_of, is_named, text_of}
use Rattle.xml_trees.specs.Trees.{Elem, element, Nodes, no_nodes, child, text, joined, nodes_of}

abbrev pub is_features : Elem → Bool
is_features e = is_named streams_ns (codes "features") e

-- the mechanism SCRAM-SHA-256 (RFC 7677, section 4), which is the text directly in the element
abbrev pub is_scram : Elem → Bool
is_scram e = is_named sasl (codes "mechanism") e && bytes_eq (text_of (nodes_of e)) (codes "SCRAM-SHA-256")

-- it is among the mechanisms (RFC 6120, section 6.4.1), which may be absent
abbrev pub offers_scram : Option Elem → Bool
offers_scram None = false
offers_scram (Some mechanisms) = list_any is_scram (elements_of (nodes_of mechanisms))

-- what is read of features; what else they offer is left out
abbrev pub offered_by : Elem → Features
offered_by e = record {
  scram_sha_256 = offers_scram (child_of sasl (codes "mechanisms") e);
  bind = is_some (child_of binding (codes "bind") e);
  stream_management = is_some (child_of management (codes "sm") e);
}

abbrev pub features_read : Elem → Result Features ExtFault
features_read e = where_this (is_features e) (Ok (offered_by e))

-- ---- what is written

abbrev pub mechanisms_elem : Elem
mechanisms_elem = element sasl (codes "mechanisms") [] (child (element sasl (codes "mechanism") [] (text (codes "SCRAM-SHA-256") no_nodes)) no_nodes)

-- a child that is there or not
abbrev pub child_where : Bool → Elem → Nodes
child_where true e = child e no_nodes
child_where false e = no_nodes

abbrev pub features_elem : Features → Elem
features_elem f =
    element streams_ns (codes "features") []
    (joined (joined (child_where f.scram_sha_256 mechanisms_elem) (child_where f.bind (bare binding (codes "bind")))) (child_where f.stream_management (bare management (codes "sm"))))
