-- The bodies of a message (RFC 6121, section 5.2.3).
use Rattle.std.specs.Prelude.{Bool, List, [], codes, filter, map, unwrap_or}
use Rattle.mam_archive.specs.declared.entry.Body.{Body}
use Rattle.im_stanza.specs.Names.{client_ns, xml_ns}
use Rattle.xml_trees.specs.Readers.{attr_of, elements_of, is_named, text_of}
use Rattle.xml_trees.specs.Trees.{Elem, Nodes, nodes_of}

abbrev pub is_body : Elem → Bool
is_body e = is_named client_ns (codes "body") e

-- its own language, empty where it has none, and the text directly in it
abbrev pub body_of : Elem → Body
body_of e = record { lang = unwrap_or (attr_of xml_ns (codes "lang") e) []; text = text_of (nodes_of e) }

abbrev pub bodies_of : Nodes → List Body
bodies_of payload = map body_of (filter is_body (elements_of payload))
