-- The namespaces of stanzas, streams and their errors (RFC 6120 sections 4.8, 4.9.2 and 8.3.2), and that of `xml:lang`
-- (Namespaces in XML 1.0, section 3).
use Rattle.std.specs.Prelude.{ℕ, List, codes}

abbrev pub client_ns : List ℕ
client_ns = codes "jabber:client"

abbrev pub xml_ns : List ℕ
xml_ns = codes "http://www.w3.org/XML/1998/namespace"

abbrev pub streams_ns : List ℕ
streams_ns = codes "http://etherx.jabber.org/streams"

abbrev pub stanza_errors_ns : List ℕ
stanza_errors_ns = codes "urn:ietf:params:xml:ns:xmpp-stanzas"

abbrev pub stream_errors_ns : List ℕ
stream_errors_ns = codes "urn:ietf:params:xml:ns:xmpp-streams"
