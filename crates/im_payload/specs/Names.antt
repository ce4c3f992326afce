-- The namespaces of the payloads, each with the standard that names it.
use Rattle.std.specs.Prelude.{ℕ, List, codes}

-- stream management (XEP-0198)
abbrev pub management : List ℕ
management = codes "urn:xmpp:sm:3"

-- resource binding (RFC 6120, section 7)
abbrev pub binding : List ℕ
binding = codes "urn:ietf:params:xml:ns:xmpp-bind"

-- unique and stable stanza ids (XEP-0359)
abbrev pub stanza_ids : List ℕ
stanza_ids = codes "urn:xmpp:sid:0"

-- message carbons (XEP-0280)
abbrev pub carbons : List ℕ
carbons = codes "urn:xmpp:carbons:2"

-- ping (XEP-0199)
abbrev pub pings : List ℕ
pings = codes "urn:xmpp:ping"

-- service discovery (XEP-0030)
abbrev pub disco_info : List ℕ
disco_info = codes "http://jabber.org/protocol/disco#info"

abbrev pub disco_items : List ℕ
disco_items = codes "http://jabber.org/protocol/disco#items"

-- the roster (RFC 6121, section 2)
abbrev pub roster : List ℕ
roster = codes "jabber:iq:roster"

-- sessions (RFC 3921, section 3)
abbrev pub sessions : List ℕ
sessions = codes "urn:ietf:params:xml:ns:xmpp-session"

-- message archives (XEP-0313)
abbrev pub archive : List ℕ
archive = codes "urn:xmpp:mam:2"

-- result sets (XEP-0059)
abbrev pub result_sets : List ℕ
result_sets = codes "http://jabber.org/protocol/rsm"

-- data forms (XEP-0004)
abbrev pub data_forms : List ℕ
data_forms = codes "jabber:x:data"

-- forwarded stanzas (XEP-0297)
abbrev pub forwarding : List ℕ
forwarding = codes "urn:xmpp:forward:0"

-- delays (XEP-0203)
abbrev pub delays : List ℕ
delays = codes "urn:xmpp:delay"

-- the elements of SASL (RFC 6120, section 6)
unfoldable pub sasl : List ℕ
sasl = codes "urn:ietf:params:xml:ns:xmpp-sasl"
