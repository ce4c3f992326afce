-- How a server begins and ends its stream (RFC 6120, sections 4.3 to 4.9).
use Rattle.std.specs.Prelude.{ℕ, true, false, List, [], ◌∷◌, ◌++◌, Some, None, codes, drop}
use Rattle.base_lemmas.specs.Hexadecimal.{hex_digits, hex16_of}
use Rattle.im_extensions.specs.Counts.{too_high_elem}
use Rattle.im_login.specs.Features.{features_elem}
use Rattle.xml_names.specs.declared.headers.Header.{Header}
use Rattle.xml_writer.specs.Items.{Closing, ItemOut, Opening, Whole, written_item}
use Rattle.im_replies.specs.declared.conditions.StreamCondition.{StreamCondition}
use Rattle.im_replies.specs.declared.conditions.StreamCondition.TheVariants as stream
use Rattle.im_stanza.specs.Errors.{stream_error_elem}
use Rattle.im_stanza.specs.Names.{client_ns, streams_ns}

-- each byte in two hexadecimal digits
abbrev pub hex_of : List ℕ → List ℕ
hex_of [] = []
hex_of (b ∷ bs) = hex_digits 2 b ++ hex_of bs

-- the id of a stream (section 4.7.3), by which nobody can guess another's: what was drawn for the connection behind its
-- first 18 bytes, in hexadecimal, and the connection's number, which no other has
abbrev pub stream_id : ℕ → List ℕ → List ℕ
stream_id connection entropy = hex_of (drop 18 entropy) ++ hex16_of connection

-- ---- the header and the footer (sections 4.4 and 4.7)

abbrev pub server_header : List ℕ → List ℕ → Header
server_header domain id = record {
  ns = streams_ns;
  name = codes "stream";
  content = client_ns;
  to = None;
  from = Some domain;
  id = Some id;
  version = Some (codes "1.0");
  lang = Some (codes "en");
}

abbrev pub header_item : List ℕ → ℕ → List ℕ → ItemOut
header_item domain connection entropy = Opening (server_header domain (stream_id connection entropy))

abbrev pub header_text : List ℕ → ℕ → List ℕ → List ℕ
header_text domain connection entropy = written_item (header_item domain connection entropy)

abbrev pub footer_text : List ℕ
footer_text = written_item Closing

-- ---- features (section 4.3.2): the mechanism before a login, and behind it binding and stream management

abbrev pub login_features_item : ItemOut
login_features_item = Whole (features_elem (record { scram_sha_256 = true; bind = false; stream_management = false }))

abbrev pub login_features_text : List ℕ
login_features_text = written_item login_features_item

abbrev pub session_features_item : ItemOut
session_features_item = Whole (features_elem (record { scram_sha_256 = false; bind = true; stream_management = true }))

abbrev pub session_features_text : List ℕ
session_features_text = written_item session_features_item

-- ---- stream errors (section 4.9)

-- the name of the condition's element (section 4.9.3)
abbrev pub stream_condition_name : StreamCondition → List ℕ
stream_condition_name stream.BadFormat = codes "bad-format"
stream_condition_name stream.Conflict = codes "conflict"
stream_condition_name stream.HostUnknown = codes "host-unknown"
stream_condition_name stream.InvalidFrom = codes "invalid-from"
stream_condition_name stream.InvalidNamespace = codes "invalid-namespace"
stream_condition_name stream.NotAuthorized = codes "not-authorized"
stream_condition_name stream.NotWellFormed = codes "not-well-formed"
stream_condition_name stream.PolicyViolation = codes "policy-violation"
stream_condition_name stream.ResourceConstraint = codes "resource-constraint"
stream_condition_name stream.RestrictedXml = codes "restricted-xml"
stream_condition_name stream.UnsupportedEncoding = codes "unsupported-encoding"
stream_condition_name stream.UnsupportedStanzaType = codes "unsupported-stanza-type"
stream_condition_name stream.UnsupportedVersion = codes "unsupported-version"

abbrev pub error_item : StreamCondition → ItemOut
error_item condition = Whole (stream_error_elem (stream_condition_name condition) None)

abbrev pub error_text : StreamCondition → List ℕ
error_text condition = written_item (error_item condition)

-- more stanzas are counted as handled than were sent (XEP-0198, section 4)
abbrev pub too_high_item : ℕ → ℕ → ItemOut
too_high_item h send_count = Whole (stream_error_elem (codes "undefined-condition") (Some (too_high_elem h send_count)))

abbrev pub too_high_text : ℕ → ℕ → List ℕ
too_high_text h send_count = written_item (too_high_item h send_count)
