-- Elements and headers within bounds fit a server's framer.
use Rattle.std.proofs.Common.{ℕ, ◌<◌, ◌^◌, ◌≤◌, Bool, List, Option, None, IfSome, codes, length, refl, arith}
use Rattle.base64.specs.GeneralPurpose.{IsBytes}
use Rattle.cl_login.specs.LoginRows.{client_header}
use Rattle.xml_framer.specs.Limits.{server_limits}
use Rattle.law_xml.specs.Spells.{IsHeaderName}
use Rattle.sm_outbox.specs.Submissions.{origin_of}
use Rattle.im_payload.specs.Names.{management, sasl}
use Rattle.im_replies.specs.Management.{ack_item, request_item}
use Rattle.im_replies.specs.Requests.{iq_error_item, result_item}
use Rattle.im_replies.specs.Streams.{too_high_item}
use Rattle.im_requests.specs.Messages.{page_item, queryid_text, submission_item}
use Rattle.im_requests.specs.Sessions.{available_item, bind_item, carbons_item, enable_item, resume_item}
use Rattle.law_limits.specs.Bounds.{IsTextWithin, most_address, most_id, most_part, most_text}
use Rattle.law_limits.proofs.Headers.{header_fits, header_plain}
use Rattle.law_limits.proofs.Ids.{origin_within, queryid_within}
use Rattle.law_limits.proofs.Management.{ack_small, enable_small, request_small, resume_small, too_high_small}
use Rattle.law_limits.proofs.Pages.{page_small}
use Rattle.law_limits.proofs.RequestParts.{IsSmall, differ}
use Rattle.law_limits.proofs.RequestReplies.{refusal_small, result_small}
use Rattle.law_limits.proofs.Sasl.{auth_small, response_small}
use Rattle.law_limits.proofs.Sessions.{available_small, bind_small, carbons_small}
use Rattle.law_limits.proofs.Submissions.{submission_small}
use Rattle.im_login.specs.Sasl.{auth_of, carrier}
use Rattle.im_stanza.specs.Names.{client_ns, streams_ns}
use Rattle.im_stanza.specs.declared.conditions.Condition.TheVariants.{ServiceUnavailable}
use Rattle.im_stanza.specs.declared.errors.ErrorKind.TheVariants.{Cancel}
use Rattle.xml_trees.specs.Trees.{Elem, name_of, namespace_of, no_nodes}
use Rattle.xml_writer.specs.Canon.{client_namespace}
use Rattle.xml_writer.specs.Items.{Opening, Whole}
use Rattle.law_xml.specs.Puts.{OutFits}

fits : (e : Elem) → ¬ (IsHeaderName (namespace_of e) (name_of e)) → IsSmall e 65536 32 → OutFits server_limits (Whole e)
fits e other h = (h.tree, record { inside = h.plain; no_header = other }, record { short = h.short client_namespace; shallow = h.shallow; tags = h.tags client_namespace })

-- ---- no tag of these is a header's

other_client : (name : List ℕ) → ¬ (IsHeaderName client_ns name)
other_client name n = differ client_ns streams_ns refl n.0

other_management : (name : List ℕ) → ¬ (IsHeaderName management name)
other_management name n = differ management streams_ns refl n.0

other_sasl : (name : List ℕ) → ¬ (IsHeaderName sasl name)
unfolding sasl
other_sasl name n = differ sasl streams_ns refl n.0

-- ---- what a client says

pub header : (domain : List ℕ) → IsTextWithin most_part domain → OutFits server_limits (Opening (client_header domain))
header domain h = (header_plain domain h, header_fits domain h, omega arith)

pub auth : (message : List ℕ) → IsBytes message → length message ≤ most_text → OutFits server_limits (Whole (auth_of (codes "SCRAM-SHA-256") message))
auth message bytes short = fits _ (other_sasl (codes "auth")) (auth_small message bytes short)

pub response : (message : List ℕ) → IsBytes message → length message ≤ most_text → OutFits server_limits (Whole (carrier (codes "response") message))
response message bytes short = fits _ (other_sasl (codes "response")) (response_small message bytes short)

pub bind : (resource : List ℕ) → IsTextWithin most_part resource → OutFits server_limits (bind_item resource)
bind resource h = fits _ (other_client (codes "iq")) (bind_small resource h)

pub enable : OutFits server_limits enable_item
enable = fits _ (other_management (codes "enable")) enable_small

pub resume : (previd : List ℕ) (h : ℕ) → IsTextWithin most_id previd → h < 2 ^ 32 → OutFits server_limits (resume_item previd h)
resume previd h short low = fits _ (other_management (codes "resume")) (resume_small previd h short low)

pub carbons : OutFits server_limits carbons_item
carbons = fits _ (other_client (codes "iq")) carbons_small

pub available : OutFits server_limits available_item
available = fits _ (other_client (codes "presence")) available_small

pub submission : (resource to text : List ℕ) (epoch n : ℕ) (private : Bool) → IsTextWithin most_part resource → epoch < 2 ^ 64 → n < 2 ^ 64 → IsTextWithin most_address to → IsTextWithin most_text text
    → OutFits server_limits (submission_item (origin_of resource epoch n) to text private)
submission resource to text epoch n private h low_epoch low_n to_short text_short =
    fits _ (other_client (codes "message")) (submission_small (origin_of resource epoch n) to text private (origin_within resource epoch n h low_epoch low_n) to_short text_short)

pub page : (number max : ℕ) (after : Option (List ℕ)) → number < 2 ^ 64 → IfSome after (IsTextWithin most_id) → max < 2 ^ 32 → OutFits server_limits (page_item (queryid_text number) after max)
page number max after low h low_max = fits _ (other_client (codes "iq")) (page_small (queryid_text number) after max (queryid_within number low) h low_max)

pub answer : (to : Option (List ℕ)) (id : List ℕ) → IfSome to (IsTextWithin most_address) → IsTextWithin most_id id → OutFits server_limits (result_item (record { from = None; to = to; id = id }) no_nodes)
answer to id to_short id_short = fits _ (other_client (codes "iq")) (result_small to id to_short id_short)

pub refusal : (to : Option (List ℕ)) (id : List ℕ) → IfSome to (IsTextWithin most_address) → IsTextWithin most_id id
    → OutFits server_limits (iq_error_item (record { from = None; to = to; id = id }) (record { kind = Cancel; condition = ServiceUnavailable }))
refusal to id to_short id_short = fits _ (other_client (codes "iq")) (refusal_small to id to_short id_short)

pub request : OutFits server_limits request_item
request = fits _ (other_management (codes "r")) request_small

pub count : (h : ℕ) → h < 2 ^ 32 → OutFits server_limits (ack_item h)
count h low = fits _ (other_management (codes "a")) (ack_small h low)

pub too_high : (h sent : ℕ) → h < 2 ^ 32 → sent < 2 ^ 32 → OutFits server_limits (too_high_item h sent)
too_high h sent low sent_low = fits _ (λ n. differ (codes "error") (codes "stream") refl n.1) (too_high_small h sent low sent_low)
