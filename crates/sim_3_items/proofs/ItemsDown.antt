-- What the server puts of messages is read as what it means.
use Rattle.std.proofs.Common.{◌≡◌, ℕ, Bool, true, false, List, [], Option, Some, None, unwrap_or, codes, refl, ap, ◌∙◌, if◌then◌else◌}
use Rattle.mam_archive.specs.Ids.{id_of}
use Rattle.im_extensions.specs.Carbons.{carbon_elem}
use Rattle.im_extensions.specs.Forwarding.{forwarded_elem}
use Rattle.im_forwarding.specs.Copies.{CopyView, copy_elem, copy_item}
use Rattle.im_forwarding.specs.Passed.{passed_elem, passed_item}
use Rattle.sim_3_items.proofs.ItemsUp.{empty_again}
use Rattle.sim_3_items.proofs.TextsTold.{entry_again, epoch_again, n_again}
use Rattle.sim_3_items.specs.Downs.{archived_id, bounced, down_elem, down_stanza, message_read_of, message_sent}
use Rattle.sim_3_items.specs.Meant.{IsEntryNumber, IsOrigin, IsSubmitted}
use Rattle.sim_3_items.specs.Told.{entry_of_id, is_error, query_of_id}
use Rattle.sm_outbox.specs.Submissions.{origin_of}
use Rattle.im_payload.specs.Shapes.{attr_or_empty}
use Rattle.im_replies.specs.Requests.{EnvelopeView, bounce_item, result_item}
use Rattle.im_requests.specs.Messages.{submission_nodes}
use Rattle.sim_1_applications.specs.Stanzas.Down.{Accepted, Bounced, Live, NotFound}
use Rattle.im_stamp.specs.Dates.{stamp_at}
use Rattle.im_stanza.proofs.WrittenAttrs.{id_written, type_written}
use Rattle.im_stanza.specs.Answering.{bounce_elem}
use Rattle.im_stanza.specs.Kinds.{iq_type, message_type}
use Rattle.im_stanza.specs.Names.{client_ns}
use Rattle.im_stanza.specs.Views.{MessageView}
use Rattle.im_stanza.specs.Written.{iq_elem, message_elem, unless_empty}
use Rattle.im_stanza.specs.declared.errors.StanzaError.{StanzaError}
use Rattle.im_stanza.specs.declared.kinds.IqKind.TheVariants as iq
use Rattle.im_stanza.specs.declared.kinds.MessageKind.TheVariants.{Chat, Error}
use Rattle.xml_trees.specs.Attributes.{Attribute}
use Rattle.xml_trees.specs.Trees.{element, no_nodes, child}

pub accepted_read : (a : EnvelopeView) → down_stanza (result_item a no_nodes) ≡ Accepted
accepted_read a =
    let e = iq_elem (record { from = a.from; to = a.to; id = a.id; kind = iq.Result; payload = no_nodes }) in
    ap (λ kind. if is_error kind then NotFound (query_of_id (attr_or_empty (codes "id") e)) else Accepted) (type_written a.from (Some a.id) a.to (Some (iq_type iq.Result)) None)

pub bounced_read : (from resource : List ℕ) (epoch n : ℕ) (e : StanzaError) → IsOrigin resource epoch n → down_stanza (bounce_item from (origin_of resource epoch n) e) ≡ Bounced epoch n
bounced_read from resource epoch n error is =
    let id = origin_of resource epoch n in
    let e = bounce_elem from id error in
    let kind = ap (λ kind. message_read_of kind e) (type_written (Some from) (unless_empty id) None (Some (message_type Error)) None) in
    let same : attr_or_empty (codes "id") e ≡ id =
    ap (λ (o : Option (List ℕ)). unwrap_or o []) (id_written (Some from) (unless_empty id) None (Some (message_type Error)) None) ∙ empty_again id in
    let epochs = epoch_again resource epoch n is in
    let numbers = n_again resource epoch n is in
    kind ∙ ap bounced same ∙ (λ i. Bounced (epochs i) (numbers i))

-- ---- the id in the archive of a message that is passed on

id_of_nodes : (by : List ℕ) (number : ℕ) (m : MessageView) (origin said : List ℕ) (apart : Bool)
    → archived_id (passed_elem by (Some number) (record m { payload = submission_nodes origin said apart })) ≡ id_of number
id_of_nodes by number m origin said true = refl
id_of_nodes by number m origin said false = refl

passed_id : (by : List ℕ) (number : ℕ) (m : MessageView) → IsSubmitted m → archived_id (passed_elem by (Some number) m) ≡ id_of number
passed_id by number m is =
    ap (λ p. archived_id (passed_elem by (Some number) (record m { payload = p }))) is.contains ∙ id_of_nodes by number m is.origin is.said is.apart

-- a message that is passed on contains neither a result nor a carbon
plainly_told : (by : List ℕ) (number : ℕ) (m : MessageView) (origin said : List ℕ) (apart : Bool)
    → (let e = passed_elem by (Some number) (record m { payload = submission_nodes origin said apart }) in message_read_of (Some (message_type Chat)) e ≡ Live (entry_of_id (archived_id e)))
plainly_told by number m origin said true = refl
plainly_told by number m origin said false = refl

pub passed_read : (by : List ℕ) (number : ℕ) (m : MessageView) → IsSubmitted m → IsEntryNumber number → down_stanza (passed_item by (Some number) m) ≡ Live number
passed_read by number m is entry =
    let e = passed_elem by (Some number) in
    let m0 = record m { payload = submission_nodes is.origin is.said is.apart } in
    let contains = ap (λ p. down_elem (e (record m { payload = p }))) is.contains in
    let kind = ap (λ kind. message_read_of kind (e m0)) (type_written m.from (unless_empty m.id) m.to (Some (message_type m.kind)) (unless_empty m.lang)) in
    let chat = ap (λ kind. message_read_of (Some (message_type kind)) (e m0)) is.chat in
    let plain = plainly_told by number m is.origin is.said is.apart in
    contains ∙ kind ∙ chat ∙ plain ∙ ap (λ id. Live (entry_of_id id)) (id_of_nodes by number m is.origin is.said is.apart) ∙ ap Live (entry_again number entry)

-- ---- copies

sent_within : (attrs : List Attribute) (sent : Bool) (stamp : List ℕ) (m : MessageView)
    → message_sent (element client_ns (codes "message") attrs (child (carbon_elem sent (forwarded_elem stamp (message_elem m))) no_nodes)) ≡ message_elem m
sent_within attrs true stamp m = refl
sent_within attrs false stamp m = refl

pub copied_read : (c : CopyView) (full : List ℕ) (number : ℕ) → IsSubmitted c.message → c.number ≡ Some number → IsEntryNumber number → down_stanza (copy_item c full) ≡ Live number
copied_read c full number is numbered entry =
    let e = copy_elem c full in
    let kind = ap (λ kind. message_read_of kind e) (type_written (Some c.by) (unless_empty []) (Some full) (Some (message_type c.message.kind)) (unless_empty [])) in
    let chat = ap (λ kind. message_read_of (Some (message_type kind)) e) is.chat in
    let sent : message_sent e ≡ passed_elem c.by c.number c.message = sent_within _ c.sent (stamp_at c.moment) _ in
    let id : archived_id (message_sent e) ≡ id_of number =
    ap archived_id sent ∙ ap (λ o. archived_id (passed_elem c.by o c.message)) numbered ∙ passed_id c.by number c.message is in
    kind ∙ chat ∙ ap (λ t. Live (entry_of_id t)) id ∙ ap Live (entry_again number entry)
