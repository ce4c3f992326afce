-- A stanza that tells no sender ends no stream, whosever session it comes from; and what a client puts of itself is of
-- this kind (RFC 6120, section 8.1.2.1).
use Rattle.std.proofs.Common.{◌≡◌, ℕ, ◌<◌, ◌≤◌, ◌^◌, Bool, true, false, List, [], length, Option, Some, None, IfSome, Result, Ok, Err, codes, refl, sym, ap, subst, ◌∙◌, arith, unwrap_or}
use Rattle.std.proofs.lemmas.Bool.Decides.{nat_tests}
use Rattle.std.specs.Prelude.{nat_lt}
use Rattle.cl_core.specs.PageRows.{answer_to}
use Rattle.sim_4_links_follow.specs.Speaking.{IsBareAddress}
use Rattle.srv_state.specs.State.{ServerState}
use Rattle.srv_state.specs.Words.{is_stanza}
use Rattle.sim_3_items.specs.Counted.{IsBare, IsForBare, IsForServer}
use Rattle.sim_3_items.specs.Labels.{awaits}
use Rattle.xml_framer.specs.Limits.{server_limits}
use Rattle.im_jid.specs.declared.fault.JidFault.{JidFault}
use Rattle.sm_live.specs.declared.told.SessionInfo.{SessionInfo}
use Rattle.sm_outbox.specs.Submissions.{origin_of}
use Rattle.im_requests.specs.Messages.{page_elem, page_item, queryid_text, submission_item, submission_nodes}
use Rattle.law_limits.proofs.Fitted as fitted
use Rattle.law_limits.specs.Bounds.{IsTextWithin, most_address, most_id, most_part, most_text}
use Rattle.im_stanza.proofs.WrittenAttrs.{from_written, id_written, to_written, type_written}
use Rattle.im_stanza.specs.Errors.{error_elem}
use Rattle.im_stanza.specs.Kinds.{answers_iq, answers_message, iq_kind, iq_type, message_kind, message_type}
use Rattle.im_stanza.specs.Readings.{Addresses, address_of, addresses_of, both_addresses, given_address, iq_of, iq_with, message_of, stanza_of, with_addresses}
use Rattle.im_stanza.specs.Stanzas.{attr_named, id_or_empty}
use Rattle.im_stanza.specs.Views.{IqView}
use Rattle.im_stanza.specs.Written.{attrs_written, unless_empty}
use Rattle.im_stanza.specs.declared.conditions.Condition.TheVariants.{ServiceUnavailable}
use Rattle.im_stanza.specs.declared.errors.ErrorKind.TheVariants.{Cancel}
use Rattle.im_stanza.specs.declared.fault.StanzaFault.{StanzaFault}
use Rattle.im_stanza.specs.declared.fault.StanzaFault.TheVariants.{BadTo}
use Rattle.im_stanza.specs.declared.kinds.IqKind.{IqKind}
use Rattle.im_stanza.specs.declared.kinds.IqKind.TheVariants as iq
use Rattle.im_stanza.specs.declared.kinds.MessageKind.TheVariants.{Chat}
use Rattle.im_stanza.specs.declared.stanzas.Stanza.{Stanza}
use Rattle.srv_core.specs.Stanzas.{stanza_condition}
use Rattle.xml_trees.specs.Trees.{Elem, Nodes, child, element, no_nodes}
use Rattle.im_stanza.specs.Names.{client_ns}
use Rattle.xml_writer.specs.Canon.{canon}
use Rattle.xml_writer.specs.Items.{ItemOut, Whole}
use Rattle.law_xml.specs.Puts.{OutFits}

-- ---- what is read of it

pub record IsFair (read : Result Stanza StanzaFault) : Type 0 where
  pub bare : IsForBare read
  pub fair : (t : SessionInfo) (h : ServerState ItemOut) → stanza_condition read t h ≡ None

-- where its `to` is an address, and where it is none
both_fair : (message reply : Bool) (id to : List ℕ) (stanza : Addresses → Stanza) (told : Result (Option (List ℕ)) JidFault) → ((given : Option (List ℕ)) → told ≡ Ok given → IsFair (Ok (stanza (None, given))))
    → IsFair (with_addresses stanza (both_addresses (Ok None) told (λ from. BadTo message reply from id to)))
both_fair message reply id to stanza (Ok given) good = good given refl
both_fair message reply id to stanza (Err e) good = record { bare = tt; fair = λ t h. refl }

addresses_fair : (message reply : Bool) (e : Elem) (stanza : Addresses → Stanza) → attr_named (codes "from") e ≡ None → ((given : Option (List ℕ)) → address_of (attr_named (codes "to") e) ≡ Ok given → IsFair (Ok (stanza (None, given))))
    → IsFair (with_addresses stanza (addresses_of message reply e))
addresses_fair message reply e stanza none good =
    subst (λ f. IsFair (with_addresses stanza (both_addresses (address_of f) (address_of (attr_named (codes "to") e)) (λ from. BadTo message reply from (id_or_empty e) (unwrap_or (attr_named (codes "to") e) [])))))
    (sym none) (both_fair message reply (id_or_empty e) (unwrap_or (attr_named (codes "to") e) []) stanza (address_of (attr_named (codes "to") e)) good)

kind_again : (kind : IqKind) → iq_kind (Some (iq_type kind)) ≡ Some kind
kind_again iq.Get = refl
kind_again iq.Set = refl
kind_again iq.Result = refl
kind_again iq.Error = refl

iq_fair : (e : Elem) (id : List ℕ) (kind : IqKind) → attr_named (codes "id") e ≡ Some id → attr_named (codes "type") e ≡ Some (iq_type kind) → attr_named (codes "from") e ≡ None → IsFair (iq_of e)
iq_fair e id kind named typed none =
    subst (λ o. IsFair (iq_with o (iq_kind (attr_named (codes "type") e)) e)) (sym named)
    (subst (λ o. IsFair (iq_with (Some id) o e)) (sym (ap iq_kind typed ∙ kind_again kind))
    (addresses_fair false (answers_iq kind) e _ none (λ given is. record { bare = tt; fair = λ t h. refl })))

message_fair : (e : Elem) → attr_named (codes "from") e ≡ None → ((given : Option (List ℕ)) → address_of (attr_named (codes "to") e) ≡ Ok given → IsBare given) → IsFair (message_of e)
message_fair e none good = addresses_fair true (answers_message (message_kind (attr_named (codes "type") e))) e _ none (λ given is. record { bare = good given is; fair = λ t h. refl })

-- ---- as it is written

pub iq_written : (to : Option (List ℕ)) (id : List ℕ) (kind : IqKind) (payload : Nodes) → IsFair (stanza_of (element client_ns (codes "iq") (attrs_written None (Some id) to (Some (iq_type kind)) None) payload))
iq_written to id kind payload =
    iq_fair (element client_ns (codes "iq") (attrs_written None (Some id) to (Some (iq_type kind)) None) payload) id kind
    (id_written None (Some id) to (Some (iq_type kind)) None) (type_written None (Some id) to (Some (iq_type kind)) None) (from_written None (Some id) to (Some (iq_type kind)) None)

bare_given : (to : List ℕ) (given : Option (List ℕ)) → IsBareAddress to → address_of (Some to) ≡ Ok given → IsBare given
bare_given to given h is =
    let told : Ok (Some to) ≡ Ok given = sym (ap given_address h.form) ∙ is in
    let same : Some to ≡ given = cc in
    subst IsBare same h.bare

pub message_written : (to : List ℕ) (id : Option (List ℕ)) (payload : Nodes) → IsBareAddress to → IsFair (stanza_of (element client_ns (codes "message") (attrs_written None id (Some to) (Some (message_type Chat)) None) payload))
message_written to id payload h =
    message_fair (element client_ns (codes "message") (attrs_written None id (Some to) (Some (message_type Chat)) None) payload)
    (from_written None id (Some to) (Some (message_type Chat)) None)
    (λ given is. bare_given to given h (sym (ap address_of (to_written None id (Some to) (Some (message_type Chat)) None)) ∙ is))

-- ---- its length

low : (n : ℕ) → n ≤ 65536 → nat_lt 1048576 n ≡ false
low n h = grind (arith, nat_tests)

for_server : (e : Elem) → is_stanza e ≡ true → OutFits server_limits (Whole e) → IsFair (stanza_of e) → IsForServer (Whole e)
for_server e stanza fits read = record { elem = e; whole = refl; stanza = stanza; short = low (length (canon e)) fits.2.short; bare = read.bare; fair = read.fair }

-- ---- what a client puts of itself

pub page_for_server : (number max : ℕ) (after : Option (List ℕ)) → number < 2 ^ 64 → IfSome after (IsTextWithin most_id) → max < 2 ^ 32 → IsForServer (page_item (queryid_text number) after max)
page_for_server number max after few h small =
    for_server _ refl (fitted.page number max after few h small) (iq_written None (queryid_text number) iq.Set (child (page_elem (queryid_text number) after max) no_nodes))

pub answer_for_server : (q : IqView) (ping : Bool) → IfSome q.from (IsTextWithin most_address) → IsTextWithin most_id q.id → IsForServer (answer_to q ping)
answer_for_server q true from id = for_server _ refl (fitted.answer q.from q.id from id) (iq_written q.from q.id iq.Result no_nodes)
answer_for_server q false from id =
    for_server _ refl (fitted.refusal q.from q.id from id) (iq_written q.from q.id iq.Error (child (error_elem (record { kind = Cancel; condition = ServiceUnavailable })) no_nodes))

-- an answer is no message, and asks for no page
pub answer_other : (q : IqView) (ping : Bool) → awaits (answer_to q ping) ≡ false
answer_other q true = refl
answer_other q false = refl

pub submission_for_server : (resource to text : List ℕ) (epoch n : ℕ) (private : Bool) → IsTextWithin most_part resource → epoch < 2 ^ 64 → n < 2 ^ 64 → IsBareAddress to → IsTextWithin most_text text
    → IsForServer (submission_item (origin_of resource epoch n) to text private)
submission_for_server resource to text epoch n private within few_epochs few to_good text_good =
    for_server _ refl (fitted.submission resource to text epoch n private within few_epochs few to_good.within text_good)
    (message_written to (unless_empty (origin_of resource epoch n)) (submission_nodes (origin_of resource epoch n) text private) to_good)
