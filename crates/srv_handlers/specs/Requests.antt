-- The row on requests (RFC 6120, section 8.2.3): ping, service discovery, roster, session, carbons and the archive.
use Rattle.std.specs.Prelude.{ℕ, Bool, true, false, not, ◌&&◌, ◌||◌, if◌then◌else◌, List, [], ◌∷◌, Option, Some, None, Result, Ok, Err, codes}
use Rattle.std.specs.Str.{bytes_eq}
use Rattle.mam_archive.specs.Entries.{EntryView, entry_numbered}
use Rattle.im_forwarding.specs.Queries.{no_such_place, query_asked}
use Rattle.im_forwarding.specs.Results.{AskerView, entry_item, fin_item}
use Rattle.sm_live.specs.declared.told.SessionInfo.{SessionInfo}
use Rattle.im_mam.specs.declared.archive_query.MamQuery.{MamQuery}
use Rattle.mam_pages.specs.Cuts.{CutView}
use Rattle.mam_pages.specs.Kept.{kept_by}
use Rattle.mam_pages.specs.PageOf.{page_of}
use Rattle.im_payload.specs.Names.{archive, carbons, disco_info, disco_items, pings, roster, sessions as sessions_ns}
use Rattle.im_payload.specs.Shapes.{attr_or_empty}
use Rattle.im_replies.specs.Requests.{EnvelopeView, account_info_item, iq_error_item, items_item, result_item, roster_item, server_info_item}
use Rattle.srv_state.specs.State.{Kept, ServerState, archive_at, bare_address, session_address}
use Rattle.srv_state.specs.Steps.{Act, Copy, Send}
use Rattle.srv_handlers.specs.declared.request.Request.{Request}
use Rattle.srv_handlers.specs.declared.request.Request.TheVariants as request
use Rattle.im_stanza.specs.Views.{IqView}
use Rattle.im_stanza.specs.declared.conditions.Condition.TheVariants.{BadRequest, ItemNotFound, ServiceUnavailable}
use Rattle.im_stanza.specs.declared.errors.ErrorKind.TheVariants.{Cancel, Modify}
use Rattle.im_stanza.specs.declared.errors.StanzaError.{StanzaError}
use Rattle.im_stanza.specs.declared.kinds.IqKind.{IqKind}
use Rattle.im_stanza.specs.declared.kinds.IqKind.TheVariants as iq
use Rattle.xml_trees.specs.Readers.{elements_of, is_named}
use Rattle.xml_trees.specs.Trees.{Elem, no_nodes}
use Rattle.xml_writer.specs.Items.{ItemOut}

-- ---- answers

-- from where the request was to, to the session
abbrev pub envelope_of : {A : Type 0} → IqView → SessionInfo → ServerState A → EnvelopeView
envelope_of q t h = record { from = q.to; to = Some (session_address t.number h); id = q.id }

abbrev pub answering_iq : {A : Type 0} → (ItemOut → A) → SessionInfo → ItemOut → List (Act A)
answering_iq say t item = Send t.number (say item) ∷ []

abbrev pub refusing_iq : {A : Type 0} → (ItemOut → A) → IqView → SessionInfo → StanzaError → ServerState A → List (Act A)
refusing_iq say q t e h = answering_iq say t (iq_error_item (envelope_of q t h) e)

abbrev pub bad_request : StanzaError
bad_request = record { kind = Modify; condition = BadRequest }

abbrev pub not_served : StanzaError
not_served = record { kind = Cancel; condition = ServiceUnavailable }

-- the server has no nodes (XEP-0030, section 3.1)
abbrev pub no_such_node : StanzaError
no_such_node = record { kind = Cancel; condition = ItemNotFound }

abbrev pub empty_answer : {A : Type 0} → (ItemOut → A) → IqView → SessionInfo → ServerState A → List (Act A)
empty_answer say q t h = answering_iq say t (result_item (envelope_of q t h) no_nodes)

-- ---- the archive (XEP-0313, section 4)

abbrev pub asker_of : {A : Type 0} → SessionInfo → List ℕ → ServerState A → AskerView
asker_of t queryid h = record { by = bare_address t.account h; full = session_address t.number h; queryid = queryid }

abbrev pub sending_entry : {A : Type 0} → (ItemOut → A) → ℕ → AskerView → Option EntryView → List (Act A) → List (Act A)
sending_entry say n asker None more = more
sending_entry say n asker (Some e) more = Send n (say (entry_item asker e)) ∷ more

abbrev pub sending_entries : {A : Type 0} → (ItemOut → A) → ℕ → AskerView → List EntryView → List ℕ → List (Act A) → List (Act A)
sending_entries say n asker entries [] more = more
sending_entries say n asker entries (number ∷ numbers) more =
    sending_entry say n asker (entry_numbered number entries) (sending_entries say n asker entries numbers more)

-- each result, and then the end of the page
abbrev pub paging : {A : Type 0} → (ItemOut → A) → IqView → SessionInfo → List ℕ → Kept → Option CutView → ServerState A → List (Act A)
paging say q t queryid kept None h = refusing_iq say q t no_such_place h
paging say q t queryid kept (Some cut) h =
    sending_entries say t.number (asker_of t queryid h) kept.entries cut.numbers (answering_iq say t (fin_item (envelope_of q t h) cut))

abbrev pub querying_in : {A : Type 0} → (ItemOut → A) → IqView → SessionInfo → MamQuery → Option Kept → ServerState A → List (Act A)
querying_in say q t query None h = []
querying_in say q t query (Some kept) h = paging say q t query.queryid kept (page_of (kept_by kept.owner kept.entries) query.query) h

-- ---- what a request asks for

-- a query of the archive, or why it is refused
abbrev pub query_request : Result MamQuery StanzaError → Request
query_request (Ok query) = request.Archive query
query_request (Err e) = request.Refused e

-- the node that a query of service discovery is about, empty where it is about none (XEP-0030, sections 3.1 and 4.1)
abbrev pub node_asked : Elem → List ℕ
node_asked e = attr_or_empty (codes "node") e

abbrev pub info_request : Bool → List ℕ → Request
info_request at_domain [] = request.Info at_domain
info_request at_domain (c ∷ cs) = request.Refused no_such_node

abbrev pub get_request : Bool → Elem → Request
get_request at_domain e =
    if is_named pings (codes "ping") e then request.Ping
    else (if is_named disco_info (codes "query") e then info_request at_domain (node_asked e)
    else (if is_named disco_items (codes "query") e then request.Items (node_asked e)
    else (if is_named roster (codes "query") e then request.Roster else request.Refused not_served)))

abbrev pub set_request : Bool → Elem → Request
set_request at_domain e =
    if is_named sessions_ns (codes "session") e then request.Session
    else (if is_named carbons (codes "enable") e then request.Carbons true
    else (if is_named carbons (codes "disable") e then request.Carbons false
    else (if is_named archive (codes "query") e && not at_domain then query_request (query_asked e) else request.Refused not_served)))

-- to nobody, to the bare address of the session's account, or to the domain
abbrev pub is_served_at : List ℕ → List ℕ → Option (List ℕ) → Bool
is_served_at bare domain None = true
is_served_at bare domain (Some to) = bytes_eq to bare || bytes_eq to domain

abbrev pub is_at_domain : List ℕ → Option (List ℕ) → Bool
is_at_domain domain None = false
is_at_domain domain (Some to) = bytes_eq to domain

abbrev pub request_for : IqKind → Bool → Elem → Request
request_for iq.Get at_domain e = get_request at_domain e
request_for kind at_domain e = set_request at_domain e

-- one element is asked for
abbrev pub asked_of : List ℕ → List ℕ → IqView → List Elem → Request
asked_of bare domain q (e ∷ []) = if is_served_at bare domain q.to then request_for q.kind (is_at_domain domain q.to) e else request.Refused not_served
asked_of bare domain q elements = request.Refused bad_request

-- a result and an error ask for nothing
abbrev pub request_in : IqKind → Request → Option Request
request_in iq.Result asked = None
request_in iq.Error asked = None
request_in kind asked = Some asked

abbrev pub request_of : {A : Type 0} → IqView → SessionInfo → ServerState A → Option Request
request_of q t h = request_in q.kind (asked_of (bare_address t.account h) h.domain q (elements_of q.payload))

-- ---- the row

abbrev pub info_item : Bool → EnvelopeView → ItemOut
info_item true envelope = server_info_item envelope
info_item false envelope = account_info_item envelope

abbrev pub serving : {A : Type 0} → (ItemOut → A) → Option Request → IqView → SessionInfo → ServerState A → List (Act A)
serving say None q t h = []
serving say (Some request.Ping) q t h = empty_answer say q t h
serving say (Some (request.Info at_domain)) q t h = answering_iq say t (info_item at_domain (envelope_of q t h))
serving say (Some (request.Items node)) q t h = answering_iq say t (items_item node (envelope_of q t h))
serving say (Some request.Roster) q t h = answering_iq say t (roster_item (envelope_of q t h))
serving say (Some request.Session) q t h = empty_answer say q t h
serving say (Some (request.Carbons on)) q t h = Copy t.number on ∷ empty_answer say q t h
serving say (Some (request.Archive query)) q t h = querying_in say q t query (archive_at t.account h) h
serving say (Some (request.Refused e)) q t h = refusing_iq say q t e h

-- Bound: an `iq`
abbrev pub at_iq : {A : Type 0} → (ItemOut → A) → IqView → SessionInfo → ServerState A → List (Act A)
at_iq say q t h = serving say (request_of q t h) q t h
