-- What the row on requests says is read.
use Rattle.std.proofs.Common.{◌≡◌, ℕ, ◌-◌, ◌<◌, ◌≤◌, ◌^◌, nat_lt, Bool, true, false, not, ◌&&◌, List, [], ◌∷◌, Option, Some, None, IfSome, Result, Ok, Err, cond, codes, filter, is_none, length, refl, subst, sym, arith, inl, inr}
use Rattle.std.proofs.lemmas.Bool.{cases_Bool}
use Rattle.std.specs.List.{AllByRecursion}
use Rattle.std.specs.Option.{option_map}
use Rattle.std.specs.Prelude.{slice_get}
use Rattle.mam_archive.specs.Entries.{EntryView, entry_numbered}
use Rattle.mam_archive.specs.Ids.{id_of}
use Rattle.srv_state.specs.State.{Kept, ServerState, archive_at, bare_address, session_address}
use Rattle.srv_state.specs.Steps.{Act}
use Rattle.im_forwarding.specs.Queries.{field_error, no_such_place, query_asked, query_error, query_judged}
use Rattle.im_forwarding.specs.Results.{AskerView}
use Rattle.sm_live.specs.declared.told.SessionInfo.{SessionInfo}
use Rattle.im_mam.specs.ArchiveQuery.{has_known_fields, is_for_archive, is_query, max_in, optional_address, optional_moment, position_in}
use Rattle.im_mam.specs.DataForms.{field_value, form_of}
use Rattle.im_mam.specs.ResultSets.{set_child}
use Rattle.im_mam.specs.Readings.{filters_read, if_right, limits_read, mam_query_read, query_with, with_field}
use Rattle.im_mam.specs.declared.archive_query.MamQuery.{MamQuery}
use Rattle.mam_pages.specs.Cuts.{CutView}
use Rattle.mam_pages.specs.Kept.{kept_by}
use Rattle.mam_pages.specs.Matches.{is_wanted, matching}
use Rattle.mam_pages.specs.PageOf.{candidates, cut_out, index_of_page, most_of, page_of, portion}
use Rattle.mam_pages.specs.declared.query.PageQuery.{PageQuery}
use Rattle.im_payload.specs.Names.{archive, carbons, disco_info, disco_items, pings, roster, sessions as sessions_ns}
use Rattle.im_payload.specs.Readings.{where_this}
use Rattle.im_payload.specs.Shapes.{attr_or_empty}
use Rattle.im_payload.specs.declared.fault.ExtFault.{ExtFault}
use Rattle.im_payload.specs.declared.fault.ExtFault.TheVariants as ext
use Rattle.im_payload.specs.declared.fault.Field.{Field}
use Rattle.im_payload.specs.declared.fault.Field.TheVariants as field
use Rattle.law_limits.proofs.Forwarding.{end_bounded, end_payload_stays, entry_read}
use Rattle.law_limits.proofs.Requests.{account_info_bounded, info_stays, iq_error_read, items_bounded, items_stays, nothing_bounded, result_read, roster_bounded, server_info_bounded}
use Rattle.law_limits.specs.Messages.{EntryFits}
use Rattle.im_replies.specs.Requests.{result_item}
use Rattle.srv_handlers.specs.Requests.{asked_of, asker_of, at_iq, empty_answer, envelope_of, get_request, info_item, info_request, is_at_domain, is_served_at, node_asked, not_served, paging, query_request, querying_in, refusing_iq, request_for, request_in, request_of, sending_entries, sending_entry, serving, set_request}
use Rattle.srv_handlers.specs.declared.request.Request.{Request}
use Rattle.srv_handlers.specs.declared.request.Request.TheVariants as request
use Rattle.law_limits.proofs.ServedAddresses.{bare_said, session_said}
use Rattle.law_limits.proofs.Lists.{each_found, each_got}
use Rattle.law_limits.proofs.ServerStepsKept.{whole_read}
use Rattle.law_limits.specs.Keeps.{ActsKeep, ArchiveKeeps, IsRead, ServerKeeps}
use Rattle.law_limits.specs.Words.{IqFits}
use Rattle.law_server.specs.Encodings.{itself}
use Rattle.law_limits.proofs.Characters.{said_more}
use Rattle.law_limits.proofs.Numerals.{said_hex}
use Rattle.law_limits.specs.Texts.{Said}
use Rattle.im_stanza.specs.Conditions.{IsKnown}
use Rattle.im_stanza.specs.Views.{IqView}
use Rattle.im_stanza.specs.declared.errors.StanzaError.{StanzaError}
use Rattle.im_stanza.specs.declared.kinds.IqKind.{IqKind}
use Rattle.im_stanza.specs.declared.kinds.IqKind.TheVariants as iq
use Rattle.xml_trees.specs.Readers.{elements_of, is_named}
use Rattle.xml_trees.specs.Trees.{Elem, Nodes, no_nodes}
use Rattle.xml_trees.specs.Tidied.{tidied_nodes}
use Rattle.law_limits.specs.Bounded.{AreBounded}
use Rattle.im_stanza.specs.Names.{client_ns}
use Rattle.xml_writer.specs.Items.{ItemOut}

-- ---- answers

refusing_kept : (q : IqView) (t : SessionInfo) (e : StanzaError) (h : ServerState ItemOut) → IqFits q → IsKnown e.condition → ServerKeeps h → ActsKeep (refusing_iq itself q t e h)
refusing_kept q t e h fits known keeps = (whole_read _ (iq_error_read 18426 1048576 18426 q.to (Some (session_address t.number h)) q.id e fits.to fits.id (session_said t.number h keeps) known (omega arith)), tt)

result_kept : (q : IqView) (t : SessionInfo) (payload : Nodes) (levels n : ℕ) (h : ServerState ItemOut) → IqFits q → tidied_nodes payload ≡ payload → AreBounded client_ns levels n payload → levels ≤ 60 → n ≤ 1100000 → ServerKeeps h
    → IsRead (result_item (envelope_of q t h) payload)
result_kept q t payload levels n h fits stays bounded deep short keeps =
    whole_read _ (result_read 18426 1048576 18426 levels n (envelope_of q t h) payload fits.to fits.id (session_said t.number h keeps) stays bounded deep (omega (arith, short)))

empty_kept : (q : IqView) (t : SessionInfo) (h : ServerState ItemOut) → IqFits q → ServerKeeps h → ActsKeep (empty_answer itself q t h)
empty_kept q t h fits keeps = (result_kept q t no_nodes 0 0 h fits refl nothing_bounded (omega arith) (omega arith) keeps, tt)

info_read : (b : Bool) (q : IqView) (t : SessionInfo) (h : ServerState ItemOut) → IqFits q → ServerKeeps h → IsRead (info_item b (envelope_of q t h))
info_read true q t h fits keeps = result_kept q t _ 2 5000 h fits (info_stays _) server_info_bounded (omega arith) (omega arith) keeps
info_read false q t h fits keeps = result_kept q t _ 2 5000 h fits (info_stays _) account_info_bounded (omega arith) (omega arith) keeps

-- ---- pages

fewer : (p : EntryView → Bool) (es : List EntryView) → length (filter p es) ≤ length es
fewer p [] = omega arith
fewer p (e ∷ es) = let ih = fewer p es in elim (cases_Bool (p e)) [ inl b ↦ rw b (omega (arith, ih)) | inr b ↦ rw b (omega (arith, ih)) ]

pub index_few : (matches page : List EntryView) → index_of_page matches page ≤ length matches
index_few matches [] = omega arith
index_few matches (e ∷ es) = fewer (λ f. nat_lt f.number e.number) matches

record CutKeeps (cut : CutView) : Type 0 where
  index : cut.first_index < 2 ^ 64
  count : cut.count < 2 ^ 64

cut_keeps : (query : PageQuery) (matches : List EntryView) (o : Option (List EntryView)) → length matches < 2 ^ 64 → IfSome (option_map (λ found. cut_out query.position matches (most_of query.max) found (portion query.position (most_of query.max) found)) o) CutKeeps
cut_keeps query matches None few = tt
cut_keeps query matches (Some found) few =
    let index = index_few matches (portion query.position (most_of query.max) found) in record { index = omega (arith, few, index); count = few }

page_keeps : (owner : List ℕ) (entries : List EntryView) (query : PageQuery) → length entries < 2 ^ 64 → IfSome (page_of (kept_by owner entries) query) CutKeeps
page_keeps owner entries query few =
    let matches = matching (kept_by owner entries) query in
    let less = fewer (is_wanted owner query) entries in
    cut_keeps query matches (candidates query.position entries matches) (omega (arith, few, less))

id_said : (o : Option ℕ) → IfSome (option_map id_of o) (Said 120)
id_said None = tt
id_said (Some n) = said_more 96 120 (id_of n) (said_hex n) (omega arith)

entry_kept : (n : ℕ) (a : AskerView) (o : Option EntryView) (more : List (Act ItemOut)) → Said 12282 a.by → Said 18426 a.full → Said 1048576 a.queryid → IfSome o EntryFits → ActsKeep more → ActsKeep (sending_entry itself n a o more)
entry_kept n a None more by full queryid o h = h
entry_kept n a (Some e) more by full queryid o h = (whole_read _ (entry_read a e by full queryid o), h)

entries_kept : (n : ℕ) (a : AskerView) (entries : List EntryView) (numbers : List ℕ) (more : List (Act ItemOut)) → Said 12282 a.by → Said 18426 a.full → Said 1048576 a.queryid → AllByRecursion EntryFits entries → ActsKeep more
    → ActsKeep (sending_entries itself n a entries numbers more)
entries_kept n a entries [] more by full queryid each h = h
entries_kept n a entries (number ∷ numbers) more by full queryid each h =
    entry_kept n a (entry_numbered number entries) (sending_entries itself n a entries numbers more) by full queryid (each_found EntryFits _ entries each) (entries_kept n a entries numbers more by full queryid each h)

paging_kept : (q : IqView) (t : SessionInfo) (queryid : List ℕ) (a : Kept) (o : Option CutView) (h : ServerState ItemOut) → IqFits q → Said 1048576 queryid → ArchiveKeeps a → IfSome o CutKeeps → ServerKeeps h → ActsKeep (paging itself q t queryid a o h)
paging_kept q t queryid a None h fits said archive o keeps = refusing_kept q t no_such_place h fits tt keeps
paging_kept q t queryid a (Some cut) h fits said archive o keeps =
    entries_kept t.number (asker_of t queryid h) a.entries cut.numbers _ (bare_said t.account h keeps) (session_said t.number h keeps) said archive.entries
    (result_kept q t _ 3 3000 h fits (end_payload_stays cut) (end_bounded cut (id_said (slice_get cut.numbers 0)) (id_said (slice_get cut.numbers (length cut.numbers - 1))) o.index o.count) (omega arith) (omega arith) keeps, tt)

querying_kept : (q : IqView) (t : SessionInfo) (query : MamQuery) (o : Option Kept) (h : ServerState ItemOut) → IqFits q → Said 1048576 query.queryid → IfSome o ArchiveKeeps → ServerKeeps h → ActsKeep (querying_in itself q t query o h)
querying_kept q t query None h fits said o keeps = tt
querying_kept q t query (Some a) h fits said o keeps = paging_kept q t query.queryid a (page_of (kept_by a.owner a.entries) query.query) h fits said o (page_keeps a.owner a.entries query.query o.few) keeps

-- ---- what is asked for

abbrev QueryKeeps : Elem → Result MamQuery ExtFault → Type 0
QueryKeeps e (Ok v) = v.queryid ≡ attr_or_empty (codes "queryid") e
QueryKeeps e (Err f) = Unit {0}

right_keeps : (e : Elem) (b : Bool) (f : Field) (r : Result MamQuery ExtFault) → QueryKeeps e r → QueryKeeps e (if_right b f r)
right_keeps e true f r h = h
right_keeps e false f r h = tt

field_keeps : {A : Type 0} (e : Elem) (o : Option A) (f : Field) (read : A → Result MamQuery ExtFault) → ((x : A) → QueryKeeps e (read x)) → QueryKeeps e (with_field o f read)
field_keeps e None f read h = tt
field_keeps e (Some x) f read h = h x

limits_keep : (e : Elem) (peer : Option (List ℕ)) (start end : Option ℕ) → QueryKeeps e (limits_read e peer start end)
limits_keep e peer start end = field_keeps e (position_in e) field.PagePosition _ (λ position. field_keeps e (max_in e) field.Max _ (λ max. right_keeps e (is_none (set_child (codes "index") e)) field.UnknownField (Ok (query_with e peer start end position max)) refl))

filters_keep : (e : Elem) → QueryKeeps e (filters_read e)
filters_keep e =
    let ends = λ (peer : Option (List ℕ)) (start : Option ℕ). with_field (optional_moment (field_value (codes "end") e)) field.End (λ end. limits_read e peer start end) in
    let starts = λ (peer : Option (List ℕ)). with_field (optional_moment (field_value (codes "start") e)) field.Start (λ start. ends peer start) in
    let whole = with_field (optional_address (field_value (codes "with") e)) field.Peer (λ peer. starts peer) in
    right_keeps e (is_for_archive (form_of e)) field.FormType (if_right (has_known_fields (form_of e)) field.UnknownField whole)
    (right_keeps e (has_known_fields (form_of e)) field.UnknownField whole
    (field_keeps e (optional_address (field_value (codes "with") e)) field.Peer (λ peer. starts peer) (λ peer.
    field_keeps e (optional_moment (field_value (codes "start") e)) field.Start (λ start. ends peer start) (λ start.
    field_keeps e (optional_moment (field_value (codes "end") e)) field.End (λ end. limits_read e peer start end) (λ end. limits_keep e peer start end)))))

this_keeps : (e : Elem) (b : Bool) (r : Result MamQuery ExtFault) → QueryKeeps e r → QueryKeeps e (where_this b r)
this_keeps e true r h = h
this_keeps e false r h = tt

query_keeps : (e : Elem) → QueryKeeps e (mam_query_read e)
query_keeps e = this_keeps e (is_query e) (filters_read e) (filters_keep e)

abbrev RequestKeeps : Request → Type 0
RequestKeeps (request.Items node) = Said 1048576 node
RequestKeeps (request.Archive query) = Said 1048576 query.queryid
RequestKeeps (request.Refused e) = IsKnown e.condition
RequestKeeps r = Unit {0}

field_known : (f : Field) → IsKnown (field_error f).condition
field_known field.H = tt
field_known field.Id = tt
field_known field.Previd = tt
field_known field.Mechanism = tt
field_known field.Payload = tt
field_known field.FormType = tt
field_known field.UnknownField = tt
field_known field.Peer = tt
field_known field.Start = tt
field_known field.End = tt
field_known field.PagePosition = tt
field_known field.Max = tt
field_known field.Stamp = tt
field_known field.Stanza = tt
field_known field.Jid = tt
field_known field.Count = tt
field_known field.Condition = tt

fault_known : (f : ExtFault) → IsKnown (query_error f).condition
fault_known (ext.Bad f) = field_known f
fault_known ext.NotThis = tt
fault_known ext.NoMemory = tt

asked_keeps : (e : Elem) (r : Result MamQuery ExtFault) → QueryKeeps e r → Said 1048576 (attr_or_empty (codes "queryid") e) → RequestKeeps (query_request (query_judged r))
asked_keeps e (Ok v) h said = subst (Said 1048576) (sym h) said
asked_keeps e (Err f) h said = fault_known f

either_request : (b : Bool) (x y : Request) → RequestKeeps x → RequestKeeps y → RequestKeeps (cond b x y)
either_request true x y h k = h
either_request false x y h k = k

info_keeps : (b : Bool) (node : List ℕ) → RequestKeeps (info_request b node)
info_keeps b [] = tt
info_keeps b (c ∷ cs) = tt

get_keeps : (b : Bool) (e : Elem) → Said 1048576 (node_asked e) → RequestKeeps (get_request b e)
get_keeps b e said =
    either_request (is_named pings (codes "ping") e) _ _ tt
    (either_request (is_named disco_info (codes "query") e) (info_request b (node_asked e)) _ (info_keeps b (node_asked e))
    (either_request (is_named disco_items (codes "query") e) (request.Items (node_asked e)) _ said
    (either_request (is_named roster (codes "query") e) request.Roster (request.Refused not_served) tt tt)))

set_keeps : (b : Bool) (e : Elem) → Said 1048576 (attr_or_empty (codes "queryid") e) → RequestKeeps (set_request b e)
set_keeps b e said =
    either_request (is_named sessions_ns (codes "session") e) _ _ tt
    (either_request (is_named carbons (codes "enable") e) _ _ tt
    (either_request (is_named carbons (codes "disable") e) _ _ tt
    (either_request (is_named archive (codes "query") e && not b) (query_request (query_asked e)) (request.Refused not_served) (asked_keeps e (mam_query_read e) (query_keeps e) said) tt)))

for_keeps : (k : IqKind) (b : Bool) (e : Elem) → ((name : List ℕ) → Said 1048576 (attr_or_empty name e)) → RequestKeeps (request_for k b e)
for_keeps iq.Get b e said = get_keeps b e (said (codes "node"))
for_keeps iq.Set b e said = set_keeps b e (said (codes "queryid"))
for_keeps iq.Result b e said = set_keeps b e (said (codes "queryid"))
for_keeps iq.Error b e said = set_keeps b e (said (codes "queryid"))

asks_keep : (bare domain : List ℕ) (q : IqView) (elements : List Elem) → elements_of q.payload ≡ elements → IqFits q → RequestKeeps (asked_of bare domain q elements)
asks_keep bare domain q [] is fits = tt
asks_keep bare domain q (e ∷ []) is fits =
    either_request (is_served_at bare domain q.to) (request_for q.kind (is_at_domain domain q.to) e) (request.Refused not_served) (for_keeps q.kind (is_at_domain domain q.to) e (λ name. fits.value name e [] is)) tt
asks_keep bare domain q (e ∷ f ∷ more) is fits = tt

in_keeps : (k : IqKind) (r : Request) → RequestKeeps r → IfSome (request_in k r) RequestKeeps
in_keeps iq.Result r h = tt
in_keeps iq.Error r h = tt
in_keeps iq.Get r h = h
in_keeps iq.Set r h = h

-- ---- the row

serving_kept : (o : Option Request) (q : IqView) (t : SessionInfo) (h : ServerState ItemOut) → IfSome o RequestKeeps → IqFits q → ServerKeeps h → ActsKeep (serving itself o q t h)
serving_kept None q t h o fits keeps = tt
serving_kept (Some request.Ping) q t h o fits keeps = empty_kept q t h fits keeps
serving_kept (Some (request.Info b)) q t h o fits keeps = (info_read b q t h fits keeps, tt)
serving_kept (Some (request.Items node)) q t h o fits keeps = (result_kept q t _ 1 1049024 h fits (items_stays node) (items_bounded 1048576 node o) (omega arith) (omega arith) keeps, tt)
serving_kept (Some request.Roster) q t h o fits keeps = (result_kept q t _ 1 400 h fits refl roster_bounded (omega arith) (omega arith) keeps, tt)
serving_kept (Some request.Session) q t h o fits keeps = empty_kept q t h fits keeps
serving_kept (Some (request.Carbons on)) q t h o fits keeps = (tt, empty_kept q t h fits keeps)
serving_kept (Some (request.Archive query)) q t h o fits keeps = querying_kept q t query (archive_at t.account h) h fits o (each_got ArchiveKeeps h.archives t.account keeps.archives) keeps
serving_kept (Some (request.Refused e)) q t h o fits keeps = refusing_kept q t e h fits o keeps

pub iq_kept : (q : IqView) (t : SessionInfo) (h : ServerState ItemOut) → IqFits q → ServerKeeps h → ActsKeep (at_iq itself q t h)
iq_kept q t h fits keeps =
    serving_kept (request_of q t h) q t h (in_keeps q.kind (asked_of (bare_address t.account h) h.domain q (elements_of q.payload)) (asks_keep (bare_address t.account h) h.domain q (elements_of q.payload) refl fits)) fits keeps
