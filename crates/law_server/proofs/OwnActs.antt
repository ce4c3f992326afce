-- What a request leads to is of the session that sent it.
use Rattle.std.proofs.Common.{ℕ, List, [], ◌∷◌, Option, Some, None, All, refl}
use Rattle.std.proofs.lemmas.List.Elements.{All-cons, All-nil}
use Rattle.mam_archive.specs.Entries.{EntryView, entry_numbered}
use Rattle.srv_state.specs.State.{Kept, ServerState, archive_at}
use Rattle.srv_state.specs.Steps.{Act, Copy, Send}
use Rattle.im_forwarding.specs.Queries.{no_such_place}
use Rattle.im_forwarding.specs.Results.{AskerView, entry_item, fin_item}
use Rattle.sm_live.specs.declared.told.SessionInfo.{SessionInfo}
use Rattle.im_mam.specs.declared.archive_query.MamQuery.{MamQuery}
use Rattle.mam_pages.specs.Cuts.{CutView}
use Rattle.mam_pages.specs.Kept.{kept_by}
use Rattle.mam_pages.specs.PageOf.{page_of}
use Rattle.im_replies.specs.Requests.{iq_error_item, items_item, result_item, roster_item}
use Rattle.law_server.specs.Answering.{IsOf}
use Rattle.srv_handlers.specs.Requests.{answering_iq, asker_of, at_iq, envelope_of, info_item, paging, querying_in, request_of, sending_entries, sending_entry, serving}
use Rattle.srv_handlers.specs.declared.request.Request.{Request}
use Rattle.srv_handlers.specs.declared.request.Request.TheVariants as request
use Rattle.im_stanza.specs.Views.{IqView}
use Rattle.xml_trees.specs.Trees.{no_nodes}
use Rattle.xml_writer.specs.Items.{ItemOut}

one_of : {A : Type 0} (say : ItemOut → A) (t : SessionInfo) (item : ItemOut) → All (IsOf t.number) (answering_iq say t item)
one_of say t item = All-cons (IsOf t.number) (Send t.number (say item)) [] refl (All-nil (IsOf t.number))

entry_of : {A : Type 0} (say : ItemOut → A) (n : ℕ) (asker : AskerView) (found : Option EntryView) (more : List (Act A)) → All (IsOf n) more → All (IsOf n) (sending_entry say n asker found more)
entry_of say n asker None more all = all
entry_of say n asker (Some e) more all = All-cons (IsOf n) (Send n (say (entry_item asker e))) more refl all

entries_of : {A : Type 0} (say : ItemOut → A) (n : ℕ) (asker : AskerView) (entries : List EntryView) (numbers : List ℕ) (more : List (Act A)) → All (IsOf n) more
    → All (IsOf n) (sending_entries say n asker entries numbers more)
entries_of say n asker entries [] more all = all
entries_of say n asker entries (number ∷ numbers) more all =
    entry_of say n asker (entry_numbered number entries) (sending_entries say n asker entries numbers more) (entries_of say n asker entries numbers more all)

page_of_own : {A : Type 0} (say : ItemOut → A) (q : IqView) (t : SessionInfo) (queryid : List ℕ) (kept : Kept) (cut : Option CutView) (h : ServerState A) → All (IsOf t.number) (paging say q t queryid kept cut h)
page_of_own say q t queryid kept None h = one_of say t (iq_error_item (envelope_of q t h) no_such_place)
page_of_own say q t queryid kept (Some cut) h =
    entries_of say t.number (asker_of t queryid h) kept.entries cut.numbers (answering_iq say t (fin_item (envelope_of q t h) cut)) (one_of say t (fin_item (envelope_of q t h) cut))

query_of_own : {A : Type 0} (say : ItemOut → A) (q : IqView) (t : SessionInfo) (query : MamQuery) (kept : Option Kept) (h : ServerState A) → All (IsOf t.number) (querying_in say q t query kept h)
query_of_own say q t query None h = All-nil (IsOf t.number)
query_of_own say q t query (Some kept) h = page_of_own say q t query.queryid kept (page_of (kept_by kept.owner kept.entries) query.query) h

served_of_own : {A : Type 0} (say : ItemOut → A) (asked : Option Request) (q : IqView) (t : SessionInfo) (h : ServerState A) → All (IsOf t.number) (serving say asked q t h)
served_of_own say None q t h = All-nil (IsOf t.number)
served_of_own say (Some request.Ping) q t h = one_of say t (result_item (envelope_of q t h) no_nodes)
served_of_own say (Some (request.Info at_domain)) q t h = one_of say t (info_item at_domain (envelope_of q t h))
served_of_own say (Some (request.Items node)) q t h = one_of say t (items_item node (envelope_of q t h))
served_of_own say (Some request.Roster) q t h = one_of say t (roster_item (envelope_of q t h))
served_of_own say (Some request.Session) q t h = one_of say t (result_item (envelope_of q t h) no_nodes)
served_of_own say (Some (request.Carbons on)) q t h =
    All-cons (IsOf t.number) (Copy t.number on) (answering_iq say t (result_item (envelope_of q t h) no_nodes)) refl (one_of say t (result_item (envelope_of q t h) no_nodes))
served_of_own say (Some (request.Archive query)) q t h = query_of_own say q t query (archive_at t.account h) h
served_of_own say (Some (request.Refused e)) q t h = one_of say t (iq_error_item (envelope_of q t h) e)

pub of_own : {A : Type 0} (say : ItemOut → A) (q : IqView) (t : SessionInfo) (h : ServerState A) → All (IsOf t.number) (at_iq say q t h)
of_own say q t h = served_of_own say (request_of q t h) q t h
