-- The row on requests goes through.
use Rattle.std.proofs.Common.{◌≡◌, ℕ, List, [], ◌∷◌, Option, Some, None, refl, ap, ◌∙◌}
use Rattle.std.specs.Option.{option_map}
use Rattle.mam_archive.specs.Entries.{EntryView, entry_numbered}
use Rattle.srv_state.specs.State.{Kept, ServerState, address_shown, archive_at, bare_address, session_address, shown_of}
use Rattle.srv_state.specs.Steps as steps
use Rattle.srv_state.specs.Steps.{Act}
use Rattle.im_forwarding.specs.Queries.{no_such_place}
use Rattle.im_forwarding.specs.Results.{AskerView, fin_item}
use Rattle.sm_live.specs.Sessions.{Session, session_of}
use Rattle.sm_live.specs.declared.told.SessionInfo.{SessionInfo}
use Rattle.im_mam.specs.declared.archive_query.MamQuery.{MamQuery}
use Rattle.mam_pages.specs.Cuts.{CutView}
use Rattle.mam_pages.specs.Kept.{kept_by}
use Rattle.mam_pages.specs.PageOf.{page_of}
use Rattle.im_replies.specs.Requests.{EnvelopeView, iq_error_item, items_item, result_item, roster_item}
use Rattle.srv_handlers.specs.Requests.{answering_iq, asker_of, at_iq, empty_answer, envelope_of, info_item, paging, querying_in, refusing_iq, request_of, sending_entries, sending_entry, serving}
use Rattle.srv_handlers.specs.declared.request.Request.{Request}
use Rattle.srv_handlers.specs.declared.request.Request.TheVariants as request
use Rattle.sm_resumption.specs.declared.session.SessionView.{SessionView}
use Rattle.law_server.proofs.SessionsRendered.{of_rendered}
use Rattle.law_server.specs.Rendered.{acts_rendered, rendered, server_state_rendered, session_rendered}
use Rattle.im_stanza.specs.Views.{IqView}
use Rattle.im_stanza.specs.declared.errors.StanzaError.{StanzaError}
use Rattle.xml_trees.specs.Trees.{no_nodes}
use Rattle.xml_writer.specs.Items.{ItemOut}

-- ---- addresses

shown_same : {A B : Type 0} (f : A → B) (o : Option (Session A)) → option_map shown_of (option_map (session_rendered f) o) ≡ option_map shown_of o
shown_same f None = refl
shown_same f (Some s) = refl

address_same : {A B : Type 0} (f : A → B) (o : Option SessionView) (h : ServerState A) → address_shown o (server_state_rendered f h) ≡ address_shown o h
address_same f None h = refl
address_same f (Some shown) h = refl

pub address_rendered : {A B : Type 0} (f : A → B) (n : ℕ) (h : ServerState A) → session_address n (server_state_rendered f h) ≡ session_address n h
address_rendered f n h =
    ap (λ o. address_shown o (server_state_rendered f h)) (ap (option_map shown_of) (of_rendered f n h.sessions) ∙ shown_same f (session_of n h.sessions))
    ∙ address_same f (option_map shown_of (session_of n h.sessions)) h

envelope_rendered : {A B : Type 0} (f : A → B) (q : IqView) (t : SessionInfo) (h : ServerState A) → envelope_of q t (server_state_rendered f h) ≡ envelope_of q t h
envelope_rendered f q t h = ap (λ full. record { from = q.to; to = Some full; id = q.id }) (address_rendered f t.number h)

asker_rendered : {A B : Type 0} (f : A → B) (t : SessionInfo) (queryid : List ℕ) (h : ServerState A) → asker_of t queryid (server_state_rendered f h) ≡ asker_of t queryid h
asker_rendered f t queryid h = ap (λ full. record { by = bare_address t.account h; full = full; queryid = queryid }) (address_rendered f t.number h)

-- ---- answers

answer_rendered : {A B : Type 0} (f : A → B) (say : ItemOut → A) (t : SessionInfo) (item : EnvelopeView → ItemOut) (q : IqView) (h : ServerState A) → answering_iq (rendered f say) t (item (envelope_of q t (server_state_rendered f h))) ≡ acts_rendered f (answering_iq say t (item (envelope_of q t h)))
answer_rendered f say t item q h = ap (λ e. steps.Send t.number (f (say (item e))) ∷ []) (envelope_rendered f q t h)

refusing_rendered : {A B : Type 0} (f : A → B) (say : ItemOut → A) (q : IqView) (t : SessionInfo) (e : StanzaError) (h : ServerState A) → refusing_iq (rendered f say) q t e (server_state_rendered f h) ≡ acts_rendered f (refusing_iq say q t e h)
refusing_rendered f say q t e h = ap (λ envelope. steps.Send t.number (f (say (iq_error_item envelope e))) ∷ []) (envelope_rendered f q t h)

-- ---- a page

entry_rendered : {A B : Type 0} (f : A → B) (say : ItemOut → A) (n : ℕ) (asker : AskerView) (o : Option EntryView) (more : List (Act A)) → sending_entry (rendered f say) n asker o (acts_rendered f more) ≡ acts_rendered f (sending_entry say n asker o more)
entry_rendered f say n asker None more = refl
entry_rendered f say n asker (Some e) more = refl

entries_rendered : {A B : Type 0} (f : A → B) (say : ItemOut → A) (n : ℕ) (asker : AskerView) (entries : List EntryView) (numbers : List ℕ) (more : List (Act A)) →
    sending_entries (rendered f say) n asker entries numbers (acts_rendered f more) ≡ acts_rendered f (sending_entries say n asker entries numbers more)
entries_rendered f say n asker entries [] more = refl
entries_rendered f say n asker entries (number ∷ numbers) more =
    ap (sending_entry (rendered f say) n asker (entry_numbered number entries)) (entries_rendered f say n asker entries numbers more)
    ∙ entry_rendered f say n asker (entry_numbered number entries) (sending_entries say n asker entries numbers more)

paging_rendered : {A B : Type 0} (f : A → B) (say : ItemOut → A) (q : IqView) (t : SessionInfo) (queryid : List ℕ) (kept : Kept) (o : Option CutView) (h : ServerState A) → paging (rendered f say) q t queryid kept o (server_state_rendered f h) ≡ acts_rendered f (paging say q t queryid kept o h)
paging_rendered f say q t queryid kept None h = refusing_rendered f say q t no_such_place h
paging_rendered f say q t queryid kept (Some cut) h =
    ap (λ asker. sending_entries (rendered f say) t.number asker kept.entries cut.numbers (answering_iq (rendered f say) t (fin_item (envelope_of q t (server_state_rendered f h)) cut))) (asker_rendered f t queryid h)
    ∙ ap (sending_entries (rendered f say) t.number (asker_of t queryid h) kept.entries cut.numbers) (answer_rendered f say t (λ e. fin_item e cut) q h)
    ∙ entries_rendered f say t.number (asker_of t queryid h) kept.entries cut.numbers (answering_iq say t (fin_item (envelope_of q t h) cut))

querying_rendered : {A B : Type 0} (f : A → B) (say : ItemOut → A) (q : IqView) (t : SessionInfo) (query : MamQuery) (o : Option Kept) (h : ServerState A) → querying_in (rendered f say) q t query o (server_state_rendered f h) ≡ acts_rendered f (querying_in say q t query o h)
querying_rendered f say q t query None h = refl
querying_rendered f say q t query (Some kept) h = paging_rendered f say q t query.queryid kept (page_of (kept_by kept.owner kept.entries) query.query) h

-- ---- the row

empty_rendered : {A B : Type 0} (f : A → B) (say : ItemOut → A) (q : IqView) (t : SessionInfo) (h : ServerState A) → empty_answer (rendered f say) q t (server_state_rendered f h) ≡ acts_rendered f (empty_answer say q t h)
empty_rendered f say q t h = answer_rendered f say t (λ e. result_item e no_nodes) q h

serving_rendered : {A B : Type 0} (f : A → B) (say : ItemOut → A) (o : Option Request) (q : IqView) (t : SessionInfo) (h : ServerState A) → serving (rendered f say) o q t (server_state_rendered f h) ≡ acts_rendered f (serving say o q t h)
serving_rendered f say None q t h = refl
serving_rendered f say (Some request.Ping) q t h = empty_rendered f say q t h
serving_rendered f say (Some (request.Info at_domain)) q t h = answer_rendered f say t (info_item at_domain) q h
serving_rendered f say (Some (request.Items node)) q t h = answer_rendered f say t (items_item node) q h
serving_rendered f say (Some request.Roster) q t h = answer_rendered f say t roster_item q h
serving_rendered f say (Some request.Session) q t h = empty_rendered f say q t h
serving_rendered f say (Some (request.Carbons on)) q t h = ap (λ acts. steps.Copy t.number on ∷ acts) (empty_rendered f say q t h)
serving_rendered f say (Some (request.Archive query)) q t h = querying_rendered f say q t query (archive_at t.account h) h
serving_rendered f say (Some (request.Refused e)) q t h = refusing_rendered f say q t e h

pub iq_rendered : {A B : Type 0} (f : A → B) (say : ItemOut → A) (q : IqView) (t : SessionInfo) (h : ServerState A) → at_iq (rendered f say) q t (server_state_rendered f h) ≡ acts_rendered f (at_iq say q t h)
iq_rendered f say q t h = serving_rendered f say (request_of q t h) q t h
