-- What a request leads to depends on what is its session's own.
use Rattle.std.proofs.Common.{◌≡◌, ℕ, List, ◌∷◌, ◌++◌, Option, Some, None, ap, refl, ◌∙◌}
use Rattle.std.specs.Option.{option_map}
use Rattle.srv_state.specs.State.{Kept, ServerState, address_shown, archive_at, bare_address, session_address, shown_of}
use Rattle.srv_state.specs.Steps.{Copy}
use Rattle.im_forwarding.specs.Queries.{no_such_place}
use Rattle.im_forwarding.specs.Results.{AskerView, fin_item}
use Rattle.sm_live.specs.Sessions.{Session, session_of}
use Rattle.sm_live.specs.declared.told.SessionInfo.{SessionInfo}
use Rattle.im_mam.specs.declared.archive_query.MamQuery.{MamQuery}
use Rattle.mam_pages.specs.Cuts.{CutView}
use Rattle.mam_pages.specs.Kept.{kept_by}
use Rattle.mam_pages.specs.PageOf.{page_of}
use Rattle.im_replies.specs.Requests.{EnvelopeView, iq_error_item, items_item, result_item, roster_item}
use Rattle.srv_handlers.specs.Requests.{answering_iq, asked_of, asker_of, at_iq, envelope_of, info_item, paging, querying_in, request_in, request_of, sending_entries, serving}
use Rattle.srv_handlers.specs.declared.request.Request.{Request}
use Rattle.srv_handlers.specs.declared.request.Request.TheVariants as request
use Rattle.im_stanza.specs.Views.{IqView}
use Rattle.xml_trees.specs.Readers.{elements_of}
use Rattle.xml_trees.specs.Trees.{no_nodes}
use Rattle.xml_writer.specs.Items.{ItemOut}

-- ---- addresses

same_bare : {A : Type 0} (account : ℕ) (h u : ServerState A) → h.domain ≡ u.domain → h.accounts ≡ u.accounts → bare_address account h ≡ bare_address account u
same_bare account h u domain accounts =
    ap (λ d. bare_address account (record h { domain = d })) domain ∙ ap (λ all. bare_address account (record h { domain = u.domain; accounts = all })) accounts

same_shown : {A : Type 0} (session : Option (Session A)) (h u : ServerState A) → h.domain ≡ u.domain → h.accounts ≡ u.accounts
    → address_shown (option_map shown_of session) h ≡ address_shown (option_map shown_of session) u
same_shown None h u domain accounts = refl
same_shown (Some session) h u domain accounts = ap (λ bare. bare ++ 47 ∷ session.shown.resource) (same_bare session.shown.account h u domain accounts)

same_full : {A : Type 0} (n : ℕ) (h u : ServerState A) → h.domain ≡ u.domain → h.accounts ≡ u.accounts → session_of n h.sessions ≡ session_of n u.sessions → session_address n h ≡ session_address n u
same_full n h u domain accounts session =
    same_shown (session_of n h.sessions) h u domain accounts ∙ ap (λ s. address_shown (option_map shown_of s) u) session

-- ---- what is asked for

same_request : {A : Type 0} (q : IqView) (t : SessionInfo) (h u : ServerState A) → h.domain ≡ u.domain → bare_address t.account h ≡ bare_address t.account u → request_of q t h ≡ request_of q t u
same_request q t h u domain bare =
    ap (λ b. request_in q.kind (asked_of b h.domain q (elements_of q.payload))) bare ∙ ap (λ d. request_in q.kind (asked_of (bare_address t.account u) d q (elements_of q.payload))) domain

-- ---- answers

same_page : {A : Type 0} (say : ItemOut → A) (q : IqView) (t : SessionInfo) (queryid : List ℕ) (kept : Kept) (cut : Option CutView) (h u : ServerState A) → asker_of t queryid h ≡ asker_of t queryid u
    → envelope_of q t h ≡ envelope_of q t u → paging say q t queryid kept cut h ≡ paging say q t queryid kept cut u
same_page say q t queryid kept None h u asker envelope = ap (λ e. answering_iq say t (iq_error_item e no_such_place)) envelope
same_page say q t queryid kept (Some cut) h u asker envelope =
    ap (λ (a : AskerView). sending_entries say t.number a kept.entries cut.numbers (answering_iq say t (fin_item (envelope_of q t h) cut))) asker
    ∙ ap (λ (e : EnvelopeView). sending_entries say t.number (asker_of t queryid u) kept.entries cut.numbers (answering_iq say t (fin_item e cut))) envelope

same_query : {A : Type 0} (say : ItemOut → A) (q : IqView) (t : SessionInfo) (query : MamQuery) (kept : Option Kept) (h u : ServerState A) → asker_of t query.queryid h ≡ asker_of t query.queryid u
    → envelope_of q t h ≡ envelope_of q t u → querying_in say q t query kept h ≡ querying_in say q t query kept u
same_query say q t query None h u asker envelope = refl
same_query say q t query (Some kept) h u asker envelope = same_page say q t query.queryid kept (page_of (kept_by kept.owner kept.entries) query.query) h u asker envelope

same_asker : {A : Type 0} (t : SessionInfo) (queryid : List ℕ) (h u : ServerState A) → bare_address t.account h ≡ bare_address t.account u → session_address t.number h ≡ session_address t.number u
    → asker_of t queryid h ≡ asker_of t queryid u
same_asker t queryid h u bare full =
    ap (λ by. record { by = by; full = session_address t.number h; queryid = queryid }) bare
    ∙ ap (λ address. record { by = bare_address t.account u; full = address; queryid = queryid }) full

same_served : {A : Type 0} (say : ItemOut → A) (asked : Option Request) (q : IqView) (t : SessionInfo) (h u : ServerState A) → archive_at t.account h ≡ archive_at t.account u
    → bare_address t.account h ≡ bare_address t.account u → session_address t.number h ≡ session_address t.number u → envelope_of q t h ≡ envelope_of q t u
    → serving say asked q t h ≡ serving say asked q t u
same_served say None q t h u archive bare full envelope = refl
same_served say (Some request.Ping) q t h u archive bare full envelope = ap (λ e. answering_iq say t (result_item e no_nodes)) envelope
same_served say (Some (request.Info at_domain)) q t h u archive bare full envelope = ap (λ e. answering_iq say t (info_item at_domain e)) envelope
same_served say (Some (request.Items node)) q t h u archive bare full envelope = ap (λ e. answering_iq say t (items_item node e)) envelope
same_served say (Some request.Roster) q t h u archive bare full envelope = ap (λ e. answering_iq say t (roster_item e)) envelope
same_served say (Some request.Session) q t h u archive bare full envelope = ap (λ e. answering_iq say t (result_item e no_nodes)) envelope
same_served say (Some (request.Carbons on)) q t h u archive bare full envelope = ap (λ e. Copy t.number on ∷ answering_iq say t (result_item e no_nodes)) envelope
same_served say (Some (request.Archive query)) q t h u archive bare full envelope =
    same_query say q t query (archive_at t.account h) h u (same_asker t query.queryid h u bare full) envelope ∙ ap (λ kept. querying_in say q t query kept u) archive
same_served say (Some (request.Refused e)) q t h u archive bare full envelope = ap (λ to. answering_iq say t (iq_error_item to e)) envelope

same_envelope : {A : Type 0} (q : IqView) (t : SessionInfo) (h u : ServerState A) → session_address t.number h ≡ session_address t.number u → envelope_of q t h ≡ envelope_of q t u
same_envelope q t h u full = ap (λ address. record { from = q.to; to = Some address; id = q.id }) full

pub same_answers : {A : Type 0} (say : ItemOut → A) (q : IqView) (t : SessionInfo) (h u : ServerState A) → h.domain ≡ u.domain → h.accounts ≡ u.accounts → archive_at t.account h ≡ archive_at t.account u
    → session_of t.number h.sessions ≡ session_of t.number u.sessions → at_iq say q t h ≡ at_iq say q t u
same_answers say q t h u domain accounts archive session =
    let bare = same_bare t.account h u domain accounts in
    let full = same_full t.number h u domain accounts session in
    same_served say (request_of q t h) q t h u archive bare full (same_envelope q t h u full) ∙ ap (λ asked. serving say asked q t u) (same_request q t h u domain bare)
