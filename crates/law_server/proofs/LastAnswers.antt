-- The last act of a request is its answer.
use Rattle.std.proofs.Common.{◌≡◌, ℕ, Bool, true, false, List, [], ◌∷◌, Option, Some, None, ap, refl, subst, sym}
use Rattle.std.proofs.lemmas.Bool.{false≢true}
use Rattle.std.specs.Option.{IsSome}
use Rattle.mam_archive.specs.Entries.{EntryView, entry_numbered}
use Rattle.srv_state.specs.State.{Kept, ServerState, archive_at, bare_address}
use Rattle.srv_state.specs.Steps.{Act, Copy, Send}
use Rattle.im_forwarding.specs.Queries.{no_such_place}
use Rattle.im_forwarding.specs.Results.{AskerView, entry_item, fin_item}
use Rattle.sm_live.specs.declared.told.SessionInfo.{SessionInfo}
use Rattle.im_mam.specs.declared.archive_query.MamQuery.{MamQuery}
use Rattle.mam_pages.specs.Cuts.{CutView}
use Rattle.mam_pages.specs.Kept.{kept_by}
use Rattle.mam_pages.specs.PageOf.{page_of}
use Rattle.im_replies.specs.Requests.{EnvelopeView, iq_error_item, items_item, result_item, roster_item}
use Rattle.law_server.specs.Answering.{IsAnswer, a_result, an_error, IsAnswered}
use Rattle.srv_handlers.specs.Requests.{answering_iq, asked_of, asker_of, at_iq, envelope_of, info_item, paging, querying_in, request_in, request_of, sending_entries, sending_entry, serving}
use Rattle.srv_handlers.specs.declared.request.Request.{Request}
use Rattle.srv_handlers.specs.declared.request.Request.TheVariants as request
use Rattle.im_stanza.specs.Views.{IqView}
use Rattle.im_stanza.specs.declared.kinds.IqKind.TheVariants as iq
use Rattle.xml_trees.specs.Readers.{elements_of}
use Rattle.xml_trees.specs.Trees.{no_nodes}
use Rattle.xml_writer.specs.Items.{ItemOut}

answer_alone : {A : Type 0} (say : ItemOut → A) (n : ℕ) (envelope : EnvelopeView) (item : ItemOut) → IsAnswer envelope item → IsAnswered say n envelope (Send n (say item) ∷ [])
answer_alone say n envelope item is = record { front = []; item = item; last = refl; answers = is }

-- something comes before
answer_after : {A : Type 0} (say : ItemOut → A) (n : ℕ) (envelope : EnvelopeView) (act : Act A) (acts : List (Act A)) → IsAnswered say n envelope acts → IsAnswered say n envelope (act ∷ acts)
answer_after say n envelope act acts is = record { front = act ∷ is.front; item = is.item; last = ap (λ l. act ∷ l) is.last; answers = is.answers }

entry_answered : {A : Type 0} (say : ItemOut → A) (n : ℕ) (envelope : EnvelopeView) (asker : AskerView) (found : Option EntryView) (more : List (Act A)) → IsAnswered say n envelope more
    → IsAnswered say n envelope (sending_entry say n asker found more)
entry_answered say n envelope asker None more is = is
entry_answered say n envelope asker (Some e) more is = answer_after say n envelope (Send n (say (entry_item asker e))) more is

entries_answered : {A : Type 0} (say : ItemOut → A) (n : ℕ) (envelope : EnvelopeView) (asker : AskerView) (entries : List EntryView) (numbers : List ℕ) (more : List (Act A)) → IsAnswered say n envelope more
    → IsAnswered say n envelope (sending_entries say n asker entries numbers more)
entries_answered say n envelope asker entries [] more is = is
entries_answered say n envelope asker entries (number ∷ numbers) more is =
    entry_answered say n envelope asker (entry_numbered number entries) (sending_entries say n asker entries numbers more) (entries_answered say n envelope asker entries numbers more is)

page_answered : {A : Type 0} (say : ItemOut → A) (q : IqView) (t : SessionInfo) (queryid : List ℕ) (kept : Kept) (cut : Option CutView) (h : ServerState A)
    → IsAnswered say t.number (envelope_of q t h) (paging say q t queryid kept cut h)
page_answered say q t queryid kept None h = answer_alone say t.number (envelope_of q t h) (iq_error_item (envelope_of q t h) no_such_place) (an_error no_such_place refl)
page_answered say q t queryid kept (Some cut) h =
    entries_answered say t.number (envelope_of q t h) (asker_of t queryid h) kept.entries cut.numbers (answering_iq say t (fin_item (envelope_of q t h) cut))
    (answer_alone say t.number (envelope_of q t h) (fin_item (envelope_of q t h) cut) (a_result _ refl))

query_answered : {A : Type 0} (say : ItemOut → A) (q : IqView) (t : SessionInfo) (query : MamQuery) (kept : Option Kept) (h : ServerState A) → IsSome kept
    → IsAnswered say t.number (envelope_of q t h) (querying_in say q t query kept h)
query_answered say q t query None h some = absurd (false≢true some)
query_answered say q t query (Some kept) h some = page_answered say q t query.queryid kept (page_of (kept_by kept.owner kept.entries) query.query) h

info_answered : (envelope : EnvelopeView) (at_domain : Bool) → IsAnswer envelope (info_item at_domain envelope)
info_answered envelope true = a_result _ refl
info_answered envelope false = a_result _ refl

served_answered : {A : Type 0} (say : ItemOut → A) (asked : Request) (q : IqView) (t : SessionInfo) (h : ServerState A) → IsSome (archive_at t.account h)
    → IsAnswered say t.number (envelope_of q t h) (serving say (Some asked) q t h)
served_answered say request.Ping q t h some = answer_alone say t.number (envelope_of q t h) (result_item (envelope_of q t h) no_nodes) (a_result no_nodes refl)
served_answered say (request.Info at_domain) q t h some = answer_alone say t.number (envelope_of q t h) (info_item at_domain (envelope_of q t h)) (info_answered (envelope_of q t h) at_domain)
served_answered say (request.Items node) q t h some = answer_alone say t.number (envelope_of q t h) (items_item node (envelope_of q t h)) (a_result _ refl)
served_answered say request.Roster q t h some = answer_alone say t.number (envelope_of q t h) (roster_item (envelope_of q t h)) (a_result _ refl)
served_answered say request.Session q t h some = answer_alone say t.number (envelope_of q t h) (result_item (envelope_of q t h) no_nodes) (a_result no_nodes refl)
served_answered say (request.Carbons on) q t h some =
    answer_after say t.number (envelope_of q t h) (Copy t.number on) (answering_iq say t (result_item (envelope_of q t h) no_nodes))
    (answer_alone say t.number (envelope_of q t h) (result_item (envelope_of q t h) no_nodes) (a_result no_nodes refl))
served_answered say (request.Archive query) q t h some = query_answered say q t query (archive_at t.account h) h some
served_answered say (request.Refused e) q t h some = answer_alone say t.number (envelope_of q t h) (iq_error_item (envelope_of q t h) e) (an_error e refl)

-- what a `get` or a `set` asks for
abbrev asked_in : {A : Type 0} → IqView → SessionInfo → ServerState A → Request
asked_in q t h = asked_of (bare_address t.account h) h.domain q (elements_of q.payload)

pub get_answered : {A : Type 0} (say : ItemOut → A) (q : IqView) (t : SessionInfo) (h : ServerState A) → IsSome (archive_at t.account h) → q.kind ≡ iq.Get → IsAnswered say t.number (envelope_of q t h) (at_iq say q t h)
get_answered say q t h some is =
    let asks : request_of q t h ≡ Some (asked_in q t h) = ap (λ k. request_in k (asked_in q t h)) is in
    subst (λ o. IsAnswered say t.number (envelope_of q t h) (serving say o q t h)) (sym asks) (served_answered say (asked_in q t h) q t h some)

pub set_answered : {A : Type 0} (say : ItemOut → A) (q : IqView) (t : SessionInfo) (h : ServerState A) → IsSome (archive_at t.account h) → q.kind ≡ iq.Set → IsAnswered say t.number (envelope_of q t h) (at_iq say q t h)
set_answered say q t h some is =
    let asks : request_of q t h ≡ Some (asked_in q t h) = ap (λ k. request_in k (asked_in q t h)) is in
    subst (λ o. IsAnswered say t.number (envelope_of q t h) (serving say o q t h)) (sym asks) (served_answered say (asked_in q t h) q t h some)

pub result_unanswered : {A : Type 0} (say : ItemOut → A) (q : IqView) (t : SessionInfo) (h : ServerState A) → q.kind ≡ iq.Result → at_iq say q t h ≡ []
result_unanswered say q t h is = ap (λ k. serving say (request_in k (asked_in q t h)) q t h) is

pub error_unanswered : {A : Type 0} (say : ItemOut → A) (q : IqView) (t : SessionInfo) (h : ServerState A) → q.kind ≡ iq.Error → at_iq say q t h ≡ []
error_unanswered say q t h is = ap (λ k. serving say (request_in k (asked_in q t h)) q t h) is
