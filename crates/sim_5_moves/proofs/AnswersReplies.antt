-- What the server answers to the stanzas of this project's clients is what the server of the applications does.
use Rattle.std.proofs.Common.{◌≡◌, ◌≢◌, ℕ, ◌≤◌, true, List, [], ◌∷◌, Option, Some, None, Ok, codes, map, pos, refl, sym, ap, ◌∙◌, arith}
use Rattle.std.specs.Option.{IfSome, option_map}
use Rattle.mam_archive.specs.Ids.{id_of}
use Rattle.mam_archive.specs.Entries.{EntryView, entry_numbered}
use Rattle.srv_state.specs.State.{Kept, ServerState, archive_at}
use Rattle.srv_state.specs.Steps.{Act, Copy, Present, Send}
use Rattle.im_extensions.specs.Requests.{carbons_switch_elem}
use Rattle.cmd_direct.specs.Direct.{query_after}
use Rattle.im_forwarding.specs.Queries.{no_such_place, query_asked}
use Rattle.im_forwarding.specs.Results.{AskerView, entry_item, fin_item}
use Rattle.sim_5_moves.proofs.Pages.{IsCut, page_read, page_there}
use Rattle.sim_5_devices.proofs.Queries.{query_read}
use Rattle.sim_5_moves.proofs.Sends.{elem_in, sends_elsewhere, sends_here}
use Rattle.sim_5_moves.specs.Around.{IsAround, IsAsked}
use Rattle.sim_5_moves.specs.Sent.{as_it_is, does_on, read_at, sends_to}
use Rattle.sim_3_items.proofs.ItemsDown.{accepted_read}
use Rattle.sim_3_items.specs.Downs.{down_stanza}
use Rattle.sim_3_items.specs.Meant.{requested}
use Rattle.sm_live.specs.declared.told.SessionInfo.{SessionInfo}
use Rattle.im_mam.specs.declared.archive_query.MamQuery.{MamQuery}
use Rattle.mam_pages.specs.Cuts.{CutView}
use Rattle.mam_pages.specs.Kept.{kept_by}
use Rattle.mam_pages.specs.PageOf.{page_of}
use Rattle.im_replies.specs.Requests.{iq_error_item, result_item}
use Rattle.srv_handlers.specs.Requests.{answering_iq, asker_of, envelope_of, paging, query_request, querying_in, request_of, sending_entries, sending_entry, serving}
use Rattle.srv_handlers.specs.declared.request.Request.{Request as RequestSeen}
use Rattle.srv_handlers.specs.declared.request.Request.TheVariants as request
use Rattle.im_requests.specs.Messages.{page_elem, queryid_text}
use Rattle.im_requests.specs.Sessions.{available_item, carbons_item, setting_elem}
use Rattle.sim_1_applications.specs.Answers.{page_answer_of}
use Rattle.sim_1_applications.specs.Events.{Around, reply}
use Rattle.sim_1_applications.specs.Stanzas.{Request}
use Rattle.sim_1_applications.specs.Stanzas.Up.{Carbons, Presence, Query}
use Rattle.sim_1_applications.proofs.AsPages.{answers_pages}
use Rattle.im_stanza.specs.Readings.{stanza_of}
use Rattle.im_stanza.specs.Views.{IqView}
use Rattle.im_stanza.specs.declared.kinds.IqKind.TheVariants as iq
use Rattle.im_stanza.specs.declared.stanzas.Stanza.TheVariants as stanza
use Rattle.srv_core.specs.Stanzas.{handling}
use Rattle.xml_trees.specs.Trees.{Elem, child, no_nodes}
use Rattle.xml_writer.specs.Items.{ItemOut, Whole}

-- ---- requests for pages

abbrev pub page_in : Request → Elem
page_in r = page_elem (queryid_text r.number) (option_map id_of r.after) r.max

abbrev pub request_in : Request → Elem
request_in r = setting_elem (queryid_text r.number) (child (page_in r) no_nodes)

abbrev pub iq_in : Request → IqView
iq_in r = record { from = None; to = None; id = queryid_text r.number; kind = iq.Set; payload = child (page_in r) no_nodes }

pub request_served : (r : Request) (t : SessionInfo) (h : ServerState ItemOut) → does_on (request_in r) t h ≡ serving as_it_is (Some (query_request (query_asked (page_in r)))) (iq_in r) t h
request_served r t h = refl

module _ (a : Around) (t : SessionInfo) (h : ServerState ItemOut) (r : Request) (around : IsAround a t h) (asked : IsAsked a.last r) where
  abbrev pub page : Option CutView
  page = page_of (kept_by around.kept.owner around.kept.entries) (query_after (option_map id_of r.after) r.max)

  pub page_is_there : IfSome page (IsCut around.kept.entries)
  page_is_there = page_there around.most a.last around.kept.entries around.keeps.entries around.kept.owner r.after r.max asked.few asked.position

  -- the page is sent
  pub request_does : (e : Elem) → requested r ≡ Whole e → does_on e t h ≡ paging as_it_is (iq_in r) t (queryid_text r.number) around.kept page h
  request_does e is =
      let query = query_after (option_map id_of r.after) r.max in
      let low : r.max ≤ 100 = asked.few in
      let elem : request_in r ≡ e = ap elem_in is in
      ap (λ x. does_on x t h) (sym elem)
      ∙ ap (λ o. serving as_it_is (Some (query_request o)) (iq_in r) t h) (query_read (queryid_text r.number) r.max (omega (arith, low)) (option_map id_of r.after))
      ∙ ap (λ o. querying_in as_it_is (iq_in r) t (record { queryid = queryid_text r.number; query = query }) o h) around.there

  pub request_answered : (e : Elem) → requested r ≡ Whole e → read_at t.number (does_on e t h) ≡ reply a (Query r)
  request_answered e is =
      let known = around.keeps.entries in
      ap (read_at t.number) (request_does e is)
      ∙ page_read (iq_in r) t (queryid_text r.number) around.kept h r.number asked.number_fits refl refl page page_is_there
      ∙ sym (answers_pages around.most a.last r.number r.max r.after around.kept.owner around.kept.entries known.some known around.keeps.many asked.few asked.position)
      ∙ ap (λ first. page_answer_of first a.last r) (sym around.oldest)

-- ---- the switch of carbons, and presence

abbrev pub iq_of_switch : IqView
iq_of_switch = record { from = None; to = None; id = codes "carbons"; kind = iq.Set; payload = child (carbons_switch_elem (record { on = true })) no_nodes }

-- what is done on it
pub carbons_does : (t : SessionInfo) (h : ServerState ItemOut) (e : Elem) → carbons_item ≡ Whole e → does_on e t h ≡ Copy t.number true ∷ Send t.number (result_item (envelope_of iq_of_switch t h) no_nodes) ∷ []
carbons_does t h e is = ap (λ x. does_on (elem_in x) t h) (sym is)

pub presence_does : (t : SessionInfo) (h : ServerState ItemOut) (e : Elem) → available_item ≡ Whole e → does_on e t h ≡ Present t.number true (pos 0) ∷ []
presence_does t h e is = ap (λ x. does_on (elem_in x) t h) (sym is)

pub carbons_answered : (a : Around) (t : SessionInfo) (h : ServerState ItemOut) (e : Elem) → carbons_item ≡ Whole e → read_at t.number (does_on e t h) ≡ reply a Carbons
carbons_answered a t h e is =
    let z = result_item (envelope_of iq_of_switch t h) no_nodes in
    ap (read_at t.number) (carbons_does t h e is) ∙ ap (map down_stanza) (sends_here t.number z []) ∙ ap (λ x. x ∷ []) (accepted_read (envelope_of iq_of_switch t h))

pub presence_answered : (a : Around) (t : SessionInfo) (h : ServerState ItemOut) (e : Elem) → available_item ≡ Whole e → read_at t.number (does_on e t h) ≡ reply a Presence
presence_answered a t h e is = ap (read_at t.number) (presence_does t h e is)

-- ---- nothing goes to others

module _ (q : IqView) (t : SessionInfo) (h : ServerState ItemOut) (n : ℕ) (other : t.number ≢ n) where
  answers_elsewhere : (z : ItemOut) → sends_to n (answering_iq as_it_is t z) ≡ []
  answers_elsewhere z = sends_elsewhere t.number n z [] other

  entry_elsewhere : (asker : AskerView) (o : Option EntryView) (more : List (Act ItemOut)) → sends_to n more ≡ [] → sends_to n (sending_entry as_it_is t.number asker o more) ≡ []
  entry_elsewhere asker None more none = none
  entry_elsewhere asker (Some e) more none = sends_elsewhere t.number n (entry_item asker e) more other ∙ none

  entries_elsewhere : (asker : AskerView) (entries : List EntryView) (numbers : List ℕ) (more : List (Act ItemOut)) → sends_to n more ≡ [] → sends_to n (sending_entries as_it_is t.number asker entries numbers more) ≡ []
  entries_elsewhere asker entries [] more none = none
  entries_elsewhere asker entries (k ∷ ks) more none =
      entry_elsewhere asker (entry_numbered k entries) (sending_entries as_it_is t.number asker entries ks more) (entries_elsewhere asker entries ks more none)

  page_elsewhere : (queryid : List ℕ) (kept : Kept) (cut : Option CutView) → sends_to n (paging as_it_is q t queryid kept cut h) ≡ []
  page_elsewhere queryid kept None = answers_elsewhere (iq_error_item (envelope_of q t h) no_such_place)
  page_elsewhere queryid kept (Some cut) =
      entries_elsewhere (asker_of t queryid h) kept.entries cut.numbers (answering_iq as_it_is t (fin_item (envelope_of q t h) cut)) (answers_elsewhere (fin_item (envelope_of q t h) cut))

  query_elsewhere : (query : MamQuery) (o : Option Kept) → sends_to n (querying_in as_it_is q t query o h) ≡ []
  query_elsewhere query None = refl
  query_elsewhere query (Some kept) = page_elsewhere query.queryid kept (page_of (kept_by kept.owner kept.entries) query.query)

  serving_elsewhere : (o : Option RequestSeen) → sends_to n (serving as_it_is o q t h) ≡ []
  serving_elsewhere None = refl
  serving_elsewhere (Some request.Ping) = answers_elsewhere _
  serving_elsewhere (Some (request.Info at_domain)) = answers_elsewhere _
  serving_elsewhere (Some (request.Items node)) = answers_elsewhere _
  serving_elsewhere (Some request.Roster) = answers_elsewhere _
  serving_elsewhere (Some request.Session) = answers_elsewhere _
  serving_elsewhere (Some (request.Carbons on)) = answers_elsewhere _
  serving_elsewhere (Some (request.Archive query)) = query_elsewhere query (archive_at t.account h)
  serving_elsewhere (Some (request.Refused e)) = answers_elsewhere _

pub iq_elsewhere : (q : IqView) (e : Elem) (t : SessionInfo) (h : ServerState ItemOut) (n : ℕ) → stanza_of e ≡ Ok (stanza.Iq q) → t.number ≢ n → sends_to n (does_on e t h) ≡ []
iq_elsewhere q e t h n is other = ap (λ r. sends_to n (handling as_it_is r t h)) is ∙ serving_elsewhere q t h n other (request_of q t h)
