-- What the server's row sends for a page request of its session's account: the page's entries, and its end.
use Rattle.std.proofs.Common.{◌≡◌, ℕ, ◌-◌, ◌≤◌, List, [], ◌∷◌, ◌++◌, Option, Some, None, map, refl, sym, ap, ap₂, ◌∙◌, arith, if◌then◌else◌}
use Rattle.cmd_direct.specs.Direct.{query_after}
use Rattle.im_forwarding.specs.Queries.{query_asked}
use Rattle.im_forwarding.specs.Results.{AskerView, entry_item, fin_item}
use Rattle.im_mam.specs.declared.archive_query.MamQuery.{MamQuery}
use Rattle.im_replies.specs.Requests.{EnvelopeView}
use Rattle.im_requests.specs.Messages.{page_elem, page_item, queryid_text}
use Rattle.im_requests.specs.Sessions.{setting_elem}
use Rattle.im_stanza.specs.Readings.{stanza_of}
use Rattle.im_stanza.specs.Views.{IqView}
use Rattle.im_stanza.specs.declared.kinds.IqKind.TheVariants as iq
use Rattle.mam_archive.specs.Entries.{EntryView}
use Rattle.mam_pages.specs.Cuts.{CutView}
use Rattle.mam_pages.specs.Kept.{kept_by}
use Rattle.mam_pages.specs.PageOf.{page_of}
use Rattle.sim_1_applications.specs.Reported.{entries_at}
use Rattle.sim_2_links.proofs.Entries.{same_number}
use Rattle.sim_3_items.specs.ItemWorlds.{itself}
use Rattle.sim_5_devices.proofs.Entries.{at_first}
use Rattle.sim_5_devices.proofs.Queries.{query_read}
use Rattle.sim_5_devices.specs.Exchanges.{Serves, all_sent, answers_to}
use Rattle.sim_5_devices.specs.Shown.{AreGiven}
use Rattle.sm_live.specs.declared.told.SessionInfo.{SessionInfo}
use Rattle.srv_core.specs.Stanzas.{handling}
use Rattle.srv_handlers.specs.Requests.{answering_iq, asker_of, envelope_of, paging, query_request, querying_in, sending_entries, sending_entry, serving}
use Rattle.srv_state.specs.State.{Kept, ServerState}
use Rattle.srv_state.specs.Steps.{Act, Send}
use Rattle.xml_trees.specs.Trees.{Elem, child, no_nodes}
use Rattle.xml_writer.specs.Items.{ItemOut}

sent_here : (n : ℕ) (z : ItemOut) (acts : List (Act ItemOut)) → all_sent n (Send n z ∷ acts) ≡ z ∷ all_sent n acts
sent_here n z acts = ap (λ b. (if b then z ∷ [] else []) ++ all_sent n acts) (same_number n)

-- each entry of the page is sent
entries_sent : (n : ℕ) (asker : AskerView) (entries : List EntryView) (ns : List ℕ) (more : List (Act ItemOut)) → AreGiven entries ns
    → all_sent n (sending_entries itself n asker entries ns more) ≡ map (entry_item asker) (entries_at entries ns) ++ all_sent n more
entries_sent n asker entries [] more given = refl
entries_sent n asker entries (k ∷ ks) more given =
    let rest = sending_entries itself n asker entries ks more in
    ap (λ o. all_sent n (sending_entry itself n asker o rest)) given.0.there
    ∙ sent_here n (entry_item asker given.0.entry) rest
    ∙ ap (λ zs. entry_item asker given.0.entry ∷ zs) (entries_sent n asker entries ks more given.1)
    ∙ ap (λ es. map (entry_item asker) es ++ all_sent n more) (sym (at_first entries k ks given.0))

abbrev pub request_elem : ℕ → Option (List ℕ) → ℕ → Elem
request_elem q after most = page_elem (queryid_text q) after most

abbrev pub request_iq : ℕ → Option (List ℕ) → ℕ → IqView
request_iq q after most = record { from = None; to = None; id = queryid_text q; kind = iq.Set; payload = child (request_elem q after most) no_nodes }

served : (q : ℕ) (after : Option (List ℕ)) (most : ℕ) (t : SessionInfo) (h : ServerState ItemOut)
    → handling itself (stanza_of (setting_elem (queryid_text q) (child (request_elem q after most) no_nodes))) t h ≡ serving itself (Some (query_request (query_asked (request_elem q after most)))) (request_iq q after most) t h
served q after most t h = refl

-- who asked, and to whom the end of the page goes
abbrev pub asker : List ℕ → List ℕ → ℕ → AskerView
asker bare full q = record { by = bare; full = full; queryid = queryid_text q }

abbrev pub envelope : List ℕ → ℕ → EnvelopeView
envelope full q = record { from = None; to = Some full; id = queryid_text q }

pub answers_are : (bare full : List ℕ) (kept : Kept) (t : SessionInfo) (h : ServerState ItemOut) (q most : ℕ) (after : Option (List ℕ)) (cut : CutView) → Serves bare full kept t h → most ≤ 100
    → page_of (kept_by kept.owner kept.entries) (query_after after most) ≡ Some cut → AreGiven kept.entries cut.numbers
    → answers_to (page_item (queryid_text q) after most) t h ≡ map (entry_item (asker bare full q)) (entries_at kept.entries cut.numbers) ++ fin_item (envelope full q) cut ∷ []
answers_are bare full kept t h q most after cut serves small page given =
    let n = t.number in
    let v = request_iq q after most in
    let query : MamQuery = record { queryid = queryid_text q; query = query_after after most } in
    let own : AskerView = asker_of t (queryid_text q) h in
    ap (all_sent n) (served q after most t h)
    ∙ ap (λ o. all_sent n (serving itself (Some (query_request o)) v t h)) (query_read (queryid_text q) most (omega arith) after)
    ∙ ap (λ o. all_sent n (querying_in itself v t query o h)) serves.archive
    ∙ ap (λ o. all_sent n (paging itself v t (queryid_text q) kept o h)) page
    ∙ entries_sent n own kept.entries cut.numbers (answering_iq itself t (fin_item (envelope_of v t h) cut)) given
    ∙ ap (λ zs. map (entry_item own) (entries_at kept.entries cut.numbers) ++ zs) (sent_here n (fin_item (envelope_of v t h) cut) [])
    ∙ ap₂ (λ by to. map (entry_item (asker by to q)) (entries_at kept.entries cut.numbers) ++ fin_item (envelope to q) cut ∷ []) serves.bare_is serves.full_is
