-- What is said of requests can be answered.
use Rattle.std.proofs.Common.{◌≡◌, ℕ, Bool, true, false, List, [], ◌∷◌, codes, bytes_eq, Option, Some, None, Result, Ok, Err, refl, sym, ap, subst, ◌∙◌, arith}
use Rattle.std.proofs.lemmas.Option.{same_Some}
use Rattle.std.proofs.lemmas.Slice.Eq.{bytes_eq-Decides}
use Rattle.mam_archive.specs.Entries.{EntryView, entry_numbered}
use Rattle.mam_archive.specs.Ids.{id_of}
use Rattle.base_lemmas.proofs.HexDigits.{length-hex16_of}
use Rattle.law_limits.specs.Answerable.{IsAnswerable}
use Rattle.sim_3_images.proofs.AnsweredItems.{message_answers}
use Rattle.sim_3_images.proofs.AnsweredReplies.{refusal_answers, result_answers}
use Rattle.sim_3_images.proofs.AnsweredSteps.{ActsAnswer}
use Rattle.sim_3_images.specs.Relayable.{IsAnswered}
use Rattle.srv_state.specs.State.{Kept, ServerState, archive_at}
use Rattle.srv_state.specs.Steps.{Act}
use Rattle.im_extensions.specs.ForwardReadings.{forward_read}
use Rattle.im_extensions.specs.Forwarding.{the_forwarded}
use Rattle.im_extensions.specs.declared.forwarding.Forwarded.{Forwarded}
use Rattle.im_forwarding.specs.Queries.{no_such_place}
use Rattle.im_forwarding.specs.Results.{AskerView, archived_result, entry_elem, fin_item}
use Rattle.sim_3_items.specs.ItemWorlds.{itself}
use Rattle.sm_live.specs.declared.told.SessionInfo.{SessionInfo}
use Rattle.im_mam.specs.Readings.{result_read, result_with}
use Rattle.im_mam.specs.declared.archive_answers.MamResult.{MamResult}
use Rattle.im_mam.specs.declared.archive_query.MamQuery.{MamQuery}
use Rattle.mam_pages.specs.Cuts.{CutView}
use Rattle.mam_pages.specs.Kept.{kept_by}
use Rattle.mam_pages.specs.PageOf.{page_of}
use Rattle.im_payload.specs.Names.{archive}
use Rattle.im_payload.specs.Shapes.{attr_or_empty}
use Rattle.im_payload.specs.declared.fault.ExtFault.{ExtFault}
use Rattle.srv_handlers.specs.Requests.{answering_iq, asker_of, envelope_of, info_item, paging, querying_in, sending_entries, sending_entry, serving}
use Rattle.srv_handlers.specs.declared.request.Request.{Request}
use Rattle.srv_handlers.specs.declared.request.Request.TheVariants as request
use Rattle.law_limits.specs.Bounds.{IsTextWithin, most_id}
use Rattle.law_limits.proofs.Readings.{this_is}
use Rattle.law_limits.proofs.Numerals.{said_hex}
use Rattle.im_stanza.specs.Views.{IqView}
use Rattle.xml_trees.specs.Readers.{first_named, is_named}
use Rattle.xml_trees.specs.Trees.{Elem, child, name_of, namespace_of, no_nodes}
use Rattle.xml_writer.specs.Items.{ItemOut}

-- ---- results of an archive

id_within : (n : ℕ) → IsTextWithin most_id (id_of n)
id_within n = let said = said_hex n in let long = length-hex16_of n in record { characters = said.characters; short = omega (arith, long) }

with_id : (queryid id : List ℕ) (x : Result Forwarded ExtFault) (r : MamResult) → result_with queryid (Some id) x ≡ Ok r → id ≡ r.id
with_id queryid id (Ok f) r is = cc
with_id queryid id (Err why) r is = absurd cc

is_result_named : (e : Elem) → bytes_eq (namespace_of e) archive ≡ true → bytes_eq (name_of e) (codes "result") ≡ true → first_named archive (codes "result") (child e no_nodes) ≡ Some e
is_result_named e a b = rw (a, b) refl

pub entry_answers : (a : AskerView) (e : EntryView) → IsAnswerable (entry_elem a e)
entry_answers a e = message_answers (entry_elem a e) refl refl refl (λ given r found reads.
    let same : archived_result a.queryid e ≡ given = same_Some (archived_result a.queryid e) given (sym (is_result_named (archived_result a.queryid e) ((bytes_eq-Decides archive archive).1 refl) refl) ∙ found) in
    let one = archived_result a.queryid e in
    let queryid = attr_or_empty (codes "queryid") one in
    let inside = forward_read None (the_forwarded one) in
    let read = (this_is (is_named archive (codes "result") one) (result_with queryid (Some (id_of e.number)) inside) r (ap result_read same ∙ reads)).1 in
    subst (IsTextWithin most_id) (with_id queryid (id_of e.number) inside r read) (id_within e.number))

-- ---- requests

sending_entry_answers : (i : ℕ) (asker : AskerView) (o : Option EntryView) (more : List (Act ItemOut)) → ActsAnswer more → ActsAnswer (sending_entry itself i asker o more)
sending_entry_answers i asker None more q = q
sending_entry_answers i asker (Some e) more q = (entry_answers asker e, q)

sending_answers : (i : ℕ) (asker : AskerView) (entries : List EntryView) (numbers : List ℕ) (more : List (Act ItemOut)) → ActsAnswer more → ActsAnswer (sending_entries itself i asker entries numbers more)
sending_answers i asker entries [] more q = q
sending_answers i asker entries (number ∷ numbers) more q = sending_entry_answers i asker (entry_numbered number entries) (sending_entries itself i asker entries numbers more) (sending_answers i asker entries numbers more q)

paging_answers : (q : IqView) (t : SessionInfo) (queryid : List ℕ) (kept : Kept) (o : Option CutView) (h : ServerState ItemOut) → ActsAnswer (paging itself q t queryid kept o h)
paging_answers q t queryid kept None h = (refusal_answers (envelope_of q t h).from (envelope_of q t h).to (envelope_of q t h).id no_such_place, tt)
paging_answers q t queryid kept (Some cut) h = sending_answers t.number (asker_of t queryid h) kept.entries cut.numbers (answering_iq itself t (fin_item (envelope_of q t h) cut)) (result_answers (envelope_of q t h) _, tt)

querying_answers : (q : IqView) (t : SessionInfo) (query : MamQuery) (o : Option Kept) (h : ServerState ItemOut) → ActsAnswer (querying_in itself q t query o h)
querying_answers q t query None h = tt
querying_answers q t query (Some kept) h = paging_answers q t query.queryid kept (page_of (kept_by kept.owner kept.entries) query.query) h

info_answers : (b : Bool) (q : IqView) (t : SessionInfo) (h : ServerState ItemOut) → IsAnswered (info_item b (envelope_of q t h))
info_answers true q t h = result_answers (envelope_of q t h) _
info_answers false q t h = result_answers (envelope_of q t h) _

pub serving_answers : (o : Option Request) (q : IqView) (t : SessionInfo) (h : ServerState ItemOut) → ActsAnswer (serving itself o q t h)
serving_answers None q t h = tt
serving_answers (Some request.Ping) q t h = (result_answers (envelope_of q t h) _, tt)
serving_answers (Some (request.Info at_domain)) q t h = (info_answers at_domain q t h, tt)
serving_answers (Some (request.Items node)) q t h = (result_answers (envelope_of q t h) _, tt)
serving_answers (Some request.Roster) q t h = (result_answers (envelope_of q t h) _, tt)
serving_answers (Some request.Session) q t h = (result_answers (envelope_of q t h) _, tt)
serving_answers (Some (request.Carbons on)) q t h = (tt, (result_answers (envelope_of q t h) _, tt))
serving_answers (Some (request.Archive query)) q t h = querying_answers q t query (archive_at t.account h) h
serving_answers (Some (request.Refused e)) q t h = (refusal_answers (envelope_of q t h).from (envelope_of q t h).to (envelope_of q t h).id e, tt)
