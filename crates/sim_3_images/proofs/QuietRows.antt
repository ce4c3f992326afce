-- What stanzas lead to goes to sessions, and touches no connection by itself.
use Rattle.std.proofs.Common.{◌≡◌, ℕ, Bool, true, false, cond, List, [], ◌∷◌, Option, Some, None, Result, Ok, Err, unwrap_or, refl}
use Rattle.std.specs.List.{AllByRecursion}
use Rattle.mam_archive.specs.Entries.{EntryView, entry_numbered}
use Rattle.srv_state.specs.Handling.{counting}
use Rattle.srv_state.specs.State.{Kept, ServerState, archive_at, bare_address, session_address}
use Rattle.srv_state.specs.Steps.{Act, Handle}
use Rattle.im_forwarding.specs.Passed.{addressed}
use Rattle.im_forwarding.specs.Results.{AskerView, fin_item}
use Rattle.sim_3_images.proofs.StepsInOrder.{IsQuiet}
use Rattle.sim_3_items.specs.ItemWorlds.{itself}
use Rattle.sm_live.specs.Sessions.{info_of, number_of}
use Rattle.sm_live.specs.declared.told.SessionInfo.{SessionInfo}
use Rattle.srv_handlers.specs.Messages.{archiving, carrying, copying, copying_to, delivering, delivering_to, is_full_in, messaging, no_room, bouncing, telling}
use Rattle.im_messages.specs.Entries.{entry_of}
use Rattle.im_mam.specs.declared.archive_query.MamQuery.{MamQuery}
use Rattle.mam_pages.specs.Cuts.{CutView}
use Rattle.mam_pages.specs.Kept.{kept_by}
use Rattle.mam_pages.specs.PageOf.{page_of}
use Rattle.srv_handlers.specs.Requests.{answering_iq, asker_of, envelope_of, info_item, paging, querying_in, request_of, sending_entries, sending_entry, serving}
use Rattle.srv_handlers.specs.declared.request.Request.{Request}
use Rattle.srv_handlers.specs.declared.request.Request.TheVariants as request
use Rattle.srv_route.specs.Plans.{plan_of}
use Rattle.srv_route.specs.Routes.{PlanOf, Bounced, Routed, RouteOf, archives_of, plan_renamed}
use Rattle.im_stanza.specs.Views.{IqView, MessageView}
use Rattle.im_stanza.specs.declared.fault.StanzaFault.{StanzaFault}
use Rattle.im_stanza.specs.declared.fault.StanzaFault.TheVariants as fault
use Rattle.im_stanza.specs.declared.kinds.PresenceKind.{PresenceKind}
use Rattle.im_stanza.specs.declared.kinds.PresenceKind.TheVariants.{Available, Unavailable, Error, Other}
use Rattle.im_stanza.specs.declared.stanzas.Presence.{Presence}
use Rattle.im_stanza.specs.declared.stanzas.Stanza.{Stanza}
use Rattle.im_stanza.specs.declared.stanzas.Stanza.TheVariants as stanza
use Rattle.srv_core.specs.Stanzas.{at_bad_to, directing, handling, is_local, presenting, returning}
use Rattle.xml_writer.specs.Items.{ItemOut}
use Rattle.law_xml.specs.Puts.{phase_behind}
use Rattle.xml_framer.specs.declared.states.Phase.{Phase}
use Rattle.xml_framer.specs.declared.states.Phase.TheVariants as phase

module _ (n : ℕ) (start : ℕ → Option Phase) where
  abbrev pub AreQuiet : List (Act ItemOut) → Type 0
  AreQuiet acts = AllByRecursion (IsQuiet n start) acts

  -- ---- messages

  archiving_q : (e : EntryView) (accounts : List ℕ) (more : List (Act ItemOut)) → AreQuiet more → AreQuiet (archiving e accounts more)
  archiving_q e [] more q = q
  archiving_q e (account ∷ accounts) more q = (tt, archiving_q e accounts more q)

  telling_q : (m : MessageView) (accounts : List ℕ) (more : List (Act ItemOut)) → AreQuiet more → AreQuiet (telling m accounts more)
  telling_q m [] more q = q
  telling_q m (account ∷ accounts) more q = (tt, q)

  delivering_to_q : (m : MessageView) (accounts : List ℕ) (i : ℕ) (o : Option SessionInfo) (h : ServerState ItemOut) (more : List (Act ItemOut)) → AreQuiet more → AreQuiet (delivering_to itself m accounts i o h more)
  delivering_to_q m accounts i None h more q = q
  delivering_to_q m accounts i (Some t) h more q = (refl, q)

  delivering_q : (m : MessageView) (accounts numbers : List ℕ) (h : ServerState ItemOut) (more : List (Act ItemOut)) → AreQuiet more → AreQuiet (delivering itself m accounts numbers h more)
  delivering_q m accounts [] h more q = q
  delivering_q m accounts (i ∷ numbers) h more q = delivering_to_q m accounts i (info_of i h.sessions) h (delivering itself m accounts numbers h more) (delivering_q m accounts numbers h more q)

  copying_to_q : (sent : Bool) (m : MessageView) (accounts : List ℕ) (i : ℕ) (o : Option SessionInfo) (h : ServerState ItemOut) (more : List (Act ItemOut)) → AreQuiet more → AreQuiet (copying_to itself sent m accounts i o h more)
  copying_to_q sent m accounts i None h more q = q
  copying_to_q sent m accounts i (Some t) h more q = (refl, q)

  copying_q : (sent : Bool) (m : MessageView) (accounts numbers : List ℕ) (h : ServerState ItemOut) (more : List (Act ItemOut)) → AreQuiet more → AreQuiet (copying itself sent m accounts numbers h more)
  copying_q sent m accounts [] h more q = q
  copying_q sent m accounts (i ∷ numbers) h more q = copying_to_q sent m accounts i (info_of i h.sessions) h (copying itself sent m accounts numbers h more) (copying_q sent m accounts numbers h more q)

  carrying_q : (m : MessageView) (accounts : List ℕ) (r : RouteOf ℕ) (h : ServerState ItemOut) → AreQuiet (carrying itself m accounts r h)
  carrying_q m accounts r h =
      archiving_q (entry_of 0 h.moment m) accounts (telling m accounts (delivering itself m accounts r.deliver h (copying itself true m accounts r.sent h (copying itself false m accounts r.received h []))))
      (telling_q m accounts (delivering itself m accounts r.deliver h (copying itself true m accounts r.sent h (copying itself false m accounts r.received h [])))
      (delivering_q m accounts r.deliver h (copying itself true m accounts r.sent h (copying itself false m accounts r.received h []))
      (copying_q true m accounts r.sent h (copying itself false m accounts r.received h []) (copying_q false m accounts r.received h [] tt))))

  messaging_q : (m : MessageView) (to : List ℕ) (t : SessionInfo) (p : PlanOf ℕ) (h : ServerState ItemOut) → AreQuiet (messaging itself m to t p h)
  messaging_q m to t (Bounced e) h = (refl, tt)
  messaging_q m to t (Routed r) h = by (is_full_in (archives_of r.archiving) h)
    where
      by : (b : Bool) → AreQuiet (cond b (bouncing itself m to no_room t) (carrying itself (addressed (session_address t.number h) to m) (archives_of r.archiving) r h))
      by true = (refl, tt)
      by false = carrying_q (addressed (session_address t.number h) to m) (archives_of r.archiving) r h

  -- ---- requests

  sending_entry_q : (i : ℕ) (asker : AskerView) (o : Option EntryView) (more : List (Act ItemOut)) → AreQuiet more → AreQuiet (sending_entry itself i asker o more)
  sending_entry_q i asker None more q = q
  sending_entry_q i asker (Some e) more q = (refl, q)

  sending_q : (i : ℕ) (asker : AskerView) (entries : List EntryView) (numbers : List ℕ) (more : List (Act ItemOut)) → AreQuiet more → AreQuiet (sending_entries itself i asker entries numbers more)
  sending_q i asker entries [] more q = q
  sending_q i asker entries (number ∷ numbers) more q = sending_entry_q i asker (entry_numbered number entries) (sending_entries itself i asker entries numbers more) (sending_q i asker entries numbers more q)

  paging_q : (q : IqView) (t : SessionInfo) (queryid : List ℕ) (kept : Kept) (o : Option CutView) (h : ServerState ItemOut) → AreQuiet (paging itself q t queryid kept o h)
  paging_q q t queryid kept None h = (refl, tt)
  paging_q q t queryid kept (Some cut) h = sending_q t.number (asker_of t queryid h) kept.entries cut.numbers (answering_iq itself t (fin_item (envelope_of q t h) cut)) (refl, tt)

  querying_q : (q : IqView) (t : SessionInfo) (query : MamQuery) (o : Option Kept) (h : ServerState ItemOut) → AreQuiet (querying_in itself q t query o h)
  querying_q q t query None h = tt
  querying_q q t query (Some kept) h = paging_q q t query.queryid kept (page_of (kept_by kept.owner kept.entries) query.query) h

  info_word : (b : Bool) (q : IqView) (t : SessionInfo) (h : ServerState ItemOut) → phase_behind (info_item b (envelope_of q t h)) ≡ phase.Between
  info_word true q t h = refl
  info_word false q t h = refl

  serving_q : (o : Option Request) (q : IqView) (t : SessionInfo) (h : ServerState ItemOut) → AreQuiet (serving itself o q t h)
  serving_q None q t h = tt
  serving_q (Some request.Ping) q t h = (refl, tt)
  serving_q (Some (request.Info at_domain)) q t h = (info_word at_domain q t h, tt)
  serving_q (Some (request.Items node)) q t h = (refl, tt)
  serving_q (Some request.Roster) q t h = (refl, tt)
  serving_q (Some request.Session) q t h = (refl, tt)
  serving_q (Some (request.Carbons on)) q t h = (tt, (refl, tt))
  serving_q (Some (request.Archive query)) q t h = querying_q q t query (archive_at t.account h) h
  serving_q (Some (request.Refused e)) q t h = (refl, tt)

  -- ---- stanzas

  returning_q : (kind : PresenceKind) (to : List ℕ) (p : Presence) (t : SessionInfo) → AreQuiet (returning itself kind to p t)
  returning_q Available to p t = (refl, tt)
  returning_q Unavailable to p t = tt
  returning_q Error to p t = tt
  returning_q Other to p t = (refl, tt)

  directing_q : (here : Bool) (kind : PresenceKind) (to : List ℕ) (p : Presence) (t : SessionInfo) → AreQuiet (directing itself here kind to p t)
  directing_q true kind to p t = tt
  directing_q false kind to p t = returning_q kind to p t

  presenting_q : (o : Option (List ℕ)) (kind : PresenceKind) (p : Presence) (t : SessionInfo) (h : ServerState ItemOut) → AreQuiet (presenting itself o kind p t h)
  presenting_q (Some to) kind p t h = directing_q (is_local to h) kind to p t
  presenting_q None Available p t h = (tt, tt)
  presenting_q None Unavailable p t h = (tt, tt)
  presenting_q None Error p t h = tt
  presenting_q None Other p t h = tt

  bad_to_q : (message reply : Bool) (id to : List ℕ) (t : SessionInfo) (h : ServerState ItemOut) → AreQuiet (at_bad_to itself message reply id to t h)
  bad_to_q message false id to t h = tt
  bad_to_q true true id to t h = (refl, tt)
  bad_to_q false true id to t h = (refl, tt)

  handling_q : (read : Result Stanza StanzaFault) (t : SessionInfo) (h : ServerState ItemOut) → AreQuiet (handling itself read t h)
  handling_q (Ok (stanza.Message m)) t h = messaging_q m (unwrap_or m.to (bare_address t.account h)) t (plan_renamed number_of (plan_of h.domain h.accounts h.sessions m t)) h
  handling_q (Ok (stanza.Presence p)) t h = presenting_q p.to p.kind p t h
  handling_q (Ok (stanza.Iq q)) t h = serving_q (request_of q t h) q t h
  handling_q (Err (fault.BadTo message reply from id to)) t h = bad_to_q message reply id to t h
  handling_q (Err why) t h = tt

  pub counted_q : (read : Result Stanza StanzaFault) (t : SessionInfo) (h : ServerState ItemOut) → AreQuiet (counting t (handling itself read t h))
  counted_q read t h = by t.counted
    where
      by : (b : Bool) → AreQuiet (cond b (Handle t.number ∷ handling itself read t h) (handling itself read t h))
      by true = (tt, handling_q read t h)
      by false = handling_q read t h
