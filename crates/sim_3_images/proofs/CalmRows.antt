-- The rows that bind no session and resume none.
use Rattle.std.proofs.Common.{ℕ, Bool, true, false, cond, List, [], ◌∷◌, Option, Some, None, Result, Ok, Err}
use Rattle.std.specs.Option.{option_map, unwrap_or}
use Rattle.sm_acks.specs.declared.end.TooHigh.{TooHigh as TooHighCount}
use Rattle.mam_archive.specs.Entries.{EntryView, entry_numbered}
use Rattle.srv_state.specs.Logins.{answering, at_challenge, at_login, at_login_other, beginning, failing, negotiation_at}
use Rattle.srv_state.specs.State.{Kept, ServerState, archive_at, bare_address, session_address}
use Rattle.srv_state.specs.Steps as steps
use Rattle.srv_state.specs.Steps.{Act}
use Rattle.srv_state.specs.Streams.{answering_header, at_any, at_header, awaits_header, ending, ending_in, field_condition, header_condition, header_in, opening}
use Rattle.srv_state.specs.declared.connection.Stage.{Stage}
use Rattle.srv_state.specs.declared.connection.Stage.TheVariants as stage
use Rattle.srv_state.specs.declared.connection.Standing.{Standing}
use Rattle.srv_state.specs.declared.connection.Tries.{Tries}
use Rattle.srv_state.specs.declared.connection.Tries.TheVariants as tries
use Rattle.srv_state.specs.declared.word.Word.{Word}
use Rattle.srv_state.specs.declared.word.Word.TheVariants as word
use Rattle.im_forwarding.specs.Passed.{addressed}
use Rattle.im_forwarding.specs.Results.{AskerView, fin_item}
use Rattle.sm_live.specs.Sessions.{ack_answer, info_of, number_of, session_of}
use Rattle.sm_live.specs.declared.told.SessionInfo.{SessionInfo}
use Rattle.srv_login.specs.Headers.{header_answer}
use Rattle.srv_login.specs.Negotiations.{LoginView, auth_answer, final_answer}
use Rattle.srv_login.specs.declared.header_judgement.HeaderAnswer.{HeaderAnswer}
use Rattle.srv_login.specs.declared.header_judgement.HeaderAnswer.TheVariants.{Opens, Refused}
use Rattle.srv_login.specs.declared.negotiation.AuthAnswer.{AuthAnswer}
use Rattle.srv_login.specs.declared.negotiation.AuthAnswer.TheVariants as auth
use Rattle.srv_login.specs.declared.sasl_condition.SaslCondition.{SaslCondition}
use Rattle.srv_login.specs.declared.sasl_condition.SaslCondition.TheVariants.{Aborted}
use Rattle.im_mam.specs.declared.archive_query.MamQuery.{MamQuery}
use Rattle.srv_handlers.specs.Messages.{archiving, carrying, copying, copying_to, delivering, delivering_to, is_full_in, messaging, telling}
use Rattle.im_messages.specs.Entries.{entry_of}
use Rattle.xml_names.specs.declared.headers.Header.{Header}
use Rattle.mam_pages.specs.Cuts.{CutView}
use Rattle.mam_pages.specs.Kept.{kept_by}
use Rattle.mam_pages.specs.PageOf.{page_of}
use Rattle.im_replies.specs.declared.conditions.StreamCondition.{StreamCondition}
use Rattle.im_replies.specs.declared.conditions.StreamCondition.TheVariants as stream
use Rattle.srv_handlers.specs.Requests.{answering_iq, asker_of, envelope_of, paging, querying_in, request_of, sending_entries, sending_entry, serving}
use Rattle.srv_handlers.specs.declared.request.Request.{Request}
use Rattle.srv_handlers.specs.declared.request.Request.TheVariants as request
use Rattle.srv_route.specs.Plans.{plan_of}
use Rattle.srv_route.specs.Routes.{Bounced, PlanOf, RouteOf, Routed, archives_of, plan_renamed}
use Rattle.srv_handlers.specs.Managements.{acknowledging}
use Rattle.srv_handlers.specs.Resumptions.{asking, saying}
use Rattle.im_stanza.specs.Views.{IqView, MessageView}
use Rattle.im_stanza.specs.declared.fault.StanzaFault.{StanzaFault}
use Rattle.im_stanza.specs.declared.fault.StanzaFault.TheVariants as fault
use Rattle.im_stanza.specs.declared.kinds.PresenceKind.{PresenceKind}
use Rattle.im_stanza.specs.declared.kinds.PresenceKind.TheVariants.{Available, Unavailable, Error, Other}
use Rattle.im_stanza.specs.declared.stanzas.Presence.{Presence}
use Rattle.im_stanza.specs.declared.stanzas.Stanza.{Stanza}
use Rattle.im_stanza.specs.declared.stanzas.Stanza.TheVariants as stanza
use Rattle.srv_core.specs.Ready.{at_bound}
use Rattle.srv_core.specs.Stanzas.{at_bad_to, at_stanza, directing, handling, is_local, judging, presenting, returning, stanza_condition}
use Rattle.xml_writer.specs.Items.{ItemOut}

-- none of these acts binds or resumes
abbrev pub calm : {A : Type 0} → Act A → Type 0 → Type 0
calm (steps.Bind account resource k) More = ⊥
calm (steps.Resume previd account h k) More = ⊥
calm a More = More

abbrev pub Calm : {A : Type 0} → List (Act A) → Type 0
Calm [] = Unit {0}
Calm (a ∷ acts) = calm a (Calm acts)

module _ {A : Type 0} (say : ItemOut → A) where
  either : (b : Bool) (x y : List (Act A)) → Calm x → Calm y → Calm (cond b x y)
  either true x y here there = here
  either false x y here there = there

  -- ---- ends

  ending_calm : (k : ℕ) (c : StreamCondition) (s : Stage) (entropy : List ℕ) (h : ServerState A) → Calm (ending_in say k c s entropy h)
  ending_calm k c stage.Start entropy h = tt
  ending_calm k c stage.Login entropy h = tt
  ending_calm k c stage.Challenge entropy h = tt
  ending_calm k c (stage.Restart account) entropy h = tt
  ending_calm k c (stage.Ready account) entropy h = tt

  pub calm_ending : (k : ℕ) (c : StreamCondition) (st : Standing) (h : ServerState A) → Calm (ending say k c st h)
  calm_ending k c st h = ending_calm k c st.stage st.entropy h

  pub calm_any : (k : ℕ) (w : Word) (st : Standing) (h : ServerState A) → Calm (at_any say k w st h)
  calm_any k word.BadField st h = calm_ending k stream.BadFormat st h
  calm_any k (word.Auth e bad) st h = calm_ending k (field_condition bad) st h
  calm_any k (word.Response e bad) st h = calm_ending k (field_condition bad) st h
  calm_any k word.StreamError st h = tt
  calm_any k w st h = calm_ending k stream.UnsupportedStanzaType st h

  -- ---- headers

  opening_calm : (k : ℕ) (entropy : List ℕ) (s : Stage) (h : ServerState A) → Calm (opening say k entropy s h)
  opening_calm k entropy stage.Start h = tt
  opening_calm k entropy stage.Login h = tt
  opening_calm k entropy stage.Challenge h = tt
  opening_calm k entropy (stage.Restart account) h = tt
  opening_calm k entropy (stage.Ready account) h = tt

  answering_calm : (k : ℕ) (st : Standing) (a : HeaderAnswer) (h : ServerState A) → Calm (answering_header say k st a h)
  answering_calm k st Opens h = opening_calm k st.entropy st.stage h
  answering_calm k st (Refused why) h = calm_ending k (header_condition why) st h

  header_calm : (k : ℕ) (header : Header) (st : Standing) (b : Bool) (h : ServerState A) → Calm (header_in say k header st b h)
  header_calm k header st true h = answering_calm k st (header_answer h.domain header) h
  header_calm k header st false h = calm_ending k stream.UnsupportedStanzaType st h

  pub calm_header : (k : ℕ) (header : Header) (st : Standing) (h : ServerState A) → Calm (at_header say k header st h)
  calm_header k header st h = header_calm k header st (awaits_header st.stage) h

  -- ---- logins

  failing_calm : (k : ℕ) (why : SaslCondition) (left : Tries) → Calm (failing say k why left)
  failing_calm k why tries.Three = tt
  failing_calm k why tries.Two = tt
  failing_calm k why tries.One = tt

  beginning_calm : (k : ℕ) (left : Tries) (a : AuthAnswer) → Calm (beginning say k left a)
  beginning_calm k left (auth.Begins n) = tt
  beginning_calm k left (auth.Fails why) = failing_calm k why left

  finishing_calm : (k : ℕ) (left : Tries) (o : Option (Result LoginView SaslCondition)) → Calm (answering say k left o)
  finishing_calm k left None = tt
  finishing_calm k left (Some (Ok login)) = tt
  finishing_calm k left (Some (Err why)) = failing_calm k why left

  other_calm : (k : ℕ) (w : Word) (st : Standing) (h : ServerState A) → Calm (at_login_other say k w st h)
  other_calm k word.Abort st h = failing_calm k Aborted st.tries
  other_calm k (word.Stanza long read) st h = calm_ending k stream.NotAuthorized st h
  other_calm k w st h = calm_any k w st h

  pub calm_login : (k : ℕ) (w : Word) (st : Standing) (h : ServerState A) → Calm (at_login say k w st h)
  calm_login k (word.Auth e bad) st h = beginning_calm k st.tries (auth_answer e st.entropy h.accounts)
  calm_login k w st h = other_calm k w st h

  pub calm_challenge : (k : ℕ) (w : Word) (st : Standing) (h : ServerState A) → Calm (at_challenge say k w st h)
  calm_challenge k (word.Response e bad) st h = finishing_calm k st.tries (option_map (final_answer e) (negotiation_at k h))
  calm_challenge k w st h = other_calm k w st h

  -- ---- acknowledgement

  acknowledging_calm : (k n h : ℕ) (o : Option (Result ℕ TooHighCount)) → Calm (acknowledging say k n h o)
  acknowledging_calm k n h None = tt
  acknowledging_calm k n h (Some (Ok more)) = tt
  acknowledging_calm k n h (Some (Err why)) = tt

  pub calm_saying : (k : ℕ) (items : List A) (more : List (Act A)) → Calm more → Calm (saying k items more)
  calm_saying k [] more rest = rest
  calm_saying k (a ∷ items) more rest = calm_saying k items more rest

  pub calm_asking : (k n : ℕ) (due : Bool) → Calm (asking say k n due)
  calm_asking k n true = tt
  calm_asking k n false = tt

  -- ---- requests

  entry_calm : (n : ℕ) (asker : AskerView) (o : Option EntryView) (more : List (Act A)) → Calm more → Calm (sending_entry say n asker o more)
  entry_calm n asker None more rest = rest
  entry_calm n asker (Some e) more rest = rest

  entries_calm : (n : ℕ) (asker : AskerView) (entries : List EntryView) (numbers : List ℕ) (more : List (Act A)) → Calm more → Calm (sending_entries say n asker entries numbers more)
  entries_calm n asker entries [] more rest = rest
  entries_calm n asker entries (number ∷ numbers) more rest =
      entry_calm n asker (entry_numbered number entries) (sending_entries say n asker entries numbers more) (entries_calm n asker entries numbers more rest)

  paging_calm : (q : IqView) (t : SessionInfo) (queryid : List ℕ) (kept : Kept) (o : Option CutView) (h : ServerState A) → Calm (paging say q t queryid kept o h)
  paging_calm q t queryid kept None h = tt
  paging_calm q t queryid kept (Some cut) h =
      entries_calm t.number (asker_of t queryid h) kept.entries cut.numbers (answering_iq say t (fin_item (envelope_of q t h) cut)) tt

  querying_calm : (q : IqView) (t : SessionInfo) (query : MamQuery) (o : Option Kept) (h : ServerState A) → Calm (querying_in say q t query o h)
  querying_calm q t query None h = tt
  querying_calm q t query (Some kept) h = paging_calm q t query.queryid kept (page_of (kept_by kept.owner kept.entries) query.query) h

  serving_calm : (o : Option Request) (q : IqView) (t : SessionInfo) (h : ServerState A) → Calm (serving say o q t h)
  serving_calm None q t h = tt
  serving_calm (Some request.Ping) q t h = tt
  serving_calm (Some (request.Info at_domain)) q t h = tt
  serving_calm (Some (request.Items node)) q t h = tt
  serving_calm (Some request.Roster) q t h = tt
  serving_calm (Some request.Session) q t h = tt
  serving_calm (Some (request.Carbons on)) q t h = tt
  serving_calm (Some (request.Archive query)) q t h = querying_calm q t query (archive_at t.account h) h
  serving_calm (Some (request.Refused e)) q t h = tt

  -- ---- messages

  archiving_calm : (e : EntryView) (positions : List ℕ) (more : List (Act A)) → Calm more → Calm (archiving e positions more)
  archiving_calm e [] more rest = rest
  archiving_calm e (position ∷ positions) more rest = archiving_calm e positions more rest

  telling_calm : (m : MessageView) (positions : List ℕ) (more : List (Act A)) → Calm more → Calm (telling m positions more)
  telling_calm m [] more rest = rest
  telling_calm m (position ∷ positions) more rest = rest

  delivery_calm : (m : MessageView) (positions : List ℕ) (n : ℕ) (o : Option SessionInfo) (h : ServerState A) (more : List (Act A)) → Calm more → Calm (delivering_to say m positions n o h more)
  delivery_calm m positions n None h more rest = rest
  delivery_calm m positions n (Some t) h more rest = rest

  delivering_calm : (m : MessageView) (positions numbers : List ℕ) (h : ServerState A) (more : List (Act A)) → Calm more → Calm (delivering say m positions numbers h more)
  delivering_calm m positions [] h more rest = rest
  delivering_calm m positions (n ∷ numbers) h more rest =
      delivery_calm m positions n (info_of n h.sessions) h (delivering say m positions numbers h more) (delivering_calm m positions numbers h more rest)

  copy_calm : (sent : Bool) (m : MessageView) (positions : List ℕ) (n : ℕ) (o : Option SessionInfo) (h : ServerState A) (more : List (Act A)) → Calm more → Calm (copying_to say sent m positions n o h more)
  copy_calm sent m positions n None h more rest = rest
  copy_calm sent m positions n (Some t) h more rest = rest

  copying_calm : (sent : Bool) (m : MessageView) (positions numbers : List ℕ) (h : ServerState A) (more : List (Act A)) → Calm more → Calm (copying say sent m positions numbers h more)
  copying_calm sent m positions [] h more rest = rest
  copying_calm sent m positions (n ∷ numbers) h more rest =
      copy_calm sent m positions n (info_of n h.sessions) h (copying say sent m positions numbers h more) (copying_calm sent m positions numbers h more rest)

  carrying_calm : (m : MessageView) (positions : List ℕ) (r : RouteOf ℕ) (h : ServerState A) → Calm (carrying say m positions r h)
  carrying_calm m positions r h =
      let received = copying say false m positions r.received h [] in
      let copies = copying say true m positions r.sent h received in
      let sent = delivering say m positions r.deliver h copies in
      archiving_calm (entry_of 0 h.moment m) positions (telling m positions sent)
      (telling_calm m positions sent
      (delivering_calm m positions r.deliver h copies
      (copying_calm true m positions r.sent h received (copying_calm false m positions r.received h [] tt))))

  messaging_calm : (m : MessageView) (to : List ℕ) (t : SessionInfo) (p : PlanOf ℕ) (h : ServerState A) → Calm (messaging say m to t p h)
  messaging_calm m to t (Bounced e) h = tt
  messaging_calm m to t (Routed r) h = either (is_full_in (archives_of r.archiving) h) _ _ tt (carrying_calm (addressed (session_address t.number h) to m) (archives_of r.archiving) r h)

  -- ---- stanzas

  returning_calm : (kind : PresenceKind) (to : List ℕ) (p : Presence) (t : SessionInfo) → Calm (returning say kind to p t)
  returning_calm Available to p t = tt
  returning_calm Unavailable to p t = tt
  returning_calm Error to p t = tt
  returning_calm Other to p t = tt

  directing_calm : (here : Bool) (kind : PresenceKind) (to : List ℕ) (p : Presence) (t : SessionInfo) → Calm (directing say here kind to p t)
  directing_calm true kind to p t = tt
  directing_calm false kind to p t = returning_calm kind to p t

  presence_calm : (o : Option (List ℕ)) (kind : PresenceKind) (p : Presence) (t : SessionInfo) (h : ServerState A) → Calm (presenting say o kind p t h)
  presence_calm (Some to) kind p t h = directing_calm (is_local to h) kind to p t
  presence_calm None Available p t h = tt
  presence_calm None Unavailable p t h = tt
  presence_calm None Error p t h = tt
  presence_calm None Other p t h = tt

  bad_to_calm : (message reply : Bool) (id to : List ℕ) (t : SessionInfo) (h : ServerState A) → Calm (at_bad_to say message reply id to t h)
  bad_to_calm message false id to t h = tt
  bad_to_calm message true id to t h = tt

  handling_calm : (read : Result Stanza StanzaFault) (t : SessionInfo) (h : ServerState A) → Calm (handling say read t h)
  handling_calm (Ok (stanza.Message m)) t h = messaging_calm m (unwrap_or m.to (bare_address t.account h)) t (plan_renamed number_of (plan_of h.domain h.accounts h.sessions m t)) h
  handling_calm (Ok (stanza.Presence p)) t h = presence_calm p.to p.kind p t h
  handling_calm (Ok (stanza.Iq q)) t h = serving_calm (request_of q t h) q t h
  handling_calm (Err (fault.BadTo message reply from id to)) t h = bad_to_calm message reply id to t h
  handling_calm (Err fault.BadFrom) t h = tt
  handling_calm (Err fault.NotAStanza) t h = tt
  handling_calm (Err fault.BadFormat) t h = tt
  handling_calm (Err fault.NoMemory) t h = tt

  judging_calm : (k : ℕ) (read : Result Stanza StanzaFault) (t : SessionInfo) (st : Standing) (o : Option StreamCondition) (h : ServerState A) → Calm (judging say k read t st o h)
  judging_calm k read t st None h = either t.counted _ _ (handling_calm read t h) (handling_calm read t h)
  judging_calm k read t st (Some condition) h = calm_ending k condition st h

  stanza_calm : (k : ℕ) (long : Bool) (read : Result Stanza StanzaFault) (t : SessionInfo) (st : Standing) (h : ServerState A) → Calm (at_stanza say k long read t st h)
  stanza_calm k true read t st h = calm_ending k stream.PolicyViolation st h
  stanza_calm k false read t st h = judging_calm k read t st (stanza_condition read t h) h

  -- ---- where a session is on the connection

  pub calm_bound : (k : ℕ) (w : Word) (t : SessionInfo) (st : Standing) (h : ServerState A) → Calm (at_bound say k w t st h)
  calm_bound k (word.Stanza long read) t st h = stanza_calm k long read t st h
  calm_bound k (word.Enable resume) t st h = either t.counted _ _ tt tt
  calm_bound k word.Request t st h = either t.counted _ _ tt tt
  calm_bound k (word.Ack n) t st h = either t.counted _ _ (acknowledging_calm k t.number n (option_map (ack_answer n) (session_of t.number h.sessions))) tt
  calm_bound k (word.Resume previd n) t st h = tt
  calm_bound k w t st h = calm_any k w st h
