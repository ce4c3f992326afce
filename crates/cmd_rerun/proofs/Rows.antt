-- What a row says is for its own connection, or for that of a session; and only a connection without a session gets one.
use Rattle.std.proofs.Common.{◌≡◌, ◌⊎◌, ℕ, nat_le, Bool, true, false, List, [], ◌∷◌, length, Option, Some, None, Result, Ok, Err, IfSome, cond, refl, sym, subst, ◌∙◌, inl, inr}
use Rattle.std.proofs.lemmas.Bool.{cond_both, eq-eqb, false≢true}
use Rattle.std.specs.List.{AllByRecursion}
use Rattle.std.specs.Option.{option_map}
use Rattle.std.specs.Prelude.{unwrap_or}
use Rattle.std.specs.Result.{result_ok}
use Rattle.sm_acks.specs.declared.end.TooHigh.{TooHigh as TooHighCount}
use Rattle.mam_archive.specs.Entries.{EntryView, entry_numbered}
use Rattle.srv_state.specs.Handling.{counting}
use Rattle.srv_state.specs.Logins.{answering, at_challenge, at_login, at_login_other, beginning, failing, negotiation_at}
use Rattle.srv_state.specs.State.{Kept, ServerState, archive_at, bare_address, session_address}
use Rattle.srv_state.specs.Steps.{Act, Bind, Close, Resume, Say}
use Rattle.srv_state.specs.Streams.{answering_header, at_any, at_header, awaits_header, closing, ending, ending_in, field_condition, header_condition, header_in, opening, parting, parting_where}
use Rattle.srv_state.specs.Words.{word_of}
use Rattle.srv_state.specs.declared.connection.Stage.{Stage}
use Rattle.srv_state.specs.declared.connection.Stage.TheVariants as stage
use Rattle.srv_state.specs.declared.connection.Standing.{Standing}
use Rattle.srv_state.specs.declared.connection.Tries.{Tries}
use Rattle.srv_state.specs.declared.connection.Tries.TheVariants as tries
use Rattle.srv_state.specs.declared.limits.TheConstants.{ASKS_AT}
use Rattle.srv_state.specs.declared.word.Word.{Word}
use Rattle.srv_state.specs.declared.word.Word.TheVariants as word
use Rattle.im_forwarding.specs.Passed.{addressed}
use Rattle.im_forwarding.specs.Results.{AskerView}
use Rattle.xml_framer.specs.declared.fault.Fault.{Fault}
use Rattle.xml_framer.specs.declared.items.Item.{Item}
use Rattle.xml_framer.specs.declared.items.Item.TheVariants as item
use Rattle.sm_live.specs.Sessions.{Session, ack_answer, ended_of, info_of, is_too_high, number_of, resume_answer, resume_ok, send_count, session_at, session_named, session_of, session_resumed, told}
use Rattle.sm_live.specs.declared.told.SessionInfo.{SessionInfo}
use Rattle.srv_login.specs.Headers.{header_answer}
use Rattle.srv_login.specs.Negotiations.{LoginView, auth_answer, final_answer}
use Rattle.srv_login.specs.declared.header_judgement.HeaderAnswer.{HeaderAnswer}
use Rattle.srv_login.specs.declared.header_judgement.HeaderAnswer.TheVariants.{Opens, Refused}
use Rattle.srv_login.specs.declared.negotiation.AuthAnswer.{AuthAnswer}
use Rattle.srv_login.specs.declared.negotiation.AuthAnswer.TheVariants as auth
use Rattle.srv_login.specs.declared.sasl_condition.SaslCondition.{SaslCondition}
use Rattle.srv_login.specs.declared.sasl_condition.SaslCondition.TheVariants.{Aborted}
use Rattle.im_mam.specs.declared.archive_query.MamQuery.{MamQuery}
use Rattle.srv_handlers.specs.Messages.{archiving, carrying, copying, copying_to, delivering, delivering_to, is_full_in, messaging, telling}
use Rattle.xml_names.specs.declared.headers.Header.{Header}
use Rattle.mam_pages.specs.Cuts.{CutView}
use Rattle.mam_pages.specs.Kept.{kept_by}
use Rattle.mam_pages.specs.PageOf.{page_of}
use Rattle.im_payload.specs.Names.{binding}
use Rattle.im_replies.specs.declared.conditions.StreamCondition.{StreamCondition}
use Rattle.im_replies.specs.declared.conditions.StreamCondition.TheVariants as stream
use Rattle.srv_handlers.specs.Requests.{asker_of, paging, querying_in, request_of, sending_entries, sending_entry, serving}
use Rattle.srv_handlers.specs.declared.request.Request.{Request}
use Rattle.srv_handlers.specs.declared.request.Request.TheVariants as request
use Rattle.sm_resumption.specs.Rows.{is_some_number}
use Rattle.sm_resumption.specs.declared.answers.ResumeFault.{ResumeFault}
use Rattle.sm_resumption.specs.declared.answers.ResumeFault.TheVariants.{TooHigh}
use Rattle.sm_resumption.specs.declared.answers.ResumeOk.{ResumeOk}
use Rattle.srv_route.specs.Plans.{plan_of}
use Rattle.srv_route.specs.Routes.{PlanOf, Bounced, Routed, RouteOf, archives_of, plan_renamed}
use Rattle.srv_core.specs.Events.{at_fault, fault_condition}
use Rattle.srv_core.specs.Table.{at_item, at_open, at_word}
use Rattle.cmd_rerun.proofs.Sessions.{IsAway, NoneAt, each_found, none_found}
use Rattle.srv_handlers.specs.Bindings.{asked_resource, binding_as, chosen, former_of}
use Rattle.srv_handlers.specs.Managements.{acknowledging, at_ack, at_enable, at_request}
use Rattle.srv_handlers.specs.Resumptions.{asking, at_resume, resent_where, resuming, saying}
use Rattle.im_stanza.specs.Views.{IqView, MessageView}
use Rattle.im_stanza.specs.declared.fault.StanzaFault.{StanzaFault}
use Rattle.im_stanza.specs.declared.fault.StanzaFault.TheVariants as fault
use Rattle.im_stanza.specs.declared.kinds.IqKind.{IqKind}
use Rattle.im_stanza.specs.declared.kinds.IqKind.TheVariants as iq
use Rattle.im_stanza.specs.declared.kinds.PresenceKind.{PresenceKind}
use Rattle.im_stanza.specs.declared.kinds.PresenceKind.TheVariants.{Available, Unavailable, Error, Other}
use Rattle.im_stanza.specs.declared.stanzas.Presence.{Presence}
use Rattle.im_stanza.specs.declared.stanzas.Stanza.{Stanza}
use Rattle.im_stanza.specs.declared.stanzas.Stanza.TheVariants as stanza
use Rattle.srv_core.specs.Ready.{at_bound, at_ready, at_ready_or_bound, ready_iq, ready_stanza}
use Rattle.srv_core.specs.Stanzas.{at_bad_to, at_stanza, directing, handling, is_local, judging, presenting, returning, stanza_condition}
use Rattle.xml_trees.specs.Readers.{first_named}
use Rattle.xml_trees.specs.Trees.{Elem}
use Rattle.xml_writer.specs.Items.{ItemOut}

-- ---- what a row may do

-- the connection of the row, or one that a session is on
abbrev pub Known : {A : Type 0} → ℕ → List (Session A) → ℕ → Type 0
Known j ss x = (x ≡ j) ⊎ ¬ (NoneAt x ss)

abbrev pub Allowed : {A : Type 0} → ℕ → List (Session A) → Act A → Type 0
Allowed j ss (Say x a) = Known j ss x
Allowed j ss (Close x) = Known j ss x
Allowed j ss (Bind account resource x) = ⊥
Allowed j ss (Resume previd account h x) = ⊥
Allowed j ss a = Unit {0}

abbrev pub AreAllowed : {A : Type 0} → ℕ → List (Session A) → List (Act A) → Type 0
AreAllowed j ss acts = AllByRecursion (Allowed j ss) acts

-- a session comes on the connection of the row, which has none
abbrev pub IsEntry : {A : Type 0} → ℕ → List (Session A) → Act A → Type 0
IsEntry j ss (Bind account resource x) = (x ≡ j) × NoneAt j ss
IsEntry j ss (Resume previd account h x) = (x ≡ j) × NoneAt j ss
IsEntry j ss a = ⊥

abbrev pub Enters : {A : Type 0} → ℕ → List (Session A) → List (Act A) → Type 0
Enters j ss [] = ⊥
Enters j ss (a ∷ more) = IsEntry j ss a × AreAllowed j ss more

abbrev pub Bounded : {A : Type 0} → ℕ → List (Session A) → List (Act A) → Type 0
Bounded j ss acts = AreAllowed j ss acts ⊎ Enters j ss acts

module _ {A : Type 0} (say : ItemOut → A) (j : ℕ) (ss : List (Session A)) where
  allowed_if : (b : Bool) (xs ys : List (Act A)) → AreAllowed j ss xs → AreAllowed j ss ys → AreAllowed j ss (cond b xs ys)
  allowed_if true xs ys p q = p
  allowed_if false xs ys p q = q

  -- ---- ends

  parting_allowed : (error : A) → AreAllowed j ss (parting say j error)
  parting_allowed error = (inl refl, (inl refl, (inl refl, tt)))

  closing_allowed : AreAllowed j ss (closing say j)
  closing_allowed = (inl refl, (inl refl, tt))

  ending_at : (c : StreamCondition) (s : Stage) (entropy : List ℕ) (h : ServerState A) → AreAllowed j ss (ending_in say j c s entropy h)
  ending_at c stage.Start entropy h = (inl refl, (inl refl, (inl refl, (inl refl, tt))))
  ending_at c stage.Login entropy h = (inl refl, (inl refl, (inl refl, tt)))
  ending_at c stage.Challenge entropy h = (inl refl, (inl refl, (inl refl, tt)))
  ending_at c (stage.Restart account) entropy h = (inl refl, (inl refl, (inl refl, tt)))
  ending_at c (stage.Ready account) entropy h = (inl refl, (inl refl, (inl refl, tt)))

  ending_allowed : (c : StreamCondition) (st : Standing) (h : ServerState A) → AreAllowed j ss (ending say j c st h)
  ending_allowed c st h = ending_at c st.stage st.entropy h

  any_allowed : (w : Word) (st : Standing) (h : ServerState A) → AreAllowed j ss (at_any say j w st h)
  any_allowed (word.Stanza long read) st h = ending_allowed stream.UnsupportedStanzaType st h
  any_allowed (word.Enable resume) st h = ending_allowed stream.UnsupportedStanzaType st h
  any_allowed word.Request st h = ending_allowed stream.UnsupportedStanzaType st h
  any_allowed (word.Ack handled) st h = ending_allowed stream.UnsupportedStanzaType st h
  any_allowed (word.Resume previd handled) st h = ending_allowed stream.UnsupportedStanzaType st h
  any_allowed (word.Auth e bad) st h = ending_allowed (field_condition bad) st h
  any_allowed (word.Response e bad) st h = ending_allowed (field_condition bad) st h
  any_allowed word.Abort st h = ending_allowed stream.UnsupportedStanzaType st h
  any_allowed word.BadField st h = ending_allowed stream.BadFormat st h
  any_allowed word.StreamError st h = closing_allowed
  any_allowed word.Other st h = ending_allowed stream.UnsupportedStanzaType st h

  -- ---- headers

  opening_allowed : (entropy : List ℕ) (s : Stage) (h : ServerState A) → AreAllowed j ss (opening say j entropy s h)
  opening_allowed entropy stage.Start h = (inl refl, (inl refl, (tt, tt)))
  opening_allowed entropy stage.Login h = (inl refl, (inl refl, (tt, tt)))
  opening_allowed entropy stage.Challenge h = (inl refl, (inl refl, (tt, tt)))
  opening_allowed entropy (stage.Restart account) h = (inl refl, (inl refl, (tt, tt)))
  opening_allowed entropy (stage.Ready account) h = (inl refl, (inl refl, (tt, tt)))

  answer_allowed : (st : Standing) (a : HeaderAnswer) (h : ServerState A) → AreAllowed j ss (answering_header say j st a h)
  answer_allowed st Opens h = opening_allowed st.entropy st.stage h
  answer_allowed st (Refused why) h = ending_allowed (header_condition why) st h

  header_by : (header : Header) (st : Standing) (b : Bool) (h : ServerState A) → AreAllowed j ss (header_in say j header st b h)
  header_by header st true h = answer_allowed st (header_answer h.domain header) h
  header_by header st false h = ending_allowed stream.UnsupportedStanzaType st h

  header_allowed : (header : Header) (st : Standing) (h : ServerState A) → AreAllowed j ss (at_header say j header st h)
  header_allowed header st h = header_by header st (awaits_header st.stage) h

  -- ---- logins

  failing_allowed : (why : SaslCondition) (left : Tries) → AreAllowed j ss (failing say j why left)
  failing_allowed why tries.Three = (inl refl, (tt, tt))
  failing_allowed why tries.Two = (inl refl, (tt, tt))
  failing_allowed why tries.One = (inl refl, (inl refl, (inl refl, (inl refl, tt))))

  beginning_allowed : (left : Tries) (a : AuthAnswer) → AreAllowed j ss (beginning say j left a)
  beginning_allowed left (auth.Begins n) = (inl refl, (tt, tt))
  beginning_allowed left (auth.Fails why) = failing_allowed why left

  finishing_allowed : (left : Tries) (o : Option (Result LoginView SaslCondition)) → AreAllowed j ss (answering say j left o)
  finishing_allowed left None = tt
  finishing_allowed left (Some (Ok login)) = (inl refl, (tt, tt))
  finishing_allowed left (Some (Err why)) = failing_allowed why left

  other_allowed : (w : Word) (st : Standing) (h : ServerState A) → AreAllowed j ss (at_login_other say j w st h)
  other_allowed (word.Stanza long read) st h = ending_allowed stream.NotAuthorized st h
  other_allowed (word.Enable resume) st h = any_allowed (word.Enable resume) st h
  other_allowed word.Request st h = any_allowed word.Request st h
  other_allowed (word.Ack handled) st h = any_allowed (word.Ack handled) st h
  other_allowed (word.Resume previd handled) st h = any_allowed (word.Resume previd handled) st h
  other_allowed (word.Auth e bad) st h = any_allowed (word.Auth e bad) st h
  other_allowed (word.Response e bad) st h = any_allowed (word.Response e bad) st h
  other_allowed word.Abort st h = failing_allowed Aborted st.tries
  other_allowed word.BadField st h = any_allowed word.BadField st h
  other_allowed word.StreamError st h = any_allowed word.StreamError st h
  other_allowed word.Other st h = any_allowed word.Other st h

  login_allowed : (w : Word) (st : Standing) (h : ServerState A) → AreAllowed j ss (at_login say j w st h)
  login_allowed (word.Auth e bad) st h = beginning_allowed st.tries (auth_answer e st.entropy h.accounts)
  login_allowed (word.Stanza long read) st h = other_allowed (word.Stanza long read) st h
  login_allowed (word.Enable resume) st h = other_allowed (word.Enable resume) st h
  login_allowed word.Request st h = other_allowed word.Request st h
  login_allowed (word.Ack handled) st h = other_allowed (word.Ack handled) st h
  login_allowed (word.Resume previd handled) st h = other_allowed (word.Resume previd handled) st h
  login_allowed (word.Response e bad) st h = other_allowed (word.Response e bad) st h
  login_allowed word.Abort st h = other_allowed word.Abort st h
  login_allowed word.BadField st h = other_allowed word.BadField st h
  login_allowed word.StreamError st h = other_allowed word.StreamError st h
  login_allowed word.Other st h = other_allowed word.Other st h

  challenge_allowed : (w : Word) (st : Standing) (h : ServerState A) → AreAllowed j ss (at_challenge say j w st h)
  challenge_allowed (word.Response e bad) st h = finishing_allowed st.tries (option_map (final_answer e) (negotiation_at j h))
  challenge_allowed (word.Stanza long read) st h = other_allowed (word.Stanza long read) st h
  challenge_allowed (word.Enable resume) st h = other_allowed (word.Enable resume) st h
  challenge_allowed word.Request st h = other_allowed word.Request st h
  challenge_allowed (word.Ack handled) st h = other_allowed (word.Ack handled) st h
  challenge_allowed (word.Resume previd handled) st h = other_allowed (word.Resume previd handled) st h
  challenge_allowed (word.Auth e bad) st h = other_allowed (word.Auth e bad) st h
  challenge_allowed word.Abort st h = other_allowed word.Abort st h
  challenge_allowed word.BadField st h = other_allowed word.BadField st h
  challenge_allowed word.StreamError st h = other_allowed word.StreamError st h
  challenge_allowed word.Other st h = other_allowed word.Other st h

  -- ---- messages

  archiving_allowed : (e : EntryView) (accounts : List ℕ) (more : List (Act A)) → AreAllowed j ss more → AreAllowed j ss (archiving e accounts more)
  archiving_allowed e [] more all = all
  archiving_allowed e (account ∷ accounts) more all = (tt, archiving_allowed e accounts more all)

  telling_allowed : (m : MessageView) (accounts : List ℕ) (more : List (Act A)) → AreAllowed j ss more → AreAllowed j ss (telling m accounts more)
  telling_allowed m [] more all = all
  telling_allowed m (account ∷ accounts) more all = (tt, all)

  delivered_allowed : (m : MessageView) (accounts : List ℕ) (n : ℕ) (o : Option SessionInfo) (h : ServerState A) (more : List (Act A)) → AreAllowed j ss more → AreAllowed j ss (delivering_to say m accounts n o h more)
  delivered_allowed m accounts n None h more all = all
  delivered_allowed m accounts n (Some t) h more all = (tt, all)

  delivering_allowed : (m : MessageView) (accounts numbers : List ℕ) (h : ServerState A) (more : List (Act A)) → AreAllowed j ss more → AreAllowed j ss (delivering say m accounts numbers h more)
  delivering_allowed m accounts [] h more all = all
  delivering_allowed m accounts (n ∷ numbers) h more all =
      delivered_allowed m accounts n (info_of n h.sessions) h (delivering say m accounts numbers h more) (delivering_allowed m accounts numbers h more all)

  copied_allowed : (sent : Bool) (m : MessageView) (accounts : List ℕ) (n : ℕ) (o : Option SessionInfo) (h : ServerState A) (more : List (Act A)) → AreAllowed j ss more → AreAllowed j ss (copying_to say sent m accounts n o h more)
  copied_allowed sent m accounts n None h more all = all
  copied_allowed sent m accounts n (Some t) h more all = (tt, all)

  copying_allowed : (sent : Bool) (m : MessageView) (accounts numbers : List ℕ) (h : ServerState A) (more : List (Act A)) → AreAllowed j ss more → AreAllowed j ss (copying say sent m accounts numbers h more)
  copying_allowed sent m accounts [] h more all = all
  copying_allowed sent m accounts (n ∷ numbers) h more all =
      copied_allowed sent m accounts n (info_of n h.sessions) h (copying say sent m accounts numbers h more) (copying_allowed sent m accounts numbers h more all)

  carrying_allowed : (m : MessageView) (accounts : List ℕ) (r : RouteOf ℕ) (h : ServerState A) → AreAllowed j ss (carrying say m accounts r h)
  carrying_allowed m accounts r h =
      archiving_allowed _ accounts _ (telling_allowed m accounts _ (delivering_allowed m accounts r.deliver h _ (copying_allowed true m accounts r.sent h _ (copying_allowed false m accounts r.received h [] tt))))

  messaging_allowed : (m : MessageView) (to : List ℕ) (t : SessionInfo) (p : PlanOf ℕ) (h : ServerState A) → AreAllowed j ss (messaging say m to t p h)
  messaging_allowed m to t (Bounced e) h = (tt, tt)
  messaging_allowed m to t (Routed r) h = allowed_if (is_full_in (archives_of r.archiving) h) _ _ (tt, tt) (carrying_allowed (addressed (session_address t.number h) to m) (archives_of r.archiving) r h)

  -- ---- requests

  entry_allowed : (n : ℕ) (asker : AskerView) (found : Option EntryView) (more : List (Act A)) → AreAllowed j ss more → AreAllowed j ss (sending_entry say n asker found more)
  entry_allowed n asker None more all = all
  entry_allowed n asker (Some e) more all = (tt, all)

  entries_allowed : (n : ℕ) (asker : AskerView) (entries : List EntryView) (numbers : List ℕ) (more : List (Act A)) → AreAllowed j ss more → AreAllowed j ss (sending_entries say n asker entries numbers more)
  entries_allowed n asker entries [] more all = all
  entries_allowed n asker entries (number ∷ numbers) more all =
      entry_allowed n asker (entry_numbered number entries) (sending_entries say n asker entries numbers more) (entries_allowed n asker entries numbers more all)

  paging_allowed : (q : IqView) (t : SessionInfo) (queryid : List ℕ) (kept : Kept) (cut : Option CutView) (h : ServerState A) → AreAllowed j ss (paging say q t queryid kept cut h)
  paging_allowed q t queryid kept None h = (tt, tt)
  paging_allowed q t queryid kept (Some cut) h = entries_allowed t.number (asker_of t queryid h) kept.entries cut.numbers _ (tt, tt)

  querying_allowed : (q : IqView) (t : SessionInfo) (query : MamQuery) (kept : Option Kept) (h : ServerState A) → AreAllowed j ss (querying_in say q t query kept h)
  querying_allowed q t query None h = tt
  querying_allowed q t query (Some kept) h = paging_allowed q t query.queryid kept (page_of (kept_by kept.owner kept.entries) query.query) h

  serving_allowed : (asked : Option Request) (q : IqView) (t : SessionInfo) (h : ServerState A) → AreAllowed j ss (serving say asked q t h)
  serving_allowed None q t h = tt
  serving_allowed (Some request.Ping) q t h = (tt, tt)
  serving_allowed (Some (request.Info at_domain)) q t h = (tt, tt)
  serving_allowed (Some (request.Items node)) q t h = (tt, tt)
  serving_allowed (Some request.Roster) q t h = (tt, tt)
  serving_allowed (Some request.Session) q t h = (tt, tt)
  serving_allowed (Some (request.Carbons on)) q t h = (tt, (tt, tt))
  serving_allowed (Some (request.Archive query)) q t h = querying_allowed q t query (archive_at t.account h) h
  serving_allowed (Some (request.Refused e)) q t h = (tt, tt)

  -- ---- stanzas

  returning_allowed : (kind : PresenceKind) (to : List ℕ) (p : Presence) (t : SessionInfo) → AreAllowed j ss (returning say kind to p t)
  returning_allowed Available to p t = (tt, tt)
  returning_allowed Unavailable to p t = tt
  returning_allowed Error to p t = tt
  returning_allowed Other to p t = (tt, tt)

  directing_allowed : (here : Bool) (kind : PresenceKind) (to : List ℕ) (p : Presence) (t : SessionInfo) → AreAllowed j ss (directing say here kind to p t)
  directing_allowed true kind to p t = tt
  directing_allowed false kind to p t = returning_allowed kind to p t

  presenting_allowed : (o : Option (List ℕ)) (kind : PresenceKind) (p : Presence) (t : SessionInfo) (h : ServerState A) → AreAllowed j ss (presenting say o kind p t h)
  presenting_allowed (Some to) kind p t h = directing_allowed (is_local to h) kind to p t
  presenting_allowed None Available p t h = (tt, tt)
  presenting_allowed None Unavailable p t h = (tt, tt)
  presenting_allowed None Error p t h = tt
  presenting_allowed None Other p t h = tt

  bad_to_allowed : (message reply : Bool) (id to : List ℕ) (t : SessionInfo) (h : ServerState A) → AreAllowed j ss (at_bad_to say message reply id to t h)
  bad_to_allowed message false id to t h = tt
  bad_to_allowed message true id to t h = (tt, tt)

  handling_allowed : (read : Result Stanza StanzaFault) (t : SessionInfo) (h : ServerState A) → AreAllowed j ss (handling say read t h)
  handling_allowed (Ok (stanza.Message m)) t h = messaging_allowed m (unwrap_or m.to (bare_address t.account h)) t (plan_renamed number_of (plan_of h.domain h.accounts h.sessions m t)) h
  handling_allowed (Ok (stanza.Presence p)) t h = presenting_allowed p.to p.kind p t h
  handling_allowed (Ok (stanza.Iq q)) t h = serving_allowed (request_of q t h) q t h
  handling_allowed (Err (fault.BadTo message reply from id to)) t h = bad_to_allowed message reply id to t h
  handling_allowed (Err fault.BadFrom) t h = tt
  handling_allowed (Err fault.NotAStanza) t h = tt
  handling_allowed (Err fault.BadFormat) t h = tt
  handling_allowed (Err fault.NoMemory) t h = tt

  counting_allowed : (t : SessionInfo) (acts : List (Act A)) → AreAllowed j ss acts → AreAllowed j ss (counting t acts)
  counting_allowed t acts all = allowed_if t.counted _ acts (tt, all) all

  judging_allowed : (read : Result Stanza StanzaFault) (t : SessionInfo) (st : Standing) (o : Option StreamCondition) (h : ServerState A) → AreAllowed j ss (judging say j read t st o h)
  judging_allowed read t st None h = counting_allowed t (handling say read t h) (handling_allowed read t h)
  judging_allowed read t st (Some condition) h = ending_allowed condition st h

  stanza_allowed : (long : Bool) (read : Result Stanza StanzaFault) (t : SessionInfo) (st : Standing) (h : ServerState A) → AreAllowed j ss (at_stanza say j long read t st h)
  stanza_allowed true read t st h = ending_allowed stream.PolicyViolation st h
  stanza_allowed false read t st h = judging_allowed read t st (stanza_condition read t h) h

  -- ---- acknowledgements

  enable_allowed : (resume : Bool) (t : SessionInfo) → AreAllowed j ss (at_enable say j resume t)
  enable_allowed resume t = allowed_if t.counted _ _ (inl refl, tt) (tt, (inl refl, tt))

  request_allowed : (t : SessionInfo) → AreAllowed j ss (at_request say j t)
  request_allowed t = allowed_if t.counted _ _ (inl refl, tt) (inl refl, tt)

  acknowledged_allowed : (n h : ℕ) (o : Option (Result ℕ TooHighCount)) → AreAllowed j ss (acknowledging say j n h o)
  acknowledged_allowed n h None = tt
  acknowledged_allowed n h (Some (Ok more)) = (tt, (tt, tt))
  acknowledged_allowed n h (Some (Err why)) = (inl refl, (inl refl, (inl refl, tt)))

  ack_allowed : (h : ℕ) (t : SessionInfo) (server_state : ServerState A) → AreAllowed j ss (at_ack say j h t server_state)
  ack_allowed h t server_state = allowed_if t.counted _ _ (acknowledged_allowed t.number h (option_map (ack_answer h) (session_of t.number server_state.sessions))) (inl refl, tt)

  bound_allowed : (w : Word) (t : SessionInfo) (st : Standing) (h : ServerState A) → AreAllowed j ss (at_bound say j w t st h)
  bound_allowed (word.Stanza long read) t st h = stanza_allowed long read t st h
  bound_allowed (word.Enable resume) t st h = enable_allowed resume t
  bound_allowed word.Request t st h = request_allowed t
  bound_allowed (word.Ack handled) t st h = ack_allowed handled t h
  bound_allowed (word.Resume previd handled) t st h = (inl refl, tt)
  bound_allowed (word.Auth e bad) t st h = any_allowed (word.Auth e bad) st h
  bound_allowed (word.Response e bad) t st h = any_allowed (word.Response e bad) st h
  bound_allowed word.Abort t st h = any_allowed word.Abort st h
  bound_allowed word.BadField t st h = any_allowed word.BadField st h
  bound_allowed word.StreamError t st h = any_allowed word.StreamError st h
  bound_allowed word.Other t st h = any_allowed word.Other st h

  -- ---- a session that ends tells the connection that it was on

  conn_known : (c : Option ℕ) → ((x : ℕ) → NoneAt x ss → is_some_number x c ≡ false) → IfSome c (Known j ss)
  conn_known None away = tt
  conn_known (Some x) away = inr (λ none. false≢true (sym (away x none) ∙ eq-eqb x x refl))

  former_allowed : (c : Option ℕ) (error : A) (more : List (Act A)) → IfSome c (Known j ss) → AreAllowed j ss more → AreAllowed j ss (parting_where say c error more)
  former_allowed None error more known all = all
  former_allowed (Some x) error more known all = (known, (known, (known, all)))

  -- a session of these, where there is one
  abbrev IsOfThese : Option (Session A) → Type 0
  IsOfThese o = (x : ℕ) → NoneAt x ss → IfSome o (λ s. IsAway x s.shown.number s.shown.conn)

  ended_known : (o : Option (Session A)) → IsOfThese o → IfSome (former_of (option_map ended_of o)) (Known j ss)
  ended_known None these = tt
  ended_known (Some s) these = conn_known s.shown.conn (λ x none. these x none)

  binding_bounded : (account : ℕ) (id : List ℕ) (o : Option (List ℕ)) (h : ServerState A) → h.sessions ≡ ss → NoneAt j ss → Bounded j ss (binding_as say j account id o h)
  binding_bounded account id None h same none = inl (inl refl, tt)
  binding_bounded account id (Some resource) h same none = inr (
    (refl, none),
    former_allowed _ _ _ (ended_known (session_named account resource h.sessions) (λ x away. each_found (IsAway x) _ h.sessions (subst (NoneAt x) (sym same) away))) (inl refl, tt),
  )

  saying_allowed : (waiting : List A) (more : List (Act A)) → AreAllowed j ss more → AreAllowed j ss (saying j waiting more)
  saying_allowed [] more all = all
  saying_allowed (a ∷ waiting) more all = (inl refl, saying_allowed waiting more all)

  asking_allowed : (n : ℕ) (due : Bool) → AreAllowed j ss (asking say j n due)
  asking_allowed n true = (tt, (inl refl, tt))
  asking_allowed n false = tt

  resumed_bounded : (account : ℕ) (previd : List ℕ) (h : ℕ) (s : Session A) (waiting : List A) → IsOfThese (Some s) → NoneAt j ss → Bounded j ss (resuming say j account previd h (resume_answer h (Some s)) waiting)
  resumed_bounded account previd h s waiting these none =
      let known = conn_known s.shown.conn (λ x away. these x away) in
      cond_both (is_too_high h s) (too_high s) (Ok (resume_ok s)) (λ r. Bounded j ss (resuming say j account previd h r waiting))
      (λ e. inr ((refl, none), (inl refl, (inl refl, (inl refl, former_allowed s.shown.conn _ [] known tt)))))
      (λ e. inr ((refl, none), (tt, former_allowed s.shown.conn _ _ known (inl refl, saying_allowed waiting _ (asking_allowed s.shown.number (nat_le ASKS_AT (length waiting)))))))
    where
      too_high : Session A → Result ResumeOk ResumeFault
      too_high t = Err (TooHigh h (send_count t) t.shown.conn)

  resuming_bounded : (account : ℕ) (previd : List ℕ) (h : ℕ) (o : Option (Session A)) (waiting : List A) → IsOfThese o → NoneAt j ss → Bounded j ss (resuming say j account previd h (resume_answer h o) waiting)
  resuming_bounded account previd h None waiting these none = inl (inl refl, tt)
  resuming_bounded account previd h (Some s) waiting these none = resumed_bounded account previd h s waiting these none

  resume_bounded : (account : ℕ) (previd : List ℕ) (h : ℕ) (server_state : ServerState A) → server_state.sessions ≡ ss → NoneAt j ss → Bounded j ss (at_resume say j account previd h server_state)
  resume_bounded account previd h server_state same none =
      let found = session_resumed previd account server_state.sessions in
      resuming_bounded account previd h found (resent_where h found) (λ x away. each_found (IsAway x) _ server_state.sessions (subst (NoneAt x) (sym same) away)) none

  -- ---- the phase behind a login

  ready_iq_bounded : (account : ℕ) (kind : IqKind) (q : IqView) (bind : Option Elem) (st : Standing) (h : ServerState A) → h.sessions ≡ ss → NoneAt j ss → Bounded j ss (ready_iq say j account kind q bind st h)
  ready_iq_bounded account iq.Set q (Some bind) st h same none = binding_bounded account q.id (result_ok (chosen h.next (asked_resource bind))) h same none
  ready_iq_bounded account iq.Set q None st h same none = inl (ending_allowed stream.NotAuthorized st h)
  ready_iq_bounded account iq.Get q bind st h same none = inl (ending_allowed stream.NotAuthorized st h)
  ready_iq_bounded account iq.Result q bind st h same none = inl (ending_allowed stream.NotAuthorized st h)
  ready_iq_bounded account iq.Error q bind st h same none = inl (ending_allowed stream.NotAuthorized st h)

  ready_stanza_bounded : (account : ℕ) (read : Result Stanza StanzaFault) (st : Standing) (h : ServerState A) → h.sessions ≡ ss → NoneAt j ss → Bounded j ss (ready_stanza say j account read st h)
  ready_stanza_bounded account (Ok (stanza.Iq q)) st h same none = ready_iq_bounded account q.kind q (first_named binding _ q.payload) st h same none
  ready_stanza_bounded account (Ok (stanza.Message m)) st h same none = inl (ending_allowed stream.NotAuthorized st h)
  ready_stanza_bounded account (Ok (stanza.Presence p)) st h same none = inl (ending_allowed stream.NotAuthorized st h)
  ready_stanza_bounded account (Err why) st h same none = inl (ending_allowed stream.NotAuthorized st h)

  ready_bounded : (account : ℕ) (w : Word) (st : Standing) (h : ServerState A) → h.sessions ≡ ss → NoneAt j ss → Bounded j ss (at_ready say j account w st h)
  ready_bounded account (word.Stanza long read) st h same none = ready_stanza_bounded account read st h same none
  ready_bounded account (word.Resume previd handled) st h same none = resume_bounded account previd handled h same none
  ready_bounded account (word.Enable resume) st h same none = inl (inl refl, tt)
  ready_bounded account word.Request st h same none = inl (inl refl, tt)
  ready_bounded account (word.Ack handled) st h same none = inl (inl refl, tt)
  ready_bounded account (word.Auth e bad) st h same none = inl (any_allowed (word.Auth e bad) st h)
  ready_bounded account (word.Response e bad) st h same none = inl (any_allowed (word.Response e bad) st h)
  ready_bounded account word.Abort st h same none = inl (any_allowed word.Abort st h)
  ready_bounded account word.BadField st h same none = inl (any_allowed word.BadField st h)
  ready_bounded account word.StreamError st h same none = inl (any_allowed word.StreamError st h)
  ready_bounded account word.Other st h same none = inl (any_allowed word.Other st h)

  either_bounded : (account : ℕ) (w : Word) (o : Option (Session A)) (st : Standing) (h : ServerState A) → h.sessions ≡ ss → session_at j ss ≡ o → Bounded j ss (at_ready_or_bound say j account w (option_map told o) st h)
  either_bounded account w None st h same is = ready_bounded account w st h same (none_found j ss is)
  either_bounded account w (Some s) st h same is = inl (bound_allowed w (told s) st h)

-- ---- any item

module _ {A : Type 0} (say : ItemOut → A) (j : ℕ) where
  word_bounded : (w : Word) (s : Stage) (st : Standing) (h : ServerState A) → Bounded j h.sessions (at_word say j w s st h)
  word_bounded w stage.Login st h = inl (login_allowed say j h.sessions w st h)
  word_bounded w stage.Challenge st h = inl (challenge_allowed say j h.sessions w st h)
  word_bounded w (stage.Ready account) st h = either_bounded say j h.sessions account w (session_at j h.sessions) st h refl refl
  word_bounded w stage.Start st h = inl (any_allowed say j h.sessions w st h)
  word_bounded w (stage.Restart account) st h = inl (any_allowed say j h.sessions w st h)

  item_bounded : (i : Item) (st : Standing) (h : ServerState A) → Bounded j h.sessions (at_item say j i st h)
  item_bounded (item.Header at header) st h = inl (header_allowed say j h.sessions header st h)
  item_bounded (item.Element e) st h = word_bounded (word_of e) st.stage st h
  item_bounded item.Footer st h = inl (closing_allowed say j h.sessions)

  pub open_bounded : (i : Item) (o : Option Standing) (h : ServerState A) → Bounded j h.sessions (at_open say j i o h)
  open_bounded i None h = inl tt
  open_bounded i (Some st) h = item_bounded i st h

  pub fault_allowed : (f : Fault) (o : Option Standing) (h : ServerState A) → AreAllowed j h.sessions (at_fault say j f o h)
  fault_allowed f None h = tt
  fault_allowed f (Some st) h = ending_allowed say j h.sessions (fault_condition f.why) st h
