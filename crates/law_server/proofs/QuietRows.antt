-- The rows that archive nothing.
use Rattle.std.proofs.Common.{◌≡◌, ℕ, nat_le, Bool, true, false, List, [], ◌∷◌, Option, Some, None, Result, Ok, Err, length, cond, refl, ◌∙◌}
use Rattle.std.specs.Option.{option_map}
use Rattle.std.specs.Result.{result_ok}
use Rattle.sm_acks.specs.declared.end.TooHigh.{TooHigh as TooHighCount}
use Rattle.mam_archive.specs.Entries.{EntryView, entry_numbered}
use Rattle.srv_state.specs.Logins.{answering, at_challenge, at_login, at_login_other, beginning, failing, negotiation_at}
use Rattle.srv_state.specs.State.{Kept, ServerState, archive_at}
use Rattle.srv_state.specs.Steps.{Act}
use Rattle.srv_state.specs.Streams.{answering_header, at_any, at_header, awaits_header, ending, ending_in, header_in, opening, parting_where}
use Rattle.srv_state.specs.declared.connection.Stage.{Stage}
use Rattle.srv_state.specs.declared.connection.Stage.TheVariants as stage
use Rattle.srv_state.specs.declared.connection.Standing.{Standing}
use Rattle.srv_state.specs.declared.connection.Tries.{Tries}
use Rattle.srv_state.specs.declared.connection.Tries.TheVariants as tries
use Rattle.srv_state.specs.declared.limits.TheConstants.{ASKS_AT}
use Rattle.srv_state.specs.declared.word.Word.{Word}
use Rattle.srv_state.specs.declared.word.Word.TheVariants as word
use Rattle.im_forwarding.specs.Results.{AskerView}
use Rattle.sm_live.specs.Sessions.{ack_answer, ended_of, resume_answer, session_named, session_of, session_resumed}
use Rattle.sm_live.specs.declared.told.SessionInfo.{SessionInfo}
use Rattle.srv_login.specs.Headers.{header_answer}
use Rattle.srv_login.specs.Negotiations.{LoginView, auth_answer, final_answer}
use Rattle.srv_login.specs.declared.header_judgement.HeaderAnswer.{HeaderAnswer}
use Rattle.srv_login.specs.declared.header_judgement.HeaderAnswer.TheVariants.{Opens, Refused}
use Rattle.srv_login.specs.declared.negotiation.AuthAnswer.{AuthAnswer}
use Rattle.srv_login.specs.declared.negotiation.AuthAnswer.TheVariants as auth
use Rattle.srv_login.specs.declared.sasl_condition.SaslCondition.{SaslCondition}
use Rattle.srv_login.specs.declared.sasl_condition.SaslCondition.TheVariants.{Aborted}
use Rattle.im_mam.specs.declared.archive_query.MamQuery.{MamQuery}
use Rattle.xml_names.specs.declared.headers.Header.{Header}
use Rattle.mam_pages.specs.Cuts.{CutView}
use Rattle.mam_pages.specs.Kept.{kept_by}
use Rattle.mam_pages.specs.PageOf.{page_of}
use Rattle.im_payload.specs.Names.{binding}
use Rattle.im_replies.specs.declared.conditions.StreamCondition.{StreamCondition}
use Rattle.im_replies.specs.declared.conditions.StreamCondition.TheVariants as stream
use Rattle.im_replies.specs.Streams.{error_item}
use Rattle.srv_handlers.specs.Requests.{answering_iq, asker_of, at_iq, envelope_of, paging, querying_in, request_of, sending_entries, sending_entry, serving}
use Rattle.im_forwarding.specs.Results.{fin_item}
use Rattle.srv_handlers.specs.declared.request.Request.{Request}
use Rattle.srv_handlers.specs.declared.request.Request.TheVariants as request
use Rattle.sm_resumption.specs.declared.answers.ResumeFault.{ResumeFault}
use Rattle.sm_resumption.specs.declared.answers.ResumeFault.TheVariants.{TooHigh, UnknownPrevid}
use Rattle.sm_resumption.specs.declared.answers.ResumeOk.{ResumeOk}
use Rattle.srv_handlers.specs.Bindings.{asked_resource, at_bind, binding_as, chosen, former_of}
use Rattle.srv_handlers.specs.Managements.{acknowledging, at_ack, at_enable, at_request}
use Rattle.srv_handlers.specs.Resumptions.{asking, at_resume, resent_where, resuming, saying}
use Rattle.im_stanza.specs.Views.{IqView}
use Rattle.im_stanza.specs.declared.fault.StanzaFault.{StanzaFault}
use Rattle.im_stanza.specs.declared.kinds.IqKind.{IqKind}
use Rattle.im_stanza.specs.declared.kinds.IqKind.TheVariants as iq
use Rattle.im_stanza.specs.declared.kinds.PresenceKind.{PresenceKind}
use Rattle.im_stanza.specs.declared.kinds.PresenceKind.TheVariants.{Available, Unavailable, Error, Other}
use Rattle.im_stanza.specs.declared.stanzas.Presence.{Presence}
use Rattle.im_stanza.specs.declared.stanzas.Stanza.{Stanza}
use Rattle.im_stanza.specs.declared.stanzas.Stanza.TheVariants as stanza
use Rattle.srv_core.specs.Ready.{at_ready, ready_iq, ready_stanza}
use Rattle.srv_core.specs.Stanzas.{at_bad_to, directing, is_local, presenting, returning}
use Rattle.law_server.proofs.Marks.{Mark, marks}
use Rattle.xml_trees.specs.Readers.{first_named}
use Rattle.xml_trees.specs.Trees.{Elem}
use Rattle.xml_writer.specs.Items.{ItemOut}

pub marks_either : {A : Type 0} (b : Bool) (x y : List (Act A)) (ms : List Mark) → marks x ≡ ms → marks y ≡ ms → marks (cond b x y) ≡ ms
marks_either true x y ms here there = here
marks_either false x y ms here there = there

-- ---- ends

ending_quiet : {A : Type 0} (say : ItemOut → A) (k : ℕ) (c : StreamCondition) (s : Stage) (entropy : List ℕ) (h : ServerState A) → marks (ending_in say k c s entropy h) ≡ []
ending_quiet say k c stage.Start entropy h = refl
ending_quiet say k c stage.Login entropy h = refl
ending_quiet say k c stage.Challenge entropy h = refl
ending_quiet say k c (stage.Restart account) entropy h = refl
ending_quiet say k c (stage.Ready account) entropy h = refl

pub quiet_ending : {A : Type 0} (say : ItemOut → A) (k : ℕ) (c : StreamCondition) (st : Standing) (h : ServerState A) → marks (ending say k c st h) ≡ []
quiet_ending say k c st h = ending_quiet say k c st.stage st.entropy h

pub quiet_any : {A : Type 0} (say : ItemOut → A) (k : ℕ) (w : Word) (st : Standing) (h : ServerState A) → marks (at_any say k w st h) ≡ []
quiet_any say k (word.Stanza long read) st h = quiet_ending say k stream.UnsupportedStanzaType st h
quiet_any say k (word.Enable resume) st h = quiet_ending say k stream.UnsupportedStanzaType st h
quiet_any say k word.Request st h = quiet_ending say k stream.UnsupportedStanzaType st h
quiet_any say k (word.Ack handled) st h = quiet_ending say k stream.UnsupportedStanzaType st h
quiet_any say k (word.Resume previd handled) st h = quiet_ending say k stream.UnsupportedStanzaType st h
quiet_any say k (word.Auth e bad) st h = quiet_ending say k _ st h
quiet_any say k (word.Response e bad) st h = quiet_ending say k _ st h
quiet_any say k word.Abort st h = quiet_ending say k stream.UnsupportedStanzaType st h
quiet_any say k word.BadField st h = quiet_ending say k stream.BadFormat st h
quiet_any say k word.StreamError st h = refl
quiet_any say k word.Other st h = quiet_ending say k stream.UnsupportedStanzaType st h

-- ---- headers

quiet_opening : {A : Type 0} (say : ItemOut → A) (k : ℕ) (entropy : List ℕ) (s : Stage) (h : ServerState A) → marks (opening say k entropy s h) ≡ []
quiet_opening say k entropy stage.Start h = refl
quiet_opening say k entropy stage.Login h = refl
quiet_opening say k entropy stage.Challenge h = refl
quiet_opening say k entropy (stage.Restart account) h = refl
quiet_opening say k entropy (stage.Ready account) h = refl

quiet_answering : {A : Type 0} (say : ItemOut → A) (k : ℕ) (st : Standing) (a : HeaderAnswer) (h : ServerState A) → marks (answering_header say k st a h) ≡ []
quiet_answering say k st Opens h = quiet_opening say k st.entropy st.stage h
quiet_answering say k st (Refused why) h = quiet_ending say k _ st h

quiet_header_in : {A : Type 0} (say : ItemOut → A) (k : ℕ) (header : Header) (st : Standing) (b : Bool) (h : ServerState A) → marks (header_in say k header st b h) ≡ []
quiet_header_in say k header st true h = quiet_answering say k st (header_answer h.domain header) h
quiet_header_in say k header st false h = quiet_ending say k stream.UnsupportedStanzaType st h

pub quiet_header : {A : Type 0} (say : ItemOut → A) (k : ℕ) (header : Header) (st : Standing) (h : ServerState A) → marks (at_header say k header st h) ≡ []
quiet_header say k header st h = quiet_header_in say k header st (awaits_header st.stage) h

-- ---- logins

quiet_failing : {A : Type 0} (say : ItemOut → A) (k : ℕ) (why : SaslCondition) (left : Tries) → marks (failing say k why left) ≡ []
quiet_failing say k why tries.Three = refl
quiet_failing say k why tries.Two = refl
quiet_failing say k why tries.One = refl

quiet_beginning : {A : Type 0} (say : ItemOut → A) (k : ℕ) (left : Tries) (a : AuthAnswer) → marks (beginning say k left a) ≡ []
quiet_beginning say k left (auth.Begins n) = refl
quiet_beginning say k left (auth.Fails why) = quiet_failing say k why left

quiet_finishing : {A : Type 0} (say : ItemOut → A) (k : ℕ) (left : Tries) (o : Option (Result LoginView SaslCondition)) → marks (answering say k left o) ≡ []
quiet_finishing say k left None = refl
quiet_finishing say k left (Some (Ok login)) = refl
quiet_finishing say k left (Some (Err why)) = quiet_failing say k why left

quiet_other : {A : Type 0} (say : ItemOut → A) (k : ℕ) (w : Word) (st : Standing) (h : ServerState A) → marks (at_login_other say k w st h) ≡ []
quiet_other say k (word.Stanza long read) st h = quiet_ending say k stream.NotAuthorized st h
quiet_other say k (word.Enable resume) st h = quiet_any say k (word.Enable resume) st h
quiet_other say k word.Request st h = quiet_any say k word.Request st h
quiet_other say k (word.Ack handled) st h = quiet_any say k (word.Ack handled) st h
quiet_other say k (word.Resume previd handled) st h = quiet_any say k (word.Resume previd handled) st h
quiet_other say k (word.Auth e bad) st h = quiet_any say k (word.Auth e bad) st h
quiet_other say k (word.Response e bad) st h = quiet_any say k (word.Response e bad) st h
quiet_other say k word.Abort st h = quiet_failing say k Aborted st.tries
quiet_other say k word.BadField st h = quiet_any say k word.BadField st h
quiet_other say k word.StreamError st h = quiet_any say k word.StreamError st h
quiet_other say k word.Other st h = quiet_any say k word.Other st h

pub quiet_login : {A : Type 0} (say : ItemOut → A) (k : ℕ) (w : Word) (st : Standing) (h : ServerState A) → marks (at_login say k w st h) ≡ []
quiet_login say k (word.Auth e bad) st h = quiet_beginning say k st.tries (auth_answer e st.entropy h.accounts)
quiet_login say k (word.Stanza long read) st h = quiet_other say k (word.Stanza long read) st h
quiet_login say k (word.Enable resume) st h = quiet_other say k (word.Enable resume) st h
quiet_login say k word.Request st h = quiet_other say k word.Request st h
quiet_login say k (word.Ack handled) st h = quiet_other say k (word.Ack handled) st h
quiet_login say k (word.Resume previd handled) st h = quiet_other say k (word.Resume previd handled) st h
quiet_login say k (word.Response e bad) st h = quiet_other say k (word.Response e bad) st h
quiet_login say k word.Abort st h = quiet_other say k word.Abort st h
quiet_login say k word.BadField st h = quiet_other say k word.BadField st h
quiet_login say k word.StreamError st h = quiet_other say k word.StreamError st h
quiet_login say k word.Other st h = quiet_other say k word.Other st h

pub quiet_challenge : {A : Type 0} (say : ItemOut → A) (k : ℕ) (w : Word) (st : Standing) (h : ServerState A) → marks (at_challenge say k w st h) ≡ []
quiet_challenge say k (word.Response e bad) st h = quiet_finishing say k st.tries (option_map (final_answer e) (negotiation_at k h))
quiet_challenge say k (word.Stanza long read) st h = quiet_other say k (word.Stanza long read) st h
quiet_challenge say k (word.Enable resume) st h = quiet_other say k (word.Enable resume) st h
quiet_challenge say k word.Request st h = quiet_other say k word.Request st h
quiet_challenge say k (word.Ack handled) st h = quiet_other say k (word.Ack handled) st h
quiet_challenge say k (word.Resume previd handled) st h = quiet_other say k (word.Resume previd handled) st h
quiet_challenge say k (word.Auth e bad) st h = quiet_other say k (word.Auth e bad) st h
quiet_challenge say k word.Abort st h = quiet_other say k word.Abort st h
quiet_challenge say k word.BadField st h = quiet_other say k word.BadField st h
quiet_challenge say k word.StreamError st h = quiet_other say k word.StreamError st h
quiet_challenge say k word.Other st h = quiet_other say k word.Other st h

-- ---- binding, acknowledgement and resumption

quiet_parting : {A : Type 0} (say : ItemOut → A) (o : Option ℕ) (error : A) (more : List (Act A)) → marks (parting_where say o error more) ≡ marks more
quiet_parting say None error more = refl
quiet_parting say (Some k) error more = refl

quiet_binding : {A : Type 0} (say : ItemOut → A) (k account : ℕ) (id : List ℕ) (o : Option (List ℕ)) (h : ServerState A) → marks (binding_as say k account id o h) ≡ []
quiet_binding say k account id None h = refl
quiet_binding say k account id (Some resource) h = quiet_parting say (former_of (option_map ended_of (session_named account resource h.sessions))) (say (error_item stream.Conflict)) _

quiet_bind : {A : Type 0} (say : ItemOut → A) (k account : ℕ) (id : List ℕ) (bind : Elem) (h : ServerState A) → marks (at_bind say k account id bind h) ≡ []
quiet_bind say k account id bind h = quiet_binding say k account id (result_ok (chosen h.next (asked_resource bind))) h

pub quiet_enable : {A : Type 0} (say : ItemOut → A) (k : ℕ) (resume : Bool) (t : SessionInfo) → marks (at_enable say k resume t) ≡ []
quiet_enable say k resume t = marks_either t.counted _ _ [] refl refl

pub quiet_request : {A : Type 0} (say : ItemOut → A) (k : ℕ) (t : SessionInfo) → marks (at_request say k t) ≡ []
quiet_request say k t = marks_either t.counted _ _ [] refl refl

quiet_acknowledging : {A : Type 0} (say : ItemOut → A) (k n h : ℕ) (o : Option (Result ℕ TooHighCount)) → marks (acknowledging say k n h o) ≡ []
quiet_acknowledging say k n h None = refl
quiet_acknowledging say k n h (Some (Ok more)) = refl
quiet_acknowledging say k n h (Some (Err why)) = refl

pub quiet_ack : {A : Type 0} (say : ItemOut → A) (k h : ℕ) (t : SessionInfo) (server_state : ServerState A) → marks (at_ack say k h t server_state) ≡ []
quiet_ack say k h t server_state = marks_either t.counted _ _ [] (quiet_acknowledging say k t.number h (option_map (ack_answer h) (session_of t.number server_state.sessions))) refl

quiet_saying : {A : Type 0} (k : ℕ) (items : List A) (more : List (Act A)) → marks (saying k items more) ≡ marks more
quiet_saying k [] more = refl
quiet_saying k (a ∷ items) more = quiet_saying k items more

quiet_asking : {A : Type 0} (say : ItemOut → A) (k n : ℕ) (due : Bool) → marks (asking say k n due) ≡ []
quiet_asking say k n true = refl
quiet_asking say k n false = refl

quiet_resuming : {A : Type 0} (say : ItemOut → A) (k account : ℕ) (previd : List ℕ) (h : ℕ) (r : Result ResumeOk ResumeFault) (waiting : List A) → marks (resuming say k account previd h r waiting) ≡ []
quiet_resuming say k account previd h (Err UnknownPrevid) waiting = refl
quiet_resuming say k account previd h (Err (TooHigh stated send_count former)) waiting = quiet_parting say former (say (error_item stream.Conflict)) []
quiet_resuming say k account previd h (Ok resumed) waiting =
    quiet_parting say resumed.former (say (error_item stream.Conflict)) _
    ∙ quiet_saying k waiting (asking say k resumed.number (nat_le ASKS_AT (length waiting)))
    ∙ quiet_asking say k resumed.number (nat_le ASKS_AT (length waiting))

quiet_resume : {A : Type 0} (say : ItemOut → A) (k account : ℕ) (previd : List ℕ) (h : ℕ) (server_state : ServerState A) → marks (at_resume say k account previd h server_state) ≡ []
quiet_resume say k account previd h server_state =
    quiet_resuming say k account previd h (resume_answer h (session_resumed previd account server_state.sessions)) (resent_where h (session_resumed previd account server_state.sessions))

-- ---- requests

quiet_entry : {A : Type 0} (say : ItemOut → A) (n : ℕ) (asker : AskerView) (o : Option EntryView) (more : List (Act A)) → marks (sending_entry say n asker o more) ≡ marks more
quiet_entry say n asker None more = refl
quiet_entry say n asker (Some e) more = refl

quiet_entries : {A : Type 0} (say : ItemOut → A) (n : ℕ) (asker : AskerView) (entries : List EntryView) (numbers : List ℕ) (more : List (Act A)) → marks (sending_entries say n asker entries numbers more) ≡ marks more
quiet_entries say n asker entries [] more = refl
quiet_entries say n asker entries (number ∷ numbers) more =
    quiet_entry say n asker (entry_numbered number entries) (sending_entries say n asker entries numbers more) ∙ quiet_entries say n asker entries numbers more

quiet_paging : {A : Type 0} (say : ItemOut → A) (q : IqView) (t : SessionInfo) (queryid : List ℕ) (kept : Kept) (o : Option CutView) (h : ServerState A) → marks (paging say q t queryid kept o h) ≡ []
quiet_paging say q t queryid kept None h = refl
quiet_paging say q t queryid kept (Some cut) h =
    quiet_entries say t.number (asker_of t queryid h) kept.entries cut.numbers (answering_iq say t (fin_item (envelope_of q t h) cut))

quiet_querying : {A : Type 0} (say : ItemOut → A) (q : IqView) (t : SessionInfo) (query : MamQuery) (o : Option Kept) (h : ServerState A) → marks (querying_in say q t query o h) ≡ []
quiet_querying say q t query None h = refl
quiet_querying say q t query (Some kept) h = quiet_paging say q t query.queryid kept (page_of (kept_by kept.owner kept.entries) query.query) h

quiet_serving : {A : Type 0} (say : ItemOut → A) (o : Option Request) (q : IqView) (t : SessionInfo) (h : ServerState A) → marks (serving say o q t h) ≡ []
quiet_serving say None q t h = refl
quiet_serving say (Some request.Ping) q t h = refl
quiet_serving say (Some (request.Info at_domain)) q t h = refl
quiet_serving say (Some (request.Items node)) q t h = refl
quiet_serving say (Some request.Roster) q t h = refl
quiet_serving say (Some request.Session) q t h = refl
quiet_serving say (Some (request.Carbons on)) q t h = refl
quiet_serving say (Some (request.Archive query)) q t h = quiet_querying say q t query (archive_at t.account h) h
quiet_serving say (Some (request.Refused e)) q t h = refl

pub quiet_iq : {A : Type 0} (say : ItemOut → A) (q : IqView) (t : SessionInfo) (h : ServerState A) → marks (at_iq say q t h) ≡ []
quiet_iq say q t h = quiet_serving say (request_of q t h) q t h

-- ---- other stanzas

quiet_returning : {A : Type 0} (say : ItemOut → A) (kind : PresenceKind) (to : List ℕ) (p : Presence) (t : SessionInfo) → marks (returning say kind to p t) ≡ []
quiet_returning say Available to p t = refl
quiet_returning say Unavailable to p t = refl
quiet_returning say Error to p t = refl
quiet_returning say Other to p t = refl

quiet_directing : {A : Type 0} (say : ItemOut → A) (here : Bool) (kind : PresenceKind) (to : List ℕ) (p : Presence) (t : SessionInfo) → marks (directing say here kind to p t) ≡ []
quiet_directing say true kind to p t = refl
quiet_directing say false kind to p t = quiet_returning say kind to p t

pub quiet_presence : {A : Type 0} (say : ItemOut → A) (o : Option (List ℕ)) (kind : PresenceKind) (p : Presence) (t : SessionInfo) (h : ServerState A) → marks (presenting say o kind p t h) ≡ []
quiet_presence say (Some to) kind p t h = quiet_directing say (is_local to h) kind to p t
quiet_presence say None Available p t h = refl
quiet_presence say None Unavailable p t h = refl
quiet_presence say None Error p t h = refl
quiet_presence say None Other p t h = refl

pub quiet_bad_to : {A : Type 0} (say : ItemOut → A) (message reply : Bool) (id to : List ℕ) (t : SessionInfo) (h : ServerState A) → marks (at_bad_to say message reply id to t h) ≡ []
quiet_bad_to say message false id to t h = refl
quiet_bad_to say message true id to t h = refl

-- ---- where no session is on the connection

quiet_ready_iq : {A : Type 0} (say : ItemOut → A) (k account : ℕ) (kind : IqKind) (q : IqView) (bind : Option Elem) (st : Standing) (h : ServerState A) → marks (ready_iq say k account kind q bind st h) ≡ []
quiet_ready_iq say k account iq.Set q (Some bind) st h = quiet_bind say k account q.id bind h
quiet_ready_iq say k account iq.Set q None st h = quiet_ending say k stream.NotAuthorized st h
quiet_ready_iq say k account iq.Get q bind st h = quiet_ending say k stream.NotAuthorized st h
quiet_ready_iq say k account iq.Result q bind st h = quiet_ending say k stream.NotAuthorized st h
quiet_ready_iq say k account iq.Error q bind st h = quiet_ending say k stream.NotAuthorized st h

quiet_ready_stanza : {A : Type 0} (say : ItemOut → A) (k account : ℕ) (read : Result Stanza StanzaFault) (st : Standing) (h : ServerState A) → marks (ready_stanza say k account read st h) ≡ []
quiet_ready_stanza say k account (Ok (stanza.Iq q)) st h = quiet_ready_iq say k account q.kind q (first_named binding _ q.payload) st h
quiet_ready_stanza say k account (Ok (stanza.Message m)) st h = quiet_ending say k stream.NotAuthorized st h
quiet_ready_stanza say k account (Ok (stanza.Presence p)) st h = quiet_ending say k stream.NotAuthorized st h
quiet_ready_stanza say k account (Err why) st h = quiet_ending say k stream.NotAuthorized st h

pub quiet_ready : {A : Type 0} (say : ItemOut → A) (k account : ℕ) (w : Word) (st : Standing) (h : ServerState A) → marks (at_ready say k account w st h) ≡ []
quiet_ready say k account (word.Stanza long read) st h = quiet_ready_stanza say k account read st h
quiet_ready say k account (word.Resume previd handled) st h = quiet_resume say k account previd handled h
quiet_ready say k account (word.Enable resume) st h = refl
quiet_ready say k account word.Request st h = refl
quiet_ready say k account (word.Ack handled) st h = refl
quiet_ready say k account (word.Auth e bad) st h = quiet_any say k (word.Auth e bad) st h
quiet_ready say k account (word.Response e bad) st h = quiet_any say k (word.Response e bad) st h
quiet_ready say k account word.Abort st h = quiet_any say k word.Abort st h
quiet_ready say k account word.BadField st h = quiet_any say k word.BadField st h
quiet_ready say k account word.StreamError st h = quiet_any say k word.StreamError st h
quiet_ready say k account word.Other st h = quiet_any say k word.Other st h
