-- The rows put sessions and logins under accounts that exist.
use Rattle.std.proofs.Common.{◌≡◌, ℕ, nat_le, Bool, true, false, List, [], ◌∷◌, Option, Some, None, Result, Ok, Err, length, cond, ◌<◌, ◌+◌, suc, subst, arith, inl, inr}
use Rattle.std.proofs.lemmas.Bool.{cases_Bool}
use Rattle.std.specs.Prelude.{IfOk}
use Rattle.std.specs.Option.{IfSome, option_map}
use Rattle.std.specs.Str.{bytes_eq}
use Rattle.std.specs.Result.{result_ok}
use Rattle.sm_acks.specs.declared.end.TooHigh.{TooHigh as TooHighCount}
use Rattle.mam_archive.specs.Entries.{EntryView, entry_numbered}
use Rattle.srv_state.specs.Logins.{answering, at_challenge, at_login, at_login_other, beginning, failing, negotiation_at}
use Rattle.srv_state.specs.State.{Kept, ServerState, archive_at}
use Rattle.srv_state.specs.Steps.{Act}
use Rattle.srv_state.specs.Streams.{answering_header, at_any, at_header, awaits_header, ending, ending_in, header_in, opening, parting_where}
use Rattle.srv_state.specs.declared.connection.Stage.{Stage}
use Rattle.srv_state.specs.declared.connection.Stage.TheVariants as stage
use Rattle.srv_state.specs.declared.connection.Standing.{Standing}
use Rattle.srv_state.specs.declared.connection.Tries.{Tries}
use Rattle.srv_state.specs.declared.connection.Tries.TheVariants as tries
use Rattle.srv_state.specs.declared.limits.TheConstants.{ASKS_AT}
use Rattle.srv_state.specs.declared.word.Word.{Word}
use Rattle.srv_state.specs.declared.word.Word.TheVariants as word
use Rattle.im_forwarding.specs.Results.{AskerView}
use Rattle.sm_live.specs.Sessions.{ack_answer, ended_of, resume_answer, session_named, session_of, session_resumed}
use Rattle.sm_live.specs.declared.told.SessionInfo.{SessionInfo}
use Rattle.srv_login.specs.Headers.{header_answer}
use Rattle.srv_login.specs.Accounts.{FoundView, account_from, account_named}
use Rattle.srv_login.specs.declared.account.Account.{Account}
use Rattle.srv_login.specs.declared.negotiation.Negotiation.{Negotiation}
use Rattle.srv_login.specs.Negotiations.{LoginView, auth_answer, begun_by, begun_of, begun_with, ended_of as login_of, ended_with, final_answer, is_scram}
use Rattle.im_payload.specs.declared.fault.ExtFault.{ExtFault}
use Rattle.im_login.specs.Readings.{auth_read, carrier_read}
use Rattle.im_login.specs.Sasl.{auth_mechanism}
use Rattle.auth_scram.specs.Exchange.{added_nonce, last_of}
use Rattle.auth_scram.specs.Messages.{client_first_of}
use Rattle.auth_scram.specs.declared.client_first.ClientFirst.{ClientFirst}
use Rattle.auth_scram.specs.declared.fault.ScramFault.{ScramFault}
use Rattle.srv_login.specs.declared.header_judgement.HeaderAnswer.{HeaderAnswer}
use Rattle.srv_login.specs.declared.header_judgement.HeaderAnswer.TheVariants.{Opens, Refused}
use Rattle.srv_login.specs.declared.negotiation.AuthAnswer.{AuthAnswer}
use Rattle.srv_login.specs.declared.negotiation.AuthAnswer.TheVariants as auth
use Rattle.srv_login.specs.declared.sasl_condition.SaslCondition.{SaslCondition}
use Rattle.srv_login.specs.declared.sasl_condition.SaslCondition.TheVariants.{Aborted}
use Rattle.im_mam.specs.declared.archive_query.MamQuery.{MamQuery}
use Rattle.xml_names.specs.declared.headers.Header.{Header}
use Rattle.mam_pages.specs.Cuts.{CutView}
use Rattle.mam_pages.specs.Kept.{kept_by}
use Rattle.mam_pages.specs.PageOf.{page_of}
use Rattle.im_payload.specs.Names.{binding}
use Rattle.im_replies.specs.declared.conditions.StreamCondition.{StreamCondition}
use Rattle.im_replies.specs.declared.conditions.StreamCondition.TheVariants as stream
use Rattle.im_replies.specs.Streams.{error_item}
use Rattle.srv_handlers.specs.Requests.{answering_iq, asker_of, at_iq, envelope_of, paging, querying_in, request_of, sending_entries, sending_entry, serving}
use Rattle.im_forwarding.specs.Results.{fin_item}
use Rattle.srv_handlers.specs.declared.request.Request.{Request}
use Rattle.srv_handlers.specs.declared.request.Request.TheVariants as request
use Rattle.sm_resumption.specs.declared.answers.ResumeFault.{ResumeFault}
use Rattle.sm_resumption.specs.declared.answers.ResumeFault.TheVariants.{TooHigh, UnknownPrevid}
use Rattle.sm_resumption.specs.declared.answers.ResumeOk.{ResumeOk}
use Rattle.srv_handlers.specs.Bindings.{asked_resource, at_bind, binding_as, chosen, former_of}
use Rattle.srv_handlers.specs.Managements.{acknowledging, at_ack, at_enable, at_request}
use Rattle.srv_handlers.specs.Resumptions.{asking, at_resume, resent_where, resuming, saying}
use Rattle.im_stanza.specs.Views.{IqView}
use Rattle.im_stanza.specs.declared.fault.StanzaFault.{StanzaFault}
use Rattle.im_stanza.specs.declared.kinds.IqKind.{IqKind}
use Rattle.im_stanza.specs.declared.kinds.IqKind.TheVariants as iq
use Rattle.im_stanza.specs.declared.kinds.PresenceKind.{PresenceKind}
use Rattle.im_stanza.specs.declared.kinds.PresenceKind.TheVariants.{Available, Unavailable, Error, Other}
use Rattle.im_stanza.specs.declared.stanzas.Presence.{Presence}
use Rattle.im_stanza.specs.declared.stanzas.Stanza.{Stanza}
use Rattle.im_stanza.specs.declared.stanzas.Stanza.TheVariants as stanza
use Rattle.srv_core.specs.Ready.{at_ready, ready_iq, ready_stanza}
use Rattle.srv_core.specs.Stanzas.{at_bad_to, directing, is_local, presenting, returning}
use Rattle.law_server.proofs.AccountsKept.{Fit}
use Rattle.law_server.specs.Accounts.{Exists}
use Rattle.xml_trees.specs.Readers.{first_named}
use Rattle.xml_trees.specs.Trees.{Elem}
use Rattle.xml_writer.specs.Items.{ItemOut}

pub fit_either : {A : Type 0} (accounts : List Account) (b : Bool) (x y : List (Act A)) → Fit accounts x → Fit accounts y → Fit accounts (cond b x y)
fit_either accounts true x y here there = here
fit_either accounts false x y here there = there

-- the account behind a login, where there is one
abbrev pub IsStageOf : List Account → Stage → Type 0
IsStageOf accounts (stage.Restart account) = Exists accounts account
IsStageOf accounts (stage.Ready account) = Exists accounts account
IsStageOf accounts s = Unit {0}

-- ---- ends

fit_ending_in : {A : Type 0} (accounts : List Account) (say : ItemOut → A) (k : ℕ) (c : StreamCondition) (s : Stage) (entropy : List ℕ) (h : ServerState A) → Fit accounts (ending_in say k c s entropy h)
fit_ending_in accounts say k c stage.Start entropy h = tt
fit_ending_in accounts say k c stage.Login entropy h = tt
fit_ending_in accounts say k c stage.Challenge entropy h = tt
fit_ending_in accounts say k c (stage.Restart account) entropy h = tt
fit_ending_in accounts say k c (stage.Ready account) entropy h = tt

pub fit_ending : {A : Type 0} (accounts : List Account) (say : ItemOut → A) (k : ℕ) (c : StreamCondition) (st : Standing) (h : ServerState A) → Fit accounts (ending say k c st h)
fit_ending accounts say k c st h = fit_ending_in accounts say k c st.stage st.entropy h

pub fit_any : {A : Type 0} (accounts : List Account) (say : ItemOut → A) (k : ℕ) (w : Word) (st : Standing) (h : ServerState A) → Fit accounts (at_any say k w st h)
fit_any accounts say k (word.Stanza long read) st h = fit_ending accounts say k stream.UnsupportedStanzaType st h
fit_any accounts say k (word.Enable resume) st h = fit_ending accounts say k stream.UnsupportedStanzaType st h
fit_any accounts say k word.Request st h = fit_ending accounts say k stream.UnsupportedStanzaType st h
fit_any accounts say k (word.Ack handled) st h = fit_ending accounts say k stream.UnsupportedStanzaType st h
fit_any accounts say k (word.Resume previd handled) st h = fit_ending accounts say k stream.UnsupportedStanzaType st h
fit_any accounts say k (word.Auth e bad) st h = fit_ending accounts say k _ st h
fit_any accounts say k (word.Response e bad) st h = fit_ending accounts say k _ st h
fit_any accounts say k word.Abort st h = fit_ending accounts say k stream.UnsupportedStanzaType st h
fit_any accounts say k word.BadField st h = fit_ending accounts say k stream.BadFormat st h
fit_any accounts say k word.StreamError st h = tt
fit_any accounts say k word.Other st h = fit_ending accounts say k stream.UnsupportedStanzaType st h

-- ---- headers

fit_opening : {A : Type 0} (accounts : List Account) (say : ItemOut → A) (k : ℕ) (entropy : List ℕ) (s : Stage) (h : ServerState A) → IsStageOf accounts s → Fit accounts (opening say k entropy s h)
fit_opening accounts say k entropy stage.Start h is = (tt, tt)
fit_opening accounts say k entropy stage.Login h is = (tt, tt)
fit_opening accounts say k entropy stage.Challenge h is = (tt, tt)
fit_opening accounts say k entropy (stage.Restart account) h is = (is, tt)
fit_opening accounts say k entropy (stage.Ready account) h is = (tt, tt)

fit_answering : {A : Type 0} (accounts : List Account) (say : ItemOut → A) (k : ℕ) (st : Standing) (a : HeaderAnswer) (h : ServerState A) → IsStageOf accounts st.stage → Fit accounts (answering_header say k st a h)
fit_answering accounts say k st Opens h is = fit_opening accounts say k st.entropy st.stage h is
fit_answering accounts say k st (Refused why) h is = fit_ending accounts say k _ st h

fit_header_in : {A : Type 0} (accounts : List Account) (say : ItemOut → A) (k : ℕ) (header : Header) (st : Standing) (b : Bool) (h : ServerState A) → IsStageOf accounts st.stage → Fit accounts (header_in say k header st b h)
fit_header_in accounts say k header st true h is = fit_answering accounts say k st (header_answer h.domain header) h is
fit_header_in accounts say k header st false h is = fit_ending accounts say k stream.UnsupportedStanzaType st h

pub fit_header : {A : Type 0} (accounts : List Account) (say : ItemOut → A) (k : ℕ) (header : Header) (st : Standing) (h : ServerState A) → IsStageOf accounts st.stage → Fit accounts (at_header say k header st h)
fit_header accounts say k header st h is = fit_header_in accounts say k header st (awaits_header st.stage) h is

-- ---- logins

fit_failing : {A : Type 0} (accounts : List Account) (say : ItemOut → A) (k : ℕ) (why : SaslCondition) (left : Tries) → Fit accounts (failing say k why left)
fit_failing accounts say k why tries.Three = tt
fit_failing accounts say k why tries.Two = tt
fit_failing accounts say k why tries.One = tt

-- an exchange that begins is with an account that exists
abbrev IsBegun : List Account → AuthAnswer → Type 0
IsBegun accounts (auth.Begins n) = Exists accounts n.account
IsBegun accounts (auth.Fails why) = Unit {0}

begun_either : (accounts : List Account) (b : Bool) (x y : AuthAnswer) → IsBegun accounts x → IsBegun accounts y → IsBegun accounts (cond b x y)
begun_either accounts true x y here there = here
begun_either accounts false x y here there = there

found_below : (start : ℕ) (name : List ℕ) (accounts : List Account) → IfSome (account_from start name accounts) (λ (f : FoundView). f.position < start + length accounts)
found_below start name [] = tt
found_below start name (a ∷ accounts) =
    elim (cases_Bool (bytes_eq name a.name)) [
      | inl here ↦ rw here (omega arith)
      | inr other ↦
          let longer : start + 1 + length accounts ≡ start + suc (length accounts) = omega arith in
          rw other (subst (λ n. IfSome (account_from (start + 1) name accounts) (λ (f : FoundView). f.position < n)) longer (found_below (start + 1) name accounts))
    ]

begun_there : (accounts : List Account) (first : ClientFirst) (tail : List ℕ) (o : Option FoundView) → IfSome o (λ (f : FoundView). f.position < 0 + length accounts) → IsBegun accounts (begun_by first tail o)
begun_there accounts first tail None is = tt
begun_there accounts first tail (Some found) is = omega (arith, is)

begun_right : (accounts : List Account) (tail : List ℕ) (r : Result ClientFirst ScramFault) → IsBegun accounts (begun_with tail accounts r)
begun_right accounts tail (Ok first) = begun_there accounts first tail (account_named first.name accounts) (found_below 0 first.name accounts)
begun_right accounts tail (Err fault) = tt

begun_read : (accounts : List Account) (tail : List ℕ) (r : Result (List ℕ × List ℕ) ExtFault) → IsBegun accounts (begun_of tail accounts r)
begun_read accounts tail (Ok read) = begun_right accounts tail (client_first_of read.1)
begun_read accounts tail (Err fault) = tt

auth_begun : (accounts : List Account) (e : Elem) (entropy : List ℕ) → IsBegun accounts (auth_answer e entropy accounts)
auth_begun accounts e entropy = begun_either accounts (is_scram (auth_mechanism e)) _ _ (begun_read accounts (added_nonce entropy) (auth_read e)) tt

fit_beginning : {A : Type 0} (accounts : List Account) (say : ItemOut → A) (k : ℕ) (left : Tries) (a : AuthAnswer) → IsBegun accounts a → Fit accounts (beginning say k left a)
fit_beginning accounts say k left (auth.Begins n) is = (is, tt)
fit_beginning accounts say k left (auth.Fails why) is = fit_failing accounts say k why left

fit_finishing : {A : Type 0} (accounts : List Account) (say : ItemOut → A) (k : ℕ) (left : Tries) (o : Option (Result LoginView SaslCondition)) → IfSome o (λ (r : Result LoginView SaslCondition). IfOk r (λ (v : LoginView). Exists accounts v.account)) → Fit accounts (answering say k left o)
fit_finishing accounts say k left None is = tt
fit_finishing accounts say k left (Some (Ok login)) is = (is, tt)
fit_finishing accounts say k left (Some (Err why)) is = fit_failing accounts say k why left

fit_other : {A : Type 0} (accounts : List Account) (say : ItemOut → A) (k : ℕ) (w : Word) (st : Standing) (h : ServerState A) → Fit accounts (at_login_other say k w st h)
fit_other accounts say k (word.Stanza long read) st h = fit_ending accounts say k stream.NotAuthorized st h
fit_other accounts say k (word.Enable resume) st h = fit_any accounts say k (word.Enable resume) st h
fit_other accounts say k word.Request st h = fit_any accounts say k word.Request st h
fit_other accounts say k (word.Ack handled) st h = fit_any accounts say k (word.Ack handled) st h
fit_other accounts say k (word.Resume previd handled) st h = fit_any accounts say k (word.Resume previd handled) st h
fit_other accounts say k (word.Auth e bad) st h = fit_any accounts say k (word.Auth e bad) st h
fit_other accounts say k (word.Response e bad) st h = fit_any accounts say k (word.Response e bad) st h
fit_other accounts say k word.Abort st h = fit_failing accounts say k Aborted st.tries
fit_other accounts say k word.BadField st h = fit_any accounts say k word.BadField st h
fit_other accounts say k word.StreamError st h = fit_any accounts say k word.StreamError st h
fit_other accounts say k word.Other st h = fit_any accounts say k word.Other st h

pub fit_login : {A : Type 0} (say : ItemOut → A) (k : ℕ) (w : Word) (st : Standing) (h : ServerState A) → Fit h.accounts (at_login say k w st h)
fit_login say k (word.Auth e bad) st h = fit_beginning h.accounts say k st.tries (auth_answer e st.entropy h.accounts) (auth_begun h.accounts e st.entropy)
fit_login say k (word.Stanza long read) st h = fit_other h.accounts say k (word.Stanza long read) st h
fit_login say k (word.Enable resume) st h = fit_other h.accounts say k (word.Enable resume) st h
fit_login say k word.Request st h = fit_other h.accounts say k word.Request st h
fit_login say k (word.Ack handled) st h = fit_other h.accounts say k (word.Ack handled) st h
fit_login say k (word.Resume previd handled) st h = fit_other h.accounts say k (word.Resume previd handled) st h
fit_login say k (word.Response e bad) st h = fit_other h.accounts say k (word.Response e bad) st h
fit_login say k word.Abort st h = fit_other h.accounts say k word.Abort st h
fit_login say k word.BadField st h = fit_other h.accounts say k word.BadField st h
fit_login say k word.StreamError st h = fit_other h.accounts say k word.StreamError st h
fit_login say k word.Other st h = fit_other h.accounts say k word.Other st h

-- the exchange in hand is with an account that exists
ended_there : (accounts : List Account) (account : ℕ) (r : Result (List ℕ) ScramFault) → Exists accounts account → IfOk (ended_with account r) (λ (v : LoginView). Exists accounts v.account)
ended_there accounts account (Ok message) is = is
ended_there accounts account (Err fault) is = tt

ended_right : (accounts : List Account) (n : Negotiation) (r : Result (List ℕ) ExtFault) → Exists accounts n.account → IfOk (login_of n r) (λ (v : LoginView). Exists accounts v.account)
ended_right accounts n (Ok payload) is = ended_there accounts n.account (last_of n.exchange payload) is
ended_right accounts n (Err fault) is = tt

answered_right : (accounts : List Account) (e : Elem) (o : Option Negotiation) → IfSome o (λ (n : Negotiation). Exists accounts n.account)
    → IfSome (option_map (final_answer e) o) (λ (r : Result LoginView SaslCondition). IfOk r (λ (v : LoginView). Exists accounts v.account))
answered_right accounts e None is = tt
answered_right accounts e (Some n) is = ended_right accounts n (carrier_read _ e) is

pub fit_challenge : {A : Type 0} (accounts : List Account) (say : ItemOut → A) (k : ℕ) (w : Word) (st : Standing) (h : ServerState A) → IfSome (negotiation_at k h) (λ (n : Negotiation). Exists accounts n.account) → Fit accounts (at_challenge say k w st h)
fit_challenge accounts say k (word.Response e bad) st h is = fit_finishing accounts say k st.tries (option_map (final_answer e) (negotiation_at k h)) (answered_right accounts e (negotiation_at k h) is)
fit_challenge accounts say k (word.Stanza long read) st h is = fit_other accounts say k (word.Stanza long read) st h
fit_challenge accounts say k (word.Enable resume) st h is = fit_other accounts say k (word.Enable resume) st h
fit_challenge accounts say k word.Request st h is = fit_other accounts say k word.Request st h
fit_challenge accounts say k (word.Ack handled) st h is = fit_other accounts say k (word.Ack handled) st h
fit_challenge accounts say k (word.Resume previd handled) st h is = fit_other accounts say k (word.Resume previd handled) st h
fit_challenge accounts say k (word.Auth e bad) st h is = fit_other accounts say k (word.Auth e bad) st h
fit_challenge accounts say k word.Abort st h is = fit_other accounts say k word.Abort st h
fit_challenge accounts say k word.BadField st h is = fit_other accounts say k word.BadField st h
fit_challenge accounts say k word.StreamError st h is = fit_other accounts say k word.StreamError st h
fit_challenge accounts say k word.Other st h is = fit_other accounts say k word.Other st h

-- ---- binding, acknowledgement and resumption

fit_parting : {A : Type 0} (accounts : List Account) (say : ItemOut → A) (o : Option ℕ) (error : A) (more : List (Act A)) → Fit accounts more → Fit accounts (parting_where say o error more)
fit_parting accounts say None error more rest = rest
fit_parting accounts say (Some k) error more rest = rest

fit_binding : {A : Type 0} (accounts : List Account) (say : ItemOut → A) (k account : ℕ) (id : List ℕ) (o : Option (List ℕ)) (h : ServerState A) → Exists accounts account → Fit accounts (binding_as say k account id o h)
fit_binding accounts say k account id None h is = tt
fit_binding accounts say k account id (Some resource) h is = (is, fit_parting accounts say (former_of (option_map ended_of (session_named account resource h.sessions))) (say (error_item stream.Conflict)) _ tt)

fit_bind : {A : Type 0} (accounts : List Account) (say : ItemOut → A) (k account : ℕ) (id : List ℕ) (bind : Elem) (h : ServerState A) → Exists accounts account → Fit accounts (at_bind say k account id bind h)
fit_bind accounts say k account id bind h is = fit_binding accounts say k account id (result_ok (chosen h.next (asked_resource bind))) h is

pub fit_enable : {A : Type 0} (accounts : List Account) (say : ItemOut → A) (k : ℕ) (resume : Bool) (t : SessionInfo) → Fit accounts (at_enable say k resume t)
fit_enable accounts say k resume t = fit_either accounts t.counted _ _ tt tt

pub fit_request : {A : Type 0} (accounts : List Account) (say : ItemOut → A) (k : ℕ) (t : SessionInfo) → Fit accounts (at_request say k t)
fit_request accounts say k t = fit_either accounts t.counted _ _ tt tt

fit_acknowledging : {A : Type 0} (accounts : List Account) (say : ItemOut → A) (k n h : ℕ) (o : Option (Result ℕ TooHighCount)) → Fit accounts (acknowledging say k n h o)
fit_acknowledging accounts say k n h None = tt
fit_acknowledging accounts say k n h (Some (Ok more)) = tt
fit_acknowledging accounts say k n h (Some (Err why)) = tt

pub fit_ack : {A : Type 0} (accounts : List Account) (say : ItemOut → A) (k h : ℕ) (t : SessionInfo) (server_state : ServerState A) → Fit accounts (at_ack say k h t server_state)
fit_ack accounts say k h t server_state = fit_either accounts t.counted _ _ (fit_acknowledging accounts say k t.number h (option_map (ack_answer h) (session_of t.number server_state.sessions))) tt

fit_saying : {A : Type 0} (accounts : List Account) (k : ℕ) (items : List A) (more : List (Act A)) → Fit accounts more → Fit accounts (saying k items more)
fit_saying accounts k [] more rest = rest
fit_saying accounts k (a ∷ items) more rest = fit_saying accounts k items more rest

fit_asking : {A : Type 0} (accounts : List Account) (say : ItemOut → A) (k n : ℕ) (due : Bool) → Fit accounts (asking say k n due)
fit_asking accounts say k n true = tt
fit_asking accounts say k n false = tt

fit_resuming : {A : Type 0} (accounts : List Account) (say : ItemOut → A) (k account : ℕ) (previd : List ℕ) (h : ℕ) (r : Result ResumeOk ResumeFault) (waiting : List A) → Fit accounts (resuming say k account previd h r waiting)
fit_resuming accounts say k account previd h (Err UnknownPrevid) waiting = tt
fit_resuming accounts say k account previd h (Err (TooHigh stated send_count former)) waiting = fit_parting accounts say former (say (error_item stream.Conflict)) [] tt
fit_resuming accounts say k account previd h (Ok resumed) waiting =
    fit_parting accounts say resumed.former (say (error_item stream.Conflict)) _
    (fit_saying accounts k waiting (asking say k resumed.number (nat_le ASKS_AT (length waiting))) (fit_asking accounts say k resumed.number (nat_le ASKS_AT (length waiting))))

fit_resume : {A : Type 0} (accounts : List Account) (say : ItemOut → A) (k account : ℕ) (previd : List ℕ) (h : ℕ) (server_state : ServerState A) → Fit accounts (at_resume say k account previd h server_state)
fit_resume accounts say k account previd h server_state =
    fit_resuming accounts say k account previd h (resume_answer h (session_resumed previd account server_state.sessions)) (resent_where h (session_resumed previd account server_state.sessions))

-- ---- requests

fit_entry : {A : Type 0} (accounts : List Account) (say : ItemOut → A) (n : ℕ) (asker : AskerView) (o : Option EntryView) (more : List (Act A)) → Fit accounts more → Fit accounts (sending_entry say n asker o more)
fit_entry accounts say n asker None more rest = rest
fit_entry accounts say n asker (Some e) more rest = rest

fit_entries : {A : Type 0} (accounts : List Account) (say : ItemOut → A) (n : ℕ) (asker : AskerView) (entries : List EntryView) (numbers : List ℕ) (more : List (Act A)) → Fit accounts more → Fit accounts (sending_entries say n asker entries numbers more)
fit_entries accounts say n asker entries [] more rest = rest
fit_entries accounts say n asker entries (number ∷ numbers) more rest =
    fit_entry accounts say n asker (entry_numbered number entries) (sending_entries say n asker entries numbers more) (fit_entries accounts say n asker entries numbers more rest)

fit_paging : {A : Type 0} (accounts : List Account) (say : ItemOut → A) (q : IqView) (t : SessionInfo) (queryid : List ℕ) (kept : Kept) (o : Option CutView) (h : ServerState A) → Fit accounts (paging say q t queryid kept o h)
fit_paging accounts say q t queryid kept None h = tt
fit_paging accounts say q t queryid kept (Some cut) h =
    fit_entries accounts say t.number (asker_of t queryid h) kept.entries cut.numbers (answering_iq say t (fin_item (envelope_of q t h) cut)) tt

fit_querying : {A : Type 0} (accounts : List Account) (say : ItemOut → A) (q : IqView) (t : SessionInfo) (query : MamQuery) (o : Option Kept) (h : ServerState A) → Fit accounts (querying_in say q t query o h)
fit_querying accounts say q t query None h = tt
fit_querying accounts say q t query (Some kept) h = fit_paging accounts say q t query.queryid kept (page_of (kept_by kept.owner kept.entries) query.query) h

fit_serving : {A : Type 0} (accounts : List Account) (say : ItemOut → A) (o : Option Request) (q : IqView) (t : SessionInfo) (h : ServerState A) → Fit accounts (serving say o q t h)
fit_serving accounts say None q t h = tt
fit_serving accounts say (Some request.Ping) q t h = tt
fit_serving accounts say (Some (request.Info at_domain)) q t h = tt
fit_serving accounts say (Some (request.Items node)) q t h = tt
fit_serving accounts say (Some request.Roster) q t h = tt
fit_serving accounts say (Some request.Session) q t h = tt
fit_serving accounts say (Some (request.Carbons on)) q t h = tt
fit_serving accounts say (Some (request.Archive query)) q t h = fit_querying accounts say q t query (archive_at t.account h) h
fit_serving accounts say (Some (request.Refused e)) q t h = tt

pub fit_iq : {A : Type 0} (accounts : List Account) (say : ItemOut → A) (q : IqView) (t : SessionInfo) (h : ServerState A) → Fit accounts (at_iq say q t h)
fit_iq accounts say q t h = fit_serving accounts say (request_of q t h) q t h

-- ---- other stanzas

fit_returning : {A : Type 0} (accounts : List Account) (say : ItemOut → A) (kind : PresenceKind) (to : List ℕ) (p : Presence) (t : SessionInfo) → Fit accounts (returning say kind to p t)
fit_returning accounts say Available to p t = tt
fit_returning accounts say Unavailable to p t = tt
fit_returning accounts say Error to p t = tt
fit_returning accounts say Other to p t = tt

fit_directing : {A : Type 0} (accounts : List Account) (say : ItemOut → A) (here : Bool) (kind : PresenceKind) (to : List ℕ) (p : Presence) (t : SessionInfo) → Fit accounts (directing say here kind to p t)
fit_directing accounts say true kind to p t = tt
fit_directing accounts say false kind to p t = fit_returning accounts say kind to p t

pub fit_presence : {A : Type 0} (accounts : List Account) (say : ItemOut → A) (o : Option (List ℕ)) (kind : PresenceKind) (p : Presence) (t : SessionInfo) (h : ServerState A) → Fit accounts (presenting say o kind p t h)
fit_presence accounts say (Some to) kind p t h = fit_directing accounts say (is_local to h) kind to p t
fit_presence accounts say None Available p t h = tt
fit_presence accounts say None Unavailable p t h = tt
fit_presence accounts say None Error p t h = tt
fit_presence accounts say None Other p t h = tt

pub fit_bad_to : {A : Type 0} (accounts : List Account) (say : ItemOut → A) (message reply : Bool) (id to : List ℕ) (t : SessionInfo) (h : ServerState A) → Fit accounts (at_bad_to say message reply id to t h)
fit_bad_to accounts say message false id to t h = tt
fit_bad_to accounts say message true id to t h = tt

-- ---- where no session is on the connection

fit_ready_iq : {A : Type 0} (accounts : List Account) (say : ItemOut → A) (k account : ℕ) (kind : IqKind) (q : IqView) (bind : Option Elem) (st : Standing) (h : ServerState A) → Exists accounts account → Fit accounts (ready_iq say k account kind q bind st h)
fit_ready_iq accounts say k account iq.Set q (Some bind) st h is = fit_bind accounts say k account q.id bind h is
fit_ready_iq accounts say k account iq.Set q None st h is = fit_ending accounts say k stream.NotAuthorized st h
fit_ready_iq accounts say k account iq.Get q bind st h is = fit_ending accounts say k stream.NotAuthorized st h
fit_ready_iq accounts say k account iq.Result q bind st h is = fit_ending accounts say k stream.NotAuthorized st h
fit_ready_iq accounts say k account iq.Error q bind st h is = fit_ending accounts say k stream.NotAuthorized st h

fit_ready_stanza : {A : Type 0} (accounts : List Account) (say : ItemOut → A) (k account : ℕ) (read : Result Stanza StanzaFault) (st : Standing) (h : ServerState A) → Exists accounts account → Fit accounts (ready_stanza say k account read st h)
fit_ready_stanza accounts say k account (Ok (stanza.Iq q)) st h is = fit_ready_iq accounts say k account q.kind q (first_named binding _ q.payload) st h is
fit_ready_stanza accounts say k account (Ok (stanza.Message m)) st h is = fit_ending accounts say k stream.NotAuthorized st h
fit_ready_stanza accounts say k account (Ok (stanza.Presence p)) st h is = fit_ending accounts say k stream.NotAuthorized st h
fit_ready_stanza accounts say k account (Err why) st h is = fit_ending accounts say k stream.NotAuthorized st h

pub fit_ready : {A : Type 0} (accounts : List Account) (say : ItemOut → A) (k account : ℕ) (w : Word) (st : Standing) (h : ServerState A) → Exists accounts account → Fit accounts (at_ready say k account w st h)
fit_ready accounts say k account (word.Stanza long read) st h is = fit_ready_stanza accounts say k account read st h is
fit_ready accounts say k account (word.Resume previd handled) st h is = fit_resume accounts say k account previd handled h
fit_ready accounts say k account (word.Enable resume) st h is = tt
fit_ready accounts say k account word.Request st h is = tt
fit_ready accounts say k account (word.Ack handled) st h is = tt
fit_ready accounts say k account (word.Auth e bad) st h is = fit_any accounts say k (word.Auth e bad) st h
fit_ready accounts say k account (word.Response e bad) st h is = fit_any accounts say k (word.Response e bad) st h
fit_ready accounts say k account word.Abort st h is = fit_any accounts say k word.Abort st h
fit_ready accounts say k account word.BadField st h is = fit_any accounts say k word.BadField st h
fit_ready accounts say k account word.StreamError st h is = fit_any accounts say k word.StreamError st h
fit_ready accounts say k account word.Other st h is = fit_any accounts say k word.Other st h
