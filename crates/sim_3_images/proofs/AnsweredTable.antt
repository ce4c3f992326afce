-- What a server says of an item of a client can be answered, where its challenges can.
use Rattle.std.proofs.Common.{ℕ, ◌≤◌, Bool, true, false, List, Option, Some, None, IfSome, Result, Ok, Err, codes, length}
use Rattle.std.specs.List.{AllByRecursion}
use Rattle.std.specs.Option.{option_map}
use Rattle.sim_3_images.proofs.AnsweredChallenges.{AnswerAnswers, auth_answers}
use Rattle.sim_3_images.proofs.AnsweredEnabled.{enable_acts}
use Rattle.sim_3_images.proofs.AnsweredMessages.{messaging_answers}
use Rattle.sim_3_images.proofs.AnsweredReplies.{bounce_answers, presence_bounce_answers, refusal_answers}
use Rattle.sim_3_images.proofs.AnsweredRequests.{serving_answers}
use Rattle.sim_3_images.proofs.AnsweredRows.{ack_answers, any_answers, bind_answers, closing_answers, either_acts, ending_answers, failing_answers, header_answers, refusing_answers, request_acts, response_answers, resume_answers}
use Rattle.sim_3_images.proofs.AnsweredSteps.{ActsAnswer, StepAnswers, acts_answer}
use Rattle.sim_3_images.proofs.AnsweredWords.{ReadIsBare, WordIsRelayable, word_relayable}
use Rattle.sim_3_images.proofs.UpComes.{up_comes}
use Rattle.sim_3_images.specs.Relayable.{IsAnswered, IsRelayable, IsRelayableElement, ServerFits, UpFits}
use Rattle.sim_3_images.specs.CoresOwed.{ServerAnswers}
use Rattle.srv_state.specs.Handling.{counting}
use Rattle.srv_state.specs.Logins.{at_challenge, at_login, at_login_other, beginning, negotiation_at}
use Rattle.srv_state.specs.State.{ServerState, conn_at, is_number, session_address}
use Rattle.srv_state.specs.Steps.{Act}
use Rattle.srv_state.specs.Streams.{standing_at, standing_of}
use Rattle.srv_state.specs.Words.{word_of}
use Rattle.srv_state.specs.declared.connection.Connection.{Connection}
use Rattle.srv_state.specs.declared.connection.Stage.{Stage}
use Rattle.srv_state.specs.declared.connection.Stage.TheVariants as stage
use Rattle.srv_state.specs.declared.connection.Standing.{Standing}
use Rattle.srv_state.specs.declared.connection.Tries.{Tries}
use Rattle.srv_state.specs.declared.word.Word.{Word}
use Rattle.srv_state.specs.declared.word.Word.TheVariants as word
use Rattle.xml_framer.specs.declared.items.Item.{Item}
use Rattle.xml_framer.specs.declared.items.Item.TheVariants as item
use Rattle.law_xml.specs.Plain.{IsPlain}
use Rattle.sim_3_items.specs.ItemMoves.{step_of}
use Rattle.sim_3_items.specs.ItemWorlds.{itself, read_of}
use Rattle.sm_live.specs.Sessions.{session_at, told}
use Rattle.sm_live.specs.declared.told.SessionInfo.{SessionInfo}
use Rattle.srv_login.specs.Negotiations.{auth_answer}
use Rattle.srv_login.specs.declared.account.Account.{Account}
use Rattle.srv_login.specs.declared.negotiation.AuthAnswer.{AuthAnswer}
use Rattle.srv_login.specs.declared.negotiation.AuthAnswer.TheVariants as auth
use Rattle.srv_login.specs.declared.sasl_condition.SaslCondition.TheVariants as condition
use Rattle.im_payload.specs.Names.{binding}
use Rattle.im_replies.specs.declared.conditions.StreamCondition.{StreamCondition}
use Rattle.im_replies.specs.declared.conditions.StreamCondition.TheVariants as stream
use Rattle.srv_handlers.specs.Requests.{request_of}
use Rattle.srv_core.specs.Table.{after_item, at_item, at_open, at_word}
use Rattle.law_limits.proofs.Lists.{value_found}
use Rattle.law_limits.proofs.Readings.{word_comes}
use Rattle.law_limits.specs.Keeps.{AccountKeeps, Comes, ConnectionKeeps, IsDrawn, IsShort, ServerKeeps}
use Rattle.law_limits.specs.Words.{WordComes}
use Rattle.im_stanza.specs.Views.{IqView}
use Rattle.im_stanza.specs.declared.conditions.Condition.TheVariants.{UnexpectedRequest}
use Rattle.im_stanza.specs.declared.fault.StanzaFault.{StanzaFault}
use Rattle.im_stanza.specs.declared.fault.StanzaFault.TheVariants as fault
use Rattle.im_stanza.specs.declared.kinds.IqKind.{IqKind}
use Rattle.im_stanza.specs.declared.kinds.IqKind.TheVariants as iq
use Rattle.im_stanza.specs.declared.kinds.PresenceKind.{PresenceKind}
use Rattle.im_stanza.specs.declared.kinds.PresenceKind.TheVariants.{Available, Error, Other, Unavailable}
use Rattle.im_stanza.specs.declared.stanzas.Presence.{Presence}
use Rattle.im_stanza.specs.declared.stanzas.Stanza.{Stanza}
use Rattle.im_stanza.specs.declared.stanzas.Stanza.TheVariants as stanza
use Rattle.srv_core.specs.Ready.{at_bound, at_ready, at_ready_or_bound, ready_iq, ready_stanza}
use Rattle.srv_core.specs.Stanzas.{at_bad_to, at_stanza, directing, handling, is_local, judging, malformed, malformed_item, not_found, presenting, returning, stanza_condition}
use Rattle.xml_trees.specs.Readers.{first_named, text_of}
use Rattle.xml_trees.specs.Trees.{Elem, nodes_of}
use Rattle.xml_writer.specs.Items.{Closing, ItemOut, Opening, Whole}

-- ---- what is asked of the challenges

abbrev pub ChallengesAnswer : Type 0
ChallengesAnswer = (e : Elem) (entropy : List ℕ) (accounts : List Account) → IsPlain e → IsShort e → length (text_of (nodes_of e)) ≤ 400 → IsDrawn entropy → AllByRecursion AccountKeeps accounts → AnswerAnswers (auth_answer e entropy accounts)

-- ---- stanzas

returning_answers : (kind : PresenceKind) (to : List ℕ) (p : Presence) (t : SessionInfo) → ActsAnswer (returning itself kind to p t)
returning_answers Available to p t = (presence_bounce_answers to p.id not_found, tt)
returning_answers Unavailable to p t = tt
returning_answers Error to p t = tt
returning_answers Other to p t = (presence_bounce_answers to p.id not_found, tt)

directing_answers : (here : Bool) (kind : PresenceKind) (to : List ℕ) (p : Presence) (t : SessionInfo) → ActsAnswer (directing itself here kind to p t)
directing_answers true kind to p t = tt
directing_answers false kind to p t = returning_answers kind to p t

presenting_answers : (o : Option (List ℕ)) (kind : PresenceKind) (p : Presence) (t : SessionInfo) (h : ServerState ItemOut) → ActsAnswer (presenting itself o kind p t h)
presenting_answers (Some to) kind p t h = directing_answers (is_local to h) kind to p t
presenting_answers None Available p t h = (tt, tt)
presenting_answers None Unavailable p t h = (tt, tt)
presenting_answers None Error p t h = tt
presenting_answers None Other p t h = tt

malformed_answers : (message : Bool) (id to : List ℕ) (t : SessionInfo) (h : ServerState ItemOut) → IsAnswered (malformed_item message id to t h)
malformed_answers true id to t h = bounce_answers to id malformed
malformed_answers false id to t h = refusal_answers (Some to) (Some (session_address t.number h)) id malformed

bad_to_answers : (message reply : Bool) (id to : List ℕ) (t : SessionInfo) (h : ServerState ItemOut) → ActsAnswer (at_bad_to itself message reply id to t h)
bad_to_answers message false id to t h = tt
bad_to_answers message true id to t h = (malformed_answers message id to t h, tt)

handling_answers : (read : Result Stanza StanzaFault) (t : SessionInfo) (h : ServerState ItemOut) → ReadIsBare read → ActsAnswer (handling itself read t h)
handling_answers (Ok (stanza.Message m)) t h bare = messaging_answers m _ t _ h bare
handling_answers (Ok (stanza.Presence p)) t h bare = presenting_answers p.to p.kind p t h
handling_answers (Ok (stanza.Iq q)) t h bare = serving_answers (request_of q t h) q t h
handling_answers (Err (fault.BadTo message reply from id to)) t h bare = bad_to_answers message reply id to t h
handling_answers (Err fault.BadFrom) t h bare = tt
handling_answers (Err fault.NotAStanza) t h bare = tt
handling_answers (Err fault.BadFormat) t h bare = tt
handling_answers (Err fault.NoMemory) t h bare = tt

counting_answers : (t : SessionInfo) (acts : List (Act ItemOut)) → ActsAnswer acts → ActsAnswer (counting t acts)
counting_answers t acts h = either_acts t.counted _ acts (tt, h) h

judging_answers : (k : ℕ) (read : Result Stanza StanzaFault) (t : SessionInfo) (st : Standing) (o : Option StreamCondition) (h : ServerState ItemOut) → ReadIsBare read → ActsAnswer (judging itself k read t st o h)
judging_answers k read t st None h bare = counting_answers t (handling itself read t h) (handling_answers read t h bare)
judging_answers k read t st (Some c) h bare = ending_answers k c st h

stanza_answers : (k : ℕ) (long : Bool) (read : Result Stanza StanzaFault) (t : SessionInfo) (st : Standing) (h : ServerState ItemOut) → ReadIsBare read → ActsAnswer (at_stanza itself k long read t st h)
stanza_answers k true read t st h bare = ending_answers k stream.PolicyViolation st h
stanza_answers k false read t st h bare = judging_answers k read t st (stanza_condition read t h) h bare

-- ---- logins

beginning_answers : (k : ℕ) (left : Tries) (a : AuthAnswer) → AnswerAnswers a → ActsAnswer (beginning itself k left a)
beginning_answers k left (auth.Begins n) h = (h, (tt, tt))
beginning_answers k left (auth.Fails why) h = failing_answers k why left

login_other_answers : (k : ℕ) (w : Word) (st : Standing) (h : ServerState ItemOut) → ActsAnswer (at_login_other itself k w st h)
login_other_answers k (word.Stanza long read) st h = ending_answers k stream.NotAuthorized st h
login_other_answers k word.Abort st h = failing_answers k condition.Aborted st.tries
login_other_answers k (word.Enable resume) st h = any_answers k (word.Enable resume) st h
login_other_answers k word.Request st h = any_answers k word.Request st h
login_other_answers k (word.Ack n) st h = any_answers k (word.Ack n) st h
login_other_answers k (word.Resume previd n) st h = any_answers k (word.Resume previd n) st h
login_other_answers k (word.Auth e bad) st h = any_answers k (word.Auth e bad) st h
login_other_answers k (word.Response e bad) st h = any_answers k (word.Response e bad) st h
login_other_answers k word.BadField st h = any_answers k word.BadField st h
login_other_answers k word.StreamError st h = any_answers k word.StreamError st h
login_other_answers k word.Other st h = any_answers k word.Other st h

login_answers : ChallengesAnswer → (k : ℕ) (w : Word) (st : Standing) (h : ServerState ItemOut) → WordComes w → WordIsRelayable w → ServerKeeps h → IsDrawn st.entropy → ActsAnswer (at_login itself k w st h)
login_answers given k (word.Auth e bad) st h comes relayable keeps drawn = beginning_answers k st.tries (auth_answer e st.entropy h.accounts) (given e st.entropy h.accounts comes.0 comes.1 relayable drawn keeps.accounts)
login_answers given k (word.Stanza long read) st h comes relayable keeps drawn = login_other_answers k (word.Stanza long read) st h
login_answers given k (word.Enable resume) st h comes relayable keeps drawn = login_other_answers k (word.Enable resume) st h
login_answers given k word.Request st h comes relayable keeps drawn = login_other_answers k word.Request st h
login_answers given k (word.Ack n) st h comes relayable keeps drawn = login_other_answers k (word.Ack n) st h
login_answers given k (word.Resume previd n) st h comes relayable keeps drawn = login_other_answers k (word.Resume previd n) st h
login_answers given k (word.Response e bad) st h comes relayable keeps drawn = login_other_answers k (word.Response e bad) st h
login_answers given k word.Abort st h comes relayable keeps drawn = login_other_answers k word.Abort st h
login_answers given k word.BadField st h comes relayable keeps drawn = login_other_answers k word.BadField st h
login_answers given k word.StreamError st h comes relayable keeps drawn = login_other_answers k word.StreamError st h
login_answers given k word.Other st h comes relayable keeps drawn = login_other_answers k word.Other st h

challenged_answers : (k : ℕ) (w : Word) (st : Standing) (h : ServerState ItemOut) → ActsAnswer (at_challenge itself k w st h)
challenged_answers k (word.Response e bad) st h = response_answers k st.tries e (negotiation_at k h)
challenged_answers k (word.Auth e bad) st h = login_other_answers k (word.Auth e bad) st h
challenged_answers k (word.Stanza long read) st h = login_other_answers k (word.Stanza long read) st h
challenged_answers k (word.Enable resume) st h = login_other_answers k (word.Enable resume) st h
challenged_answers k word.Request st h = login_other_answers k word.Request st h
challenged_answers k (word.Ack n) st h = login_other_answers k (word.Ack n) st h
challenged_answers k (word.Resume previd n) st h = login_other_answers k (word.Resume previd n) st h
challenged_answers k word.Abort st h = login_other_answers k word.Abort st h
challenged_answers k word.BadField st h = login_other_answers k word.BadField st h
challenged_answers k word.StreamError st h = login_other_answers k word.StreamError st h
challenged_answers k word.Other st h = login_other_answers k word.Other st h

-- ---- the phase behind a login

ready_iq_answers : (k account : ℕ) (kind : IqKind) (q : IqView) (o : Option Elem) (st : Standing) (h : ServerState ItemOut) → ActsAnswer (ready_iq itself k account kind q o st h)
ready_iq_answers k account iq.Set q (Some bind) st h = bind_answers k account q.id bind h
ready_iq_answers k account iq.Set q None st h = ending_answers k stream.NotAuthorized st h
ready_iq_answers k account iq.Get q o st h = ending_answers k stream.NotAuthorized st h
ready_iq_answers k account iq.Result q o st h = ending_answers k stream.NotAuthorized st h
ready_iq_answers k account iq.Error q o st h = ending_answers k stream.NotAuthorized st h

ready_stanza_answers : (k account : ℕ) (read : Result Stanza StanzaFault) (st : Standing) (h : ServerState ItemOut) → ActsAnswer (ready_stanza itself k account read st h)
ready_stanza_answers k account (Ok (stanza.Iq q)) st h = ready_iq_answers k account q.kind q (first_named binding (codes "bind") q.payload) st h
ready_stanza_answers k account (Ok (stanza.Message m)) st h = ending_answers k stream.NotAuthorized st h
ready_stanza_answers k account (Ok (stanza.Presence p)) st h = ending_answers k stream.NotAuthorized st h
ready_stanza_answers k account (Err why) st h = ending_answers k stream.NotAuthorized st h

ready_answers : (k account : ℕ) (w : Word) (st : Standing) (h : ServerState ItemOut) → ServerFits h → ActsAnswer (at_ready itself k account w st h)
ready_answers k account (word.Stanza long read) st h fits = ready_stanza_answers k account read st h
ready_answers k account (word.Resume previd n) st h fits = resume_answers k account previd n h fits.1
ready_answers k account (word.Enable resume) st h fits = refusing_answers k UnexpectedRequest
ready_answers k account word.Request st h fits = refusing_answers k UnexpectedRequest
ready_answers k account (word.Ack n) st h fits = refusing_answers k UnexpectedRequest
ready_answers k account (word.Auth e bad) st h fits = any_answers k (word.Auth e bad) st h
ready_answers k account (word.Response e bad) st h fits = any_answers k (word.Response e bad) st h
ready_answers k account word.Abort st h fits = any_answers k word.Abort st h
ready_answers k account word.BadField st h fits = any_answers k word.BadField st h
ready_answers k account word.StreamError st h fits = any_answers k word.StreamError st h
ready_answers k account word.Other st h fits = any_answers k word.Other st h

bound_answers : (k : ℕ) (w : Word) (t : SessionInfo) (st : Standing) (h : ServerState ItemOut) → WordIsRelayable w → ActsAnswer (at_bound itself k w t st h)
bound_answers k (word.Stanza long read) t st h relayable = stanza_answers k long read t st h relayable
bound_answers k (word.Enable resume) t st h relayable = enable_acts k resume t
bound_answers k word.Request t st h relayable = request_acts k t
bound_answers k (word.Ack n) t st h relayable = ack_answers k n t h
bound_answers k (word.Resume previd n) t st h relayable = refusing_answers k UnexpectedRequest
bound_answers k (word.Auth e bad) t st h relayable = any_answers k (word.Auth e bad) st h
bound_answers k (word.Response e bad) t st h relayable = any_answers k (word.Response e bad) st h
bound_answers k word.Abort t st h relayable = any_answers k word.Abort st h
bound_answers k word.BadField t st h relayable = any_answers k word.BadField st h
bound_answers k word.StreamError t st h relayable = any_answers k word.StreamError st h
bound_answers k word.Other t st h relayable = any_answers k word.Other st h

either_answers : (k account : ℕ) (w : Word) (o : Option SessionInfo) (st : Standing) (h : ServerState ItemOut) → WordIsRelayable w → ServerFits h → ActsAnswer (at_ready_or_bound itself k account w o st h)
either_answers k account w None st h relayable fits = ready_answers k account w st h fits
either_answers k account w (Some t) st h relayable fits = bound_answers k w t st h relayable

-- ---- any item

word_answers : ChallengesAnswer → (k : ℕ) (w : Word) (s : Stage) (st : Standing) (h : ServerState ItemOut) → WordComes w → WordIsRelayable w → ServerFits h → IsDrawn st.entropy → ActsAnswer (at_word itself k w s st h)
word_answers given k w stage.Login st h comes relayable fits drawn = login_answers given k w st h comes relayable fits.0 drawn
word_answers given k w stage.Challenge st h comes relayable fits drawn = challenged_answers k w st h
word_answers given k w (stage.Ready account) st h comes relayable fits drawn = either_answers k account w (option_map told (session_at k h.sessions)) st h relayable fits
word_answers given k w stage.Start st h comes relayable fits drawn = any_answers k w st h
word_answers given k w (stage.Restart account) st h comes relayable fits drawn = any_answers k w st h

abbrev ItemIsRelayable : Item → Type 0
ItemIsRelayable (item.Header at header) = Unit {0}
ItemIsRelayable (item.Element e) = IsRelayableElement e
ItemIsRelayable item.Footer = Unit {0}

read_relayable : (i : ItemOut) → IsRelayable i → ItemIsRelayable (read_of i)
read_relayable (Opening header) h = tt
read_relayable (Whole e) h = h
read_relayable Closing h = tt

item_answers : ChallengesAnswer → (k : ℕ) (i : Item) (st : Standing) (h : ServerState ItemOut) → Comes i → ItemIsRelayable i → ServerFits h → IsDrawn st.entropy → ActsAnswer (at_item itself k i st h)
item_answers given k (item.Header at header) st h comes relayable fits drawn = header_answers k header st h
item_answers given k (item.Element e) st h comes relayable fits drawn = word_answers given k (word_of e) st.stage st h (word_comes e comes) (word_relayable e relayable) fits drawn
item_answers given k item.Footer st h comes relayable fits drawn = closing_answers k

open_answers : ChallengesAnswer → (k : ℕ) (i : Item) (o : Option Connection) (h : ServerState ItemOut) → Comes i → ItemIsRelayable i → ServerFits h → IfSome o ConnectionKeeps → ActsAnswer (at_open itself k i (option_map standing_of o) h)
open_answers given k i None h comes relayable fits found = tt
open_answers given k i (Some c) h comes relayable fits found = item_answers given k i (standing_of c) h comes relayable fits found

after_answers : ChallengesAnswer → (k : ℕ) (i : ItemOut) (h : ServerState ItemOut) → ServerFits h → UpFits i → StepAnswers (after_item itself k (read_of i) (step_of h))
after_answers given k i h keeps fits =
    acts_answer (at_open itself k (read_of i) (standing_at k h) h) (step_of h)
    (open_answers given k (read_of i) (conn_at k h) h (up_comes i fits.0) (read_relayable i fits.1) keeps (value_found ConnectionKeeps (is_number k) h.conns keeps.0.conns)) (record { server_state = keeps.1; outs = tt })

-- The rows of a server say what can be answered, where its challenges can be.
pub server_answers : ChallengesAnswer → ServerAnswers
server_answers given = record {
  handles = λ k i h keeps fits. (after_answers given k i h keeps fits).server_state;
  answers = λ k i h keeps fits. (after_answers given k i h keeps fits).outs;
}

challenges_answer : ChallengesAnswer
challenges_answer e entropy accounts plain short few drawn keeps = auth_answers e entropy accounts plain (λ is. few) drawn keeps

pub what_a_server_says_is_answered : ServerAnswers
what_a_server_says_is_answered = server_answers challenges_answer
