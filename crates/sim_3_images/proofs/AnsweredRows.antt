-- What the rows of a stream and of a session say can be answered.
use Rattle.std.proofs.Common.{ℕ, nat_le, Bool, true, false, List, [], ◌∷◌, Option, Some, None, IfSome, Result, Ok, Err, cond, length, refl}
use Rattle.std.specs.List.{AllByRecursion}
use Rattle.std.specs.Option.{option_map}
use Rattle.std.specs.Result.{result_ok}
use Rattle.sm_acks.specs.Counters.{ahead}
use Rattle.sm_acks.specs.declared.end.TooHigh.{TooHigh}
use Rattle.sim_3_images.proofs.AnsweredItems.{other_answers}
use Rattle.sim_3_images.proofs.AnsweredReplies.{refusal_answers, result_answers}
use Rattle.sim_3_images.proofs.AnsweredSteps.{ActsAnswer, error_answers, request_answers}
use Rattle.sim_3_images.specs.Relayable.{IsAnswered, SessionAnswers}
use Rattle.srv_state.specs.Logins.{answering, failing, finishing}
use Rattle.srv_state.specs.State.{ServerState}
use Rattle.srv_state.specs.Steps.{Act}
use Rattle.srv_state.specs.Streams.{answering_header, at_any, at_header, awaits_header, closing, ending, ending_in, field_condition, header_condition, header_in, opening, parting, parting_where}
use Rattle.srv_state.specs.declared.connection.Stage.{Stage}
use Rattle.srv_state.specs.declared.connection.Stage.TheVariants as stage
use Rattle.srv_state.specs.declared.connection.Standing.{Standing}
use Rattle.srv_state.specs.declared.connection.Tries.{Tries}
use Rattle.srv_state.specs.declared.connection.Tries.TheVariants as tries
use Rattle.srv_state.specs.declared.limits.TheConstants.{ASKS_AT}
use Rattle.srv_state.specs.declared.word.Word.{Word}
use Rattle.srv_state.specs.declared.word.Word.TheVariants as word
use Rattle.sim_3_items.specs.ItemWorlds.{itself}
use Rattle.sm_live.specs.Sessions.{Session, ack_answer, ended_of, resume_answer, session_named, session_of, session_resumed}
use Rattle.sm_live.specs.declared.told.SessionInfo.{SessionInfo}
use Rattle.srv_login.specs.Headers.{header_answer}
use Rattle.srv_login.specs.Negotiations.{LoginView, final_answer}
use Rattle.srv_login.specs.declared.header_judgement.HeaderAnswer.{HeaderAnswer}
use Rattle.srv_login.specs.declared.header_judgement.HeaderAnswer.TheVariants.{Opens, Refused}
use Rattle.srv_login.specs.declared.negotiation.Negotiation.{Negotiation}
use Rattle.srv_login.specs.declared.sasl_condition.SaslCondition.{SaslCondition}
use Rattle.xml_names.specs.declared.headers.Header.{Header}
use Rattle.im_replies.specs.Streams.{error_item, too_high_item}
use Rattle.im_replies.specs.declared.conditions.StreamCondition.{StreamCondition}
use Rattle.im_replies.specs.declared.conditions.StreamCondition.TheVariants as stream
use Rattle.sm_resumption.specs.declared.answers.ResumeFault.{ResumeFault}
use Rattle.sm_resumption.specs.declared.answers.ResumeFault.TheVariants.{TooHigh as TooHighFault, UnknownPrevid}
use Rattle.sm_resumption.specs.declared.answers.ResumeOk.{ResumeOk}
use Rattle.law_limits.proofs.Lists.{each_drop, each_found}
use Rattle.srv_handlers.specs.Bindings.{asked_resource, at_bind, bad_request, binding_as, chosen, former_of}
use Rattle.srv_handlers.specs.Managements.{acknowledging, at_ack, at_request, refusing}
use Rattle.srv_handlers.specs.Resumptions.{asking, at_resume, resent_where, resuming, saying}
use Rattle.im_stanza.specs.declared.conditions.Condition.{Condition}
use Rattle.im_stanza.specs.declared.conditions.Condition.TheVariants.{ItemNotFound, UnexpectedRequest}
use Rattle.xml_trees.specs.Trees.{Elem}
use Rattle.xml_writer.specs.Items.{ItemOut}

-- ---- how streams begin and end

pub closing_answers : (k : ℕ) → ActsAnswer (closing itself k)
closing_answers k = (tt, (tt, tt))

pub parting_answers : (k : ℕ) (i : ItemOut) → IsAnswered i → ActsAnswer (parting itself k i)
parting_answers k i r = (r, closing_answers k)

pub parting_where_answers : (o : Option ℕ) (i : ItemOut) (more : List (Act ItemOut)) → IsAnswered i → ActsAnswer more → ActsAnswer (parting_where itself o i more)
parting_where_answers None i more r h = h
parting_where_answers (Some k) i more r h = (r, (tt, (tt, h)))

ending_at : (k : ℕ) (c : StreamCondition) (s : Stage) (entropy : List ℕ) (h : ServerState ItemOut) → ActsAnswer (ending_in itself k c s entropy h)
ending_at k c stage.Start entropy h = (tt, parting_answers k (error_item c) (error_answers c))
ending_at k c stage.Login entropy h = parting_answers k (error_item c) (error_answers c)
ending_at k c stage.Challenge entropy h = parting_answers k (error_item c) (error_answers c)
ending_at k c (stage.Restart account) entropy h = parting_answers k (error_item c) (error_answers c)
ending_at k c (stage.Ready account) entropy h = parting_answers k (error_item c) (error_answers c)

pub ending_answers : (k : ℕ) (c : StreamCondition) (st : Standing) (h : ServerState ItemOut) → ActsAnswer (ending itself k c st h)
ending_answers k c st h = ending_at k c st.stage st.entropy h

pub any_answers : (k : ℕ) (w : Word) (st : Standing) (h : ServerState ItemOut) → ActsAnswer (at_any itself k w st h)
any_answers k (word.Stanza long read) st h = ending_answers k stream.UnsupportedStanzaType st h
any_answers k (word.Enable resume) st h = ending_answers k stream.UnsupportedStanzaType st h
any_answers k word.Request st h = ending_answers k stream.UnsupportedStanzaType st h
any_answers k (word.Ack n) st h = ending_answers k stream.UnsupportedStanzaType st h
any_answers k (word.Resume previd n) st h = ending_answers k stream.UnsupportedStanzaType st h
any_answers k (word.Auth e bad) st h = ending_answers k (field_condition bad) st h
any_answers k (word.Response e bad) st h = ending_answers k (field_condition bad) st h
any_answers k word.Abort st h = ending_answers k stream.UnsupportedStanzaType st h
any_answers k word.BadField st h = ending_answers k stream.BadFormat st h
any_answers k word.StreamError st h = closing_answers k
any_answers k word.Other st h = ending_answers k stream.UnsupportedStanzaType st h

opening_answers : (k : ℕ) (entropy : List ℕ) (s : Stage) (h : ServerState ItemOut) → ActsAnswer (opening itself k entropy s h)
opening_answers k entropy (stage.Restart account) h = (tt, (other_answers _ refl refl refl refl, (tt, tt)))
opening_answers k entropy stage.Start h = (tt, (other_answers _ refl refl refl refl, (tt, tt)))
opening_answers k entropy stage.Login h = (tt, (other_answers _ refl refl refl refl, (tt, tt)))
opening_answers k entropy stage.Challenge h = (tt, (other_answers _ refl refl refl refl, (tt, tt)))
opening_answers k entropy (stage.Ready account) h = (tt, (other_answers _ refl refl refl refl, (tt, tt)))

headed_answers : (k : ℕ) (st : Standing) (a : HeaderAnswer) (h : ServerState ItemOut) → ActsAnswer (answering_header itself k st a h)
headed_answers k st Opens h = opening_answers k st.entropy st.stage h
headed_answers k st (Refused why) h = ending_answers k (header_condition why) st h

header_by : (k : ℕ) (header : Header) (st : Standing) (b : Bool) (h : ServerState ItemOut) → ActsAnswer (header_in itself k header st b h)
header_by k header st true h = headed_answers k st (header_answer h.domain header) h
header_by k header st false h = ending_answers k stream.UnsupportedStanzaType st h

pub header_answers : (k : ℕ) (header : Header) (st : Standing) (h : ServerState ItemOut) → ActsAnswer (at_header itself k header st h)
header_answers k header st h = header_by k header st (awaits_header st.stage) h

-- ---- logins

pub failing_answers : (k : ℕ) (why : SaslCondition) (left : Tries) → ActsAnswer (failing itself k why left)
failing_answers k why tries.Three = (other_answers _ refl refl refl refl, (tt, tt))
failing_answers k why tries.Two = (other_answers _ refl refl refl refl, (tt, tt))
failing_answers k why tries.One = (other_answers _ refl refl refl refl, parting_answers k (error_item stream.PolicyViolation) (error_answers stream.PolicyViolation))

finishing_answers : (k : ℕ) (left : Tries) (r : Result LoginView SaslCondition) → ActsAnswer (finishing itself k left r)
finishing_answers k left (Ok login) = (other_answers _ refl refl refl refl, (tt, tt))
finishing_answers k left (Err why) = failing_answers k why left

pub response_answers : (k : ℕ) (left : Tries) (e : Elem) (o : Option Negotiation) → ActsAnswer (answering itself k left (option_map (final_answer e) o))
response_answers k left e None = tt
response_answers k left e (Some n) = finishing_answers k left (final_answer e n)

-- ---- a binding

bound_as : (k account : ℕ) (id : List ℕ) (o : Option (List ℕ)) (h : ServerState ItemOut) → ActsAnswer (binding_as itself k account id o h)
bound_as k account id None h = (refusal_answers None None id bad_request, tt)
bound_as k account id (Some resource) h =
    (tt, parting_where_answers (former_of (option_map ended_of (session_named account resource h.sessions))) (error_item stream.Conflict) _ (error_answers stream.Conflict) (result_answers (record { from = None; to = None; id = id }) _, tt))

pub bind_answers : (k account : ℕ) (id : List ℕ) (bind : Elem) (h : ServerState ItemOut) → ActsAnswer (at_bind itself k account id bind h)
bind_answers k account id bind h = bound_as k account id (result_ok (chosen h.next (asked_resource bind))) h

-- ---- acknowledgements

pub refusing_answers : (k : ℕ) (c : Condition) → ActsAnswer (refusing itself k c)
refusing_answers k c = (other_answers _ refl refl refl refl, tt)

pub either_acts : (b : Bool) (x y : List (Act ItemOut)) → ActsAnswer x → ActsAnswer y → ActsAnswer (cond b x y)
either_acts true x y h k = h
either_acts false x y h k = k

pub request_acts : (k : ℕ) (t : SessionInfo) → ActsAnswer (at_request itself k t)
request_acts k t = either_acts t.counted _ _ (other_answers _ refl refl refl refl, tt) (refusing_answers k UnexpectedRequest)

acknowledging_answers : (k n m : ℕ) (o : Option (Result ℕ TooHigh)) → ActsAnswer (acknowledging itself k n m o)
acknowledging_answers k n m None = tt
acknowledging_answers k n m (Some (Ok more)) = (tt, (tt, tt))
acknowledging_answers k n m (Some (Err why)) = parting_answers k (too_high_item why.h why.send_count) (other_answers _ refl refl refl refl)

pub ack_answers : (k m : ℕ) (t : SessionInfo) (h : ServerState ItemOut) → ActsAnswer (at_ack itself k m t h)
ack_answers k m t h = either_acts t.counted _ _ (acknowledging_answers k t.number m (option_map (ack_answer m) (session_of t.number h.sessions))) (refusing_answers k UnexpectedRequest)

-- ---- a resumption

saying_answers : (k : ℕ) (items : List ItemOut) (more : List (Act ItemOut)) → AllByRecursion IsAnswered items → ActsAnswer more → ActsAnswer (saying k items more)
saying_answers k [] more h m = m
saying_answers k (i ∷ items) more h m = (h.0, saying_answers k items more h.1 m)

asking_answers : (k n : ℕ) (b : Bool) → ActsAnswer (asking itself k n b)
asking_answers k n true = (tt, (request_answers, tt))
asking_answers k n false = tt

resent_answers : (m : ℕ) (o : Option (Session ItemOut)) → IfSome o SessionAnswers → AllByRecursion IsAnswered (resent_where m o)
resent_answers m None h = tt
resent_answers m (Some s) h = each_drop IsAnswered (ahead m s.acked) s.waiting h

resuming_answers : (k account : ℕ) (previd : List ℕ) (m : ℕ) (r : Result ResumeOk ResumeFault) (waiting : List ItemOut) → AllByRecursion IsAnswered waiting → ActsAnswer (resuming itself k account previd m r waiting)
resuming_answers k account previd m (Err UnknownPrevid) waiting w = refusing_answers k ItemNotFound
resuming_answers k account previd m (Err (TooHighFault stated count former)) waiting w =
    (tt, (other_answers _ refl refl refl refl, (tt, (tt, parting_where_answers former (error_item stream.Conflict) [] (error_answers stream.Conflict) tt))))
resuming_answers k account previd m (Ok r) waiting w = (
  tt,
  (
    tt,
    parting_where_answers r.former (error_item stream.Conflict) _ (error_answers stream.Conflict)
        (other_answers _ refl refl refl refl, saying_answers k waiting (asking itself k r.number (nat_le ASKS_AT (length waiting))) w (asking_answers k r.number (nat_le ASKS_AT (length waiting)))),
  ),
)

pub resume_answers : (k account : ℕ) (previd : List ℕ) (m : ℕ) (h : ServerState ItemOut) → AllByRecursion SessionAnswers h.sessions → ActsAnswer (at_resume itself k account previd m h)
resume_answers k account previd m h keeps =
    let o = session_resumed previd account h.sessions in
    resuming_answers k account previd m (resume_answer m o) (resent_where m o) (resent_answers m o (each_found SessionAnswers _ h.sessions keeps))
