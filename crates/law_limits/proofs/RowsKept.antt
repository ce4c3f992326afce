-- What the rows of a stream and of a session say is read.
use Rattle.std.proofs.Common.{◌≡◌, ℕ, ◌^◌, ◌<◌, nat_le, Bool, true, false, List, [], ◌∷◌, Option, Some, None, IfSome, Result, Ok, Err, cond, length, refl, arith, length-drop}
use Rattle.std.specs.List.{AllByRecursion}
use Rattle.std.specs.Option.{option_map}
use Rattle.std.specs.Result.{result_ok}
use Rattle.sm_acks.specs.Counters.{ahead}
use Rattle.sm_acks.specs.declared.end.TooHigh.{TooHigh}
use Rattle.base_lemmas.specs.Hexadecimal.{hex16_of}
use Rattle.srv_state.specs.Logins.{answering, at_challenge, at_login, at_login_other, beginning, failing, finishing, negotiation_at}
use Rattle.srv_state.specs.State.{ServerState}
use Rattle.srv_state.specs.Steps.{Act}
use Rattle.srv_state.specs.Streams.{answering_header, at_any, at_header, awaits_header, closing, ending, ending_in, field_condition, header_condition, header_in, opening, parting, parting_where}
use Rattle.srv_state.specs.declared.connection.Stage.{Stage}
use Rattle.srv_state.specs.declared.connection.Stage.TheVariants as stage
use Rattle.srv_state.specs.declared.connection.Standing.{Standing}
use Rattle.srv_state.specs.declared.connection.Tries.{Tries}
use Rattle.srv_state.specs.declared.connection.Tries.TheVariants as tries
use Rattle.sm_resumption.specs.declared.answers.TheConstants.{RESUMABLE_SECONDS}
use Rattle.srv_state.specs.declared.limits.TheConstants.{ASKS_AT}
use Rattle.srv_state.specs.declared.word.Word.{Word}
use Rattle.srv_state.specs.declared.word.Word.TheVariants as word
use Rattle.im_jid.specs.Forms.{resource_form}
use Rattle.im_jid.specs.declared.fault.JidFault.{JidFault}
use Rattle.sm_live.specs.Sessions.{Session, ack_answer, ended_of, is_too_high, resume_answer, resume_ok, send_count, session_named, session_of, session_resumed}
use Rattle.sm_live.specs.declared.told.SessionInfo.{SessionInfo}
use Rattle.srv_login.specs.Headers.{header_answer}
use Rattle.srv_login.specs.Negotiations.{LoginView, auth_answer, final_answer}
use Rattle.srv_login.specs.declared.header_judgement.HeaderAnswer.{HeaderAnswer}
use Rattle.srv_login.specs.declared.header_judgement.HeaderAnswer.TheVariants.{Opens, Refused}
use Rattle.srv_login.specs.declared.negotiation.AuthAnswer.{AuthAnswer}
use Rattle.srv_login.specs.declared.negotiation.AuthAnswer.TheVariants as auth
use Rattle.srv_login.specs.declared.negotiation.Negotiation.{Negotiation}
use Rattle.srv_login.specs.declared.sasl_condition.SaslCondition.{SaslCondition}
use Rattle.srv_login.specs.declared.sasl_condition.SaslCondition.TheVariants as condition
use Rattle.xml_names.specs.declared.headers.Header.{Header}
use Rattle.law_limits.proofs.Logins.{header_fits, header_plain, stream_id_said}
use Rattle.law_limits.proofs.PutReplies.{ack_read, enabled_read, login_features_read, refused_read, resumed_read, session_features_read, too_high_read}
use Rattle.law_limits.proofs.Requests.{bound_bounded, bound_stays, iq_error_read, result_read, resumable_read}
use Rattle.im_replies.specs.Streams.{error_item, header_item, stream_id, too_high_item}
use Rattle.im_replies.specs.declared.conditions.StreamCondition.{StreamCondition}
use Rattle.im_replies.specs.declared.conditions.StreamCondition.TheVariants as stream
use Rattle.sm_resumption.specs.declared.answers.ResumeFault.{ResumeFault}
use Rattle.sm_resumption.specs.declared.answers.ResumeFault.TheVariants.{TooHigh as TooHighFault, UnknownPrevid}
use Rattle.sm_resumption.specs.declared.answers.ResumeOk.{ResumeOk}
use Rattle.law_limits.proofs.ServedAddresses.{full_said}
use Rattle.law_limits.proofs.Lists.{each_drop, each_found}
use Rattle.law_limits.proofs.ServerLoginsKept.{AnswerKeeps, LoginKeeps, auth_keeps, failure_item_read, final_keeps}
use Rattle.law_limits.proofs.ServerStepsKept.{closing_read, error_item_read, request_item_read, whole_read}
use Rattle.law_limits.specs.Keeps.{ActsKeep, IsDrawn, IsRead, ServerKeeps, SessionKeeps}
use Rattle.law_limits.specs.Words.{WordComes}
use Rattle.law_server.specs.Encodings.{itself}
use Rattle.srv_handlers.specs.Bindings.{asked_resource, at_bind, bad_request, binding_as, chosen, former_of}
use Rattle.srv_handlers.specs.Managements.{acknowledging, at_ack, at_enable, at_request, enabled_as, refusing}
use Rattle.srv_handlers.specs.Resumptions.{asking, at_resume, resent_where, resuming, saying}
use Rattle.law_limits.proofs.SizesOfAddresses.{resource_said}
use Rattle.law_limits.proofs.Characters.{said_append, said_more, said_word}
use Rattle.law_limits.proofs.Numerals.{said_hex}
use Rattle.law_limits.specs.Texts.{Said}
use Rattle.im_stanza.specs.Conditions.{IsKnown}
use Rattle.im_stanza.specs.declared.conditions.Condition.{Condition}
use Rattle.im_stanza.specs.declared.conditions.Condition.TheVariants.{ItemNotFound, UnexpectedRequest}
use Rattle.xml_tokens.specs.Lines.{IsCharacters}
use Rattle.xml_trees.specs.Trees.{Elem}
use Rattle.xml_writer.specs.Items.{ItemOut}

-- ---- how streams begin and end

header_item_read : (h : ServerState ItemOut) (k : ℕ) (entropy : List ℕ) → ServerKeeps h → IsDrawn entropy → IsRead (header_item h.domain k entropy)
header_item_read h k entropy keeps drawn =
    let few = drawn.short in
    let id = stream_id_said k entropy (omega (arith, few, length-drop 18 entropy)) in
    (header_plain h.domain (stream_id k entropy) 6138 12096 keeps.domain id, header_fits h.domain (stream_id k entropy) keeps.domain id, omega arith)

pub closing_kept : (k : ℕ) → ActsKeep (closing itself k)
closing_kept k = (closing_read, (tt, tt))

pub parting_kept : (k : ℕ) (i : ItemOut) → IsRead i → ActsKeep (parting itself k i)
parting_kept k i r = (r, closing_kept k)

pub parting_where_kept : (o : Option ℕ) (i : ItemOut) (more : List (Act ItemOut)) → IsRead i → ActsKeep more → ActsKeep (parting_where itself o i more)
parting_where_kept None i more r h = h
parting_where_kept (Some k) i more r h = (r, (closing_read, (tt, h)))

ending_at : (k : ℕ) (c : StreamCondition) (s : Stage) (entropy : List ℕ) (h : ServerState ItemOut) → ServerKeeps h → IsDrawn entropy → ActsKeep (ending_in itself k c s entropy h)
ending_at k c stage.Start entropy h keeps drawn = (header_item_read h k entropy keeps drawn, parting_kept k (error_item c) (error_item_read c))
ending_at k c stage.Login entropy h keeps drawn = parting_kept k (error_item c) (error_item_read c)
ending_at k c stage.Challenge entropy h keeps drawn = parting_kept k (error_item c) (error_item_read c)
ending_at k c (stage.Restart account) entropy h keeps drawn = parting_kept k (error_item c) (error_item_read c)
ending_at k c (stage.Ready account) entropy h keeps drawn = parting_kept k (error_item c) (error_item_read c)

pub ending_kept : (k : ℕ) (c : StreamCondition) (st : Standing) (h : ServerState ItemOut) → ServerKeeps h → IsDrawn st.entropy → ActsKeep (ending itself k c st h)
ending_kept k c st h keeps drawn = ending_at k c st.stage st.entropy h keeps drawn

pub any_kept : (k : ℕ) (w : Word) (st : Standing) (h : ServerState ItemOut) → ServerKeeps h → IsDrawn st.entropy → ActsKeep (at_any itself k w st h)
any_kept k (word.Stanza long read) st h keeps drawn = ending_kept k stream.UnsupportedStanzaType st h keeps drawn
any_kept k (word.Enable resume) st h keeps drawn = ending_kept k stream.UnsupportedStanzaType st h keeps drawn
any_kept k word.Request st h keeps drawn = ending_kept k stream.UnsupportedStanzaType st h keeps drawn
any_kept k (word.Ack n) st h keeps drawn = ending_kept k stream.UnsupportedStanzaType st h keeps drawn
any_kept k (word.Resume previd n) st h keeps drawn = ending_kept k stream.UnsupportedStanzaType st h keeps drawn
any_kept k (word.Auth e bad) st h keeps drawn = ending_kept k (field_condition bad) st h keeps drawn
any_kept k (word.Response e bad) st h keeps drawn = ending_kept k (field_condition bad) st h keeps drawn
any_kept k word.Abort st h keeps drawn = ending_kept k stream.UnsupportedStanzaType st h keeps drawn
any_kept k word.BadField st h keeps drawn = ending_kept k stream.BadFormat st h keeps drawn
any_kept k word.StreamError st h keeps drawn = closing_kept k
any_kept k word.Other st h keeps drawn = ending_kept k stream.UnsupportedStanzaType st h keeps drawn

opening_kept : (k : ℕ) (entropy : List ℕ) (s : Stage) (h : ServerState ItemOut) → ServerKeeps h → IsDrawn entropy → ActsKeep (opening itself k entropy s h)
opening_kept k entropy (stage.Restart account) h keeps drawn = (header_item_read h k entropy keeps drawn, (whole_read _ session_features_read, (tt, tt)))
opening_kept k entropy stage.Start h keeps drawn = (header_item_read h k entropy keeps drawn, (whole_read _ login_features_read, (tt, tt)))
opening_kept k entropy stage.Login h keeps drawn = (header_item_read h k entropy keeps drawn, (whole_read _ login_features_read, (tt, tt)))
opening_kept k entropy stage.Challenge h keeps drawn = (header_item_read h k entropy keeps drawn, (whole_read _ login_features_read, (tt, tt)))
opening_kept k entropy (stage.Ready account) h keeps drawn = (header_item_read h k entropy keeps drawn, (whole_read _ login_features_read, (tt, tt)))

answering_kept : (k : ℕ) (st : Standing) (a : HeaderAnswer) (h : ServerState ItemOut) → ServerKeeps h → IsDrawn st.entropy → ActsKeep (answering_header itself k st a h)
answering_kept k st Opens h keeps drawn = opening_kept k st.entropy st.stage h keeps drawn
answering_kept k st (Refused why) h keeps drawn = ending_kept k (header_condition why) st h keeps drawn

header_by : (k : ℕ) (header : Header) (st : Standing) (b : Bool) (h : ServerState ItemOut) → ServerKeeps h → IsDrawn st.entropy → ActsKeep (header_in itself k header st b h)
header_by k header st true h keeps drawn = answering_kept k st (header_answer h.domain header) h keeps drawn
header_by k header st false h keeps drawn = ending_kept k stream.UnsupportedStanzaType st h keeps drawn

pub header_kept : (k : ℕ) (header : Header) (st : Standing) (h : ServerState ItemOut) → ServerKeeps h → IsDrawn st.entropy → ActsKeep (at_header itself k header st h)
header_kept k header st h keeps drawn = header_by k header st (awaits_header st.stage) h keeps drawn

-- ---- logins

failing_kept : (k : ℕ) (why : SaslCondition) (left : Tries) → ActsKeep (failing itself k why left)
failing_kept k why tries.Three = (failure_item_read why, (tt, tt))
failing_kept k why tries.Two = (failure_item_read why, (tt, tt))
failing_kept k why tries.One = (failure_item_read why, parting_kept k (error_item stream.PolicyViolation) (error_item_read stream.PolicyViolation))

beginning_kept : (k : ℕ) (left : Tries) (a : AuthAnswer) → AnswerKeeps a → ActsKeep (beginning itself k left a)
beginning_kept k left (auth.Begins n) h = (h, (tt, tt))
beginning_kept k left (auth.Fails why) h = failing_kept k why left

finishing_kept : (k : ℕ) (left : Tries) (r : Result LoginView SaslCondition) → LoginKeeps r → ActsKeep (finishing itself k left r)
finishing_kept k left (Ok login) h = (h, (tt, tt))
finishing_kept k left (Err why) h = failing_kept k why left

response_kept : (k : ℕ) (left : Tries) (e : Elem) (o : Option Negotiation) → ActsKeep (answering itself k left (option_map (final_answer e) o))
response_kept k left e None = tt
response_kept k left e (Some n) = finishing_kept k left (final_answer e n) (final_keeps e n)

other_kept : (k : ℕ) (w : Word) (st : Standing) (h : ServerState ItemOut) → ServerKeeps h → IsDrawn st.entropy → ActsKeep (at_login_other itself k w st h)
other_kept k (word.Stanza long read) st h keeps drawn = ending_kept k stream.NotAuthorized st h keeps drawn
other_kept k word.Abort st h keeps drawn = failing_kept k condition.Aborted st.tries
other_kept k (word.Enable resume) st h keeps drawn = any_kept k (word.Enable resume) st h keeps drawn
other_kept k word.Request st h keeps drawn = any_kept k word.Request st h keeps drawn
other_kept k (word.Ack n) st h keeps drawn = any_kept k (word.Ack n) st h keeps drawn
other_kept k (word.Resume previd n) st h keeps drawn = any_kept k (word.Resume previd n) st h keeps drawn
other_kept k (word.Auth e bad) st h keeps drawn = any_kept k (word.Auth e bad) st h keeps drawn
other_kept k (word.Response e bad) st h keeps drawn = any_kept k (word.Response e bad) st h keeps drawn
other_kept k word.BadField st h keeps drawn = any_kept k word.BadField st h keeps drawn
other_kept k word.StreamError st h keeps drawn = any_kept k word.StreamError st h keeps drawn
other_kept k word.Other st h keeps drawn = any_kept k word.Other st h keeps drawn

pub login_kept : (k : ℕ) (w : Word) (st : Standing) (h : ServerState ItemOut) → WordComes w → ServerKeeps h → IsDrawn st.entropy → ActsKeep (at_login itself k w st h)
login_kept k (word.Auth e bad) st h comes keeps drawn = beginning_kept k st.tries (auth_answer e st.entropy h.accounts) (auth_keeps e st.entropy h.accounts comes.0 comes.1 drawn keeps.accounts)
login_kept k (word.Stanza long read) st h comes keeps drawn = other_kept k (word.Stanza long read) st h keeps drawn
login_kept k (word.Enable resume) st h comes keeps drawn = other_kept k (word.Enable resume) st h keeps drawn
login_kept k word.Request st h comes keeps drawn = other_kept k word.Request st h keeps drawn
login_kept k (word.Ack n) st h comes keeps drawn = other_kept k (word.Ack n) st h keeps drawn
login_kept k (word.Resume previd n) st h comes keeps drawn = other_kept k (word.Resume previd n) st h keeps drawn
login_kept k (word.Response e bad) st h comes keeps drawn = other_kept k (word.Response e bad) st h keeps drawn
login_kept k word.Abort st h comes keeps drawn = other_kept k word.Abort st h keeps drawn
login_kept k word.BadField st h comes keeps drawn = other_kept k word.BadField st h keeps drawn
login_kept k word.StreamError st h comes keeps drawn = other_kept k word.StreamError st h keeps drawn
login_kept k word.Other st h comes keeps drawn = other_kept k word.Other st h keeps drawn

pub challenge_kept : (k : ℕ) (w : Word) (st : Standing) (h : ServerState ItemOut) → ServerKeeps h → IsDrawn st.entropy → ActsKeep (at_challenge itself k w st h)
challenge_kept k (word.Response e bad) st h keeps drawn = response_kept k st.tries e (negotiation_at k h)
challenge_kept k (word.Auth e bad) st h keeps drawn = other_kept k (word.Auth e bad) st h keeps drawn
challenge_kept k (word.Stanza long read) st h keeps drawn = other_kept k (word.Stanza long read) st h keeps drawn
challenge_kept k (word.Enable resume) st h keeps drawn = other_kept k (word.Enable resume) st h keeps drawn
challenge_kept k word.Request st h keeps drawn = other_kept k word.Request st h keeps drawn
challenge_kept k (word.Ack n) st h keeps drawn = other_kept k (word.Ack n) st h keeps drawn
challenge_kept k (word.Resume previd n) st h keeps drawn = other_kept k (word.Resume previd n) st h keeps drawn
challenge_kept k word.Abort st h keeps drawn = other_kept k word.Abort st h keeps drawn
challenge_kept k word.BadField st h keeps drawn = other_kept k word.BadField st h keeps drawn
challenge_kept k word.StreamError st h keeps drawn = other_kept k word.StreamError st h keeps drawn
challenge_kept k word.Other st h keeps drawn = other_kept k word.Other st h keeps drawn

-- ---- a binding (RFC 6120, section 7)

chosen_said : (n : ℕ) (asked : List ℕ) → IsCharacters asked → IfSome (result_ok (chosen n asked)) (Said 6138)
chosen_said n [] h = said_more 102 6138 (114 ∷ hex16_of n) (said_append 6 96 102 (114 ∷ []) (hex16_of n) (said_word 6 (114 ∷ []) refl refl) (said_hex n) (omega arith)) (omega arith)
chosen_said n (b ∷ bs) h = formed (resource_form (b ∷ bs)) refl
  where
    formed : (r : Result (List ℕ) JidFault) → resource_form (b ∷ bs) ≡ r → IfSome (result_ok r) (Said 6138)
    formed (Ok part) is = resource_said (b ∷ bs) part h is
    formed (Err e) is = tt

bound_as : (k account : ℕ) (id : List ℕ) (o : Option (List ℕ)) (h : ServerState ItemOut) → ServerKeeps h → Said 393216 id → IfSome o (Said 6138) → ActsKeep (binding_as itself k account id o h)
bound_as k account id None h keeps said o = (whole_read _ (iq_error_read 0 393216 0 None None id bad_request tt said tt tt (omega arith)), tt)
bound_as k account id (Some resource) h keeps said o = (
  o,
  parting_where_kept (former_of (option_map ended_of (session_named account resource h.sessions))) (error_item stream.Conflict) _ (error_item_read stream.Conflict)
      (whole_read _ (result_read 0 393216 0 2 19226 (record { from = None; to = None; id = id }) _ tt said tt (bound_stays _) (bound_bounded 18426 _ (full_said account resource h keeps o)) (omega arith) (omega arith)), tt),
)

pub bind_kept : (k account : ℕ) (id : List ℕ) (bind : Elem) (h : ServerState ItemOut) → ServerKeeps h → Said 393216 id → IsCharacters (asked_resource bind) → ActsKeep (at_bind itself k account id bind h)
bind_kept k account id bind h keeps said asked = bound_as k account id (result_ok (chosen h.next (asked_resource bind))) h keeps said (chosen_said h.next (asked_resource bind) asked)

-- ---- acknowledgements (XEP-0198, sections 3 and 4)

-- what is told of a session that is there
abbrev pub ToldKeeps : SessionInfo → Type 0
ToldKeeps t = t.handled < 2 ^ 32

pub refusing_kept : (k : ℕ) (c : Condition) → IsKnown c → ActsKeep (refusing itself k c)
refusing_kept k c known = (whole_read _ (refused_read c known), tt)

pub either_acts : (b : Bool) (x y : List (Act ItemOut)) → ActsKeep x → ActsKeep y → ActsKeep (cond b x y)
either_acts true x y h k = h
either_acts false x y h k = k

enabled_as_read : (n : ℕ) (b : Bool) → IsRead (enabled_as n b)
enabled_as_read n true = whole_read _ (resumable_read n RESUMABLE_SECONDS (omega arith))
enabled_as_read n false = whole_read _ enabled_read

pub enable_kept : (k : ℕ) (resume : Bool) (t : SessionInfo) → ActsKeep (at_enable itself k resume t)
enable_kept k resume t = either_acts t.counted _ _ (refusing_kept k UnexpectedRequest tt) (tt, (enabled_as_read t.number resume, tt))

wider : (n : ℕ) → n < 2 ^ 32 → n < 2 ^ 64
wider n h = omega (arith, h)

pub request_kept : (k : ℕ) (t : SessionInfo) → ToldKeeps t → ActsKeep (at_request itself k t)
request_kept k t h = either_acts t.counted _ _ (whole_read _ (ack_read t.handled (wider t.handled h)), tt) (refusing_kept k UnexpectedRequest tt)

abbrev CountKeeps : Result ℕ TooHigh → Type 0
CountKeeps (Ok more) = Unit {0}
CountKeeps (Err why) = (why.h < 2 ^ 32) × (why.send_count < 2 ^ 32)

either_count : (b : Bool) (x y : Result ℕ TooHigh) → CountKeeps x → CountKeeps y → CountKeeps (cond b x y)
either_count true x y h k = h
either_count false x y h k = k

ack_keeps : (n : ℕ) (o : Option (Session ItemOut)) → n < 2 ^ 32 → IfSome (option_map (ack_answer n) o) CountKeeps
ack_keeps n None small = tt
ack_keeps n (Some s) small = either_count (is_too_high n s) (Err (record { h = n; send_count = send_count s })) (Ok (ahead n s.acked)) (small, omega arith) tt

acknowledging_kept : (k n m : ℕ) (o : Option (Result ℕ TooHigh)) → m < 2 ^ 32 → IfSome o CountKeeps → ActsKeep (acknowledging itself k n m o)
acknowledging_kept k n m None small h = tt
acknowledging_kept k n m (Some (Ok more)) small h = (small, (tt, tt))
acknowledging_kept k n m (Some (Err why)) small h = parting_kept k (too_high_item why.h why.send_count) (whole_read _ (too_high_read why.h why.send_count (wider why.h h.0) (wider why.send_count h.1)))

pub ack_kept : (k m : ℕ) (t : SessionInfo) (h : ServerState ItemOut) → m < 2 ^ 32 → ActsKeep (at_ack itself k m t h)
ack_kept k m t h small =
    either_acts t.counted _ _ (acknowledging_kept k t.number m (option_map (ack_answer m) (session_of t.number h.sessions)) small (ack_keeps m (session_of t.number h.sessions) small)) (refusing_kept k UnexpectedRequest tt)

-- ---- a resumption (XEP-0198, section 5)

saying_kept : (k : ℕ) (items : List ItemOut) (more : List (Act ItemOut)) → AllByRecursion IsRead items → ActsKeep more → ActsKeep (saying k items more)
saying_kept k [] more h m = m
saying_kept k (i ∷ items) more h m = (h.0, saying_kept k items more h.1 m)

asking_kept : (k n : ℕ) (b : Bool) → ActsKeep (asking itself k n b)
asking_kept k n true = (tt, (request_item_read, tt))
asking_kept k n false = tt

abbrev ResumeKeeps : Result ResumeOk ResumeFault → Type 0
ResumeKeeps (Ok r) = r.handled < 2 ^ 32
ResumeKeeps (Err UnknownPrevid) = Unit {0}
ResumeKeeps (Err (TooHighFault stated count former)) = (stated < 2 ^ 32) × (count < 2 ^ 32)

either_resume : (b : Bool) (x y : Result ResumeOk ResumeFault) → ResumeKeeps x → ResumeKeeps y → ResumeKeeps (cond b x y)
either_resume true x y h k = h
either_resume false x y h k = k

resume_keeps : (m : ℕ) (o : Option (Session ItemOut)) → m < 2 ^ 32 → IfSome o SessionKeeps → ResumeKeeps (resume_answer m o)
resume_keeps m None small h = tt
resume_keeps m (Some s) small h = either_resume (is_too_high m s) (Err (TooHighFault m (send_count s) s.shown.conn)) (Ok (resume_ok s)) (small, omega arith) h.handled

resent_keeps : (m : ℕ) (o : Option (Session ItemOut)) → IfSome o SessionKeeps → AllByRecursion IsRead (resent_where m o)
resent_keeps m None h = tt
resent_keeps m (Some s) h = each_drop IsRead (ahead m s.acked) s.waiting h.waiting

resuming_kept : (k account : ℕ) (previd : List ℕ) (m : ℕ) (r : Result ResumeOk ResumeFault) (waiting : List ItemOut) → m < 2 ^ 32 → ResumeKeeps r → AllByRecursion IsRead waiting → ActsKeep (resuming itself k account previd m r waiting)
resuming_kept k account previd m (Err UnknownPrevid) waiting small h w = refusing_kept k ItemNotFound tt
resuming_kept k account previd m (Err (TooHighFault stated count former)) waiting small h w = (
  small,
  (whole_read _ (too_high_read stated count (wider stated h.0) (wider count h.1)), (closing_read, (tt, parting_where_kept former (error_item stream.Conflict) [] (error_item_read stream.Conflict) tt))),
)
resuming_kept k account previd m (Ok r) waiting small h w = (
  small,
  (
    tt,
    parting_where_kept r.former (error_item stream.Conflict) _ (error_item_read stream.Conflict)
        (whole_read _ (resumed_read r.number r.handled (wider r.handled h)), saying_kept k waiting (asking itself k r.number (nat_le ASKS_AT (length waiting))) w (asking_kept k r.number (nat_le ASKS_AT (length waiting)))),
  ),
)

pub resume_kept : (k account : ℕ) (previd : List ℕ) (m : ℕ) (h : ServerState ItemOut) → m < 2 ^ 32 → ServerKeeps h → ActsKeep (at_resume itself k account previd m h)
resume_kept k account previd m h small keeps =
    let o = session_resumed previd account h.sessions in
    let found = each_found SessionKeeps _ h.sessions keeps.sessions in
    resuming_kept k account previd m (resume_answer m o) (resent_where m o) small (resume_keeps m o small found) (resent_keeps m o found)
