-- The rows of items that are no stanza.
use Rattle.std.proofs.Common.{◌≡◌, ℕ, Bool, true, false, cond, List, [], ◌∷◌, Option, Some, None, Result, Ok, Err, sym, subst, codes, length, nat_le}
use Rattle.std.specs.Option.{option_map}
use Rattle.sm_acks.specs.declared.end.TooHigh.{TooHigh as TooHighCount}
use Rattle.srv_state.specs.Logins.{answering, at_challenge, at_login, at_login_other, beginning, failing, negotiation_at}
use Rattle.srv_state.specs.State.{ServerState}
use Rattle.srv_state.specs.Steps.{Act}
use Rattle.srv_state.specs.Streams.{answering_header, at_any, at_header, awaits_header, ending, ending_in, field_condition, header_condition, header_in, opening, parting_where}
use Rattle.srv_state.specs.Words.{if_read, is_bad_management, is_bad_sasl, is_long, is_stanza, is_stream_error, management_word, other_word, resume_word, sasl_word, word_of}
use Rattle.srv_state.specs.declared.connection.Stage.{Stage}
use Rattle.srv_state.specs.declared.connection.Stage.TheVariants as stage
use Rattle.srv_state.specs.declared.connection.Standing.{Standing}
use Rattle.srv_state.specs.declared.connection.Tries.{Tries}
use Rattle.srv_state.specs.declared.connection.Tries.TheVariants as tries
use Rattle.srv_state.specs.declared.limits.TheConstants.{ASKS_AT}
use Rattle.srv_state.specs.declared.word.Word.{Word}
use Rattle.srv_state.specs.declared.word.Word.TheVariants as word
use Rattle.im_extensions.specs.Readings.{resumption_read}
use Rattle.im_extensions.specs.StreamManagement.{ack_read, enable_read, is_management}
use Rattle.law_xml.specs.Spells.{as_written}
use Rattle.sim_3_items.specs.ItemWorlds.{itself, read_of}
use Rattle.sm_live.specs.Sessions.{ack_answer, resume_answer, session_at, session_of, session_resumed, told}
use Rattle.sm_live.specs.declared.told.SessionInfo.{SessionInfo}
use Rattle.srv_login.specs.Headers.{header_answer}
use Rattle.srv_login.specs.Negotiations.{LoginView, auth_answer, final_answer}
use Rattle.srv_login.specs.declared.header_judgement.HeaderAnswer.{HeaderAnswer}
use Rattle.srv_login.specs.declared.header_judgement.HeaderAnswer.TheVariants.{Opens, Refused}
use Rattle.srv_login.specs.declared.negotiation.AuthAnswer.{AuthAnswer}
use Rattle.srv_login.specs.declared.negotiation.AuthAnswer.TheVariants as auth
use Rattle.srv_login.specs.declared.sasl_condition.SaslCondition.{SaslCondition}
use Rattle.srv_login.specs.declared.sasl_condition.SaslCondition.TheVariants.{Aborted}
use Rattle.xml_names.specs.declared.headers.Header.{Header}
use Rattle.im_payload.specs.declared.fault.ExtFault.{ExtFault}
use Rattle.im_replies.specs.declared.conditions.StreamCondition.{StreamCondition}
use Rattle.im_replies.specs.declared.conditions.StreamCondition.TheVariants as stream
use Rattle.sm_resumption.specs.declared.answers.ResumeFault.{ResumeFault}
use Rattle.sm_resumption.specs.declared.answers.ResumeFault.TheVariants.{TooHigh, UnknownPrevid}
use Rattle.sm_resumption.specs.declared.answers.ResumeOk.{ResumeOk}
use Rattle.im_login.specs.Sasl.{is_sasl}
use Rattle.srv_core.specs.Table.{at_open, at_word}
use Rattle.sim_5_moves.proofs.NonStanzaActs.{NonStanza}
use Rattle.sim_5_moves.specs.Coming.{IsNonStanza}
use Rattle.srv_handlers.specs.Managements.{acknowledging}
use Rattle.srv_handlers.specs.Resumptions.{asking, at_resume, resent_where, resuming, saying}
use Rattle.im_stanza.specs.Readings.{stanza_of}
use Rattle.srv_core.specs.Ready.{at_bound, at_ready, at_ready_or_bound}
use Rattle.xml_trees.specs.Trees.{Elem}
use Rattle.xml_writer.specs.Items.{Closing, ItemOut, Opening, Whole}

pub either : (b : Bool) (x y : List (Act ItemOut)) → NonStanza x → NonStanza y → NonStanza (cond b x y)
either true x y here there = here
either false x y here there = there

-- ---- ends

ending_non_stanza : (k : ℕ) (c : StreamCondition) (s : Stage) (entropy : List ℕ) (h : ServerState ItemOut) → NonStanza (ending_in itself k c s entropy h)
ending_non_stanza k c stage.Start entropy h = tt
ending_non_stanza k c stage.Login entropy h = tt
ending_non_stanza k c stage.Challenge entropy h = tt
ending_non_stanza k c (stage.Restart account) entropy h = tt
ending_non_stanza k c (stage.Ready account) entropy h = tt

pub non_stanza_ending : (k : ℕ) (c : StreamCondition) (st : Standing) (h : ServerState ItemOut) → NonStanza (ending itself k c st h)
non_stanza_ending k c st h = ending_non_stanza k c st.stage st.entropy h

pub non_stanza_any : (k : ℕ) (w : Word) (st : Standing) (h : ServerState ItemOut) → NonStanza (at_any itself k w st h)
non_stanza_any k word.BadField st h = non_stanza_ending k stream.BadFormat st h
non_stanza_any k (word.Auth e bad) st h = non_stanza_ending k (field_condition bad) st h
non_stanza_any k (word.Response e bad) st h = non_stanza_ending k (field_condition bad) st h
non_stanza_any k word.StreamError st h = tt
non_stanza_any k w st h = non_stanza_ending k stream.UnsupportedStanzaType st h

pub non_stanza_parting : (o : Option ℕ) (error : ItemOut) (more : List (Act ItemOut)) → NonStanza more → NonStanza (parting_where itself o error more)
non_stanza_parting None error more rest = rest
non_stanza_parting (Some k) error more rest = rest

-- ---- headers

opening_non_stanza : (k : ℕ) (entropy : List ℕ) (s : Stage) (h : ServerState ItemOut) → NonStanza (opening itself k entropy s h)
opening_non_stanza k entropy stage.Start h = tt
opening_non_stanza k entropy stage.Login h = tt
opening_non_stanza k entropy stage.Challenge h = tt
opening_non_stanza k entropy (stage.Restart account) h = tt
opening_non_stanza k entropy (stage.Ready account) h = tt

answering_non_stanza : (k : ℕ) (st : Standing) (a : HeaderAnswer) (h : ServerState ItemOut) → NonStanza (answering_header itself k st a h)
answering_non_stanza k st Opens h = opening_non_stanza k st.entropy st.stage h
answering_non_stanza k st (Refused why) h = non_stanza_ending k (header_condition why) st h

header_non_stanza : (k : ℕ) (header : Header) (st : Standing) (b : Bool) (h : ServerState ItemOut) → NonStanza (header_in itself k header st b h)
header_non_stanza k header st true h = answering_non_stanza k st (header_answer h.domain header) h
header_non_stanza k header st false h = non_stanza_ending k stream.UnsupportedStanzaType st h

non_stanza_header : (k : ℕ) (header : Header) (st : Standing) (h : ServerState ItemOut) → NonStanza (at_header itself k header st h)
non_stanza_header k header st h = header_non_stanza k header st (awaits_header st.stage) h

-- ---- logins

failing_non_stanza : (k : ℕ) (why : SaslCondition) (left : Tries) → NonStanza (failing itself k why left)
failing_non_stanza k why tries.Three = tt
failing_non_stanza k why tries.Two = tt
failing_non_stanza k why tries.One = tt

beginning_non_stanza : (k : ℕ) (left : Tries) (a : AuthAnswer) → NonStanza (beginning itself k left a)
beginning_non_stanza k left (auth.Begins n) = tt
beginning_non_stanza k left (auth.Fails why) = failing_non_stanza k why left

finishing_non_stanza : (k : ℕ) (left : Tries) (o : Option (Result LoginView SaslCondition)) → NonStanza (answering itself k left o)
finishing_non_stanza k left None = tt
finishing_non_stanza k left (Some (Ok login)) = tt
finishing_non_stanza k left (Some (Err why)) = failing_non_stanza k why left

other_non_stanza : (k : ℕ) (w : Word) (st : Standing) (h : ServerState ItemOut) → NonStanza (at_login_other itself k w st h)
other_non_stanza k word.Abort st h = failing_non_stanza k Aborted st.tries
other_non_stanza k (word.Stanza long read) st h = non_stanza_ending k stream.NotAuthorized st h
other_non_stanza k w st h = non_stanza_any k w st h

pub non_stanza_login : (k : ℕ) (w : Word) (st : Standing) (h : ServerState ItemOut) → NonStanza (at_login itself k w st h)
non_stanza_login k (word.Auth e bad) st h = beginning_non_stanza k st.tries (auth_answer e st.entropy h.accounts)
non_stanza_login k w st h = other_non_stanza k w st h

pub non_stanza_challenge : (k : ℕ) (w : Word) (st : Standing) (h : ServerState ItemOut) → NonStanza (at_challenge itself k w st h)
non_stanza_challenge k (word.Response e bad) st h = finishing_non_stanza k st.tries (option_map (final_answer e) (negotiation_at k h))
non_stanza_challenge k w st h = other_non_stanza k w st h

-- ---- acknowledgement and resumption

acknowledging_non_stanza : (k n h : ℕ) (o : Option (Result ℕ TooHighCount)) → NonStanza (acknowledging itself k n h o)
acknowledging_non_stanza k n h None = tt
acknowledging_non_stanza k n h (Some (Ok more)) = tt
acknowledging_non_stanza k n h (Some (Err why)) = tt

saying_non_stanza : (k : ℕ) (items : List ItemOut) (more : List (Act ItemOut)) → NonStanza more → NonStanza (saying k items more)
saying_non_stanza k [] more rest = rest
saying_non_stanza k (a ∷ items) more rest = saying_non_stanza k items more rest

asking_non_stanza : (k n : ℕ) (due : Bool) → NonStanza (asking itself k n due)
asking_non_stanza k n true = tt
asking_non_stanza k n false = tt

resuming_non_stanza : (k account : ℕ) (previd : List ℕ) (h : ℕ) (answer : Result ResumeOk ResumeFault) (waiting : List ItemOut) → NonStanza (resuming itself k account previd h answer waiting)
resuming_non_stanza k account previd h (Err UnknownPrevid) waiting = tt
resuming_non_stanza k account previd h (Err (TooHigh stated send_count former)) waiting = non_stanza_parting former _ [] tt
resuming_non_stanza k account previd h (Ok resumed) waiting =
    non_stanza_parting resumed.former _ _ (saying_non_stanza k waiting (asking itself k resumed.number (nat_le ASKS_AT (length waiting))) (asking_non_stanza k resumed.number (nat_le ASKS_AT (length waiting))))

resume_non_stanza : (k account : ℕ) (previd : List ℕ) (handled : ℕ) (h : ServerState ItemOut) → NonStanza (at_resume itself k account previd handled h)
resume_non_stanza k account previd handled h =
    resuming_non_stanza k account previd handled (resume_answer handled (session_resumed previd account h.sessions)) (resent_where handled (session_resumed previd account h.sessions))

-- ---- elements that are no stanza

abbrev pub IsPlain : Word → Type 0
IsPlain (word.Stanza long read) = ⊥
IsPlain w = Unit {0}

ready_non_stanza : (k account : ℕ) (w : Word) (st : Standing) (h : ServerState ItemOut) → IsPlain w → NonStanza (at_ready itself k account w st h)
ready_non_stanza k account (word.Stanza long read) st h plain = absurd plain
ready_non_stanza k account (word.Resume previd handled) st h plain = resume_non_stanza k account previd handled h
ready_non_stanza k account (word.Enable resume) st h plain = tt
ready_non_stanza k account word.Request st h plain = tt
ready_non_stanza k account (word.Ack handled) st h plain = tt
ready_non_stanza k account w st h plain = non_stanza_any k w st h

bound_non_stanza : (k : ℕ) (w : Word) (t : SessionInfo) (st : Standing) (h : ServerState ItemOut) → IsPlain w → NonStanza (at_bound itself k w t st h)
bound_non_stanza k (word.Stanza long read) t st h plain = absurd plain
bound_non_stanza k (word.Enable resume) t st h plain = either t.counted _ _ tt tt
bound_non_stanza k word.Request t st h plain = either t.counted _ _ tt tt
bound_non_stanza k (word.Ack n) t st h plain = either t.counted _ _ (acknowledging_non_stanza k t.number n (option_map (ack_answer n) (session_of t.number h.sessions))) tt
bound_non_stanza k (word.Resume previd n) t st h plain = tt
bound_non_stanza k w t st h plain = non_stanza_any k w st h

session_non_stanza : (k account : ℕ) (w : Word) (st : Standing) (o : Option SessionInfo) (h : ServerState ItemOut) → IsPlain w → NonStanza (at_ready_or_bound itself k account w o st h)
session_non_stanza k account w st None h plain = ready_non_stanza k account w st h plain
session_non_stanza k account w st (Some t) h plain = bound_non_stanza k w t st h plain

word_non_stanza : (k : ℕ) (w : Word) (g : Stage) (st : Standing) (h : ServerState ItemOut) → IsPlain w → NonStanza (at_word itself k w g st h)
word_non_stanza k w stage.Login st h plain = non_stanza_login k w st h
word_non_stanza k w stage.Challenge st h plain = non_stanza_challenge k w st h
word_non_stanza k w (stage.Ready account) st h plain = session_non_stanza k account w st (option_map told (session_at k h.sessions)) h plain
word_non_stanza k w g st h plain = non_stanza_any k w st h

-- ---- which word it is

one_of : (b : Bool) (x y : Word) → IsPlain x → IsPlain y → IsPlain (cond b x y)
one_of true x y first second = first
one_of false x y first second = second

read_plain : {V : Type 0} (word : V → Word) (r : Result V ExtFault) (next : Word) → ((v : V) → IsPlain (word v)) → IsPlain next → IsPlain (if_read word r next)
read_plain word (Ok v) next here there = here v
read_plain word (Err why) next here there = there

other_plain : (e : Elem) → IsPlain (other_word e)
other_plain e = one_of (is_stream_error e) word.StreamError word.Other tt tt

sasl_plain : (e : Elem) → IsPlain (sasl_word e)
unfolding sasl_word
sasl_plain e =
    let bad = one_of (is_bad_sasl e) word.BadField (other_word e) tt (other_plain e) in
    let abort = one_of (is_sasl (codes "abort") e) word.Abort (cond (is_bad_sasl e) word.BadField (other_word e)) tt bad in
    let response = one_of (is_sasl (codes "response") e) (word.Response e (is_bad_sasl e)) (cond (is_sasl (codes "abort") e) word.Abort (cond (is_bad_sasl e) word.BadField (other_word e))) tt abort in
    one_of (is_sasl (codes "auth") e) (word.Auth e (is_bad_sasl e))
    (cond (is_sasl (codes "response") e) (word.Response e (is_bad_sasl e)) (cond (is_sasl (codes "abort") e) word.Abort (cond (is_bad_sasl e) word.BadField (other_word e)))) tt response

resume_plain : (e : Elem) → IsPlain (resume_word e)
unfolding resume_word
resume_plain e = read_plain (λ v. word.Resume v.0 v.1) (resumption_read (codes "resume") e) (sasl_word e) (λ v. tt) (sasl_plain e)

management_plain : (e : Elem) → IsPlain (management_word e)
unfolding management_word
management_plain e =
    let ack = read_plain (λ v. word.Ack v.h) (ack_read e) (resume_word e) (λ v. tt) (resume_plain e) in
    let request = one_of (is_management (codes "r") e) word.Request (if_read (λ v. word.Ack v.h) (ack_read e) (resume_word e)) tt ack in
    read_plain (λ v. word.Enable v.resume) (enable_read e) (cond (is_management (codes "r") e) word.Request (if_read (λ v. word.Ack v.h) (ack_read e) (resume_word e))) (λ v. tt) request

pub word_plain : (e : Elem) → is_stanza e ≡ false → IsPlain (word_of e)
unfolding word_of
word_plain e none =
    subst (λ b. IsPlain (cond b (word.Stanza (is_long e) (stanza_of e)) (cond (is_bad_management e) word.BadField (management_word e)))) (sym none)
    (one_of (is_bad_management e) word.BadField (management_word e) tt (management_plain e))

-- ---- an item

pub open_non_stanza : (k : ℕ) (z : ItemOut) (o : Option Standing) (h : ServerState ItemOut) → IsNonStanza z → NonStanza (at_open itself k (read_of z) o h)
open_non_stanza k z None h is = tt
open_non_stanza k (Opening header) (Some st) h is = non_stanza_header k (as_written header) st h
open_non_stanza k (Whole e) (Some st) h is = word_non_stanza k (word_of e) st.stage st h (word_plain e is)
open_non_stanza k Closing (Some st) h is = tt
