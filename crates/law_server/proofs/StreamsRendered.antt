-- The rows of a stream up to its login go through.
use Rattle.std.proofs.Common.{◌≡◌, ℕ, Bool, true, false, List, Option, Some, None, Result, Ok, Err, refl}
use Rattle.std.specs.Option.{option_map}
use Rattle.srv_state.specs.Logins.{answering, at_challenge, at_login, at_login_other, beginning, failing, negotiation_at}
use Rattle.srv_state.specs.State.{ServerState}
use Rattle.srv_state.specs.Streams.{answering_header, at_any, at_header, awaits_header, ending, ending_in, header_in, opening}
use Rattle.srv_state.specs.declared.connection.Stage.{Stage}
use Rattle.srv_state.specs.declared.connection.Stage.TheVariants as stage
use Rattle.srv_state.specs.declared.connection.Standing.{Standing}
use Rattle.srv_state.specs.declared.connection.Tries.{Tries}
use Rattle.srv_state.specs.declared.connection.Tries.TheVariants as tries
use Rattle.srv_state.specs.declared.word.Word.{Word}
use Rattle.srv_state.specs.declared.word.Word.TheVariants as word
use Rattle.srv_login.specs.Headers.{header_answer}
use Rattle.srv_login.specs.Negotiations.{LoginView, auth_answer, final_answer}
use Rattle.srv_login.specs.declared.header_judgement.HeaderAnswer.{HeaderAnswer}
use Rattle.srv_login.specs.declared.header_judgement.HeaderAnswer.TheVariants.{Opens, Refused}
use Rattle.srv_login.specs.declared.negotiation.AuthAnswer.{AuthAnswer}
use Rattle.srv_login.specs.declared.negotiation.AuthAnswer.TheVariants as auth
use Rattle.srv_login.specs.declared.sasl_condition.SaslCondition.{SaslCondition}
use Rattle.srv_login.specs.declared.sasl_condition.SaslCondition.TheVariants.{Aborted}
use Rattle.xml_names.specs.declared.headers.Header.{Header}
use Rattle.im_replies.specs.declared.conditions.StreamCondition.{StreamCondition}
use Rattle.im_replies.specs.declared.conditions.StreamCondition.TheVariants as stream
use Rattle.law_server.specs.Rendered.{acts_rendered, rendered, server_state_rendered}
use Rattle.xml_writer.specs.Items.{ItemOut}

-- ---- ends

ending_at : {A B : Type 0} (f : A → B) (say : ItemOut → A) (k : ℕ) (c : StreamCondition) (s : Stage) (entropy : List ℕ) (h : ServerState A) → ending_in (rendered f say) k c s entropy (server_state_rendered f h) ≡ acts_rendered f (ending_in say k c s entropy h)
ending_at f say k c stage.Start entropy h = refl
ending_at f say k c stage.Login entropy h = refl
ending_at f say k c stage.Challenge entropy h = refl
ending_at f say k c (stage.Restart account) entropy h = refl
ending_at f say k c (stage.Ready account) entropy h = refl

pub ending_rendered : {A B : Type 0} (f : A → B) (say : ItemOut → A) (k : ℕ) (c : StreamCondition) (st : Standing) (h : ServerState A) → ending (rendered f say) k c st (server_state_rendered f h) ≡ acts_rendered f (ending say k c st h)
ending_rendered f say k c st h = ending_at f say k c st.stage st.entropy h

pub any_rendered : {A B : Type 0} (f : A → B) (say : ItemOut → A) (k : ℕ) (w : Word) (st : Standing) (h : ServerState A) → at_any (rendered f say) k w st (server_state_rendered f h) ≡ acts_rendered f (at_any say k w st h)
any_rendered f say k (word.Stanza long read) st h = ending_rendered f say k stream.UnsupportedStanzaType st h
any_rendered f say k (word.Enable resume) st h = ending_rendered f say k stream.UnsupportedStanzaType st h
any_rendered f say k word.Request st h = ending_rendered f say k stream.UnsupportedStanzaType st h
any_rendered f say k (word.Ack handled) st h = ending_rendered f say k stream.UnsupportedStanzaType st h
any_rendered f say k (word.Resume previd handled) st h = ending_rendered f say k stream.UnsupportedStanzaType st h
any_rendered f say k (word.Auth e bad) st h = ending_rendered f say k _ st h
any_rendered f say k (word.Response e bad) st h = ending_rendered f say k _ st h
any_rendered f say k word.Abort st h = ending_rendered f say k stream.UnsupportedStanzaType st h
any_rendered f say k word.BadField st h = ending_rendered f say k stream.BadFormat st h
any_rendered f say k word.StreamError st h = refl
any_rendered f say k word.Other st h = ending_rendered f say k stream.UnsupportedStanzaType st h

-- ---- headers

opening_rendered : {A B : Type 0} (f : A → B) (say : ItemOut → A) (k : ℕ) (entropy : List ℕ) (s : Stage) (h : ServerState A) → opening (rendered f say) k entropy s (server_state_rendered f h) ≡ acts_rendered f (opening say k entropy s h)
opening_rendered f say k entropy stage.Start h = refl
opening_rendered f say k entropy stage.Login h = refl
opening_rendered f say k entropy stage.Challenge h = refl
opening_rendered f say k entropy (stage.Restart account) h = refl
opening_rendered f say k entropy (stage.Ready account) h = refl

answering_rendered : {A B : Type 0} (f : A → B) (say : ItemOut → A) (k : ℕ) (st : Standing) (a : HeaderAnswer) (h : ServerState A) → answering_header (rendered f say) k st a (server_state_rendered f h) ≡ acts_rendered f (answering_header say k st a h)
answering_rendered f say k st Opens h = opening_rendered f say k st.entropy st.stage h
answering_rendered f say k st (Refused why) h = ending_rendered f say k _ st h

header_by : {A B : Type 0} (f : A → B) (say : ItemOut → A) (k : ℕ) (header : Header) (st : Standing) (b : Bool) (h : ServerState A) → header_in (rendered f say) k header st b (server_state_rendered f h) ≡ acts_rendered f (header_in say k header st b h)
header_by f say k header st true h = answering_rendered f say k st (header_answer h.domain header) h
header_by f say k header st false h = ending_rendered f say k stream.UnsupportedStanzaType st h

pub header_rendered : {A B : Type 0} (f : A → B) (say : ItemOut → A) (k : ℕ) (header : Header) (st : Standing) (h : ServerState A) → at_header (rendered f say) k header st (server_state_rendered f h) ≡ acts_rendered f (at_header say k header st h)
header_rendered f say k header st h = header_by f say k header st (awaits_header st.stage) h

-- ---- logins

failing_rendered : {A B : Type 0} (f : A → B) (say : ItemOut → A) (k : ℕ) (why : SaslCondition) (left : Tries) → failing (rendered f say) k why left ≡ acts_rendered f (failing say k why left)
failing_rendered f say k why tries.Three = refl
failing_rendered f say k why tries.Two = refl
failing_rendered f say k why tries.One = refl

beginning_rendered : {A B : Type 0} (f : A → B) (say : ItemOut → A) (k : ℕ) (left : Tries) (a : AuthAnswer) → beginning (rendered f say) k left a ≡ acts_rendered f (beginning say k left a)
beginning_rendered f say k left (auth.Begins n) = refl
beginning_rendered f say k left (auth.Fails why) = failing_rendered f say k why left

finishing_rendered : {A B : Type 0} (f : A → B) (say : ItemOut → A) (k : ℕ) (left : Tries) (o : Option (Result LoginView SaslCondition)) → answering (rendered f say) k left o ≡ acts_rendered f (answering say k left o)
finishing_rendered f say k left None = refl
finishing_rendered f say k left (Some (Ok login)) = refl
finishing_rendered f say k left (Some (Err why)) = failing_rendered f say k why left

other_rendered : {A B : Type 0} (f : A → B) (say : ItemOut → A) (k : ℕ) (w : Word) (st : Standing) (h : ServerState A) → at_login_other (rendered f say) k w st (server_state_rendered f h) ≡ acts_rendered f (at_login_other say k w st h)
other_rendered f say k (word.Stanza long read) st h = ending_rendered f say k stream.NotAuthorized st h
other_rendered f say k (word.Enable resume) st h = any_rendered f say k (word.Enable resume) st h
other_rendered f say k word.Request st h = any_rendered f say k word.Request st h
other_rendered f say k (word.Ack handled) st h = any_rendered f say k (word.Ack handled) st h
other_rendered f say k (word.Resume previd handled) st h = any_rendered f say k (word.Resume previd handled) st h
other_rendered f say k (word.Auth e bad) st h = any_rendered f say k (word.Auth e bad) st h
other_rendered f say k (word.Response e bad) st h = any_rendered f say k (word.Response e bad) st h
other_rendered f say k word.Abort st h = failing_rendered f say k Aborted st.tries
other_rendered f say k word.BadField st h = any_rendered f say k word.BadField st h
other_rendered f say k word.StreamError st h = any_rendered f say k word.StreamError st h
other_rendered f say k word.Other st h = any_rendered f say k word.Other st h

pub login_rendered : {A B : Type 0} (f : A → B) (say : ItemOut → A) (k : ℕ) (w : Word) (st : Standing) (h : ServerState A) → at_login (rendered f say) k w st (server_state_rendered f h) ≡ acts_rendered f (at_login say k w st h)
login_rendered f say k (word.Auth e bad) st h = beginning_rendered f say k st.tries (auth_answer e st.entropy h.accounts)
login_rendered f say k (word.Stanza long read) st h = other_rendered f say k (word.Stanza long read) st h
login_rendered f say k (word.Enable resume) st h = other_rendered f say k (word.Enable resume) st h
login_rendered f say k word.Request st h = other_rendered f say k word.Request st h
login_rendered f say k (word.Ack handled) st h = other_rendered f say k (word.Ack handled) st h
login_rendered f say k (word.Resume previd handled) st h = other_rendered f say k (word.Resume previd handled) st h
login_rendered f say k (word.Response e bad) st h = other_rendered f say k (word.Response e bad) st h
login_rendered f say k word.Abort st h = other_rendered f say k word.Abort st h
login_rendered f say k word.BadField st h = other_rendered f say k word.BadField st h
login_rendered f say k word.StreamError st h = other_rendered f say k word.StreamError st h
login_rendered f say k word.Other st h = other_rendered f say k word.Other st h

pub challenge_rendered : {A B : Type 0} (f : A → B) (say : ItemOut → A) (k : ℕ) (w : Word) (st : Standing) (h : ServerState A) → at_challenge (rendered f say) k w st (server_state_rendered f h) ≡ acts_rendered f (at_challenge say k w st h)
challenge_rendered f say k (word.Response e bad) st h = finishing_rendered f say k st.tries (option_map (final_answer e) (negotiation_at k h))
challenge_rendered f say k (word.Stanza long read) st h = other_rendered f say k (word.Stanza long read) st h
challenge_rendered f say k (word.Enable resume) st h = other_rendered f say k (word.Enable resume) st h
challenge_rendered f say k word.Request st h = other_rendered f say k word.Request st h
challenge_rendered f say k (word.Ack handled) st h = other_rendered f say k (word.Ack handled) st h
challenge_rendered f say k (word.Resume previd handled) st h = other_rendered f say k (word.Resume previd handled) st h
challenge_rendered f say k (word.Auth e bad) st h = other_rendered f say k (word.Auth e bad) st h
challenge_rendered f say k word.Abort st h = other_rendered f say k word.Abort st h
challenge_rendered f say k word.BadField st h = other_rendered f say k word.BadField st h
challenge_rendered f say k word.StreamError st h = other_rendered f say k word.StreamError st h
challenge_rendered f say k word.Other st h = other_rendered f say k word.Other st h
