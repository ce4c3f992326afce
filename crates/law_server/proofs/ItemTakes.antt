-- What one item archives: a message of the session on its connection, or nothing.
use Rattle.std.proofs.Common.{◌≡◌, ℕ, Bool, true, false, List, Option, Some, None, Result, Ok, Err, refl, ap, ◌∙◌}
use Rattle.std.specs.Option.{IfSome, option_map}
use Rattle.srv_state.specs.Handling.{counting}
use Rattle.srv_handlers.specs.Messages.{is_full_at}
use Rattle.srv_state.specs.State.{archive_at, ServerState}
use Rattle.srv_state.specs.Steps.{Act}
use Rattle.srv_state.specs.Words.{word_of}
use Rattle.srv_state.specs.declared.connection.Stage.{Stage}
use Rattle.srv_state.specs.declared.connection.Stage.TheVariants as stage
use Rattle.srv_state.specs.declared.connection.Standing.{Standing}
use Rattle.srv_state.specs.declared.word.Word.{Word}
use Rattle.srv_state.specs.declared.word.Word.TheVariants as word
use Rattle.xml_framer.specs.declared.items.Item.{Item}
use Rattle.xml_framer.specs.declared.items.Item.TheVariants as item
use Rattle.sm_live.specs.Sessions.{Session, session_at, told}
use Rattle.sm_live.specs.declared.told.SessionInfo.{SessionInfo}
use Rattle.im_replies.specs.declared.conditions.StreamCondition.{StreamCondition}
use Rattle.im_replies.specs.declared.conditions.StreamCondition.TheVariants.{PolicyViolation}
use Rattle.srv_core.specs.Table.{at_item, at_open, at_word}
use Rattle.im_stanza.specs.declared.fault.StanzaFault.{StanzaFault}
use Rattle.im_stanza.specs.declared.fault.StanzaFault.TheVariants as fault
use Rattle.im_stanza.specs.declared.stanzas.Stanza.{Stanza}
use Rattle.im_stanza.specs.declared.stanzas.Stanza.TheVariants as stanza
use Rattle.srv_core.specs.Ready.{at_bound, at_ready_or_bound}
use Rattle.srv_core.specs.Stanzas.{at_stanza, handling, judging, stanza_condition}
use Rattle.law_server.proofs.MessageMarks.{IsTakenOf, Marks, at_message_marks, some_either}
use Rattle.law_server.proofs.QuietRows.{quiet_ack, quiet_any, quiet_bad_to, quiet_challenge, quiet_enable, quiet_ending, quiet_header, quiet_iq, quiet_login, quiet_presence, quiet_ready, quiet_request}
use Rattle.law_server.specs.Taken.{IsTakenFrom, Taken}
use Rattle.xml_trees.specs.Trees.{Elem}
use Rattle.xml_writer.specs.Items.{ItemOut}

-- an item is an element, with its word, and its session is on the connection
record IsBound {A : Type 0} (k : ℕ) (e : Elem) (w : Word) (t : Session A) (h : ServerState A) : Type 0 where
  read : word_of e ≡ w
  on : session_at k h.sessions ≡ Some t

taken_from : {A : Type 0} (k : ℕ) (e : Elem) (m : _) (t : Session A) (h : ServerState A) → IsBound k e (word.Stanza false (Ok (stanza.Message m))) t h → (o : Option Taken) → IfSome o (IsTakenOf m (told t) h) → IfSome o (IsTakenFrom k (item.Element e) h)
taken_from k e m t h is None of = tt
taken_from k e m t h is (Some taken) of = record { session = t; is_on = is.on; message = m; reads = is.read; sender = of.sender; addressee = of.addressee; sender_room = ap (λ position. is_full_at (archive_at position h)) of.sender ∙ of.sender_room; addressee_room = of.addressee_room; entry = of.entry }

handled : {A : Type 0} (say : ItemOut → A) (k : ℕ) (e : Elem) (read : Result Stanza StanzaFault) (t : Session A) (h : ServerState A) → IsBound k e (word.Stanza false read) t h
    → Marks (IsTakenFrom k (item.Element e) h) (handling say read (told t) h)
handled say k e (Ok (stanza.Message m)) t h is = (let o = at_message_marks say m (told t) h in (o.0, o.1, taken_from k e m t h is o.0 o.2))
handled say k e (Ok (stanza.Presence p)) t h is = (None, quiet_presence say p.to p.kind p (told t) h, tt)
handled say k e (Ok (stanza.Iq q)) t h is = (None, quiet_iq say q (told t) h, tt)
handled say k e (Err (fault.BadTo message reply from id to)) t h is = (None, quiet_bad_to say message reply id to (told t) h, tt)
handled say k e (Err fault.BadFrom) t h is = (None, refl, tt)
handled say k e (Err fault.NotAStanza) t h is = (None, refl, tt)
handled say k e (Err fault.BadFormat) t h is = (None, refl, tt)
handled say k e (Err fault.NoMemory) t h is = (None, refl, tt)

counted : {A : Type 0} (P : Taken → Type 0) (t : SessionInfo) (acts : List (Act A)) → Marks P acts → Marks P (counting t acts)
counted P t acts is = some_either P t.counted _ _ is is

judged : {A : Type 0} (say : ItemOut → A) (k : ℕ) (e : Elem) (read : Result Stanza StanzaFault) (t : Session A) (st : Standing) (o : Option StreamCondition) (h : ServerState A) → IsBound k e (word.Stanza false read) t h
    → Marks (IsTakenFrom k (item.Element e) h) (judging say k read (told t) st o h)
judged say k e read t st None h is = counted (IsTakenFrom k (item.Element e) h) (told t) (handling say read (told t) h) (handled say k e read t h is)
judged say k e read t st (Some condition) h is = (None, quiet_ending say k condition st h, tt)

stanza_marks : {A : Type 0} (say : ItemOut → A) (k : ℕ) (e : Elem) (long : Bool) (read : Result Stanza StanzaFault) (t : Session A) (st : Standing) (h : ServerState A) → IsBound k e (word.Stanza long read) t h
    → Marks (IsTakenFrom k (item.Element e) h) (at_stanza say k long read (told t) st h)
stanza_marks say k e true read t st h is = (None, quiet_ending say k PolicyViolation st h, tt)
stanza_marks say k e false read t st h is = judged say k e read t st (stanza_condition read (told t) h) h is

bound_marks : {A : Type 0} (say : ItemOut → A) (k : ℕ) (e : Elem) (w : Word) (t : Session A) (st : Standing) (h : ServerState A) → IsBound k e w t h
    → Marks (IsTakenFrom k (item.Element e) h) (at_bound say k w (told t) st h)
bound_marks say k e (word.Stanza long read) t st h is = stanza_marks say k e long read t st h is
bound_marks say k e (word.Enable resume) t st h is = (None, quiet_enable say k resume (told t), tt)
bound_marks say k e word.Request t st h is = (None, quiet_request say k (told t), tt)
bound_marks say k e (word.Ack n) t st h is = (None, quiet_ack say k n (told t) h, tt)
bound_marks say k e (word.Resume previd n) t st h is = (None, refl, tt)
bound_marks say k e (word.Auth x bad) t st h is = (None, quiet_any say k (word.Auth x bad) st h, tt)
bound_marks say k e (word.Response x bad) t st h is = (None, quiet_any say k (word.Response x bad) st h, tt)
bound_marks say k e word.Abort t st h is = (None, quiet_any say k word.Abort st h, tt)
bound_marks say k e word.BadField t st h is = (None, quiet_any say k word.BadField st h, tt)
bound_marks say k e word.StreamError t st h is = (None, quiet_any say k word.StreamError st h, tt)
bound_marks say k e word.Other t st h is = (None, quiet_any say k word.Other st h, tt)

either_marks : {A : Type 0} (say : ItemOut → A) (k account : ℕ) (e : Elem) (o : Option (Session A)) (st : Standing) (h : ServerState A) → session_at k h.sessions ≡ o
    → Marks (IsTakenFrom k (item.Element e) h) (at_ready_or_bound say k account (word_of e) (option_map told o) st h)
either_marks say k account e None st h is = (None, quiet_ready say k account (word_of e) st h, tt)
either_marks say k account e (Some t) st h is = bound_marks say k e (word_of e) t st h (record { read = refl; on = is })

word_marks : {A : Type 0} (say : ItemOut → A) (k : ℕ) (e : Elem) (s : Stage) (st : Standing) (h : ServerState A) → Marks (IsTakenFrom k (item.Element e) h) (at_word say k (word_of e) s st h)
word_marks say k e stage.Login st h = (None, quiet_login say k (word_of e) st h, tt)
word_marks say k e stage.Challenge st h = (None, quiet_challenge say k (word_of e) st h, tt)
word_marks say k e (stage.Ready account) st h = either_marks say k account e (session_at k h.sessions) st h refl
word_marks say k e stage.Start st h = (None, quiet_any say k (word_of e) st h, tt)
word_marks say k e (stage.Restart account) st h = (None, quiet_any say k (word_of e) st h, tt)

item_marks : {A : Type 0} (say : ItemOut → A) (k : ℕ) (i : Item) (st : Standing) (h : ServerState A) → Marks (IsTakenFrom k i h) (at_item say k i st h)
item_marks say k (item.Header at header) st h = (None, quiet_header say k header st h, tt)
item_marks say k (item.Element e) st h = word_marks say k e st.stage st h
item_marks say k item.Footer st h = (None, refl, tt)

pub open_marks : {A : Type 0} (say : ItemOut → A) (k : ℕ) (i : Item) (o : Option Standing) (h : ServerState A) → Marks (IsTakenFrom k i h) (at_open say k i o h)
open_marks say k i None h = (None, refl, tt)
open_marks say k i (Some st) h = item_marks say k i st h
