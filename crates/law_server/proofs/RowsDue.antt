-- What any item leads to is a row: it goes where it is due, and logs nobody in without a proof.
use Rattle.std.proofs.Common.{◌≡◌, ℕ, Bool, true, false, cond, ◌∷◌, Option, Some, None, Result, Ok, Err, codes, refl, sym, ap, subst, inl}
use Rattle.std.proofs.lemmas.List.Elements.{All-from_recursion}
use Rattle.std.specs.List.{All, AllByRecursion}
use Rattle.std.specs.Option.{option_map}
use Rattle.im_extensions.specs.Readings.{resumption_read}
use Rattle.im_extensions.specs.StreamManagement.{ack_read, enable_read, is_management}
use Rattle.im_login.specs.Sasl.{is_sasl}
use Rattle.im_payload.specs.declared.fault.ExtFault.{ExtFault}
use Rattle.im_replies.specs.declared.conditions.StreamCondition.{StreamCondition}
use Rattle.im_replies.specs.declared.conditions.StreamCondition.TheVariants.{PolicyViolation}
use Rattle.im_stanza.specs.declared.fault.StanzaFault.{StanzaFault}
use Rattle.im_stanza.specs.declared.fault.StanzaFault.TheVariants as fault
use Rattle.im_stanza.specs.declared.stanzas.Stanza.{Stanza}
use Rattle.im_stanza.specs.declared.stanzas.Stanza.TheVariants as stanza
use Rattle.law_server.proofs.LiveRows.{calm_message}
use Rattle.law_server.proofs.LoginRows.{IsResponseOfItem, calm_any, calm_challenge, calm_closing, calm_ending, calm_header, calm_login}
use Rattle.law_server.proofs.Rows.{AreCalm, IsBeforeReady, IsRow, calm_row, row_due}
use Rattle.law_server.proofs.SessionRows.{calm_ack, calm_bad_to, calm_either, calm_enable, calm_iq, calm_presence, calm_request, row_ready}
use Rattle.law_server.specs.Live.{GoesWhereDue}
use Rattle.law_server.specs.Numbers.{HaveNumbers}
use Rattle.sm_live.specs.Sessions.{Session, session_at, told}
use Rattle.srv_core.specs.Events.{at_fault, fault_condition}
use Rattle.srv_core.specs.Ready.{at_bound, at_ready_or_bound}
use Rattle.srv_core.specs.Stanzas.{at_stanza, handling, judging, stanza_condition}
use Rattle.srv_core.specs.Table.{at_item, at_open, at_word}
use Rattle.srv_state.specs.State.{ServerState}
use Rattle.srv_state.specs.Steps as steps
use Rattle.srv_state.specs.Steps.{Act}
use Rattle.srv_state.specs.Streams.{closing, standing_at}
use Rattle.srv_state.specs.Words.{if_read, is_bad_management, is_bad_sasl, is_stanza, is_stream_error, management_word, resume_word, sasl_word, word_of}
use Rattle.srv_state.specs.declared.connection.Stage.{Stage}
use Rattle.srv_state.specs.declared.connection.Stage.TheVariants as stage
use Rattle.srv_state.specs.declared.connection.Standing.{Standing}
use Rattle.srv_state.specs.declared.word.Word.{Word}
use Rattle.srv_state.specs.declared.word.Word.TheVariants as word
use Rattle.xml_framer.specs.declared.fault.Fault.{Fault}
use Rattle.xml_framer.specs.declared.items.Item.{Item}
use Rattle.xml_framer.specs.declared.items.Item.TheVariants as item
use Rattle.xml_trees.specs.Trees.{Elem}
use Rattle.xml_writer.specs.Items.{ItemOut}

-- ---- a `response` is the element itself

abbrev IsResponseOf : Elem → Word → Type 0
IsResponseOf e (word.Response x bad) = e ≡ x
IsResponseOf e w = Unit {0}

response_either : (e : Elem) (b : Bool) (x y : Word) → IsResponseOf e x → IsResponseOf e y → IsResponseOf e (cond b x y)
response_either e true x y here there = here
response_either e false x y here there = there

response_read : {V : Type 0} (e : Elem) (f : V → Word) (r : Result V ExtFault) (next : Word) → ((v : V) → IsResponseOf e (f v)) → IsResponseOf e next → IsResponseOf e (if_read f r next)
response_read e f (Ok v) next each rest = each v
response_read e f (Err why) next each rest = rest

response_sasl : (e : Elem) → IsResponseOf e (sasl_word e)
unfolding sasl_word
response_sasl e =
    response_either e (is_sasl (codes "auth") e) _ _ tt
    (response_either e (is_sasl (codes "response") e) _ _ refl
    (response_either e (is_sasl (codes "abort") e) _ _ tt
    (response_either e (is_bad_sasl e) _ _ tt (response_either e (is_stream_error e) word.StreamError word.Other tt tt))))

response_resume : (e : Elem) → IsResponseOf e (resume_word e)
unfolding resume_word
response_resume e = response_read e _ (resumption_read (codes "resume") e) (sasl_word e) (λ v. tt) (response_sasl e)

response_management : (e : Elem) → IsResponseOf e (management_word e)
unfolding management_word
response_management e =
    response_read e _ (enable_read e) _ (λ v. tt)
    (response_either e (is_management (codes "r") e) _ _ tt (response_read e _ (ack_read e) (resume_word e) (λ v. tt) (response_resume e)))

response_is : (e : Elem) → IsResponseOf e (word_of e)
unfolding word_of
response_is e = response_either e (is_stanza e) _ _ tt (response_either e (is_bad_management e) _ _ tt (response_management e))

of_item : (e : Elem) (w : Word) → IsResponseOf e w → IsResponseOfItem (item.Element e) w
of_item e (word.Response x bad) is = ap item.Element is
of_item e (word.Stanza long read) is = tt
of_item e (word.Enable resume) is = tt
of_item e word.Request is = tt
of_item e (word.Ack handled) is = tt
of_item e (word.Resume previd handled) is = tt
of_item e (word.Auth x bad) is = tt
of_item e word.Abort is = tt
of_item e word.BadField is = tt
of_item e word.StreamError is = tt
of_item e word.Other is = tt

-- ---- where a session is on the connection

module _ {A : Type 0} (say : ItemOut → A) (k : ℕ) (e : Elem) (st : Standing) (h : ServerState A) (numbers : HaveNumbers h) where
  module _ (sender : Session A) (on : session_at k h.sessions ≡ Some sender) where
    calm_handling : (read : Result Stanza StanzaFault) → word_of e ≡ word.Stanza false read → AreCalm say k (item.Element e) st h (handling say read (told sender) h)
    calm_handling (Ok (stanza.Message m)) is = calm_message say k (item.Element e) st h sender on m is numbers
    calm_handling (Ok (stanza.Presence p)) is = calm_presence say k (item.Element e) st h sender on p.to p.kind p
    calm_handling (Ok (stanza.Iq q)) is = calm_iq say k (item.Element e) st h sender on q
    calm_handling (Err (fault.BadTo message reply from id to)) is = calm_bad_to say k (item.Element e) st h sender on message reply id to
    calm_handling (Err fault.BadFrom) is = tt
    calm_handling (Err fault.NotAStanza) is = tt
    calm_handling (Err fault.BadFormat) is = tt
    calm_handling (Err fault.NoMemory) is = tt

    calm_judging : (read : Result Stanza StanzaFault) (o : Option StreamCondition) → word_of e ≡ word.Stanza false read → AreCalm say k (item.Element e) st h (judging say k read (told sender) st o h)
    calm_judging read None is =
        let all = calm_handling read is in
        calm_either say k (item.Element e) st h sender.shown.counted (steps.Handle sender.shown.number ∷ handling say read (told sender) h) (handling say read (told sender) h) ((tt, tt), all) all
    calm_judging read (Some condition) is = calm_ending say k (item.Element e) st h condition

    calm_stanza : (long : Bool) (read : Result Stanza StanzaFault) → word_of e ≡ word.Stanza long read → AreCalm say k (item.Element e) st h (at_stanza say k long read (told sender) st h)
    calm_stanza true read is = calm_ending say k (item.Element e) st h PolicyViolation
    calm_stanza false read is = calm_judging read (stanza_condition read (told sender) h) is

    calm_bound : (w : Word) → word_of e ≡ w → AreCalm say k (item.Element e) st h (at_bound say k w (told sender) st h)
    calm_bound (word.Stanza long read) is = calm_stanza long read is
    calm_bound (word.Enable resume) is = calm_enable say k (item.Element e) st h resume (told sender)
    calm_bound word.Request is = calm_request say k (item.Element e) st h (told sender)
    calm_bound (word.Ack handled) is = calm_ack say k (item.Element e) st h handled (told sender)
    calm_bound (word.Resume previd handled) is = ((inl refl, tt), tt)
    calm_bound (word.Auth x bad) is = calm_any say k (item.Element e) st h (word.Auth x bad)
    calm_bound (word.Response x bad) is = calm_any say k (item.Element e) st h (word.Response x bad)
    calm_bound word.Abort is = calm_any say k (item.Element e) st h word.Abort
    calm_bound word.BadField is = calm_any say k (item.Element e) st h word.BadField
    calm_bound word.StreamError is = calm_any say k (item.Element e) st h word.StreamError
    calm_bound word.Other is = calm_any say k (item.Element e) st h word.Other

  -- ---- where it stands

  row_either : (account : ℕ) (o : Option (Session A)) → session_at k h.sessions ≡ o → st.stage ≡ stage.Ready account → IsRow say k (item.Element e) st h (at_ready_or_bound say k account (word_of e) (option_map told o) st h)
  row_either account None is ready = row_ready say k (item.Element e) st h account (word_of e) is ready
  row_either account (Some sender) is ready = calm_row say k (item.Element e) st h _ (calm_bound sender is (word_of e) refl)

  row_word : (s : Stage) → st.stage ≡ s → IsRow say k (item.Element e) st h (at_word say k (word_of e) s st h)
  row_word stage.Login is = calm_row say k (item.Element e) st h _ (calm_login say k (item.Element e) st h (word_of e) (subst IsBeforeReady (sym is) tt))
  row_word stage.Challenge is =
      calm_row say k (item.Element e) st h _ (calm_challenge say k (item.Element e) st h (word_of e) (of_item e (word_of e) (response_is e)) (subst IsBeforeReady (sym is) tt))
  row_word (stage.Ready account) is = row_either account (session_at k h.sessions) refl is
  row_word stage.Start is = calm_row say k (item.Element e) st h _ (calm_any say k (item.Element e) st h (word_of e))
  row_word (stage.Restart account) is = calm_row say k (item.Element e) st h _ (calm_any say k (item.Element e) st h (word_of e))

pub row_item : {A : Type 0} (say : ItemOut → A) (k : ℕ) (i : Item) (st : Standing) (h : ServerState A) → HaveNumbers h → IsRow say k i st h (at_item say k i st h)
row_item say k (item.Header at header) st h numbers = calm_row say k (item.Header at header) st h _ (calm_header say k (item.Header at header) st h header)
row_item say k (item.Element e) st h numbers = row_word say k e st h numbers st.stage refl
row_item say k item.Footer st h numbers = calm_row say k item.Footer st h (closing say k) (calm_closing say k item.Footer st h)

-- ---- the laws

pub due_open : {A : Type 0} (say : ItemOut → A) (k : ℕ) (i : Item) (o : Option Standing) (h : ServerState A) → HaveNumbers h → AllByRecursion (GoesWhereDue say k i h) (at_open say k i o h)
due_open say k i None h numbers = tt
due_open say k i (Some st) h numbers = row_due say k i st h (at_item say k i st h) (row_item say k i st h numbers)

pub items_due : {A : Type 0} (say : ItemOut → A) (k : ℕ) (i : Item) (h : ServerState A) → HaveNumbers h → All (GoesWhereDue say k i h) (at_open say k i (standing_at k h) h)
items_due say k i h numbers = All-from_recursion (GoesWhereDue say k i h) (at_open say k i (standing_at k h) h) (due_open say k i (standing_at k h) h numbers)

due_fault : {A : Type 0} (say : ItemOut → A) (k : ℕ) (i : Item) (f : Fault) (o : Option Standing) (h : ServerState A) → AllByRecursion (GoesWhereDue say k i h) (at_fault say k f o h)
due_fault say k i f None h = tt
due_fault say k i f (Some st) h =
    row_due say k i st h (at_fault say k f (Some st) h) (calm_row say k i st h (at_fault say k f (Some st) h) (calm_ending say k i st h (fault_condition f.why)))

pub faults_due : {A : Type 0} (say : ItemOut → A) (k : ℕ) (i : Item) (f : Fault) (h : ServerState A) → All (GoesWhereDue say k i h) (at_fault say k f (standing_at k h) h)
faults_due say k i f h = All-from_recursion (GoesWhereDue say k i h) (at_fault say k f (standing_at k h) h) (due_fault say k i f (standing_at k h) h)
