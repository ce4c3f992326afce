-- What comes of an item is read.
use Rattle.std.proofs.Common.{◌≡◌, ℕ, Bool, true, false, List, [], ◌∷◌, Option, Some, None, IfSome, Result, Ok, Err, codes, refl, arith}
use Rattle.std.specs.List.{AllByRecursion}
use Rattle.std.specs.Option.{option_map}
use Rattle.srv_state.specs.Handling.{counting}
use Rattle.srv_state.specs.State.{ServerState, Step, conn_at, is_number, session_address}
use Rattle.srv_state.specs.Steps.{Act}
use Rattle.srv_state.specs.Streams.{standing_at, standing_of}
use Rattle.srv_state.specs.Words.{word_of}
use Rattle.srv_state.specs.declared.connection.Connection.{Connection}
use Rattle.srv_state.specs.declared.connection.Stage.{Stage}
use Rattle.srv_state.specs.declared.connection.Stage.TheVariants as stage
use Rattle.srv_state.specs.declared.connection.Standing.{Standing}
use Rattle.srv_state.specs.declared.word.Word.{Word}
use Rattle.srv_state.specs.declared.word.Word.TheVariants as word
use Rattle.xml_framer.specs.declared.fault.Fault.{Fault}
use Rattle.xml_framer.specs.declared.items.Item.{Item}
use Rattle.xml_framer.specs.declared.items.Item.TheVariants as item
use Rattle.sm_live.specs.Sessions.{Session, session_at, told}
use Rattle.sm_live.specs.declared.told.SessionInfo.{SessionInfo}
use Rattle.im_payload.specs.Names.{binding}
use Rattle.law_limits.proofs.Requests.{bounce_read, iq_error_read, presence_bounce_read}
use Rattle.im_replies.specs.declared.conditions.StreamCondition.{StreamCondition}
use Rattle.im_replies.specs.declared.conditions.StreamCondition.TheVariants.{NotAuthorized, PolicyViolation}
use Rattle.srv_core.specs.Events.{after_fault, at_fault, fault_condition}
use Rattle.srv_core.specs.Table.{after_item, after_items, at_item, at_open, at_word}
use Rattle.law_limits.proofs.ServedAddresses.{session_said}
use Rattle.law_limits.proofs.Lists.{each_found, value_found}
use Rattle.law_limits.proofs.ServerMessagesKept.{message_kept}
use Rattle.law_limits.proofs.Readings.{word_comes}
use Rattle.law_limits.proofs.RequestsKept.{iq_kept}
use Rattle.im_replies.specs.Requests.{presence_bounce_item}
use Rattle.law_limits.proofs.RowsKept.{ToldKeeps, ack_kept, any_kept, bind_kept, challenge_kept, closing_kept, either_acts, enable_kept, ending_kept, header_kept, login_kept, refusing_kept, request_kept, resume_kept}
use Rattle.law_limits.proofs.ServerStepsKept.{acts_kept, whole_read}
use Rattle.law_limits.specs.Keeps.{ActsKeep, Comes, ConnectionKeeps, IsDrawn, IsRead, ServerKeeps, SessionKeeps, StepKeeps}
use Rattle.law_limits.specs.Texts.{Said}
use Rattle.law_limits.specs.Words.{BindsFit, ReadFits, WordComes}
use Rattle.law_server.specs.Encodings.{itself}
use Rattle.im_stanza.specs.Views.{IqView}
use Rattle.im_stanza.specs.declared.conditions.Condition.TheVariants.{UnexpectedRequest}
use Rattle.im_stanza.specs.declared.fault.StanzaFault.{StanzaFault}
use Rattle.im_stanza.specs.declared.fault.StanzaFault.TheVariants as fault
use Rattle.im_stanza.specs.declared.kinds.IqKind.{IqKind}
use Rattle.im_stanza.specs.declared.kinds.IqKind.TheVariants as iq
use Rattle.im_stanza.specs.declared.kinds.PresenceKind.{PresenceKind}
use Rattle.im_stanza.specs.declared.kinds.PresenceKind.TheVariants.{Available, Error, Other, Unavailable}
use Rattle.im_stanza.specs.declared.stanzas.Presence.{Presence}
use Rattle.im_stanza.specs.declared.stanzas.Stanza.{Stanza}
use Rattle.im_stanza.specs.declared.stanzas.Stanza.TheVariants as stanza
use Rattle.srv_core.specs.Ready.{at_bound, at_ready, at_ready_or_bound, ready_iq, ready_stanza}
use Rattle.srv_core.specs.Stanzas.{at_bad_to, at_stanza, directing, handling, is_local, judging, malformed, malformed_item, not_found, presenting, returning, stanza_condition}
use Rattle.xml_trees.specs.Readers.{first_named}
use Rattle.xml_trees.specs.Trees.{Elem}
use Rattle.xml_writer.specs.Items.{ItemOut}

-- ---- stanzas

returned_read : (to id : List ℕ) → Said 18426 to → Said 1048576 id → IsRead (presence_bounce_item to id not_found)
returned_read to id a b = whole_read _ (presence_bounce_read 18426 1048576 to id not_found a b tt (omega arith))

returning_kept : (kind : PresenceKind) (to : List ℕ) (p : Presence) (t : SessionInfo) → Said 18426 to → Said 1048576 p.id → ActsKeep (returning itself kind to p t)
returning_kept Available to p t a b = (returned_read to p.id a b, tt)
returning_kept Unavailable to p t a b = tt
returning_kept Error to p t a b = tt
returning_kept Other to p t a b = (returned_read to p.id a b, tt)

directing_kept : (here : Bool) (kind : PresenceKind) (to : List ℕ) (p : Presence) (t : SessionInfo) → Said 18426 to → Said 1048576 p.id → ActsKeep (directing itself here kind to p t)
directing_kept true kind to p t a b = tt
directing_kept false kind to p t a b = returning_kept kind to p t a b

presenting_kept : (o : Option (List ℕ)) (kind : PresenceKind) (p : Presence) (t : SessionInfo) (h : ServerState ItemOut) → IfSome o (Said 18426) → Said 1048576 p.id → ActsKeep (presenting itself o kind p t h)
presenting_kept (Some to) kind p t h a b = directing_kept (is_local to h) kind to p t a b
presenting_kept None Available p t h a b = (tt, tt)
presenting_kept None Unavailable p t h a b = (tt, tt)
presenting_kept None Error p t h a b = tt
presenting_kept None Other p t h a b = tt

malformed_read : (message : Bool) (id to : List ℕ) (t : SessionInfo) (h : ServerState ItemOut) → ReadFits (Err (fault.BadTo message true None id to)) → ServerKeeps h → IsRead (malformed_item message id to t h)
malformed_read true id to t h fits keeps = whole_read _ (bounce_read 1048576 1048576 to id malformed fits.the_to fits.the_id tt (omega arith))
malformed_read false id to t h fits keeps =
    whole_read _ (iq_error_read 1048576 1048576 18426 (Some to) (Some (session_address t.number h)) id malformed fits.the_to fits.the_id (session_said t.number h keeps) tt (omega arith))

bad_to_kept : (message reply : Bool) (id to : List ℕ) (t : SessionInfo) (h : ServerState ItemOut) → ReadFits (Err (fault.BadTo message reply None id to)) → ServerKeeps h → ActsKeep (at_bad_to itself message reply id to t h)
bad_to_kept message false id to t h fits keeps = tt
bad_to_kept message true id to t h fits keeps = (malformed_read message id to t h fits keeps, tt)

handling_kept : (read : Result Stanza StanzaFault) (t : SessionInfo) (h : ServerState ItemOut) → ReadFits read → ServerKeeps h → ActsKeep (handling itself read t h)
handling_kept (Ok (stanza.Message m)) t h fits keeps = message_kept m t h fits keeps
handling_kept (Ok (stanza.Presence p)) t h fits keeps = presenting_kept p.to p.kind p t h fits.to fits.id
handling_kept (Ok (stanza.Iq q)) t h fits keeps = iq_kept q t h fits keeps
handling_kept (Err (fault.BadTo message reply from id to)) t h fits keeps = bad_to_kept message reply id to t h fits keeps
handling_kept (Err fault.BadFrom) t h fits keeps = tt
handling_kept (Err fault.NotAStanza) t h fits keeps = tt
handling_kept (Err fault.BadFormat) t h fits keeps = tt
handling_kept (Err fault.NoMemory) t h fits keeps = tt

counting_kept : (t : SessionInfo) (acts : List (Act ItemOut)) → ActsKeep acts → ActsKeep (counting t acts)
counting_kept t acts h = either_acts t.counted _ acts (tt, h) h

judging_kept : (k : ℕ) (read : Result Stanza StanzaFault) (t : SessionInfo) (st : Standing) (o : Option StreamCondition) (h : ServerState ItemOut) → ReadFits read → ServerKeeps h → IsDrawn st.entropy → ActsKeep (judging itself k read t st o h)
judging_kept k read t st None h fits keeps drawn = counting_kept t (handling itself read t h) (handling_kept read t h fits keeps)
judging_kept k read t st (Some c) h fits keeps drawn = ending_kept k c st h keeps drawn

stanza_kept : (k : ℕ) (long : Bool) (read : Result Stanza StanzaFault) (t : SessionInfo) (st : Standing) (h : ServerState ItemOut) → (long ≡ false → ReadFits read) → ServerKeeps h → IsDrawn st.entropy → ActsKeep (at_stanza itself k long read t st h)
stanza_kept k true read t st h fits keeps drawn = ending_kept k PolicyViolation st h keeps drawn
stanza_kept k false read t st h fits keeps drawn = judging_kept k read t st (stanza_condition read t h) h (fits refl) keeps drawn

-- ---- the phase behind a login

ready_iq_kept : (k account : ℕ) (kind : IqKind) (q : IqView) (o : Option Elem) (st : Standing) (h : ServerState ItemOut) → first_named binding (codes "bind") q.payload ≡ o → BindsFit (Ok (stanza.Iq q)) → ServerKeeps h → IsDrawn st.entropy
    → ActsKeep (ready_iq itself k account kind q o st h)
ready_iq_kept k account iq.Set q (Some bind) st h is fits keeps drawn = bind_kept k account q.id bind h keeps fits.id (fits.resource bind is)
ready_iq_kept k account iq.Set q None st h is fits keeps drawn = ending_kept k NotAuthorized st h keeps drawn
ready_iq_kept k account iq.Get q o st h is fits keeps drawn = ending_kept k NotAuthorized st h keeps drawn
ready_iq_kept k account iq.Result q o st h is fits keeps drawn = ending_kept k NotAuthorized st h keeps drawn
ready_iq_kept k account iq.Error q o st h is fits keeps drawn = ending_kept k NotAuthorized st h keeps drawn

ready_stanza_kept : (k account : ℕ) (read : Result Stanza StanzaFault) (st : Standing) (h : ServerState ItemOut) → BindsFit read → ServerKeeps h → IsDrawn st.entropy → ActsKeep (ready_stanza itself k account read st h)
ready_stanza_kept k account (Ok (stanza.Iq q)) st h fits keeps drawn = ready_iq_kept k account q.kind q (first_named binding (codes "bind") q.payload) st h refl fits keeps drawn
ready_stanza_kept k account (Ok (stanza.Message m)) st h fits keeps drawn = ending_kept k NotAuthorized st h keeps drawn
ready_stanza_kept k account (Ok (stanza.Presence p)) st h fits keeps drawn = ending_kept k NotAuthorized st h keeps drawn
ready_stanza_kept k account (Err why) st h fits keeps drawn = ending_kept k NotAuthorized st h keeps drawn

ready_kept : (k account : ℕ) (w : Word) (st : Standing) (h : ServerState ItemOut) → WordComes w → ServerKeeps h → IsDrawn st.entropy → ActsKeep (at_ready itself k account w st h)
ready_kept k account (word.Stanza long read) st h comes keeps drawn = ready_stanza_kept k account read st h comes.1 keeps drawn
ready_kept k account (word.Resume previd n) st h comes keeps drawn = resume_kept k account previd n h comes keeps
ready_kept k account (word.Enable resume) st h comes keeps drawn = refusing_kept k UnexpectedRequest tt
ready_kept k account word.Request st h comes keeps drawn = refusing_kept k UnexpectedRequest tt
ready_kept k account (word.Ack n) st h comes keeps drawn = refusing_kept k UnexpectedRequest tt
ready_kept k account (word.Auth e bad) st h comes keeps drawn = any_kept k (word.Auth e bad) st h keeps drawn
ready_kept k account (word.Response e bad) st h comes keeps drawn = any_kept k (word.Response e bad) st h keeps drawn
ready_kept k account word.Abort st h comes keeps drawn = any_kept k word.Abort st h keeps drawn
ready_kept k account word.BadField st h comes keeps drawn = any_kept k word.BadField st h keeps drawn
ready_kept k account word.StreamError st h comes keeps drawn = any_kept k word.StreamError st h keeps drawn
ready_kept k account word.Other st h comes keeps drawn = any_kept k word.Other st h keeps drawn

bound_kept : (k : ℕ) (w : Word) (t : SessionInfo) (st : Standing) (h : ServerState ItemOut) → WordComes w → ToldKeeps t → ServerKeeps h → IsDrawn st.entropy → ActsKeep (at_bound itself k w t st h)
bound_kept k (word.Stanza long read) t st h comes told keeps drawn = stanza_kept k long read t st h comes.0 keeps drawn
bound_kept k (word.Enable resume) t st h comes told keeps drawn = enable_kept k resume t
bound_kept k word.Request t st h comes told keeps drawn = request_kept k t told
bound_kept k (word.Ack n) t st h comes told keeps drawn = ack_kept k n t h comes
bound_kept k (word.Resume previd n) t st h comes told keeps drawn = refusing_kept k UnexpectedRequest tt
bound_kept k (word.Auth e bad) t st h comes told keeps drawn = any_kept k (word.Auth e bad) st h keeps drawn
bound_kept k (word.Response e bad) t st h comes told keeps drawn = any_kept k (word.Response e bad) st h keeps drawn
bound_kept k word.Abort t st h comes told keeps drawn = any_kept k word.Abort st h keeps drawn
bound_kept k word.BadField t st h comes told keeps drawn = any_kept k word.BadField st h keeps drawn
bound_kept k word.StreamError t st h comes told keeps drawn = any_kept k word.StreamError st h keeps drawn
bound_kept k word.Other t st h comes told keeps drawn = any_kept k word.Other st h keeps drawn

either_kept : (k account : ℕ) (w : Word) (o : Option (Session ItemOut)) (st : Standing) (h : ServerState ItemOut) → WordComes w → IfSome o SessionKeeps → ServerKeeps h → IsDrawn st.entropy
    → ActsKeep (at_ready_or_bound itself k account w (option_map told o) st h)
either_kept k account w None st h comes found keeps drawn = ready_kept k account w st h comes keeps drawn
either_kept k account w (Some s) st h comes found keeps drawn = bound_kept k w (told s) st h comes found.handled keeps drawn

-- ---- any item

word_kept : (k : ℕ) (w : Word) (s : Stage) (st : Standing) (h : ServerState ItemOut) → WordComes w → ServerKeeps h → IsDrawn st.entropy → ActsKeep (at_word itself k w s st h)
word_kept k w stage.Login st h comes keeps drawn = login_kept k w st h comes keeps drawn
word_kept k w stage.Challenge st h comes keeps drawn = challenge_kept k w st h keeps drawn
word_kept k w (stage.Ready account) st h comes keeps drawn = either_kept k account w (session_at k h.sessions) st h comes (each_found SessionKeeps _ h.sessions keeps.sessions) keeps drawn
word_kept k w stage.Start st h comes keeps drawn = any_kept k w st h keeps drawn
word_kept k w (stage.Restart account) st h comes keeps drawn = any_kept k w st h keeps drawn

item_kept : (k : ℕ) (i : Item) (st : Standing) (h : ServerState ItemOut) → Comes i → ServerKeeps h → IsDrawn st.entropy → ActsKeep (at_item itself k i st h)
item_kept k (item.Header at header) st h comes keeps drawn = header_kept k header st h keeps drawn
item_kept k (item.Element e) st h comes keeps drawn = word_kept k (word_of e) st.stage st h (word_comes e comes) keeps drawn
item_kept k item.Footer st h comes keeps drawn = closing_kept k

open_kept : (k : ℕ) (i : Item) (o : Option Connection) (h : ServerState ItemOut) → Comes i → ServerKeeps h → IfSome o ConnectionKeeps → ActsKeep (at_open itself k i (option_map standing_of o) h)
open_kept k i None h comes keeps found = tt
open_kept k i (Some c) h comes keeps found = item_kept k i (standing_of c) h comes keeps found

conn_keeps : (k : ℕ) (h : ServerState ItemOut) → ServerKeeps h → IfSome (conn_at k h) ConnectionKeeps
conn_keeps k h keeps = value_found ConnectionKeeps (is_number k) h.conns keeps.conns

pub after_kept : (k : ℕ) (i : Item) (s : Step ItemOut) → Comes i → StepKeeps s → StepKeeps (after_item itself k i s)
after_kept k i s comes h = acts_kept (at_open itself k i (standing_at k s.server_state) s.server_state) s (open_kept k i (conn_at k s.server_state) s.server_state comes h.server_state (conn_keeps k s.server_state h.server_state)) h

pub items_kept : (k : ℕ) (items : List Item) (s : Step ItemOut) → AllByRecursion Comes items → StepKeeps s → StepKeeps (after_items itself k items s)
items_kept k [] s comes h = h
items_kept k (i ∷ items) s comes h = items_kept k items (after_item itself k i s) comes.1 (after_kept k i s comes.0 h)

-- ---- the fault of a stream

fault_acts : (k : ℕ) (f : Fault) (o : Option Connection) (h : ServerState ItemOut) → ServerKeeps h → IfSome o ConnectionKeeps → ActsKeep (at_fault itself k f (option_map standing_of o) h)
fault_acts k f None h keeps found = tt
fault_acts k f (Some c) h keeps found = ending_kept k (fault_condition f.why) (standing_of c) h keeps found

pub fault_kept : (k : ℕ) (o : Option Fault) (s : Step ItemOut) → StepKeeps s → StepKeeps (after_fault itself k o s)
fault_kept k None s h = h
fault_kept k (Some f) s h = acts_kept (at_fault itself k f (standing_at k s.server_state) s.server_state) s (fault_acts k f (conn_at k s.server_state) s.server_state h.server_state (conn_keeps k s.server_state h.server_state)) h
