-- The whole table goes through: what comes of an item is made of items, however these are written.
use Rattle.std.proofs.Common.{◌≡◌, ℕ, Bool, true, false, List, [], ◌∷◌, Option, Some, None, Result, Ok, Err, refl, ap, ◌∙◌}
use Rattle.std.specs.Option.{option_map}
use Rattle.srv_state.specs.Handling.{counting}
use Rattle.srv_state.specs.State.{ServerState, Step, bare_address}
use Rattle.srv_state.specs.Steps as steps
use Rattle.srv_state.specs.Steps.{Act, acted}
use Rattle.srv_state.specs.Streams.{standing_at}
use Rattle.srv_state.specs.Words.{word_of}
use Rattle.srv_state.specs.declared.connection.Stage.{Stage}
use Rattle.srv_state.specs.declared.connection.Stage.TheVariants as stage
use Rattle.srv_state.specs.declared.connection.Standing.{Standing}
use Rattle.srv_state.specs.declared.word.Word.{Word}
use Rattle.srv_state.specs.declared.word.Word.TheVariants as word
use Rattle.xml_framer.specs.declared.items.Item.{Item}
use Rattle.xml_framer.specs.declared.items.Item.TheVariants as item
use Rattle.sm_live.specs.Sessions.{session_at, told}
use Rattle.sm_live.specs.declared.told.SessionInfo.{SessionInfo}
use Rattle.im_payload.specs.Names.{binding}
use Rattle.im_replies.specs.declared.conditions.StreamCondition.{StreamCondition}
use Rattle.im_replies.specs.declared.conditions.StreamCondition.TheVariants.{NotAuthorized, PolicyViolation}
use Rattle.srv_core.specs.Table.{after_item, after_items, at_item, at_open, at_word}
use Rattle.law_server.proofs.MessagesRendered.{message_rendered}
use Rattle.law_server.proofs.RequestsRendered.{address_rendered, iq_rendered}
use Rattle.law_server.proofs.SessionRowsRendered.{ack_rendered, acts_either, bind_rendered, enable_rendered, request_rendered, resume_rendered}
use Rattle.law_server.proofs.SessionsRendered.{told_at_rendered}
use Rattle.law_server.proofs.StepsRendered.{steps_by}
use Rattle.law_server.proofs.StreamsRendered.{any_rendered, challenge_rendered, ending_rendered, header_rendered, login_rendered}
use Rattle.law_server.specs.Rendered.{acts_rendered, rendered, server_state_rendered, step_rendered}
use Rattle.im_stanza.specs.Views.{IqView}
use Rattle.im_stanza.specs.declared.fault.StanzaFault.{StanzaFault}
use Rattle.im_stanza.specs.declared.fault.StanzaFault.TheVariants as fault
use Rattle.im_stanza.specs.declared.kinds.IqKind.{IqKind}
use Rattle.im_stanza.specs.declared.kinds.IqKind.TheVariants as iq
use Rattle.im_stanza.specs.declared.kinds.PresenceKind.{PresenceKind}
use Rattle.im_stanza.specs.declared.kinds.PresenceKind.TheVariants.{Available, Unavailable, Error, Other}
use Rattle.im_stanza.specs.declared.stanzas.Presence.{Presence}
use Rattle.im_stanza.specs.declared.stanzas.Stanza.{Stanza}
use Rattle.im_stanza.specs.declared.stanzas.Stanza.TheVariants as stanza
use Rattle.srv_core.specs.Ready.{at_bound, at_ready, at_ready_or_bound, ready_iq, ready_stanza}
use Rattle.srv_core.specs.Stanzas.{at_bad_to, at_stanza, directing, handling, is_local, is_own, is_own_of, judging, malformed_item, presenting, returning, sender_of, stanza_condition, unless_own}
use Rattle.xml_trees.specs.Readers.{first_named}
use Rattle.xml_trees.specs.Trees.{Elem}
use Rattle.xml_writer.specs.Items.{ItemOut}

-- ---- stanzas

own_rendered : {A B : Type 0} (f : A → B) (from : Option (List ℕ)) (t : SessionInfo) (h : ServerState A) → is_own from t (server_state_rendered f h) ≡ is_own from t h
own_rendered f from t h = ap (is_own_of from (bare_address t.account h)) (address_rendered f t.number h)

condition_rendered : {A B : Type 0} (f : A → B) (read : Result Stanza StanzaFault) (t : SessionInfo) (h : ServerState A) → stanza_condition read t (server_state_rendered f h) ≡ stanza_condition read t h
condition_rendered f (Ok s) t h = ap unless_own (own_rendered f (sender_of s) t h)
condition_rendered f (Err (fault.BadTo message reply from id to)) t h = ap unless_own (own_rendered f from t h)
condition_rendered f (Err fault.BadFrom) t h = refl
condition_rendered f (Err fault.NotAStanza) t h = refl
condition_rendered f (Err fault.BadFormat) t h = refl
condition_rendered f (Err fault.NoMemory) t h = refl

returning_rendered : {A B : Type 0} (f : A → B) (say : ItemOut → A) (kind : PresenceKind) (to : List ℕ) (p : Presence) (t : SessionInfo) → returning (rendered f say) kind to p t ≡ acts_rendered f (returning say kind to p t)
returning_rendered f say Available to p t = refl
returning_rendered f say Unavailable to p t = refl
returning_rendered f say Error to p t = refl
returning_rendered f say Other to p t = refl

directing_rendered : {A B : Type 0} (f : A → B) (say : ItemOut → A) (here : Bool) (kind : PresenceKind) (to : List ℕ) (p : Presence) (t : SessionInfo) → directing (rendered f say) here kind to p t ≡ acts_rendered f (directing say here kind to p t)
directing_rendered f say true kind to p t = refl
directing_rendered f say false kind to p t = returning_rendered f say kind to p t

presenting_rendered : {A B : Type 0} (f : A → B) (say : ItemOut → A) (o : Option (List ℕ)) (kind : PresenceKind) (p : Presence) (t : SessionInfo) (h : ServerState A) → presenting (rendered f say) o kind p t (server_state_rendered f h) ≡ acts_rendered f (presenting say o kind p t h)
presenting_rendered f say (Some to) kind p t h = directing_rendered f say (is_local to h) kind to p t
presenting_rendered f say None Available p t h = refl
presenting_rendered f say None Unavailable p t h = refl
presenting_rendered f say None Error p t h = refl
presenting_rendered f say None Other p t h = refl

malformed_rendered : {A B : Type 0} (f : A → B) (message : Bool) (id to : List ℕ) (t : SessionInfo) (h : ServerState A) → malformed_item message id to t (server_state_rendered f h) ≡ malformed_item message id to t h
malformed_rendered f true id to t h = refl
malformed_rendered f false id to t h = rw (address_rendered f t.number h) refl

bad_to_rendered : {A B : Type 0} (f : A → B) (say : ItemOut → A) (message reply : Bool) (id to : List ℕ) (t : SessionInfo) (h : ServerState A) → at_bad_to (rendered f say) message reply id to t (server_state_rendered f h) ≡ acts_rendered f (at_bad_to say message reply id to t h)
bad_to_rendered f say message false id to t h = refl
bad_to_rendered f say message true id to t h = ap (λ i. steps.Send t.number (f (say i)) ∷ []) (malformed_rendered f message id to t h)

handling_rendered : {A B : Type 0} (f : A → B) (say : ItemOut → A) (read : Result Stanza StanzaFault) (t : SessionInfo) (h : ServerState A) → handling (rendered f say) read t (server_state_rendered f h) ≡ acts_rendered f (handling say read t h)
handling_rendered f say (Ok (stanza.Message m)) t h = message_rendered f say m t h
handling_rendered f say (Ok (stanza.Presence p)) t h = presenting_rendered f say p.to p.kind p t h
handling_rendered f say (Ok (stanza.Iq q)) t h = iq_rendered f say q t h
handling_rendered f say (Err (fault.BadTo message reply from id to)) t h = bad_to_rendered f say message reply id to t h
handling_rendered f say (Err fault.BadFrom) t h = refl
handling_rendered f say (Err fault.NotAStanza) t h = refl
handling_rendered f say (Err fault.BadFormat) t h = refl
handling_rendered f say (Err fault.NoMemory) t h = refl

counting_rendered : {A B : Type 0} (f : A → B) (t : SessionInfo) (acts : List (Act A)) → counting t (acts_rendered f acts) ≡ acts_rendered f (counting t acts)
counting_rendered f t acts = acts_either f t.counted _ _ _ _ refl refl

judging_rendered : {A B : Type 0} (f : A → B) (say : ItemOut → A) (k : ℕ) (read : Result Stanza StanzaFault) (t : SessionInfo) (st : Standing) (o : Option StreamCondition) (h : ServerState A) →
    judging (rendered f say) k read t st o (server_state_rendered f h) ≡ acts_rendered f (judging say k read t st o h)
judging_rendered f say k read t st None h = ap (counting t) (handling_rendered f say read t h) ∙ counting_rendered f t (handling say read t h)
judging_rendered f say k read t st (Some condition) h = ending_rendered f say k condition st h

stanza_rendered : {A B : Type 0} (f : A → B) (say : ItemOut → A) (k : ℕ) (long : Bool) (read : Result Stanza StanzaFault) (t : SessionInfo) (st : Standing) (h : ServerState A) →
    at_stanza (rendered f say) k long read t st (server_state_rendered f h) ≡ acts_rendered f (at_stanza say k long read t st h)
stanza_rendered f say k true read t st h = ending_rendered f say k PolicyViolation st h
stanza_rendered f say k false read t st h =
    ap (λ o. judging (rendered f say) k read t st o (server_state_rendered f h)) (condition_rendered f read t h) ∙ judging_rendered f say k read t st (stanza_condition read t h) h

-- ---- the phase behind a login

ready_iq_rendered : {A B : Type 0} (f : A → B) (say : ItemOut → A) (k account : ℕ) (kind : IqKind) (q : IqView) (bind : Option Elem) (st : Standing) (h : ServerState A) →
    ready_iq (rendered f say) k account kind q bind st (server_state_rendered f h) ≡ acts_rendered f (ready_iq say k account kind q bind st h)
ready_iq_rendered f say k account iq.Set q (Some bind) st h = bind_rendered f say k account q.id bind h
ready_iq_rendered f say k account iq.Set q None st h = ending_rendered f say k NotAuthorized st h
ready_iq_rendered f say k account iq.Get q bind st h = ending_rendered f say k NotAuthorized st h
ready_iq_rendered f say k account iq.Result q bind st h = ending_rendered f say k NotAuthorized st h
ready_iq_rendered f say k account iq.Error q bind st h = ending_rendered f say k NotAuthorized st h

ready_stanza_rendered : {A B : Type 0} (f : A → B) (say : ItemOut → A) (k account : ℕ) (read : Result Stanza StanzaFault) (st : Standing) (h : ServerState A) →
    ready_stanza (rendered f say) k account read st (server_state_rendered f h) ≡ acts_rendered f (ready_stanza say k account read st h)
ready_stanza_rendered f say k account (Ok (stanza.Iq q)) st h = ready_iq_rendered f say k account q.kind q (first_named binding _ q.payload) st h
ready_stanza_rendered f say k account (Ok (stanza.Message m)) st h = ending_rendered f say k NotAuthorized st h
ready_stanza_rendered f say k account (Ok (stanza.Presence p)) st h = ending_rendered f say k NotAuthorized st h
ready_stanza_rendered f say k account (Err why) st h = ending_rendered f say k NotAuthorized st h

ready_rendered : {A B : Type 0} (f : A → B) (say : ItemOut → A) (k account : ℕ) (w : Word) (st : Standing) (h : ServerState A) → at_ready (rendered f say) k account w st (server_state_rendered f h) ≡ acts_rendered f (at_ready say k account w st h)
ready_rendered f say k account (word.Stanza long read) st h = ready_stanza_rendered f say k account read st h
ready_rendered f say k account (word.Resume previd handled) st h = resume_rendered f say k account previd handled h
ready_rendered f say k account (word.Enable resume) st h = refl
ready_rendered f say k account word.Request st h = refl
ready_rendered f say k account (word.Ack handled) st h = refl
ready_rendered f say k account (word.Auth e bad) st h = any_rendered f say k (word.Auth e bad) st h
ready_rendered f say k account (word.Response e bad) st h = any_rendered f say k (word.Response e bad) st h
ready_rendered f say k account word.Abort st h = any_rendered f say k word.Abort st h
ready_rendered f say k account word.BadField st h = any_rendered f say k word.BadField st h
ready_rendered f say k account word.StreamError st h = any_rendered f say k word.StreamError st h
ready_rendered f say k account word.Other st h = any_rendered f say k word.Other st h

bound_rendered : {A B : Type 0} (f : A → B) (say : ItemOut → A) (k : ℕ) (w : Word) (t : SessionInfo) (st : Standing) (h : ServerState A) → at_bound (rendered f say) k w t st (server_state_rendered f h) ≡ acts_rendered f (at_bound say k w t st h)
bound_rendered f say k (word.Stanza long read) t st h = stanza_rendered f say k long read t st h
bound_rendered f say k (word.Enable resume) t st h = enable_rendered f say k resume t
bound_rendered f say k word.Request t st h = request_rendered f say k t
bound_rendered f say k (word.Ack handled) t st h = ack_rendered f say k handled t h
bound_rendered f say k (word.Resume previd handled) t st h = refl
bound_rendered f say k (word.Auth e bad) t st h = any_rendered f say k (word.Auth e bad) st h
bound_rendered f say k (word.Response e bad) t st h = any_rendered f say k (word.Response e bad) st h
bound_rendered f say k word.Abort t st h = any_rendered f say k word.Abort st h
bound_rendered f say k word.BadField t st h = any_rendered f say k word.BadField st h
bound_rendered f say k word.StreamError t st h = any_rendered f say k word.StreamError st h
bound_rendered f say k word.Other t st h = any_rendered f say k word.Other st h

either_rendered : {A B : Type 0} (f : A → B) (say : ItemOut → A) (k account : ℕ) (w : Word) (o : Option SessionInfo) (st : Standing) (h : ServerState A) →
    at_ready_or_bound (rendered f say) k account w o st (server_state_rendered f h) ≡ acts_rendered f (at_ready_or_bound say k account w o st h)
either_rendered f say k account w None st h = ready_rendered f say k account w st h
either_rendered f say k account w (Some t) st h = bound_rendered f say k w t st h

-- ---- any item

word_rendered : {A B : Type 0} (f : A → B) (say : ItemOut → A) (k : ℕ) (w : Word) (s : Stage) (st : Standing) (h : ServerState A) → at_word (rendered f say) k w s st (server_state_rendered f h) ≡ acts_rendered f (at_word say k w s st h)
word_rendered f say k w stage.Login st h = login_rendered f say k w st h
word_rendered f say k w stage.Challenge st h = challenge_rendered f say k w st h
word_rendered f say k w (stage.Ready account) st h =
    ap (λ o. at_ready_or_bound (rendered f say) k account w o st (server_state_rendered f h)) (told_at_rendered f k h.sessions)
    ∙ either_rendered f say k account w (option_map told (session_at k h.sessions)) st h
word_rendered f say k w stage.Start st h = any_rendered f say k w st h
word_rendered f say k w (stage.Restart account) st h = any_rendered f say k w st h

item_rendered : {A B : Type 0} (f : A → B) (say : ItemOut → A) (k : ℕ) (i : Item) (st : Standing) (h : ServerState A) → at_item (rendered f say) k i st (server_state_rendered f h) ≡ acts_rendered f (at_item say k i st h)
item_rendered f say k (item.Header at header) st h = header_rendered f say k header st h
item_rendered f say k (item.Element e) st h = word_rendered f say k (word_of e) st.stage st h
item_rendered f say k item.Footer st h = refl

open_rendered : {A B : Type 0} (f : A → B) (say : ItemOut → A) (k : ℕ) (i : Item) (o : Option Standing) (h : ServerState A) → at_open (rendered f say) k i o (server_state_rendered f h) ≡ acts_rendered f (at_open say k i o h)
open_rendered f say k i None h = refl
open_rendered f say k i (Some st) h = item_rendered f say k i st h

after_rendered : {A B : Type 0} (f : A → B) (say : ItemOut → A) (k : ℕ) (i : Item) (s : Step A) → after_item (rendered f say) k i (step_rendered f s) ≡ step_rendered f (after_item say k i s)
after_rendered f say k i s =
    ap (λ acts. acted (rendered f say) acts (step_rendered f s)) (open_rendered f say k i (standing_at k s.server_state) s.server_state)
    ∙ steps_by f say (at_open say k i (standing_at k s.server_state) s.server_state) s

pub items_rendered : {A B : Type 0} (f : A → B) (say : ItemOut → A) (k : ℕ) (items : List Item) (s : Step A) → after_items (rendered f say) k items (step_rendered f s) ≡ step_rendered f (after_items say k items s)
items_rendered f say k [] s = refl
items_rendered f say k (i ∷ items) s = ap (after_items (rendered f say) k items) (after_rendered f say k i s) ∙ items_rendered f say k items (after_item say k i s)
