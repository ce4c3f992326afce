-- The rows behind a login, but for messages: each puts on its own connection, ends another's stream, or answers its session.
use Rattle.std.proofs.Common.{◌≡◌, ℕ, nat_le, Bool, true, false, cond, List, [], ◌∷◌, Option, Some, None, Result, Ok, Err, codes, length, refl, inl, inr}
use Rattle.std.proofs.lemmas.List.Elements.{recursion_from_All}
use Rattle.std.specs.Option.{option_map}
use Rattle.std.specs.Result.{result_ok}
use Rattle.base_lemmas.proofs.Lists.{AllByRecursion-weaker}
use Rattle.im_payload.specs.Names.{binding}
use Rattle.im_replies.specs.Streams.{error_item}
use Rattle.im_replies.specs.declared.conditions.StreamCondition.TheVariants as stream
use Rattle.im_stanza.specs.Views.{IqView}
use Rattle.im_stanza.specs.declared.fault.StanzaFault.{StanzaFault}
use Rattle.im_stanza.specs.declared.kinds.IqKind.{IqKind}
use Rattle.im_stanza.specs.declared.kinds.IqKind.TheVariants as iq
use Rattle.im_stanza.specs.declared.kinds.PresenceKind.{PresenceKind}
use Rattle.im_stanza.specs.declared.kinds.PresenceKind.TheVariants.{Available, Unavailable, Error, Other}
use Rattle.im_stanza.specs.declared.stanzas.Presence.{Presence}
use Rattle.im_stanza.specs.declared.stanzas.Stanza.{Stanza}
use Rattle.im_stanza.specs.declared.stanzas.Stanza.TheVariants as stanza
use Rattle.law_server.proofs.LoginRows.{calm_any, calm_ending, calm_parting}
use Rattle.law_server.proofs.OwnActs.{of_own}
use Rattle.law_server.proofs.Rows.{AreCalm, IsCalm, IsRow, calm_row}
use Rattle.law_server.specs.Answering.{IsOf}
use Rattle.law_server.specs.Live.{IsItsSession, conflict, footer}
use Rattle.sm_acks.specs.declared.end.TooHigh.{TooHigh as TooHighCount}
use Rattle.sm_live.specs.Sessions.{Session, ack_answer, ended_of, resume_answer, session_at, session_named, session_of, session_resumed, told}
use Rattle.sm_live.specs.declared.told.SessionInfo.{SessionInfo}
use Rattle.sm_resumption.specs.declared.answers.ResumeFault.{ResumeFault}
use Rattle.sm_resumption.specs.declared.answers.ResumeFault.TheVariants.{TooHigh, UnknownPrevid}
use Rattle.sm_resumption.specs.declared.answers.ResumeOk.{ResumeOk}
use Rattle.srv_core.specs.Ready.{at_ready, ready_iq, ready_stanza}
use Rattle.srv_core.specs.Stanzas.{at_bad_to, directing, is_local, presenting, returning}
use Rattle.srv_handlers.specs.Bindings.{asked_resource, at_bind, binding_as, chosen, former_of}
use Rattle.srv_handlers.specs.Managements.{acknowledging, at_ack, at_enable, at_request}
use Rattle.srv_handlers.specs.Requests.{at_iq}
use Rattle.srv_handlers.specs.Resumptions.{asking, at_resume, resent_where, resuming, saying}
use Rattle.srv_state.specs.State.{ServerState}
use Rattle.srv_state.specs.Steps as steps
use Rattle.srv_state.specs.Steps.{Act}
use Rattle.srv_state.specs.Streams.{at_any, parting_where}
use Rattle.srv_state.specs.declared.connection.Stage.TheVariants as stage
use Rattle.srv_state.specs.declared.connection.Standing.{Standing}
use Rattle.srv_state.specs.declared.limits.TheConstants.{ASKS_AT}
use Rattle.srv_state.specs.declared.word.Word.{Word}
use Rattle.srv_state.specs.declared.word.Word.TheVariants as word
use Rattle.xml_framer.specs.declared.items.Item.{Item}
use Rattle.xml_trees.specs.Readers.{first_named}
use Rattle.xml_trees.specs.Trees.{Elem}
use Rattle.xml_writer.specs.Items.{ItemOut}

module _ {A : Type 0} (say : ItemOut → A) (k : ℕ) (i : Item) (st : Standing) (h : ServerState A) where
  pub calm_either : (b : Bool) (x y : List (Act A)) → AreCalm say k i st h x → AreCalm say k i st h y → AreCalm say k i st h (cond b x y)
  calm_either true x y here there = here
  calm_either false x y here there = there

  calm_former : (o : Option ℕ) (more : List (Act A)) → AreCalm say k i st h more → AreCalm say k i st h (parting_where say o (say (error_item stream.Conflict)) more)
  calm_former None more rest = rest
  calm_former (Some j) more rest = ((inr (conflict refl), tt), ((inr (footer refl), tt), ((tt, tt), rest)))

  -- ---- where no session is on the connection

  row_binding : (account : ℕ) (id : List ℕ) (o : Option (List ℕ)) → session_at k h.sessions ≡ None → st.stage ≡ stage.Ready account → IsRow say k i st h (binding_as say k account id o h)
  row_binding account id None none ready = ((inl refl, tt), tt)
  row_binding account id (Some resource) none ready =
      ((refl, none, ready), calm_former (former_of (option_map ended_of (session_named account resource h.sessions))) _ ((inl refl, tt), tt))

  row_bind : (account : ℕ) (id : List ℕ) (bind : Elem) → session_at k h.sessions ≡ None → st.stage ≡ stage.Ready account → IsRow say k i st h (at_bind say k account id bind h)
  row_bind account id bind none ready = row_binding account id (result_ok (chosen h.next (asked_resource bind))) none ready

  calm_asking : (n : ℕ) (due : Bool) → AreCalm say k i st h (asking say k n due)
  calm_asking n true = ((tt, tt), ((inl refl, tt), tt))
  calm_asking n false = tt

  calm_saying : (items : List A) (more : List (Act A)) → AreCalm say k i st h more → AreCalm say k i st h (saying k items more)
  calm_saying [] more rest = rest
  calm_saying (a ∷ items) more rest = ((inl refl, tt), calm_saying items more rest)

  row_resuming : (account : ℕ) (previd : List ℕ) (n : ℕ) (r : Result ResumeOk ResumeFault) (waiting : List A) → session_at k h.sessions ≡ None → st.stage ≡ stage.Ready account
      → IsRow say k i st h (resuming say k account previd n r waiting)
  row_resuming account previd n (Err UnknownPrevid) waiting none ready = ((inl refl, tt), tt)
  row_resuming account previd n (Err (TooHigh stated send_count former)) waiting none ready =
      ((refl, none, ready), ((inl refl, tt), ((inl refl, tt), ((tt, tt), calm_former former [] tt))))
  row_resuming account previd n (Ok resumed) waiting none ready =
      ((refl, none, ready), ((tt, tt), calm_former resumed.former _ ((inl refl, tt), calm_saying waiting _ (calm_asking resumed.number (nat_le ASKS_AT (length waiting))))))

  row_resume : (account : ℕ) (previd : List ℕ) (n : ℕ) → session_at k h.sessions ≡ None → st.stage ≡ stage.Ready account → IsRow say k i st h (at_resume say k account previd n h)
  row_resume account previd n none ready =
      row_resuming account previd n (resume_answer n (session_resumed previd account h.sessions)) (resent_where n (session_resumed previd account h.sessions)) none ready

  ended_row : (acts : List (Act A)) → AreCalm say k i st h acts → IsRow say k i st h acts
  ended_row acts all = calm_row say k i st h acts all

  row_ready_iq : (account : ℕ) (kind : IqKind) (q : IqView) (bind : Option Elem) → session_at k h.sessions ≡ None → st.stage ≡ stage.Ready account → IsRow say k i st h (ready_iq say k account kind q bind st h)
  row_ready_iq account iq.Set q (Some bind) none ready = row_bind account q.id bind none ready
  row_ready_iq account iq.Set q None none ready = ended_row _ (calm_ending say k i st h stream.NotAuthorized)
  row_ready_iq account iq.Get q bind none ready = ended_row _ (calm_ending say k i st h stream.NotAuthorized)
  row_ready_iq account iq.Result q bind none ready = ended_row _ (calm_ending say k i st h stream.NotAuthorized)
  row_ready_iq account iq.Error q bind none ready = ended_row _ (calm_ending say k i st h stream.NotAuthorized)

  row_ready_stanza : (account : ℕ) (read : Result Stanza StanzaFault) → session_at k h.sessions ≡ None → st.stage ≡ stage.Ready account → IsRow say k i st h (ready_stanza say k account read st h)
  row_ready_stanza account (Ok (stanza.Iq q)) none ready = row_ready_iq account q.kind q (first_named binding (codes "bind") q.payload) none ready
  row_ready_stanza account (Ok (stanza.Message m)) none ready = ended_row _ (calm_ending say k i st h stream.NotAuthorized)
  row_ready_stanza account (Ok (stanza.Presence p)) none ready = ended_row _ (calm_ending say k i st h stream.NotAuthorized)
  row_ready_stanza account (Err why) none ready = ended_row _ (calm_ending say k i st h stream.NotAuthorized)

  pub row_ready : (account : ℕ) (w : Word) → session_at k h.sessions ≡ None → st.stage ≡ stage.Ready account → IsRow say k i st h (at_ready say k account w st h)
  row_ready account (word.Stanza long read) none ready = row_ready_stanza account read none ready
  row_ready account (word.Resume previd n) none ready = row_resume account previd n none ready
  row_ready account (word.Enable resume) none ready = ((inl refl, tt), tt)
  row_ready account word.Request none ready = ((inl refl, tt), tt)
  row_ready account (word.Ack n) none ready = ((inl refl, tt), tt)
  row_ready account (word.Auth e bad) none ready = ended_row _ (calm_any say k i st h (word.Auth e bad))
  row_ready account (word.Response e bad) none ready = ended_row _ (calm_any say k i st h (word.Response e bad))
  row_ready account word.Abort none ready = ended_row _ (calm_any say k i st h word.Abort)
  row_ready account word.BadField none ready = ended_row _ (calm_any say k i st h word.BadField)
  row_ready account word.StreamError none ready = ended_row (at_any say k word.StreamError st h) (calm_any say k i st h word.StreamError)
  row_ready account word.Other none ready = ended_row _ (calm_any say k i st h word.Other)

  -- ---- where one is

  pub calm_enable : (resume : Bool) (t : SessionInfo) → AreCalm say k i st h (at_enable say k resume t)
  calm_enable resume t = calm_either t.counted _ _ ((inl refl, tt), tt) ((tt, tt), ((inl refl, tt), tt))

  pub calm_request : (t : SessionInfo) → AreCalm say k i st h (at_request say k t)
  calm_request t = calm_either t.counted _ _ ((inl refl, tt), tt) ((inl refl, tt), tt)

  calm_acknowledging : (n handled : ℕ) (o : Option (Result ℕ TooHighCount)) → AreCalm say k i st h (acknowledging say k n handled o)
  calm_acknowledging n handled None = tt
  calm_acknowledging n handled (Some (Ok more)) = ((tt, tt), ((tt, tt), tt))
  calm_acknowledging n handled (Some (Err why)) = calm_parting say k i st h _

  pub calm_ack : (handled : ℕ) (t : SessionInfo) → AreCalm say k i st h (at_ack say k handled t h)
  calm_ack handled t = calm_either t.counted _ _ (calm_acknowledging t.number handled (option_map (ack_answer handled) (session_of t.number h.sessions))) ((inl refl, tt), tt)

  module _ (sender : Session A) (on : session_at k h.sessions ≡ Some sender) where
    pub its : IsItsSession k h sender.shown.number
    its = record { session = sender; is_on = on; number = refl }

    own_calm : (act : Act A) → IsOf sender.shown.number act → IsCalm say k i st h act
    own_calm (steps.Send n a) is = (inl (record { session = sender; is_on = on; number = is }), tt)
    own_calm (steps.Copy n on) is = (tt, tt)
    own_calm (steps.Say j a) is = absurd is
    own_calm (steps.Close j) is = absurd is
    own_calm (steps.Enter j phase) is = absurd is
    own_calm (steps.Fail j left) is = absurd is
    own_calm (steps.Bind account resource j) is = absurd is
    own_calm (steps.Resume previd account n j) is = absurd is
    own_calm (steps.Enable n resume) is = absurd is
    own_calm (steps.Acknowledge n handled) is = absurd is
    own_calm (steps.Ask n asked) is = absurd is
    own_calm (steps.Handle n) is = absurd is
    own_calm (steps.Present n available priority) is = absurd is
    own_calm (steps.Archive account e) is = absurd is
    own_calm (steps.Tell from to origin) is = absurd is

    pub calm_iq : (q : IqView) → AreCalm say k i st h (at_iq say q (told sender) h)
    calm_iq q =
        AllByRecursion-weaker (IsOf sender.shown.number) (IsCalm say k i st h) own_calm (at_iq say q (told sender) h)
        (recursion_from_All (IsOf sender.shown.number) (at_iq say q (told sender) h) (of_own say q (told sender) h))

    calm_returning : (kind : PresenceKind) (to : List ℕ) (p : Presence) → AreCalm say k i st h (returning say kind to p (told sender))
    calm_returning Available to p = ((inl its, tt), tt)
    calm_returning Unavailable to p = tt
    calm_returning Error to p = tt
    calm_returning Other to p = ((inl its, tt), tt)

    calm_directing : (here : Bool) (kind : PresenceKind) (to : List ℕ) (p : Presence) → AreCalm say k i st h (directing say here kind to p (told sender))
    calm_directing true kind to p = tt
    calm_directing false kind to p = calm_returning kind to p

    pub calm_presence : (o : Option (List ℕ)) (kind : PresenceKind) (p : Presence) → AreCalm say k i st h (presenting say o kind p (told sender) h)
    calm_presence (Some to) kind p = calm_directing (is_local to h) kind to p
    calm_presence None Available p = ((tt, tt), tt)
    calm_presence None Unavailable p = ((tt, tt), tt)
    calm_presence None Error p = tt
    calm_presence None Other p = tt

    pub calm_bad_to : (message reply : Bool) (id to : List ℕ) → AreCalm say k i st h (at_bad_to say message reply id to (told sender) h)
    calm_bad_to message false id to = tt
    calm_bad_to message true id to = ((inl its, tt), tt)
