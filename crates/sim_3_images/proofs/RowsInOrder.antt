-- Each row of a server's table puts what comes in the order of a stream.
use Rattle.std.proofs.Common.{◌≡◌, ◌≢◌, ℕ, nat_le, Bool, true, false, cond, not, List, [], ◌∷◌, Option, Some, None, Result, Ok, Err, length, codes, refl, sym, ap, subst, ◌∙◌}
use Rattle.std.proofs.lemmas.Bool.{eq-eqb}
use Rattle.std.proofs.lemmas.Option.{none-some}
use Rattle.std.specs.List.{AllByRecursion, find}
use Rattle.std.specs.Map.{lookup, remove_entry}
use Rattle.std.specs.Option.{option_map}
use Rattle.sm_acks.specs.Counters.{ahead}
use Rattle.sm_acks.specs.declared.end.TooHigh.{TooHigh as TooHighCount}
use Rattle.law_limits.proofs.TurnsKept.{All-drop}
use Rattle.srv_state.specs.Logins.{answering, at_challenge, at_login, at_login_other, beginning, failing, negotiation_at}
use Rattle.srv_state.specs.State.{ServerState, Step, conn_at, is_number}
use Rattle.srv_state.specs.Steps as steps
use Rattle.srv_state.specs.Steps.{Act, act, acted, after_failure, in_phase, in_sessions, part, put}
use Rattle.srv_state.specs.Streams.{answering_header, at_any, ending_in, field_condition, header_condition, parting_where, stage_of, standing_of}
use Rattle.srv_state.specs.Words.{word_of}
use Rattle.srv_state.specs.declared.connection.Connection.{Connection}
use Rattle.srv_state.specs.declared.connection.Phase.{Phase as ConnPhase}
use Rattle.srv_state.specs.declared.connection.Phase.TheVariants as conn
use Rattle.srv_state.specs.declared.connection.Stage.{Stage}
use Rattle.srv_state.specs.declared.connection.Stage.TheVariants as stage
use Rattle.srv_state.specs.declared.connection.Standing.{Standing}
use Rattle.srv_state.specs.declared.connection.Tries.{Tries}
use Rattle.srv_state.specs.declared.connection.Tries.TheVariants as tries
use Rattle.srv_state.specs.declared.limits.TheConstants.{ASKS_AT}
use Rattle.srv_state.specs.declared.word.Word.{Word}
use Rattle.srv_state.specs.declared.word.Word.TheVariants as word
use Rattle.xml_framer.specs.declared.items.Item.{Item}
use Rattle.xml_framer.specs.declared.items.Item.TheVariants as item
use Rattle.xml_framer.specs.declared.states.Phase.{Phase}
use Rattle.xml_framer.specs.declared.states.Phase.TheVariants as phase
use Rattle.sim_3_images.proofs.AloneKept.{all_apart}
use Rattle.sim_3_images.proofs.ConnsKept.{all_found}
use Rattle.sim_3_images.proofs.Lookups.{found_after_removal}
use Rattle.sim_3_images.proofs.QuietRows.{counted_q}
use Rattle.sim_3_images.proofs.StepsInOrder.{Calm, bind_calm, ends_first, entered, opens_first, part_calm, put_word, quiet_calm, resume_calm, session_changed, shut_footer}
use Rattle.sim_3_images.specs.EncodingsCores.{IsNoFooter, phase_of, writer_of}
use Rattle.sim_3_images.specs.Stands.{Conns, IsAfter, SessionStands, writer_in}
use Rattle.sim_3_items.specs.ItemWorlds.{itself}
use Rattle.sm_live.specs.Sessions.{Session, ack_answer, asks, ended_of, is_at, is_named, is_resumed_by, is_too_high, resent, resume_answer, resume_ok, send_count, session_at, session_named, session_of, session_resumed, told, with_session}
use Rattle.sm_live.specs.declared.told.SessionInfo.{SessionInfo}
use Rattle.srv_login.specs.Headers.{header_answer}
use Rattle.srv_login.specs.Negotiations.{LoginView, auth_answer, condition_name, final_answer}
use Rattle.srv_login.specs.declared.header_judgement.HeaderAnswer.{HeaderAnswer}
use Rattle.srv_login.specs.declared.header_judgement.HeaderAnswer.TheVariants.{Opens, Refused}
use Rattle.srv_login.specs.declared.negotiation.AuthAnswer.{AuthAnswer}
use Rattle.srv_login.specs.declared.negotiation.AuthAnswer.TheVariants as auth
use Rattle.srv_login.specs.declared.sasl_condition.SaslCondition.{SaslCondition}
use Rattle.srv_login.specs.declared.sasl_condition.SaslCondition.TheVariants.{Aborted}
use Rattle.im_payload.specs.Names.{binding}
use Rattle.im_replies.specs.Management.{ack_item, refused_item, request_item, resumed_item}
use Rattle.im_replies.specs.Requests.{iq_error_item}
use Rattle.im_replies.specs.Sasl.{challenge_item, failure_item, success_item}
use Rattle.im_replies.specs.Streams.{error_item, header_item, login_features_item, session_features_item, too_high_item}
use Rattle.im_replies.specs.declared.conditions.StreamCondition.{StreamCondition}
use Rattle.im_replies.specs.declared.conditions.StreamCondition.TheVariants as stream
use Rattle.sm_resumption.specs.Rows.{is_some_number}
use Rattle.sm_resumption.specs.declared.answers.ResumeFault.TheVariants.{TooHigh}
use Rattle.srv_core.specs.Table.{after_item, at_item, at_open}
use Rattle.srv_handlers.specs.Bindings.{asked_resource, bad_request, binding_as, chosen, former_of}
use Rattle.srv_handlers.specs.Managements.{acknowledging, at_ack, at_enable, at_request, enabled_as, refusing}
use Rattle.srv_handlers.specs.Resumptions.{asking, resent_where, resuming, saying}
use Rattle.im_stanza.specs.Views.{IqView}
use Rattle.im_stanza.specs.declared.conditions.Condition.{Condition}
use Rattle.im_stanza.specs.declared.conditions.Condition.TheVariants.{ItemNotFound, UnexpectedRequest}
use Rattle.im_stanza.specs.declared.fault.StanzaFault.{StanzaFault}
use Rattle.im_stanza.specs.declared.kinds.IqKind.{IqKind}
use Rattle.im_stanza.specs.declared.kinds.IqKind.TheVariants as iq
use Rattle.im_stanza.specs.declared.stanzas.Stanza.{Stanza}
use Rattle.im_stanza.specs.declared.stanzas.Stanza.TheVariants as stanza
use Rattle.srv_core.specs.Ready.{at_bound, at_ready, at_ready_or_bound, ready_iq, ready_stanza}
use Rattle.srv_core.specs.Stanzas.{at_stanza, judging, stanza_condition}
use Rattle.std.specs.Result.{result_ok}
use Rattle.xml_trees.specs.Readers.{first_named}
use Rattle.xml_trees.specs.Trees.{Elem}
use Rattle.xml_writer.specs.Items.{ItemOut}

abbrev NotStart : Stage → Type 0
NotStart stage.Start = ⊥
NotStart s = Unit {0}

-- what may come before the first header
abbrev pub IsHeader : Item → Type 0
IsHeader (item.Header at h) = Unit {0}
IsHeader (item.Element e) = ⊥
IsHeader item.Footer = ⊥

module _ (n : ℕ) (start : ℕ → Option Phase) (k : ℕ) where
  -- the connection of the row is behind its header
  abbrev On : Step ItemOut → Type 0
  On s = writer_in k s.server_state.conns ≡ Some phase.Between

  abbrev Goes : List (Act ItemOut) → Step ItemOut → Type 0
  Goes acts s = Calm n start (acted itself acts s)

  -- ---- ends

  ending_calm : (e : StreamCondition) (g : Stage) (entropy : List ℕ) (h : ServerState ItemOut) (s : Step ItemOut) → NotStart g → On s → Calm n start s → Goes (ending_in itself k e g entropy h) s
  ending_calm e stage.Start entropy h s not on c = absurd not
  ending_calm e stage.Login entropy h s not on c = part_calm n start s k (error_item e) on refl c
  ending_calm e stage.Challenge entropy h s not on c = part_calm n start s k (error_item e) on refl c
  ending_calm e (stage.Restart account) entropy h s not on c = part_calm n start s k (error_item e) on refl c
  ending_calm e (stage.Ready account) entropy h s not on c = part_calm n start s k (error_item e) on refl c

  any_calm : (w : Word) (st : Standing) (h : ServerState ItemOut) (s : Step ItemOut) → NotStart st.stage → On s → Calm n start s → Goes (at_any itself k w st h) s
  any_calm word.BadField st h s not on c = ending_calm stream.BadFormat st.stage st.entropy h s not on c
  any_calm (word.Auth e bad) st h s not on c = ending_calm (field_condition bad) st.stage st.entropy h s not on c
  any_calm (word.Response e bad) st h s not on c = ending_calm (field_condition bad) st.stage st.entropy h s not on c
  any_calm word.StreamError st h s not on c = shut_footer n start s k on c
  any_calm w st h s not on c = ending_calm stream.UnsupportedStanzaType st.stage st.entropy h s not on c

  -- ---- logins

  failing_calm : (why : SaslCondition) (left : Tries) (s : Step ItemOut) → On s → Calm n start s → Goes (failing itself k why left) s
  failing_calm why tries.Three s on c = entered n start (put k (failure_item (condition_name why)) s) k (after_failure tries.Two) (λ x. refl) on (put_word n start s k (failure_item (condition_name why)) on refl c)
  failing_calm why tries.Two s on c = entered n start (put k (failure_item (condition_name why)) s) k (after_failure tries.One) (λ x. refl) on (put_word n start s k (failure_item (condition_name why)) on refl c)
  failing_calm why tries.One s on c = part_calm n start (put k (failure_item (condition_name why)) s) k (error_item stream.PolicyViolation) on refl (put_word n start s k (failure_item (condition_name why)) on refl c)

  beginning_calm : (left : Tries) (a : AuthAnswer) (s : Step ItemOut) → On s → Calm n start s → Goes (beginning itself k left a) s
  beginning_calm left (auth.Begins x) s on c = entered n start (put k (challenge_item x.exchange.message) s) k (in_phase (conn.Challenge x)) (λ y. refl) on (put_word n start s k (challenge_item x.exchange.message) on refl c)
  beginning_calm left (auth.Fails why) s on c = failing_calm why left s on c

  answering_calm : (left : Tries) (o : Option (Result LoginView SaslCondition)) (s : Step ItemOut) → On s → Calm n start s → Goes (answering itself k left o) s
  answering_calm left None s on c = c
  answering_calm left (Some (Ok login)) s on c = entered n start (put k (success_item login.message) s) k (in_phase (conn.Restart login.account)) (λ y. refl) on (put_word n start s k (success_item login.message) on refl c)
  answering_calm left (Some (Err why)) s on c = failing_calm why left s on c

  login_other_calm : (w : Word) (st : Standing) (h : ServerState ItemOut) (s : Step ItemOut) → NotStart st.stage → On s → Calm n start s → Goes (at_login_other itself k w st h) s
  login_other_calm word.Abort st h s not on c = failing_calm Aborted st.tries s on c
  login_other_calm (word.Stanza long read) st h s not on c = ending_calm stream.NotAuthorized st.stage st.entropy h s not on c
  login_other_calm w st h s not on c = any_calm w st h s not on c

  login_calm : (w : Word) (st : Standing) (h : ServerState ItemOut) (s : Step ItemOut) → NotStart st.stage → On s → Calm n start s → Goes (at_login itself k w st h) s
  login_calm (word.Auth e bad) st h s not on c = beginning_calm st.tries (auth_answer e st.entropy h.accounts) s on c
  login_calm w st h s not on c = login_other_calm w st h s not on c

  challenge_calm : (w : Word) (st : Standing) (h : ServerState ItemOut) (s : Step ItemOut) → NotStart st.stage → On s → Calm n start s → Goes (at_challenge itself k w st h) s
  challenge_calm (word.Response e bad) st h s not on c = answering_calm st.tries (option_map (final_answer e) (negotiation_at k h)) s on c
  challenge_calm w st h s not on c = login_other_calm w st h s not on c

  -- ---- sessions that come to the connection, where none is there

  refusing_calm : (x : Condition) (s : Step ItemOut) → On s → Calm n start s → Goes (refusing itself k x) s
  refusing_calm x s on c = put_word n start s k (refused_item x) on refl c

  -- another connection on which a session is
  record IsFormer (s : Step ItemOut) (j : ℕ) : Type 0 where
    on : writer_in j s.server_state.conns ≡ Some phase.Between
    apart : k ≢ j

  former_is : (s : Step ItemOut) → Calm n start s → session_at k s.server_state.sessions ≡ None → (q : Session ItemOut → Bool) (u : Session ItemOut) → find q s.server_state.sessions ≡ Some u → (j : ℕ) → u.shown.conn ≡ Some j → IsFormer s j
  former_is s c none q u found j conn_is = record {
    on = subst (IsAfter s.server_state.conns) conn_is (all_found (SessionStands s.server_state.conns) q s.server_state.sessions u c.stands.sessions found).on;
    apart = λ same. true_is_not (sym (eq-eqb j k (sym same)) ∙ sym (ap (is_some_number k) conn_is) ∙ all_found (λ t. is_at k t ≡ false) q s.server_state.sessions u (all_apart (is_at k) s.server_state.sessions none) found);
  }
    where
      true_is_not : true ≡ false → ⊥
      true_is_not e = cc

  Formers : Step ItemOut → Option ℕ → Type 0
  Formers s o = (j : ℕ) → o ≡ Some j → IsFormer s j

  -- behind the end of another connection this one is as it was
  on_still : (conns : Conns) (j : ℕ) → k ≢ j → writer_in k conns ≡ Some phase.Between → writer_in k (remove_entry (is_number j) conns) ≡ Some phase.Between
  on_still conns j apart on = ap (option_map writer_of) (found_after_removal k j conns apart) ∙ on

  bound_calm : (s : Step ItemOut) (o : Option ℕ) (more : ItemOut) → ((j : ℕ) → o ≡ Some j → IsFormer s j) → IsNoFooter more → On s → Calm n start s → Goes (parting_where itself o (error_item stream.Conflict) (steps.Say k more ∷ [])) s
  bound_calm s None more former word on c = put_word n start s k more on word c
  bound_calm s (Some j) more former word on c =
      let f = former j refl in
      put_word n start (part itself j (error_item stream.Conflict) s) k more (on_still s.server_state.conns j f.apart on) word (part_calm n start s j (error_item stream.Conflict) f.on refl c)

  binding_calm : (account : ℕ) (id : List ℕ) (o : Option (List ℕ)) (s : Step ItemOut) → session_at k s.server_state.sessions ≡ None → On s → Calm n start s → Goes (binding_as itself k account id o s.server_state) s
  binding_calm account id None s none on c = put_word n start s k (iq_error_item (record { from = None; to = None; id = id }) bad_request) on refl c
  binding_calm account id (Some resource) s none on c =
      bound_calm (act itself (steps.Bind account resource k) s) (former_of (option_map ended_of (session_named account resource s.server_state.sessions))) _ (λ j e. same j (by (session_named account resource s.server_state.sessions) refl j e)) refl on
      (bind_calm n start s account resource k on (all_apart (is_at k) s.server_state.sessions none) c)
    where
      same : (j : ℕ) → IsFormer s j → IsFormer (act itself (steps.Bind account resource k) s) j
      same j f = record { on = f.on; apart = f.apart }

      by : (o : Option (Session ItemOut)) → session_named account resource s.server_state.sessions ≡ o → (j : ℕ) → former_of (option_map ended_of o) ≡ Some j → IsFormer s j
      by None found j e = absurd (none-some j e)
      by (Some u) found j e = former_is s c none (is_named account resource) u found j e

  -- ---- resumptions

  asking_calm : (m : ℕ) (due : Bool) (s : Step ItemOut) → On s → Calm n start s → Goes (asking itself k m due) s
  asking_calm m false s on c = c
  asking_calm m true s on c = put_word n start (in_sessions (with_session m (asks true)) s) k request_item on refl (session_changed n start s m (asks true) (λ t x. record { on = x.on; words = x.words }) (λ t. (refl, refl)) c)

  saying_calm : (waiting : List ItemOut) (m : ℕ) (due : Bool) (s : Step ItemOut) → AllByRecursion IsNoFooter waiting → On s → Calm n start s → Goes (saying k waiting (asking itself k m due)) s
  saying_calm [] m due s words on c = asking_calm m due s on c
  saying_calm (a ∷ waiting) m due s words on c = saying_calm waiting m due (put k a s) words.1 on (put_word n start s k a on words.0 c)

  again_calm : (s : Step ItemOut) (o : Option ℕ) (first : ItemOut) (waiting : List ItemOut) (m : ℕ) (due : Bool) → ((j : ℕ) → o ≡ Some j → IsFormer s j) → IsNoFooter first → AllByRecursion IsNoFooter waiting → On s → Calm n start s
      → Goes (parting_where itself o (error_item stream.Conflict) (steps.Say k first ∷ saying k waiting (asking itself k m due))) s
  again_calm s None first waiting m due former word words on c = saying_calm waiting m due (put k first s) words on (put_word n start s k first on word c)
  again_calm s (Some j) first waiting m due former word words on c =
      let f = former j refl in
      let still = on_still s.server_state.conns j f.apart on in
      saying_calm waiting m due (put k first (part itself j (error_item stream.Conflict) s)) words still (put_word n start (part itself j (error_item stream.Conflict) s) k first still word (part_calm n start s j (error_item stream.Conflict) f.on refl c))

  other_shut : (s : Step ItemOut) (o : Option ℕ) → ((j : ℕ) → o ≡ Some j → writer_in j s.server_state.conns ≡ Some phase.Between) → Calm n start s → Goes (parting_where itself o (error_item stream.Conflict) []) s
  other_shut s None former c = c
  other_shut s (Some j) former c = part_calm n start s j (error_item stream.Conflict) (former j refl) refl c

  resume_row : (account : ℕ) (previd : List ℕ) (h : ℕ) (s : Step ItemOut) → session_at k s.server_state.sessions ≡ None → On s → Calm n start s → (o : Option (Session ItemOut)) → session_resumed previd account s.server_state.sessions ≡ o → Goes (resuming itself k account previd h (resume_answer h o) (resent_where h o)) s
  resume_row account previd h s none on c None found = refusing_calm ItemNotFound s on c
  resume_row account previd h s none on c (Some u) found = by (is_too_high h u)
    where
      former : (j : ℕ) → u.shown.conn ≡ Some j → IsFormer s j
      former j e = former_is s c none (is_resumed_by previd account) u found j e

      one : Calm n start (act itself (steps.Resume previd account h k) s)
      one = resume_calm n start s previd account h k on (all_apart (is_at k) s.server_state.sessions none) c

      two : Calm n start (in_sessions (with_session u.shown.number (asks false)) (act itself (steps.Resume previd account h k) s))
      two = session_changed n start (act itself (steps.Resume previd account h k) s) u.shown.number (asks false) (λ t x. record { on = x.on; words = x.words }) (λ t. (refl, refl)) one

      words : AllByRecursion IsNoFooter (resent h u)
      words = All-drop IsNoFooter (ahead h u.acked) u.waiting (all_found (SessionStands s.server_state.conns) (is_resumed_by previd account) s.server_state.sessions u c.stands.sessions found).words

      by : (b : Bool) → Goes (resuming itself k account previd h (cond b (Err (TooHigh h (send_count u) u.shown.conn)) (Ok (resume_ok u))) (resent h u)) s
      by true =
          other_shut (part itself k (too_high_item h (send_count u)) (act itself (steps.Resume previd account h k) s)) u.shown.conn
          (λ j e. ap (option_map writer_of) (found_after_removal j k s.server_state.conns (λ same. (former j e).apart (sym same))) ∙ (former j e).on)
          (part_calm n start (act itself (steps.Resume previd account h k) s) k (too_high_item h (send_count u)) on refl one)
      by false =
          again_calm (in_sessions (with_session u.shown.number (asks false)) (act itself (steps.Resume previd account h k) s)) u.shown.conn (resumed_item u.shown.number u.handled) (resent h u) u.shown.number (nat_le ASKS_AT (length (resent h u)))
          (λ j e. record { on = (former j e).on; apart = (former j e).apart }) refl words on two

  -- ---- behind a login, without a session

  ready_iq_calm : (account : ℕ) (kind : IqKind) (q : IqView) (bind : Option Elem) (st : Standing) (s : Step ItemOut) → session_at k s.server_state.sessions ≡ None → NotStart st.stage → On s → Calm n start s → Goes (ready_iq itself k account kind q bind st s.server_state) s
  ready_iq_calm account iq.Set q (Some bind) st s none not on c = binding_calm account q.id (result_ok (chosen s.server_state.next (asked_resource bind))) s none on c
  ready_iq_calm account iq.Set q None st s none not on c = ending_calm stream.NotAuthorized st.stage st.entropy s.server_state s not on c
  ready_iq_calm account iq.Get q bind st s none not on c = ending_calm stream.NotAuthorized st.stage st.entropy s.server_state s not on c
  ready_iq_calm account iq.Result q bind st s none not on c = ending_calm stream.NotAuthorized st.stage st.entropy s.server_state s not on c
  ready_iq_calm account iq.Error q bind st s none not on c = ending_calm stream.NotAuthorized st.stage st.entropy s.server_state s not on c

  ready_stanza_calm : (account : ℕ) (read : Result Stanza StanzaFault) (st : Standing) (s : Step ItemOut) → session_at k s.server_state.sessions ≡ None → NotStart st.stage → On s → Calm n start s → Goes (ready_stanza itself k account read st s.server_state) s
  ready_stanza_calm account (Ok (stanza.Iq q)) st s none not on c = ready_iq_calm account q.kind q (first_named binding (codes "bind") q.payload) st s none not on c
  ready_stanza_calm account (Ok (stanza.Message m)) st s none not on c = ending_calm stream.NotAuthorized st.stage st.entropy s.server_state s not on c
  ready_stanza_calm account (Ok (stanza.Presence p)) st s none not on c = ending_calm stream.NotAuthorized st.stage st.entropy s.server_state s not on c
  ready_stanza_calm account (Err why) st s none not on c = ending_calm stream.NotAuthorized st.stage st.entropy s.server_state s not on c

  ready_calm : (account : ℕ) (w : Word) (st : Standing) (s : Step ItemOut) → session_at k s.server_state.sessions ≡ None → NotStart st.stage → On s → Calm n start s → Goes (at_ready itself k account w st s.server_state) s
  ready_calm account (word.Stanza long read) st s none not on c = ready_stanza_calm account read st s none not on c
  ready_calm account (word.Resume previd handled) st s none not on c = resume_row account previd handled s none on c (session_resumed previd account s.server_state.sessions) refl
  ready_calm account (word.Enable resume) st s none not on c = refusing_calm UnexpectedRequest s on c
  ready_calm account word.Request st s none not on c = refusing_calm UnexpectedRequest s on c
  ready_calm account (word.Ack handled) st s none not on c = refusing_calm UnexpectedRequest s on c
  ready_calm account w st s none not on c = any_calm w st s.server_state s not on c

  -- ---- with one

  judging_calm : (read : Result Stanza StanzaFault) (t : SessionInfo) (st : Standing) (o : Option StreamCondition) (s : Step ItemOut) → NotStart st.stage → On s → Calm n start s → Goes (judging itself k read t st o s.server_state) s
  judging_calm read t st None s not on c = quiet_calm n start _ s (counted_q n start read t s.server_state) c
  judging_calm read t st (Some condition) s not on c = ending_calm condition st.stage st.entropy s.server_state s not on c

  stanza_calm : (long : Bool) (read : Result Stanza StanzaFault) (t : SessionInfo) (st : Standing) (s : Step ItemOut) → NotStart st.stage → On s → Calm n start s → Goes (at_stanza itself k long read t st s.server_state) s
  stanza_calm true read t st s not on c = ending_calm stream.PolicyViolation st.stage st.entropy s.server_state s not on c
  stanza_calm false read t st s not on c = judging_calm read t st (stanza_condition read t s.server_state) s not on c

  enabled_word : (m : ℕ) (b : Bool) → IsNoFooter (enabled_as m b)
  enabled_word m true = refl
  enabled_word m false = refl

  enable_calm : (resume : Bool) (t : SessionInfo) (s : Step ItemOut) → On s → Calm n start s → Goes (at_enable itself k resume t) s
  enable_calm resume t s on c = by t.counted
    where
      by : (b : Bool) → Goes (cond b (refusing itself k UnexpectedRequest) (steps.Enable t.number resume ∷ steps.Say k (itself (enabled_as t.number resume)) ∷ [])) s
      by true = refusing_calm UnexpectedRequest s on c
      by false = put_word n start (act itself (steps.Enable t.number resume) s) k (enabled_as t.number resume) on (enabled_word t.number resume) (quiet_calm n start (steps.Enable t.number resume ∷ []) s (tt, tt) c)

  request_calm : (t : SessionInfo) (s : Step ItemOut) → On s → Calm n start s → Goes (at_request itself k t) s
  request_calm t s on c = by t.counted
    where
      by : (b : Bool) → Goes (cond b (steps.Say k (itself (ack_item t.handled)) ∷ []) (refusing itself k UnexpectedRequest)) s
      by true = put_word n start s k (ack_item t.handled) on refl c
      by false = refusing_calm UnexpectedRequest s on c

  acknowledging_calm : (m h : ℕ) (o : Option (Result ℕ TooHighCount)) (s : Step ItemOut) → On s → Calm n start s → Goes (acknowledging itself k m h o) s
  acknowledging_calm m h None s on c = c
  acknowledging_calm m h (Some (Ok more)) s on c = quiet_calm n start (steps.Acknowledge m h ∷ steps.Ask m false ∷ []) s (tt, (tt, tt)) c
  acknowledging_calm m h (Some (Err why)) s on c = part_calm n start s k (too_high_item why.h why.send_count) on refl c

  ack_calm : (h : ℕ) (t : SessionInfo) (s : Step ItemOut) → On s → Calm n start s → Goes (at_ack itself k h t s.server_state) s
  ack_calm h t s on c = by t.counted
    where
      by : (b : Bool) → Goes (cond b (acknowledging itself k t.number h (option_map (ack_answer h) (session_of t.number s.server_state.sessions))) (refusing itself k UnexpectedRequest)) s
      by true = acknowledging_calm t.number h (option_map (ack_answer h) (session_of t.number s.server_state.sessions)) s on c
      by false = refusing_calm UnexpectedRequest s on c

  bound_row : (w : Word) (t : SessionInfo) (st : Standing) (s : Step ItemOut) → NotStart st.stage → On s → Calm n start s → Goes (at_bound itself k w t st s.server_state) s
  bound_row (word.Stanza long read) t st s not on c = stanza_calm long read t st s not on c
  bound_row (word.Enable resume) t st s not on c = enable_calm resume t s on c
  bound_row word.Request t st s not on c = request_calm t s on c
  bound_row (word.Ack handled) t st s not on c = ack_calm handled t s on c
  bound_row (word.Resume previd handled) t st s not on c = refusing_calm UnexpectedRequest s on c
  bound_row w t st s not on c = any_calm w st s.server_state s not on c

  ready_or_bound : (account : ℕ) (w : Word) (st : Standing) (s : Step ItemOut) → NotStart st.stage → On s → Calm n start s → (o : Option (Session ItemOut)) → session_at k s.server_state.sessions ≡ o → Goes (at_ready_or_bound itself k account w (option_map told o) st s.server_state) s
  ready_or_bound account w st s not on c None found = ready_calm account w st s found not on c
  ready_or_bound account w st s not on c (Some u) found = bound_row w (told u) st s not on c

  -- ---- items

  answered_calm : (account : ℕ) (left : Tries) (entropy : List ℕ) (a : HeaderAnswer) (s : Step ItemOut) → On s → Calm n start s → Goes (answering_header itself k (record { stage = stage.Restart account; tries = left; entropy = entropy }) a s.server_state) s
  answered_calm account left entropy Opens s on c =
      let header = header_item s.server_state.domain k entropy in
      entered n start (put k session_features_item (put k header s)) k (in_phase (conn.Ready account)) (λ y. refl) on (put_word n start (put k header s) k session_features_item on refl (put_word n start s k header on refl c))
  answered_calm account left entropy (Refused why) s on c = part_calm n start s k (error_item (header_condition why)) on refl c

  first_calm : (left : Tries) (entropy : List ℕ) (a : HeaderAnswer) (s : Step ItemOut) (x : Connection) → lookup (is_number k) s.server_state.conns ≡ Some x → writer_of x ≡ phase.First → Calm n start s
      → Goes (answering_header itself k (record { stage = stage.Start; tries = left; entropy = entropy }) a s.server_state) s
  first_calm left entropy Opens s x found first c = opens_first n start s k _ login_features_item (in_phase conn.Login) x found first refl refl c
  first_calm left entropy (Refused why) s x found first c = ends_first n start s k _ (header_condition why) (ap (option_map writer_of) found ∙ ap Some first) c

  pub row_calm : (i : Item) (p : ConnPhase) (left : Tries) (entropy : List ℕ) (s : Step ItemOut) (x : Connection) → lookup (is_number k) s.server_state.conns ≡ Some x → writer_of x ≡ phase_of p → (Some (phase_of p) ≡ Some phase.First → IsHeader i) → Calm n start s
      → Goes (at_item itself k i (record { stage = stage_of p; tries = left; entropy = entropy }) s.server_state) s
  row_calm (item.Header at h) conn.Start left entropy s x found w may c = first_calm left entropy (header_answer s.server_state.domain h) s x found w c
  row_calm (item.Element e) conn.Start left entropy s x found w may c = absurd (may refl)
  row_calm item.Footer conn.Start left entropy s x found w may c = absurd (may refl)
  row_calm (item.Header at h) conn.Login left entropy s x found w may c = part_calm n start s k (error_item stream.UnsupportedStanzaType) (ap (option_map writer_of) found ∙ ap Some w) refl c
  row_calm (item.Element e) conn.Login left entropy s x found w may c = login_calm (word_of e) (record { stage = stage.Login; tries = left; entropy = entropy }) s.server_state s tt (ap (option_map writer_of) found ∙ ap Some w) c
  row_calm item.Footer conn.Login left entropy s x found w may c = shut_footer n start s k (ap (option_map writer_of) found ∙ ap Some w) c
  row_calm (item.Header at h) (conn.Challenge m) left entropy s x found w may c = part_calm n start s k (error_item stream.UnsupportedStanzaType) (ap (option_map writer_of) found ∙ ap Some w) refl c
  row_calm (item.Element e) (conn.Challenge m) left entropy s x found w may c = challenge_calm (word_of e) (record { stage = stage.Challenge; tries = left; entropy = entropy }) s.server_state s tt (ap (option_map writer_of) found ∙ ap Some w) c
  row_calm item.Footer (conn.Challenge m) left entropy s x found w may c = shut_footer n start s k (ap (option_map writer_of) found ∙ ap Some w) c
  row_calm (item.Header at h) (conn.Restart account) left entropy s x found w may c = answered_calm account left entropy (header_answer s.server_state.domain h) s (ap (option_map writer_of) found ∙ ap Some w) c
  row_calm (item.Element e) (conn.Restart account) left entropy s x found w may c = any_calm (word_of e) (record { stage = stage.Restart account; tries = left; entropy = entropy }) s.server_state s tt (ap (option_map writer_of) found ∙ ap Some w) c
  row_calm item.Footer (conn.Restart account) left entropy s x found w may c = shut_footer n start s k (ap (option_map writer_of) found ∙ ap Some w) c
  row_calm (item.Header at h) (conn.Ready account) left entropy s x found w may c = part_calm n start s k (error_item stream.UnsupportedStanzaType) (ap (option_map writer_of) found ∙ ap Some w) refl c
  row_calm (item.Element e) (conn.Ready account) left entropy s x found w may c =
      ready_or_bound account (word_of e) (record { stage = stage.Ready account; tries = left; entropy = entropy }) s tt (ap (option_map writer_of) found ∙ ap Some w) c (session_at k s.server_state.sessions) refl
  row_calm item.Footer (conn.Ready account) left entropy s x found w may c = shut_footer n start s k (ap (option_map writer_of) found ∙ ap Some w) c

  pub item_calm : (i : Item) (s : Step ItemOut) → (writer_in k s.server_state.conns ≡ Some phase.First → IsHeader i) → Calm n start s → Calm n start (after_item itself k i s)
  item_calm i s may c = by (conn_at k s.server_state) refl
    where
      by : (o : Option Connection) → conn_at k s.server_state ≡ o → Calm n start (acted itself (at_open itself k i (option_map standing_of o) s.server_state) s)
      by None found = c
      by (Some x) found = row_calm i x.phase x.tries x.entropy s x found refl (λ e. may (ap (option_map writer_of) found ∙ e)) c
