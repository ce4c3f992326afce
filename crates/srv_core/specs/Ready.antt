-- The rows of the phase behind a login: before and behind a binding.
use Rattle.std.specs.Prelude.{ℕ, List, Option, Some, None, Result, Ok, codes}
use Rattle.sm_live.specs.declared.told.SessionInfo.{SessionInfo}
use Rattle.im_payload.specs.Names.{binding}
use Rattle.im_replies.specs.declared.conditions.StreamCondition.TheVariants.{NotAuthorized}
use Rattle.srv_handlers.specs.Bindings.{at_bind}
use Rattle.srv_handlers.specs.Managements.{at_ack, at_enable, at_request, refusing}
use Rattle.srv_handlers.specs.Resumptions.{at_resume}
use Rattle.srv_core.specs.Stanzas.{at_stanza}
use Rattle.srv_state.specs.State.{ServerState}
use Rattle.srv_state.specs.Steps.{Act}
use Rattle.srv_state.specs.Streams.{at_any, ending}
use Rattle.srv_state.specs.declared.connection.Standing.{Standing}
use Rattle.srv_state.specs.declared.word.Word.{Word}
use Rattle.srv_state.specs.declared.word.Word.TheVariants as word
use Rattle.im_stanza.specs.Views.{IqView}
use Rattle.im_stanza.specs.declared.conditions.Condition.TheVariants.{UnexpectedRequest}
use Rattle.im_stanza.specs.declared.fault.StanzaFault.{StanzaFault}
use Rattle.im_stanza.specs.declared.kinds.IqKind.{IqKind}
use Rattle.im_stanza.specs.declared.kinds.IqKind.TheVariants as iq
use Rattle.im_stanza.specs.declared.stanzas.Stanza.{Stanza}
use Rattle.im_stanza.specs.declared.stanzas.Stanza.TheVariants as stanza
use Rattle.xml_trees.specs.Readers.{first_named}
use Rattle.xml_trees.specs.Trees.{Elem}
use Rattle.xml_writer.specs.Items.{ItemOut}

-- ---- Ready, where no session is on the connection

abbrev pub ready_iq : {A : Type 0} → (ItemOut → A) → ℕ → ℕ → IqKind → IqView → Option Elem → Standing → ServerState A → List (Act A)
ready_iq say k account iq.Set q (Some bind) st h = at_bind say k account q.id bind h
ready_iq say k account kind q bind st h = ending say k NotAuthorized st h

abbrev pub ready_stanza : {A : Type 0} → (ItemOut → A) → ℕ → ℕ → Result Stanza StanzaFault → Standing → ServerState A → List (Act A)
ready_stanza say k account (Ok (stanza.Iq q)) st h = ready_iq say k account q.kind q (first_named binding (codes "bind") q.payload) st h
ready_stanza say k account read st h = ending say k NotAuthorized st h

abbrev pub at_ready : {A : Type 0} → (ItemOut → A) → ℕ → ℕ → Word → Standing → ServerState A → List (Act A)
at_ready say k account (word.Stanza long read) st h = ready_stanza say k account read st h
at_ready say k account (word.Resume previd handled) st h = at_resume say k account previd handled h
at_ready say k account (word.Enable resume) st h = refusing say k UnexpectedRequest
at_ready say k account word.Request st h = refusing say k UnexpectedRequest
at_ready say k account (word.Ack handled) st h = refusing say k UnexpectedRequest
at_ready say k account w st h = at_any say k w st h

-- ---- Bound, where one is

abbrev pub at_bound : {A : Type 0} → (ItemOut → A) → ℕ → Word → SessionInfo → Standing → ServerState A → List (Act A)
at_bound say k (word.Stanza long read) t st h = at_stanza say k long read t st h
at_bound say k (word.Enable resume) t st h = at_enable say k resume t
at_bound say k word.Request t st h = at_request say k t
at_bound say k (word.Ack handled) t st h = at_ack say k handled t h
at_bound say k (word.Resume previd handled) t st h = refusing say k UnexpectedRequest
at_bound say k w t st h = at_any say k w st h

abbrev pub at_ready_or_bound : {A : Type 0} → (ItemOut → A) → ℕ → ℕ → Word → Option SessionInfo → Standing → ServerState A → List (Act A)
at_ready_or_bound say k account w None st h = at_ready say k account w st h
at_ready_or_bound say k account w (Some t) st h = at_bound say k w t st h
