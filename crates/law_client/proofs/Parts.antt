-- What rows are made of. A relation of turns that stays, joins, and holds of each such part holds of the whole table.
use Rattle.std.proofs.Common.{◌≡◌, ℕ, true, false, List, Some, None, IsSome}
use Rattle.cl_core.specs.Steps.{handles}
use Rattle.law_client.specs.Standing.{is_binding, needs_session, stanza_of_said}
use Rattle.law_client.proofs.LogParts.{LogPart}
use Rattle.cl_handlers.specs.AckRows.{acknowledges}
use Rattle.cl_handlers.specs.Clients.{ClientStep}
use Rattle.cl_handlers.specs.SessionRows.{begins, begins_epoch}
use Rattle.cl_handlers.specs.Speech.{Speech, Stated}
use Rattle.cl_handlers.specs.ClientSteps.{drops, goes, left, notes, queues, with_log}
use Rattle.cl_handlers.specs.declared.phase.Phase.{Phase}
use Rattle.cl_handlers.specs.declared.phase.Phase.TheVariants as phase
use Rattle.mam_log.specs.Views.{LogView, with_begun}
use Rattle.sm_outbox.specs.Sessions.{SessionView}
use Rattle.sm_outbox.specs.Submissions.{with_said}
use Rattle.sm_outbox.specs.Waiting.{is_full, is_too_high}
use Rattle.sm_outbox.specs.declared.said.Said.{Said}
use Rattle.xml_trees.specs.Trees.{Elem}

-- a submission is kept among those that wait
abbrev pub keeps_said : {A X : Type 0} → ClientStep A X → Said → ClientStep A X
keeps_said t said = record t { client = record t.client { n = said.n; said = with_said t.client.said said } }

abbrev pub with_pages : {A X : Type 0} → ClientStep A X → ℕ → ClientStep A X
with_pages t number = record t { client = record t.client { pages = number } }

pub data Part {A X : Type 0} (speech : Speech A X) (t u : ClientStep A X) : Type 0 where
  outs : u.client ≡ t.client → u.out.notes ≡ t.out.notes → Part speech t u
  states : (s : SessionView A) → t.client.session ≡ Some s → u ≡ notes speech t (Stated s.waiting.handled) → Part speech t u
  goes_free : (p : Phase) → needs_session p ≡ false → is_binding p ≡ false → u ≡ goes t p → Part speech t u
  goes_with : (p : Phase) → is_binding p ≡ false → IsSome t.client.session → u ≡ goes t p → Part speech t u
  goes_without : (p : Phase) → needs_session p ≡ false → t.client.session ≡ None → u ≡ goes t p → Part speech t u
  bound : t.client.phase ≡ phase.Binding → u ≡ goes (begins_epoch speech t) phase.Enabling → Part speech t u
  enabled : (previd : List ℕ) → t.client.phase ≡ phase.Enabling → u ≡ begins speech t previd → Part speech t u
  drops_left : u ≡ left (drops speech t) → Part speech t u
  drops_binding : u ≡ goes (drops speech t) phase.Binding → Part speech t u
  waits : (s : SessionView A) (stanza : A) → t.client.session ≡ Some s → is_full s.waiting ≡ false → u ≡ queues speech t s stanza false → Part speech t u
  submits : (s : SessionView A) (said : Said) → t.client.session ≡ Some s → is_full s.waiting ≡ false
      → u ≡ queues speech (keeps_said t said) s (stanza_of_said speech t.client.account said) true → Part speech t u
  acks : (s : SessionView A) (h : ℕ) → t.client.session ≡ Some s → is_too_high s.waiting h ≡ false → u ≡ acknowledges speech t s h → Part speech t u
  handled : (s : SessionView A) (e : Elem) → t.client.session ≡ Some s → u ≡ handles speech t s e → Part speech t u
  logs : (log : LogView) → LogPart t.client.log log → u ≡ with_log t log → Part speech t u
  opens : (s : SessionView A) (queryid : List ℕ) (max : ℕ) → t.client.session ≡ Some s → u ≡ with_log t (with_begun t.client.log queryid max) → Part speech t u
  numbers : (number : ℕ) → u ≡ with_pages t number → Part speech t u

-- ---- relations that hold of all that is made of such parts

pub record IsLaw {A X : Type 0} (speech : Speech A X) (P : ClientStep A X → ClientStep A X → Type 0) : Type 0 where
  pub stays : (t : ClientStep A X) → P t t
  pub joins : (t u v : ClientStep A X) → P t u → P u v → P t v
  pub parts : (t u : ClientStep A X) → Part speech t u → P t u
