-- A page request and a submission that are put where a session may stand; without one nothing is done.
use Rattle.std.specs.Prelude.{ℕ, true, false, Option, Some, None}
use Rattle.cl_handlers.specs.Clients.{ClientStep}
use Rattle.cl_core.specs.PageRows.{requests}
use Rattle.cl_handlers.specs.Speech.{Speech}
use Rattle.sm_outbox.specs.Sessions.{SessionView}

abbrev pub asks_in : {A X : Type 0} → Speech A X → ClientStep A X → Option (SessionView A) → ℕ → A → ClientStep A X
asks_in speech t None number stanza = t
asks_in speech t (Some s) number stanza = requests speech (record t { client = record t.client { pages = number } }) s stanza false

abbrev pub queues_in : {A X : Type 0} → Speech A X → ClientStep A X → Option (SessionView A) → A → ClientStep A X
queues_in speech t None stanza = t
queues_in speech t (Some s) stanza = requests speech t s stanza true
