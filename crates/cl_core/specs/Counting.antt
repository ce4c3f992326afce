-- Where the client is online, what a stanza does and that it is counted are told apart.
use Rattle.std.specs.Prelude.{Option, Some, None, codes, if◌then◌else◌}
use Rattle.std.specs.Option.{option_map}
use Rattle.cl_handlers.specs.AckRows.{request_row}
use Rattle.cl_handlers.specs.Clients.{ClientStep, ClientView}
use Rattle.cl_handlers.specs.Speech.{Speech}
use Rattle.cl_core.specs.Steps.{told_row}
use Rattle.im_extensions.specs.StreamManagement.{ack_read, is_management}
use Rattle.sm_outbox.specs.Sessions.{SessionView, with_waiting}
use Rattle.sm_outbox.specs.Waiting.{counted_in}
use Rattle.xml_trees.specs.Trees.{Elem}

-- one stanza more of the server is counted
abbrev pub counted_session : {A : Type 0} → SessionView A → SessionView A
counted_session s = with_waiting s (counted_in s.waiting)

abbrev pub counted_client : {A : Type 0} → ClientView A → ClientView A
counted_client c = record c { session = option_map counted_session c.session }

abbrev pub counted : {A X : Type 0} → ClientStep A X → ClientStep A X
counted t = record t { client = counted_client t.client }

-- an element that is no stanza
abbrev pub management_in : {A X : Type 0} → Speech A X → ClientStep A X → Option (SessionView A) → Elem → ClientStep A X
management_in speech t None e = t
management_in speech t (Some s) e = if is_management (codes "r") e then request_row speech t s else told_row speech t s (ack_read e)
