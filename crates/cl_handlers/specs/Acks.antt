-- Acknowledgements where a session may stand; without one nothing is done.
use Rattle.std.specs.Prelude.{ℕ, ◌<◌, List, [], length, Option, Some, None, if◌then◌else◌}
use Rattle.sm_acks.specs.declared.end.TooHigh.{TooHigh}
use Rattle.cl_handlers.specs.AckRows.{ack_row, acknowledges, request_row}
use Rattle.cl_handlers.specs.Clients.{ClientStep}
use Rattle.cl_handlers.specs.Speech.{Speech}
use Rattle.sm_outbox.specs.Sessions.{SessionView}
use Rattle.sm_outbox.specs.Waiting.{is_too_high, resent, too_high}

-- fewer stanzas wait in a session
abbrev pub HasFewer : {A : Type 0} → ℕ → Option (SessionView A) → Type 0
HasFewer most None = Unit {0}
HasFewer most (Some s) = length s.waiting.queue < most

-- what a count is that is above what was sent
abbrev pub too_high_in : {A : Type 0} → Option (SessionView A) → ℕ → Option TooHigh
too_high_in None h = None
too_high_in (Some s) h = if is_too_high s.waiting h then Some (too_high s.waiting h) else None

-- what a resumption with a count puts again
abbrev pub resent_in : {A : Type 0} → Option (SessionView A) → ℕ → List A
resent_in None h = []
resent_in (Some s) h = resent s.waiting h

abbrev pub request_in : {A X : Type 0} → Speech A X → ClientStep A X → Option (SessionView A) → ClientStep A X
request_in speech t None = t
request_in speech t (Some s) = request_row speech t s

abbrev pub acknowledges_in : {A X : Type 0} → Speech A X → ClientStep A X → Option (SessionView A) → ℕ → ClientStep A X
acknowledges_in speech t None h = t
acknowledges_in speech t (Some s) h = acknowledges speech t s h

abbrev pub ack_in : {A X : Type 0} → Speech A X → ClientStep A X → Option (SessionView A) → ℕ → ClientStep A X
ack_in speech t None h = t
ack_in speech t (Some s) h = ack_row speech t s h
