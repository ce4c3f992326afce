-- Acknowledgements (XEP-0198, section 4).
use Rattle.std.specs.Prelude.{ℕ, if◌then◌else◌}
use Rattle.sm_acks.specs.Counters.{ahead}
use Rattle.sm_acks.specs.declared.end.TooHigh.{TooHigh as TooHighCount}
use Rattle.cl_handlers.specs.Clients.{ClientStep}
use Rattle.cl_handlers.specs.Speech.{Speech, Acknowledged, Stated, uttered}
use Rattle.cl_handlers.specs.ClientSteps.{drops, ends, notes, puts, tells, with_session}
use Rattle.cl_handlers.specs.declared.events.Event.TheVariants.{Acked}
use Rattle.cl_handlers.specs.declared.events.PeerFault.TheVariants.{TooHigh}
use Rattle.sm_outbox.specs.Sessions.{SessionView}
use Rattle.sm_outbox.specs.Submissions.{acknowledged}
use Rattle.sm_outbox.specs.Waiting.{acked, is_too_high, submissions_to, too_high}
use Rattle.im_replies.specs.Management.{ack_item}
use Rattle.im_replies.specs.Streams.{too_high_item}
use Rattle.xml_writer.specs.Items.{Closing}

-- a request is answered by the count of the server's stanzas
abbrev pub request_row : {A X : Type 0} → Speech A X → ClientStep A X → SessionView A → ClientStep A X
request_row speech t s = notes speech (puts t (uttered speech (ack_item s.waiting.handled))) (Stated s.waiting.handled)

-- the stanzas up to a count wait no more, and the submissions among them are acknowledged
abbrev pub acknowledges : {A X : Type 0} → Speech A X → ClientStep A X → SessionView A → ℕ → ClientStep A X
acknowledges speech t s h =
    notes speech
    (tells (with_session (record t { client = record t.client { said = acknowledged (submissions_to s.waiting h) t.client.said } }) s (acked s.waiting h)) (Acked (ahead h s.waiting.acked)))
    (Acknowledged (ahead h s.waiting.acked))

-- A count above what was sent: the stream ends with an error, and so does the session.
abbrev pub counts_too_high : {A X : Type 0} → Speech A X → ClientStep A X → TooHighCount → ClientStep A X
counts_too_high speech t fault =
    ends (drops speech (puts (puts t (uttered speech (too_high_item fault.h fault.send_count))) (uttered speech Closing))) (TooHigh fault)

abbrev pub ack_row : {A X : Type 0} → Speech A X → ClientStep A X → SessionView A → ℕ → ClientStep A X
ack_row speech t s h =
    if is_too_high s.waiting h then counts_too_high speech t (too_high s.waiting h) else acknowledges speech t s h
